-- Places among the staged blocks, for the contracts of this crate.
use Rattle.std.specs.Prelude.{ℕ, List, [], ◌∷◌, ◌++◌, length}
use Rattle.spec.specs.Bytes.{found, place}
use Rattle.spec.specs.Disk.{Disk, blocks_of}
use Rattle.spec.specs.declared.Phase.{Phase}
use Rattle.spec.specs.declared.Session.{Session}
pub use Rattle.block.specs.Places.{found_at}

-- the working copy where these blocks are staged
unfoldable pub view_in : List ℕ → List ℕ → List ℕ → Disk
view_in staged device work b = found (place b staged) (blocks_of device b) (blocks_of work)

-- the place that block b has among the images where these are staged, or gets
unfoldable pub spot : List ℕ → ℕ → ℕ
spot staged b = found (place b staged) (length staged) (λ i. i)

-- these staged blocks with b among them
unfoldable pub blocks_with : List ℕ → ℕ → List ℕ
blocks_with staged b = found (place b staged) (staged ++ (b ∷ [])) (λ i. staged)

-- the session of these parts: calls that change its cells are lent them
abbrev pub session_of : ℕ → Phase → List ℕ → ℕ → Session
session_of blocks phase cells count = record { blocks = blocks; phase = phase; staged = cells; count = count }
