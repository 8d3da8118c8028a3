-- A slice after one block of it is stored, for the contracts of this crate.
use Rattle.std.specs.Prelude.{ℕ, List}
use Rattle.spec.specs.Disk.{Slice, with_block}

-- the same length, and every block but b as it was
abbrev pub stored_in : Slice → ℕ → List ℕ → Slice
stored_in s b x = record { size = s.size; block = with_block b x s.block }
