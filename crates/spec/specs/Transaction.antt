-- The work space, the working copy, and staging.
use Rattle.std.specs.Prelude.{ℕ, cond, List, [], ◌∷◌, ◌++◌, length, eqb, ltb}
use Rattle.spec.specs.Bytes.{found, place}
use Rattle.spec.specs.Disk.{Disk, Slice, slice_of, with_block}
use Rattle.spec.specs.Session.{Session, staged_in, with_staged}

-- all that a call is lent and given, but for its arguments: "images of staged blocks are in a lent work space", image i the block i of it
pub record State : Type 0 where
  pub session : Session
  pub device : Slice
  pub work : Slice

abbrev pub with_session : State → Session → State
with_session s n = record { session = n; device = s.device; work = s.work }

-- the working copy: image i for the i-th staged block, the device's block for any other
unfoldable pub view : State → Disk
view s b = found (place b (staged_in s.session)) (s.device.block b) s.work.block

-- one block stored or staged
pub record BlockStore : Type 0 where
  pub block : ℕ
  pub content : List ℕ

abbrev pub put : ℕ → List ℕ → BlockStore
put b x = record { block = b; content = x }

-- in ascending order of block, each block once: the later content of two
abbrev pub insert : BlockStore → List BlockStore → List BlockStore
insert x [] = x ∷ []
insert x (y ∷ ys) =
    cond (ltb x.block y.block) (x ∷ y ∷ ys)
    (cond (eqb x.block y.block) (y ∷ ys) (y ∷ insert x ys))

unfoldable pub ascending : List BlockStore → List BlockStore
ascending [] = []
ascending (x ∷ xs) = insert x (ascending xs)

-- "Image i of the work space, 512 bytes each, is that of the i-th block staged"
pub record Staged : Type 0 where
  pub blocks : List ℕ
  pub image : Disk

-- a block staged anew takes the next place, one staged before keeps its place
unfoldable pub stage : Staged → BlockStore → Staged
stage t w =
    found (place w.block t.blocks)
    (record { blocks = t.blocks ++ (w.block ∷ []); image = with_block (length t.blocks) w.content t.image })
    (λ i. record { blocks = t.blocks; image = with_block i w.content t.image })

abbrev pub stage_each : Staged → List BlockStore → Staged
stage_each t [] = t
stage_each t (w ∷ ws) = stage_each (stage t w) ws

abbrev pub staged_of : State → Staged
staged_of s = record { blocks = staged_in s.session; image = s.work.block }

-- "within a call ascending; the rest of it is unchanged"
unfoldable pub stage_all : State → List BlockStore → Staged
stage_all s ws = stage_each (staged_of s) (ascending ws)

abbrev pub with_staging : State → Staged → State
with_staging s t =
    record {
      session = with_staged s.session t.blocks;
      device = s.device;
      work = record { size = s.work.size; block = t.image };
    }

-- ---- the state as code holds it: a session and two lent byte slices

abbrev pub state_of : Session → List ℕ → List ℕ → State
state_of s device work = record { session = s; device = slice_of device; work = slice_of work }

-- opens what this module seals
unfoldable pub open-Transaction : Unit {0}
unfolding view ascending stage stage_all
open-Transaction = tt
