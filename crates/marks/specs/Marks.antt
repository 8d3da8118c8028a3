-- Marks in two tables, and the bit of a block by these marks.
use Rattle.std.specs.Prelude.{ℕ, ◌+◌, ◌-◌, min, ◌≡◌, Bool, cond, not, ◌||◌, List, map, get_or, eqb, Option, Some, None}
use Rattle.std.specs.Bool.{beq}
use Rattle.spec.specs.Bytes.{occurs, up_from, concat}
use Rattle.spec.specs.Bitmap.{bits_of}
use Rattle.spec.specs.Disk.{Disk, disk_block, in_data}
use Rattle.spec.specs.Inode.{reached_from}
use Rattle.spec.specs.declared.DiskBlock.{DiskBlock}
use Rattle.marks.specs.declared.Marks.{Marks}

-- bit x of a table
unfoldable pub bit : List ℕ → ℕ → ℕ
bit t x = get_or (bits_of t) x 0

-- how often block x occurs, if it lies within 42 to N-1
unfoldable pub counted : ℕ → ℕ → List ℕ → ℕ
counted N x bs = cond (in_data N x) (occurs x bs) 0

-- marks m with blocks bs still to mark come to the same as m' with cs: once, and more than once
pub record Kept (N : ℕ) (m : Marks) (bs : List ℕ) (m' : Marks) (cs : List ℕ) : Type 0 where
  pub once : (x : ℕ) → min 1 (bit m.once x + counted N x bs) ≡ min 1 (bit m'.once x + counted N x cs)
  pub twice : (x : ℕ) → min 2 (bit m.once x + bit m.twice x + counted N x bs) ≡ min 2 (bit m'.once x + bit m'.twice x + counted N x cs)

-- the blocks that the records from i up to e reach
unfoldable pub reach_to : Disk → ℕ → ℕ → List ℕ
reach_to v e i = concat (map (reached_from v) (up_from i (e - i)))

-- whether the bit of block b is wrong, where `once` began with ones outside 42 to N-1
unfoldable pub wrong : Marks → List ℕ → ℕ → Bool
wrong m bits b = eqb (bit m.twice b) 1 || not (beq (eqb (bit m.once b) 1) (eqb (bit bits b) 1))

-- a number that was looked for, as a block
abbrev pub block_found : Option ℕ → Option DiskBlock
block_found (Some b) = Some (disk_block b)
block_found None = None
