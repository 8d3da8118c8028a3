-- Stretches of a file's data blocks, as the steps of this crate go through them.
use Rattle.std.specs.Prelude.{ℕ, ◌+◌, ◌-◌, ◌<◌, ◌≤◌, ◌≡◌, cond, eqb, leb, min, List, [], ◌∷◌, take, drop}
use Rattle.std.specs.Prelude.{Option as Returned, Some, None}
use Rattle.std.proofs.Math.Option.{Option, none, some}
use Rattle.spec.specs.declared.DiskBlock.{DiskBlock}
use Rattle.spec.specs.declared.Extent.{Extent}
use Rattle.spec.specs.Bytes.{exactly, up_from}
use Rattle.spec.specs.Disk.{Disk}
use Rattle.spec.specs.Inode.{extent, inode_at, block_of_inode, blocks_in, data_of, runs}
use Rattle.inode.specs.declared.slot_block.SlotBlock.{SlotBlock}
use Rattle.inode.specs.Walk.{rest, leaf, weight}
use Rattle.extents.specs.declared.Scan.{Scan}
use Rattle.extents.specs.declared.AtSlot.{AtSlot}
use Rattle.extents.specs.declared.AtSlot.TheVariants as slot

-- ---- one block

-- block p of the file of record i is block k of the extent e, and the blocks behind it, to the end of e or of the largest file, follow it in the file
pub record Held (v : Disk) (i p : ℕ) (e : Extent) (k : ℕ) : Type 0 where
  pub follow : (m : ℕ) → m ≤ e.count - k → p + m ≤ 2048 → take m (drop p (data_of v (inode_at v i))) ≡ up_from (e.first + k) m
  pub inside : k < e.count
  pub low : p < 2048
  pub first : e.first < 65536
  pub count : e.count < 65536

abbrev pub Places : Disk → ℕ → ℕ → Returned (Extent × ℕ) → Type 0
Places v i p (Some (e, k)) = Held v i p e k
Places v i p None = drop p (data_of v (inode_at v i)) ≡ []

-- ---- a stretch

-- the blocks that are left of it
unfoldable pub pending : Disk → ℕ → Scan → List ℕ
pending v tb c = take c.room (drop c.skip (blocks_in (rest v tb c.at)))

-- the n data blocks of record i from block `from` on; the walk begins in the record's block
pub record Starts (v : Disk) (i from n : ℕ) (c : Scan) : Type 0 where
  pub blocks : pending v (block_of_inode i) c ≡ take n (drop from (data_of v (inode_at v i)))
  pub room : c.room ≤ 2048
  pub block : c.at.block ≡ block_of_inode i

-- the n data blocks of record i from block `from` on
abbrev pub blocks_at : Disk → ℕ → ℕ → ℕ → List ℕ
blocks_at v i from n = take n (drop from (data_of v (inode_at v i)))

-- block b is in hand, as lent: zeros past its end
abbrev pub InHand : Disk → ℕ → SlotBlock → Type 0
InHand v b block = exactly 512 block.bytes.now ≡ v b

-- some extents cut to `room` blocks behind the first `skip`
unfoldable pub pieces : ℕ → ℕ → List Extent → List Extent
pieces skip room [] = []
pieces skip room (e ∷ es) =
    let here = min (e.count - skip) room in
    cond (leb e.count skip) (pieces (skip - e.count) room es)
    (cond (eqb room 0) [] (extent (e.first + skip) here ∷ pieces 0 (room - here) es))

-- the pieces that are left of a stretch: their blocks are those that are pending
unfoldable pub left_at : Disk → ℕ → Scan → List Extent
left_at v tb c = pieces c.skip c.room (rest v tb c.at)

-- the first slot at c holds the blocks of e, and d is behind it
pub record TakesPiece (v : Disk) (tb : ℕ) (c : Scan) (e : Extent) (d : Scan) : Type 0 where
  pub pieces : left_at v tb c ≡ e ∷ left_at v tb d
  pub some : 0 < e.count
  pub room : e.count + d.room ≡ c.room
  pub less : weight d.at < weight c.at
  pub block : d.at.block ≡ c.at.block

-- at d the pieces that are left at c are left, and fewer slots
pub record GoesOn (v : Disk) (tb : ℕ) (c d : Scan) : Type 0 where
  pub pieces : left_at v tb c ≡ left_at v tb d
  pub room : d.room ≡ c.room
  pub less : weight d.at < weight c.at

-- the same with no more slots, in the same block
pub record Passes (v : Disk) (tb : ℕ) (c d : Scan) : Type 0 where
  pub pieces : left_at v tb c ≡ left_at v tb d
  pub room : d.room ≡ c.room
  pub less : weight d.at ≤ weight c.at
  pub block : d.at.block ≡ c.at.block

abbrev pub SlotSteps : Disk → ℕ → Scan → AtSlot → Type 0
SlotSteps v tb c (slot.Piece e d) = TakesPiece v tb c e.extent d
SlotSteps v tb c (slot.Passed d) = GoesOn v tb c d × (d.at.block ≡ c.at.block)
SlotSteps v tb c slot.Unused = leaf v c.at.block c.at.at c.at.left ≡ []

abbrev pub NodeSteps : Disk → ℕ → Scan → Returned (DiskBlock × Scan) → Type 0
NodeSteps v tb c (Some (b, d)) = GoesOn v tb c d × (d.at.block ≡ b.0)
NodeSteps v tb c None = left_at v tb c ≡ []

-- ---- its maximal runs

-- the run list of n data blocks of record i from block `from` on
unfoldable pub runs_in : Disk → ℕ → ℕ → ℕ → List Extent
runs_in v i from n = runs (take n (drop from (data_of v (inode_at v i))))

-- a run as the code tells it
abbrev pub run_of : Option Extent → Returned Extent
run_of none = None
run_of (some e) = Some e

-- the blocks of a run that is held, and how many they are
abbrev pub held_blocks : Returned Extent → List ℕ
held_blocks None = []
held_blocks (Some e) = up_from e.first e.count

abbrev pub held_count : Returned Extent → ℕ
held_count None = 0
held_count (Some e) = e.count
