-- The tests of one file, and the blocks that it reaches.
use Rattle.std.specs.Prelude.{ℕ, ◌%◌, ◌≡◌, Bool, true, cond, ◌&&◌, List, [], ◌++◌, length, drop, eqb, ltb, Option, Some, None}
use Rattle.std.specs.Bool.{beq}
use Rattle.spec.specs.Bytes.{exactly, all, all_zero}
use Rattle.spec.specs.declared.DiskBlock.{DiskBlock}
use Rattle.spec.specs.Disk.{Disk, in_data}
use Rattle.spec.specs.Inode.{Inode, inode_at, block_of_inode, slots_at, used, counts, tree_depth, extents_of, levels_of, nodes_of, data_of, blocks_for, nodes_for}
use Rattle.spec.specs.Sound.{slots_packed, extent_inside, counts_agree, apart, level_packed, tail_zero}
use Rattle.marks.specs.declared.Marks.{Marks}
use Rattle.marks.specs.Marks.{Kept}
use Rattle.tree.specs.declared.NodeTests.{NodeTests}
use Rattle.marks.specs.Device.{disk_of}
use Rattle.filecheck.specs.declared.table.Record.{Record}
use Rattle.tree.specs.Runs.{over_extents, no_run}

-- the bytes after a size in block b
unfoldable pub last_clear : Disk → ℕ → ℕ → Bool
last_clear v size b = cond (eqb (size % 512) 0) true (all_zero (drop (size % 512) (v b)))

-- the same of a block that is found only where the size ends within it
abbrev pub tail_clear : Disk → ℕ → Option DiskBlock → Bool
tail_clear v size None = true
tail_clear v size (Some b) = last_clear v size b.0

-- S4 to S6 and S8 of a file
unfoldable pub tree_sound : ℕ → Disk → Inode → Bool
tree_sound N v n =
    slots_packed n.slots && all (λ b. in_data N b && slots_packed (slots_at v b)) (nodes_of v n)
    && all (extent_inside N) (extents_of v n)
    && counts_agree v (tree_depth n) (used n.slots) && eqb (counts (used n.slots)) (blocks_for n.size)
    && apart (extents_of v n)
    && beq (eqb n.depth 1) (ltb 4 (length (extents_of v n)))
    && eqb (length (nodes_of v n)) (nodes_for (length (extents_of v n))) && all (level_packed v) (levels_of v n)
    && tail_zero v n

-- the blocks of file i
unfoldable pub file_blocks : Disk → ℕ → List ℕ
file_blocks v i = data_of v (inode_at v i) ++ nodes_of v (inode_at v i)

-- what a walk over a file's tree finds, on a device of N blocks, where the size ends in block k of the file: the results over its extents, and those over its nodes
pub record Walked (N k : ℕ) (v : Disk) (n : Inode) (f : NodeTests) : Type 0 where
  pub run : f.run ≡ over_extents N k no_run (extents_of v n)
  pub sound : f.sound ≡ all (λ b. in_data N b && slots_packed (slots_at v b)) (nodes_of v n)
  pub agree : f.agree ≡ counts_agree v (tree_depth n) (used n.slots)
  pub counted : f.counts ≡ counts (used n.slots)
  pub tops : f.tops ≡ length (nodes_of v n)
  pub filled : f.filled ≡ all (level_packed v) (levels_of v n)

-- a test answers what is defined, and if it passes it has marked these blocks
pub record Marked (N : ℕ) (r defined : Bool) (m m' : Marks) (bs : List ℕ) : Type 0 where
  pub answer : r ≡ defined
  pub marks : r ≡ true → Kept N m [] m' bs

-- the block of the table that a record comes with
abbrev pub Stands : Record → Type 0
Stands x = exactly 512 x.table.now ≡ disk_of x.device (block_of_inode x.i.n)
