-- The blocks that the walk over a file's tree marks.
use Rattle.std.specs.Prelude.{ℕ, ◌-◌, Bool, ◌&&◌, List, ◌++◌, map, eqb, take}
use Rattle.spec.specs.declared.Extent.{Extent}
use Rattle.spec.specs.Disk.{Disk}
use Rattle.spec.specs.Inode.{below, blocks_in}

-- "the others are zero"
abbrev pub is_unused : Extent → Bool
is_unused e = eqb e.first 0 && eqb e.count 0

-- the blocks of extents that n blocks of their file come before: no file has more than 2,048
unfoldable pub blocks_from : ℕ → List Extent → List ℕ
blocks_from n es = take (2048 - n) (blocks_in es)

-- those of the extents below some nodes, and these nodes
unfoldable pub tree_from : Disk → ℕ → List Extent → List ℕ
tree_from v n ts = blocks_from n (below v ts) ++ map (λ e. e.first) ts
