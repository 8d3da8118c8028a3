-- The content of blocks after a change, sealed, for the contracts of this crate.
use Rattle.std.specs.Prelude.{ℕ, ◌*◌, ◌/◌, ◌%◌, not, ◌&&◌, cond, List, [], take, drop, leb, ltb, eqb, Option, Some, None}
use Rattle.spec.specs.Bytes.{patch, zeros}
use Rattle.spec.specs.declared.Extent.{Extent}
use Rattle.spec.specs.declared.FileBlock.{FileBlock}
use Rattle.spec.specs.Inode.{place_of_inode, node_bytes, counts, top_slots}
use Rattle.spec.specs.Plan.{overlay, clear_tail, is_last_kept, new_content}
use Rattle.runs.specs.Tree.{Tree, tree_with}
use Rattle.runs.specs.Runs.{levels_in}

-- a tree from its extents and nodes; bitmap and what was held before play no part in its record
abbrev pub tree_of : List Extent → List ℕ → Tree
tree_of extents nodes = tree_with [] extents nodes 0 0

-- the block of record i with the first bytes of the record replaced
unfoldable pub with_record : ℕ → List ℕ → List ℕ → List ℕ
with_record i new old = patch (place_of_inode i) new old

-- node j of a tree with these extents
unfoldable pub node_content : List Extent → ℕ → List ℕ
node_content es j = node_bytes (take 128 (drop (128 * j) es))

-- how many blocks the extents of node j have
unfoldable pub counts_below : List Extent → ℕ → ℕ
counts_below es j = counts (take 128 (drop (128 * j) es))

-- the slots of the record of a tree
unfoldable pub slots_above : Tree → List Extent
slots_above t = top_slots (levels_in t) t.extents

-- the bytes from x on laid over block p of a file
unfoldable pub laid_over : ℕ → List ℕ → ℕ → List ℕ → List ℕ
laid_over x bytes p old = overlay x bytes (512 * p) old

abbrev file_block : ℕ → FileBlock
file_block p = record { 0 = p }

-- the last kept block, where a size not divisible by 512 shortens the file
unfoldable pub last_kept : ℕ → ℕ → Option FileBlock
last_kept old_size size = cond (ltb size old_size && not (eqb (size % 512) 0)) (Some (file_block (size / 512))) None

-- block p of a file, before the bytes are laid over it
unfoldable pub kept_content : ℕ → ℕ → ℕ → ℕ → List ℕ → List ℕ
kept_content held old_size size p old = cond (leb held p) (zeros 512) (cond (is_last_kept old_size size p) (clear_tail size p old) old)

unfoldable pub data_content : ℕ → ℕ → ℕ → ℕ → List ℕ → ℕ → List ℕ → List ℕ
data_content held old_size size x bytes p old = new_content held old_size size x bytes p old
