-- What a change stages, from a change as code holds it.
use Rattle.std.specs.Prelude.{ℕ, List, ◌++◌}
use Rattle.spec.specs.Layout.{bitmap_block}
use Rattle.spec.specs.Disk.{Disk}
use Rattle.spec.specs.Inode.{blocks_in}
use Rattle.spec.specs.Transaction.{BlockStore}
use Rattle.spec.specs.Plan.{edit, if_changed, stores_of, inode_edit, node_edits, data_edits}
use Rattle.runs.specs.Tree.{Tree}
use Rattle.runs.specs.Runs.{nodes_in}

-- a change of a file: its tree and the bitmap, the bytes of its record, its size before and after, and bytes laid over it at x
pub record Change : Type 0 where
  pub tree : Tree
  pub «record» : List ℕ
  pub old : ℕ
  pub size : ℕ
  pub x : ℕ
  pub bytes : List ℕ

-- the stores of a change of record i
unfoldable pub change_stores : Disk → ℕ → Change → List BlockStore
change_stores v i c =
    stores_of v (if_changed v (edit bitmap_block (λ old. c.tree.table))
    ++ (if_changed v (inode_edit i c.record)
    ++ (node_edits v c.tree.before (nodes_in c.tree) c.tree.extents
    ++ data_edits c.tree.held c.old c.size c.x c.bytes (blocks_in c.tree.extents))))
