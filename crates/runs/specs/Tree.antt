-- A file's extents and its tree after a change, as the list and the numbers that code holds tell them.
use Rattle.std.specs.Prelude.{ℕ, List}
use Rattle.spec.specs.declared.Extent.{Extent}

-- the bitmap, the extents, the nodes, how many nodes and how many data blocks the file held before
pub record Tree : Type 0 where
  pub table : List ℕ
  pub extents : List Extent
  pub nodes : List ℕ
  pub before : ℕ
  pub held : ℕ

-- of a bitmap, extents and nodes as code holds them
abbrev pub tree_with : List ℕ → List Extent → List ℕ → ℕ → ℕ → Tree
tree_with table extents nodes before held = record { table = table; extents = extents; nodes = nodes; before = before; held = held }
