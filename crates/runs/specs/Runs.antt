-- A file's extents and its tree as code holds them.
use Rattle.std.specs.Prelude.{ℕ, ◌<◌, ◌≤◌, cond, List, [], ◌∷◌, Option, Some, None, length, take, get_or, eqb, leb}
use Rattle.spec.specs.declared.Extent.{Extent}
use Rattle.spec.specs.Inode.{extent, counts}
pub use Rattle.runs.specs.declared.ExtentList.{ExtentList}
pub use Rattle.runs.specs.Tree.{Tree}

-- the extents, where the array holds all of them
unfoldable pub listed : ExtentList → Option (List Extent)
listed r = cond (leb r.end.len 512) (Some (take r.end.len r.cells)) None

-- the nodes of a tree, and its levels: none, or one
unfoldable pub nodes_in : Tree → List ℕ
nodes_in t = t.nodes

unfoldable pub levels_in : Tree → List (List ℕ)
levels_in t = cond (eqb (length t.nodes) 0) [] (nodes_in t ∷ [])

-- no number is large
pub record Bounded (t : Tree) : Type 0 where
  pub blocks : counts t.extents ≤ 8192
  pub first : (k : ℕ) → (get_or t.extents k (extent 0 0)).first < 131072
  pub count : (k : ℕ) → (get_or t.extents k (extent 0 0)).count ≤ 8192
  pub held : t.held ≤ 2048
