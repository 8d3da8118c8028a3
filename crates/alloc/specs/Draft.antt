-- What the plan of a change tells: refused, or the tree that document 01's plan makes.
use Rattle.std.specs.Prelude.{ℕ, ◌≡◌, List, ◌++◌, length}
use Rattle.spec.specs.Disk.{Disk}
use Rattle.spec.specs.Bitmap.{bits_of, bytes_of, mark}
use Rattle.spec.specs.Inode.{inode_at, data_of, levels_of}
use Rattle.spec.specs.Answers.{Result, refuse, accept}
use Rattle.spec.specs.Plan as plan
use Rattle.spec.specs.Plan.{lowest_level, resized, fits}
use Rattle.std.specs.Prelude.{Ok, Err}
use Rattle.std.specs.Prelude.{Result as Returned}
use Rattle.spec.specs.declared.Refusal.{Refusal}
use Rattle.runs.specs.Tree.{Tree, tree_with}
use Rattle.runs.specs.Runs.{levels_in, Bounded}
pub use Rattle.alloc.specs.declared.Draft.{Draft}

-- the tree of record i with so many data blocks
unfoldable pub resized_at : Disk → ℕ → ℕ → plan.Tree
resized_at v i wanted = resized (bits_of (v 33)) (data_of v (inode_at v i)) (levels_of v (inode_at v i)) wanted

-- the bitmap with its new blocks taken and the others given back
unfoldable pub table_of : Disk → plan.Tree → List ℕ
table_of v t = bytes_of (mark 0 t.dropped (mark 1 (t.new_data ++ t.new_nodes) (bits_of (v 33))))

-- the tree q as code holds it is that tree
pub record Built (v : Disk) (i wanted : ℕ) (q : Tree) : Type 0 where
  pub extents : q.extents ≡ (resized_at v i wanted).extents
  pub levels : levels_in q ≡ (resized_at v i wanted).levels
  pub table : q.table ≡ table_of v (resized_at v i wanted)
  pub before : q.before ≡ length (lowest_level (levels_of v (inode_at v i)))
  pub held : q.held ≡ length (data_of v (inode_at v i))
  pub bounded : Bounded q

abbrev pub result_with : Returned Draft Refusal → plan.Tree → Result plan.Tree
result_with (Ok d) t = accept t
result_with (Err r) t = refuse r

-- the tree of a draft, its bitmap in what was lent
abbrev pub tree_in : List ℕ → Draft → Tree
tree_in table d = tree_with table d.extents.now d.nodes d.before d.held

pub record Drafted (v : Disk) (i wanted : ℕ) (table : List ℕ) (r : Returned Draft Refusal) : Type 0 where
  pub verdict : fits (bits_of (v 33)) (data_of v (inode_at v i)) (levels_of v (inode_at v i)) wanted ≡ result_with r (resized_at v i wanted)
  pub tree : (d : Draft) → r ≡ Ok d → Built v i wanted (tree_in table d)
