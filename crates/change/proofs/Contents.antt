-- Laws of the content of a block, case by case. Assumes nothing.
use Prim.Native.Nat.{ℕ, ◌*◌, ◌≤◌}
use mathlib.Core.Path.{◌≡◌, refl, sym}
use mathlib.Core.List.{List}
use borrow.Author.Tests.{le-leb}
use lib.ListN.{take, drop}
use Rattle.spec.specs.Bytes.{patch}
use Rattle.spec.specs.Disk.{Disk}
use Rattle.spec.specs.Inode.{place_of_inode, node_bytes}
use Rattle.spec.specs.Plan.{new_content}
use Rattle.runs.specs.declared.DataBlock.{DataBlock}
use Rattle.content.specs.Content.{with_record, node_content, data_content}
use Rattle.agenda.specs.declared.Content.TheVariants.{Bitmap, Record, Node, Data}
use Rattle.change.specs.Change.{Change}
use Rattle.change.specs.Contents.{content_of, content_in}

-- what the code makes of a block
module _ (i : ℕ) (c : Change) (old q : List ℕ) where
  pub made-bitmap : q ≡ c.tree.table → q ≡ content_of i c Bitmap old
  unfolding content_of
  made-bitmap e = e

  pub made-record : q ≡ with_record i c.record old → q ≡ content_of i c Record old
  unfolding content_of
  made-record e = e

  pub made-node : (j : ℕ) → q ≡ node_content c.tree.extents j → q ≡ content_of i c (Node j) old
  unfolding content_of
  made-node j e = e

  pub made-data : (p : DataBlock) → q ≡ data_content c.tree.held c.old c.size c.x c.bytes p.0 old → q ≡ content_of i c (Data p) old
  unfolding content_of
  made-data p e = e

-- contents made anew
module _ (i : ℕ) (c : Change) (y z : List ℕ) where
  pub anew-bitmap : content_of i c Bitmap y ≡ content_of i c Bitmap z
  unfolding content_of
  anew-bitmap = refl

  pub anew-node : (j : ℕ) → content_of i c (Node j) y ≡ content_of i c (Node j) z
  unfolding content_of
  anew-node j = refl

  pub anew-data : (p : DataBlock) → c.tree.held ≤ p.0 → content_of i c (Data p) y ≡ content_of i c (Data p) z
  unfolding content_of data_content
  anew-data p h = rw (le-leb c.tree.held p.0 h)

-- the contents that are compared before anything is staged
module _ (v : Disk) (i : ℕ) (c : Change) where
  pub bitmap-told : content_in v i c 33 Bitmap ≡ c.tree.table
  unfolding content_in content_of
  bitmap-told = refl

  pub record-told : (b : ℕ) → content_in v i c b Record ≡ with_record i c.record (v b)
  unfolding content_in content_of
  record-told b = refl

  pub node-told : (b j : ℕ) (q : List ℕ) → q ≡ node_content c.tree.extents j → content_in v i c b (Node j) ≡ q
  unfolding content_in content_of
  node-told b j q e = sym e

-- what each stands for
module _ (i : ℕ) (c : Change) (old : List ℕ) where
  pub content-bitmap : content_of i c Bitmap old ≡ c.tree.table
  unfolding content_of
  content-bitmap = refl

  pub content-record : content_of i c Record old ≡ patch (place_of_inode i) c.record old
  unfolding content_of with_record
  content-record = refl

  pub content-node : (j : ℕ) → content_of i c (Node j) old ≡ node_bytes (take 128 (drop (128 * j) c.tree.extents))
  unfolding content_of node_content
  content-node j = refl

  pub content-data : (p : DataBlock) → content_of i c (Data p) old ≡ new_content c.tree.held c.old c.size c.x c.bytes p.0 old
  unfolding content_of data_content
  content-data p = refl
