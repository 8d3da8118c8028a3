-- What each call stages is what its change stages. Assumes nothing.
use Prim.Native.Nat.{ℕ, ◌-◌}
use mathlib.Core.Path.{◌≡◌, refl, sym, ap, ap₂, ◌∙◌}
use mathlib.Core.Bool.{Bool, true, false, cond}
use mathlib.Core.List.{List, [], ◌∷◌, ◌++◌, append-nil}
use lib.Dec.{eqb}
use lib.ListN.{length, replicate}
use native.Mathlib.Omega.{arith}
use Rattle.spec.specs.declared.Extent.{Extent}
use borrow.Author.Tests.{ne_eqb, le-leb}
use Rattle.spec.specs.Bytes.{same, zeros, concat}
use Rattle.spec.specs.Disk.{Disk}
use Rattle.spec.specs.Bitmap.{bits_of, bytes_of, free_bits, mark, picks}
use Rattle.spec.specs.Inode.{inode_at, data_of, levels_of, nodes_of, inode_with, bytes_of_inode, block_of_inode, levels_for, blocks_in, runs}
use Rattle.spec.specs.Transaction.{BlockStore, put}
use Rattle.spec.specs.Plan as plan
use Rattle.spec.specs.Plan.{Edit, edit, if_changed, stores_of, inode_edit, bitmap_edit, node_edits, level_edits, data_edits, lowest_level, surplus, resized, fits, creates, removes, renames, rewrites}
use Rattle.lists.specs.Extents.{runs-blocks}
use Rattle.runs.specs.Tree.{Tree}
use Rattle.runs.specs.Runs.{nodes_in, levels_in}
use Rattle.spec.specs.Answers.{accept}
use Rattle.std.specs.Prelude.{Ok, Err}
use Rattle.std.specs.Prelude.{Result as Returned}
use Rattle.spec.specs.declared.Refusal.{Refusal}
use Rattle.alloc.specs.declared.Draft.{Draft}
use Rattle.alloc.specs.Draft.{resized_at, table_of, tree_in, Built, result_with, Drafted}
use Rattle.change.specs.Change.{Change}
use Rattle.content.specs.Content.{with_record}
use Rattle.change.specs.Change.{change_stores}
use Rattle.update.specs.Records.{record_stores}

-- ---- records

-- ---- trees

-- a file without blocks gives all of its own back
all-surplus : (ls : List (List ℕ)) → surplus [] ls ≡ concat ls
all-surplus [] = refl
all-surplus (bs ∷ ls) = ap (λ (z : List ℕ). bs ++ z) (all-surplus ls)

all-dropped : (bits held : List ℕ) (levels : List (List ℕ)) → let t = resized bits held levels 0 in
    mark 0 t.dropped (mark 1 (t.new_data ++ t.new_nodes) bits) ≡ mark 0 (held ++ concat levels) (mark 1 [] bits)
unfolding resized picks levels_for runs
all-dropped bits held levels =
    let z : 0 - length held ≡ 0 = omega arith in
    rw z (ap (λ (x : List ℕ). mark 0 (held ++ x) (mark 1 [] bits)) (all-surplus levels))

emptied : (v : Disk) (i : ℕ) → table_of v (resized_at v i 0) ≡ bytes_of (mark 0 (data_of v (inode_at v i) ++ nodes_of v (inode_at v i)) (mark 1 [] (bits_of (v 33))))
unfolding table_of resized_at
emptied v i = ap bytes_of (all-dropped (bits_of (v 33)) (data_of v (inode_at v i)) (levels_of v (inode_at v i)))

empty-extents : (v : Disk) (i : ℕ) → (resized_at v i 0).extents ≡ []
unfolding resized_at resized picks runs
empty-extents v i =
    let z : 0 - length (data_of v (inode_at v i)) ≡ 0 = omega arith in
    rw z

empty-levels : (v : Disk) (i : ℕ) → (resized_at v i 0).levels ≡ []
unfolding resized_at resized picks runs levels_for
empty-levels v i =
    let z : 0 - length (data_of v (inode_at v i)) ≡ 0 = omega arith in
    rw z

no-levels : (t : Tree) → levels_in t ≡ [] → nodes_in t ≡ []
unfolding levels_in nodes_in
no-levels t e = go t.nodes e
  where
    go : (ns : List ℕ) → cond (eqb (length ns) 0) [] (ns ∷ []) ≡ [] → ns ≡ []
    go [] e = refl
    go (n ∷ ns) e = let q : (n ∷ ns) ∷ [] ≡ [] = rw (ne_eqb (length (n ∷ ns)) 0 (λ z. omega arith)) at e in cc

-- it always fits
emptied-accepts : (bits held : List ℕ) (levels : List (List ℕ)) → fits bits held levels 0 ≡ accept (resized bits held levels 0)
unfolding fits resized picks runs levels_for
emptied-accepts bits held levels =
    let z : 0 - length held ≡ 0 = omega arith in
    rw (z, le-leb 0 (free_bits bits) (omega arith))

never-refused : (c : Returned Draft Refusal) (t u : plan.Tree) (r : Refusal) → accept u ≡ result_with c t → c ≡ Err r → ⊥
never-refused (Ok d) t u r e q = cc
never-refused (Err z) t u r e q = cc

-- what is drafted of 0 blocks is the tree built
pub emptied-fits : (v : Disk) (i : ℕ) (table : List ℕ) (c : Returned Draft Refusal) → Drafted v i 0 table c → (d : Draft) × (c ≡ Ok d) × Built v i 0 (tree_in table d)
emptied-fits v i table (Ok d) h = (d, refl, h.tree d refl)
emptied-fits v i table (Err r) h =
    absurd (never-refused (Err r) (resized_at v i 0) _ r (sym (emptied-accepts (bits_of (v 33)) (data_of v (inode_at v i)) (levels_of v (inode_at v i))) ∙ h.verdict) refl)

-- the levels of a tree as code holds it: none, or one
one-level : (v : Disk) (held : List (List ℕ)) (t : Tree) (es : List Extent) → level_edits v held (levels_in t) es ≡ node_edits v (length (lowest_level held)) (nodes_in t) es
unfolding levels_in nodes_in
one-level v held t es = go t.nodes
  where
    go : (ns : List ℕ) → level_edits v held (cond (eqb (length ns) 0) [] (ns ∷ [])) es ≡ node_edits v (length (lowest_level held)) ns es
    go [] = refl
    go (n ∷ ns) = rw (ne_eqb (length (n ∷ ns)) 0 (λ z. omega arith)) (append-nil (node_edits v (length (lowest_level held)) (n ∷ ns) es))

resized-blocks : (v : Disk) (i wanted : ℕ) → (resized_at v i wanted).blocks ≡ blocks_in (resized_at v i wanted).extents
unfolding resized_at resized
resized-blocks v i wanted = sym (runs-blocks _)

-- ---- edits of which only the content counts

module _ (v : Disk) where
  -- an edit that is staged where it changes its block, before others
  stores-if : (b : ℕ) (g h : List ℕ → List ℕ) (xs ys : List Edit) → g (v b) ≡ h (v b) → stores_of v xs ≡ stores_of v ys
      → stores_of v (if_changed v (edit b g) ++ xs) ≡ stores_of v (if_changed v (edit b h) ++ ys)
  stores-if b g h xs ys e t = go (same (g (v b)) (v b)) refl
    where
      go : (z : Bool) → same (g (v b)) (v b) ≡ z
          → stores_of v (if_changed v (edit b g) ++ xs) ≡ stores_of v (if_changed v (edit b h) ++ ys)
      go true p =
          let q : same (h (v b)) (v b) ≡ true = ap (λ (z : List ℕ). same z (v b)) (sym e) ∙ p in
          rw (p, q) t
      go false p =
          let q : same (h (v b)) (v b) ≡ false = ap (λ (z : List ℕ). same z (v b)) (sym e) ∙ p in
          rw (p, q) (ap₂ (λ (z : List ℕ) (ws : List BlockStore). put b z ∷ ws) e t)

  -- ---- changes of the record, and of bitmap and record

  -- the record's block, or nothing
  module _ (i : ℕ) (bytes : List ℕ) where
    pub record-other : same (with_record i bytes (v (block_of_inode i))) (v (block_of_inode i)) ≡ false
        → record_stores v i bytes ≡ put (block_of_inode i) (with_record i bytes (v (block_of_inode i))) ∷ []
    unfolding record_stores with_record
    record-other h = rw h

  module _ (i : ℕ) (c : Change) (nodes : nodes_in c.tree ≡ []) (extents : c.tree.extents ≡ []) where
    both-alone : stores_of v (if_changed v (edit 33 (λ old. c.tree.table)) ++ if_changed v (inode_edit i c.record)) ≡ change_stores v i c
    unfolding change_stores blocks_in
    both-alone = rw (nodes, extents, append-nil (if_changed v (inode_edit i c.record)))

  pub create-stores : (i : ℕ) (name bytes : List ℕ) → bytes ≡ bytes_of_inode (inode_with name 0 [] []) → creates v i name ≡ record_stores v i bytes
  unfolding creates record_stores
  create-stores i name bytes r = rw r

  -- the record with another name and nothing else changed
  pub rename-stores : (i : ℕ) (name : List ℕ) → renames v i name ≡ record_stores v i name
  unfolding renames record_stores
  rename-stores i name = refl

  -- a tree without blocks
  module _ (i : ℕ) (c : Change) (b : Built v i 0 c.tree) where
    pub remove-stores : c.record ≡ replicate 32 0 → removes v i ≡ change_stores v i c
    unfolding removes zeros
    remove-stores r =
        stores-if 33 (λ old. bytes_of (mark 0 (data_of v (inode_at v i) ++ nodes_of v (inode_at v i)) (mark 1 [] (bits_of old)))) (λ old. c.tree.table)
        (if_changed v (inode_edit i (zeros 32))) (if_changed v (inode_edit i c.record)) (sym (b.table ∙ emptied v i))
        (ap (λ (z : List ℕ). stores_of v (if_changed v (inode_edit i z))) (sym r))
        ∙ both-alone i c (no-levels c.tree (b.levels ∙ empty-levels v i)) (b.extents ∙ empty-extents v i)

  -- ---- write and set size

  module _ (i wanted : ℕ) (c : Change) (b : Built v i wanted c.tree) where
    node-edits : level_edits v (levels_of v (inode_at v i)) (resized_at v i wanted).levels (resized_at v i wanted).extents
        ≡ node_edits v c.tree.before (nodes_in c.tree) c.tree.extents
    node-edits =
        ap₂ (λ (l : List (List ℕ)) (es : List Extent). level_edits v (levels_of v (inode_at v i)) l es) (sym b.levels) (sym b.extents)
        ∙ one-level v (levels_of v (inode_at v i)) c.tree c.tree.extents
        ∙ ap (λ (n : ℕ). node_edits v n (nodes_in c.tree) c.tree.extents) (sym b.before)

    pub rewrite-stores : (name : List ℕ) (size : ℕ) → c.record ≡ bytes_of_inode (inode_with name size c.tree.extents (levels_in c.tree))
        → c.old ≡ (inode_at v i).size → c.size ≡ size → rewrites v i name size c.x c.bytes (resized_at v i wanted) ≡ change_stores v i c
    unfolding rewrites change_stores table_of
    rewrite-stores name size r o z =
        stores-if 33 (bitmap_edit ((resized_at v i wanted).new_data ++ (resized_at v i wanted).new_nodes) (resized_at v i wanted).dropped).change (λ old. c.tree.table) _ _
        (sym b.table)
        (ap (stores_of v)
        (ap₂ (λ (y : List ℕ) (es : List Edit). if_changed v (inode_edit i y) ++ es)
        (ap₂ (λ (es : List Extent) (l : List (List ℕ)). bytes_of_inode (inode_with name size es l)) (sym b.extents) (sym b.levels) ∙ sym r)
        (ap₂ (λ (xs ys : List Edit). xs ++ ys) node-edits data-edits)))
      where
        data-edits : data_edits (length (data_of v (inode_at v i))) (inode_at v i).size size c.x c.bytes (resized_at v i wanted).blocks
            ≡ data_edits c.tree.held c.old c.size c.x c.bytes (blocks_in c.tree.extents)
        data-edits = rw (b.held, o, z, b.extents, resized-blocks v i wanted)
