-- The claim about a change settles the work space: two outcomes of which it holds, with sound working copies of bytes and one map, have the same images. Assumes nothing.
use Rattle.std.specs.Prelude.{ℕ, zero, suc, ◌+◌, ◌-◌, ◌≤◌, ◌<◌, ◌≡◌, Bool, true, cond, ◌⊎◌, List, [], ◌∷◌, ◌++◌, T, eqb, length, get_or}
use Rattle.std.proofs.Math.Path.{refl, ap, ap₂, fun_ext}
use Rattle.std.proofs.Common.{sym, ◌∙◌, subst, true≢false, inl, inr, add-zero, zero-add, arith, eqb-true, ne_eqb, eq-eqb}
use Rattle.std.proofs.Math.Bool.{false, not, ◌||◌}
use Rattle.std.proofs.lemmas.Bool.{false≢true, eqb-false, not-true}
use Rattle.std.proofs.Math.Option.{Option, none, some, some-injective, some-ne-none}
use Rattle.spec.specs.Layout.{block_size, bitmap_block, inode_count, most_blocks}
use Rattle.spec.specs.Bytes.{found, keep, member, distinct, place, place_from, quotient_up, up_from}
use Rattle.spec.specs.Disk.{Disk, Slice}
use Rattle.spec.specs.Inode.{Inode, inode_at, name_at, is_empty, data_of, nodes_of}
use Rattle.spec.specs.Map.{files_of}
use Rattle.spec.specs.Session.{staged_in}
use Rattle.spec.specs.Transaction.{view}
use Rattle.spec.specs.Calls.{Outcome, Change, Create, Remove, Rename, Write, SetSize}
use Rattle.spec.specs.Sentences.{File, file_at, file_then, record_for, reaches, call_stages, staged_by}
use Rattle.spec.specs.CutRule.{Both, Changes}
use Rattle.lists.specs.Tests.{both_true, or-second, not-both, false_of}
use Rattle.lists.specs.Members.{member-cons, member-append, member-at, occurs-member}
use Rattle.lists.specs.Places.{place-value, no_place}
use Rattle.block.proofs.Laws.{lt-or-le}
use Rattle.logs.specs.Targets.{holds}
use Rattle.logs.specs.Stores.{Whole}
use Rattle.logs.specs.Staging.{member-keep}
use Rattle.laws.specs.Volume.{bit_count, VolumeSound, find-some}
use Rattle.laws.specs.Frame.{Agree, data-frame, nodes-frame}
use Rattle.laws.specs.Reached.{bit-count, kept-inode, kept-name}
use Rattle.laws.specs.Good.{Good}
use Rattle.laws.specs.Tests.{empty-some, file-is}
use Rattle.laws.specs.OwnSize.{Fitted, sound-fitted, empty-fitted}
use Rattle.laws.specs.SameVolume.{table_same, records-same, reached-blocks}
use Rattle.laws.specs.OwnBlocks.{Own, reaches-from, stages-own, others-unstaged}

-- ---- places in a list

place-front : (i x : ℕ) (xs ys : List ℕ) (k : ℕ) → place_from i x xs ≡ some k → place_from i x (xs ++ ys) ≡ some k
place-front i x [] ys k h = absurd (some-ne-none k (sym h))
place-front i x (y ∷ xs) ys k h = go (eqb y x) refl (place-front (suc i) x xs ys k)
  where
    go : (t : Bool) → eqb y x ≡ t → (place_from (suc i) x xs ≡ some k → place_from (suc i) x (xs ++ ys) ≡ some k) → place_from i x (y ∷ (xs ++ ys)) ≡ some k
    go true e ih = rw e (rw e at h)
    go false e ih = rw e (ih (rw e at h))

place_none : (i x : ℕ) (xs : List ℕ) → member x xs ≡ false → place_from i x xs ≡ none
place_none i x [] h = refl
place_none i x (y ∷ xs) h = go (eqb y x) refl (place_none (suc i) x xs) (sym (member-cons x y xs) ∙ h)
  where
    go : (t : Bool) → eqb y x ≡ t → (member x xs ≡ false → place_from (suc i) x xs ≡ none) → (eqb y x || member x xs) ≡ false → place_from i x (y ∷ xs) ≡ none
    go true e ih q = absurd (true≢false (rw e at q))
    go false e ih q = rw e (ih (rw e at q))

place-own : (i k : ℕ) (xs : List ℕ) → distinct xs ≡ true → k < length xs → place_from i (get_or xs k 0) xs ≡ some (i + k)
place-own i k [] d l = absurd (omega arith)
place-own i zero (x ∷ xs) d l = rw (eq-eqb x x refl) (ap some (sym (add-zero i)))
place-own i (suc k) (x ∷ xs) d l =
    let b = both_true (not (member x xs)) (distinct xs) d in
    let e : i + suc k ≡ suc i + k = omega arith in
    let n : x ≡ get_or xs k 0 → ⊥ = λ q. not-both (subst (λ (y : ℕ). member y xs ≡ true) (sym q) (member-at xs k (omega arith))) (not-true (member x xs) b.0) in
    rw (ne_eqb x (get_or xs k 0) n) (place-own (suc i) k xs b.1 (omega arith) ∙ ap some (sym e))

kept-member : (x : ℕ) (f : ℕ → Bool) (xs : List ℕ) → member x (keep f xs) ≡ true → member x xs ≡ true
kept-member x f [] h = absurd (false≢true h)
kept-member x f (y ∷ xs) h = go (f y) refl (kept-member x f xs) h
  where
    go : (t : Bool) → f y ≡ t → (member x (keep f xs) ≡ true → member x xs ≡ true) → member x (cond t (y ∷ keep f xs) (keep f xs)) ≡ true → member x (y ∷ xs) ≡ true
    go true e ih q = member-cons x y xs ∙ more (eqb y x) refl (sym (member-cons x y (keep f xs)) ∙ q)
      where
        more : (t : Bool) → eqb y x ≡ t → (eqb y x || member x (keep f xs)) ≡ true → (eqb y x || member x xs) ≡ true
        more true k z = rw k
        more false k z = rw k (ih (rw k at z))
    go false e ih q = member-cons x y xs ∙ or-second (eqb y x) (member x xs) (ih q)

-- ---- the record that a change is about

pub record-below : (v : Disk) (c : Change) (i : ℕ) → record_for v c ≡ some i → i < inode_count
record-below v (Create name) i h = (empty-some v i h).0
record-below v (Remove name) i h = (find-some v name i h).0
record-below v (Rename name new) i h = (find-some v name i h).0
record-below v (Write name x bytes) i h = (find-some v name i h).0
record-below v (SetSize name size) i h = (find-some v name i h).0

-- ---- one outcome

module _ (N : ℕ) (b : Both) (c : Change) (o : Outcome) (h : Changes N b c o) where
  abbrev before : List ℕ
  before = staged_in b.store.session

  abbrev then : List ℕ
  then = staged_in o.after.session

  abbrev more : List ℕ
  more = keep (λ x. not (member x before)) (staged_by N (view b.store) h.inode c)

  -- a block that the call does not stage is in the working copy as it was
  unstaged-view : (x : ℕ) → call_stages N (view b.store) h.inode c x ≡ false → view o.after x ≡ view b.store x
  unfolding view
  unstaged-view x e = go (place x before) refl
    where
      go : (p : Option ℕ) → place x before ≡ p → found (place x then) (o.after.device.block x) o.after.work.block ≡ found (place x before) (b.store.device.block x) b.store.work.block
      go (some k) q =
          let r : place x then ≡ some k = ap (place x) h.staged ∙ place-front 0 x before more k q in
          rw (q, r) (h.images k (λ t l. not-both (holds (call_stages N (view b.store) h.inode c (get_or then k 0)) t) (ap (call_stages N (view b.store) h.inode c) (place-value x k then r) ∙ e)))
      go none q =
          let m : member x more ≡ false = false_of (member x more) (λ y.
          not-both (member-keep x (call_stages N (view b.store) h.inode c) (up_from bitmap_block (N - bitmap_block)) (kept-member x (λ z. not (member z before)) (staged_by N (view b.store) h.inode c) y)) e)
          in
          let r : place x then ≡ none = ap (place x) h.staged ∙ place_none 0 x (before ++ more) (member-append x before more ∙ ap₂ ◌||◌ (no_place x 0 before q) m) in
          rw (q, r) (ap (λ (z : Slice). z.block x) h.device)

  -- a staged block is its image
  staged-view : distinct then ≡ true → (k : ℕ) → k < length then → view o.after (get_or then k 0) ≡ o.after.work.block k
  unfolding view
  staged-view d k l = rw (place-own 0 k then d l) (ap o.after.work.block (zero-add k))

  module _ (whole : Whole (view b.store)) (sound : VolumeSound N (view b.store)) (most : N ≤ most_blocks) (good : Good N (view o.after)) where
    abbrev v : Disk
    v = view b.store

    abbrev v' : Disk
    v' = view o.after

    table-holds : N ≤ bit_count v
    table-holds = omega (arith, bit-count v whole, most)

    below : h.inode < inode_count
    below = record-below v c h.inode h.is-inode

    fitted : length (file_then N v (file_at v h.inode) c).blocks ≡ quotient_up (file_then N v (file_at v h.inode) c).size block_size
    fitted = subst (λ (f : File). length f.blocks ≡ quotient_up f.size block_size) h.file (go (is_empty v' h.inode) refl).blocks
      where
        go : (t : Bool) → is_empty v' h.inode ≡ t → Fitted (file_at v' h.inode)
        go true e = empty-fitted v' h.inode (good.sound.empties h.inode below e)
        go false e = sound-fitted N v' h.inode (good.sound.files h.inode below e)

    -- the other files are as they were
    other-file : (j : ℕ) → j < inode_count → (j ≡ h.inode → ⊥) → file_at v' j ≡ file_at v j
    unfolding Agree
    other-file j hj ne =
        let bytes = h.others j hj ne in
        let a : Agree v v' (nodes_of v (inode_at v j)) =
        λ x r. unstaged-view x (others-unstaged N v sound table-holds h.inode below c fitted j hj ne x
        (reaches-from N v sound j hj x (or-second (member x (data_of v (inode_at v j))) (member x (nodes_of v (inode_at v j))) (occurs-member x (nodes_of v (inode_at v j)) r))))
        in
        let n = kept-inode v v' j bytes in
        file-is (name_at v' j) (name_at v j) (inode_at v' j).size (inode_at v j).size (data_of v' (inode_at v' j)) (data_of v (inode_at v j)) (nodes_of v' (inode_at v' j)) (nodes_of v (inode_at v j))
        (kept-name v v' j bytes) (ap (λ (m : Inode). m.size) n) (ap (data_of v') n ∙ data-frame v v' (inode_at v j) a) (ap (nodes_of v') n ∙ nodes-frame v v' (inode_at v j) a)

-- ---- two outcomes

module _ (N : ℕ) (most : N ≤ most_blocks) (b : Both) (c : Change) (whole : Whole (view b.store)) (sound : VolumeSound N (view b.store))
    (o p : Outcome) (x : Changes N b c o) (y : Changes N b c p)
    (vw : Whole (view o.after)) (ww : Whole (view p.after)) (gv : Good N (view o.after)) (gw : Good N (view p.after))
    (maps : (name : List ℕ) → files_of (view o.after) name ≡ files_of (view p.after) name)
  where
    abbrev i : ℕ
    i = x.inode

    inode-same : y.inode ≡ x.inode
    inode-same = some-injective y.inode x.inode (sym y.is-inode ∙ x.is-inode)

    files-same : (j : ℕ) → j < inode_count → file_at (view o.after) j ≡ file_at (view p.after) j
    files-same j hj = go (eqb j i) refl
      where
        go : (t : Bool) → eqb j i ≡ t → file_at (view o.after) j ≡ file_at (view p.after) j
        go true e =
            let q = eqb-true j i e in
            ap (file_at (view o.after)) q ∙ x.file ∙ sym (subst (λ k. file_at (view p.after) k ≡ file_then N (view b.store) (file_at (view b.store) k) c) inode-same y.file) ∙ ap (file_at (view p.after)) (sym q)
        go false e =
            let n = eqb-false j i e in
            other-file N b c o x whole sound most gv j hj n ∙ sym (other-file N b c p y whole sound most gw j hj (λ q. n (q ∙ inode-same)))

    pub staged-same : staged_in o.after.session ≡ staged_in p.after.session
    staged-same =
        x.staged ∙ ap (λ k. staged_in b.store.session ++ keep (λ z. not (member z (staged_in b.store.session))) (staged_by N (view b.store) k c)) (sym inode-same) ∙ sym y.staged

    -- a block that the call stages
    block_same : (z : ℕ) → call_stages N (view b.store) i c z ≡ true → view o.after z ≡ view p.after z
    block_same z h = go (stages-own N (view b.store) sound (table-holds N b c o x whole sound most gv) i (below N b c o x whole sound most gv) c (fitted N b c o x whole sound most gv) z h)
      where
        go : Own N (view b.store) i c z → view o.after z ≡ view p.after z
        go (inl e) = subst (λ (k : ℕ). view o.after k ≡ view p.after k) (sym e) (table_same N (view o.after) (view p.after) vw ww gv gw files-same maps)
        go (inr (inl e)) = let l = below N b c o x whole sound most gv in records-same N (view o.after) (view p.after) vw ww gv gw files-same maps z (omega (arith, e)) (omega (arith, e, l))
        go (inr (inr r)) =
            let l = below N b c o x whole sound most gv in
            reached-blocks N (view o.after) (view p.after) vw ww gv gw files-same maps i l z
            (reaches-from N (view o.after) gv.sound i l z (subst (λ (f : File). reaches f z ≡ true) (sym x.file) r))

    pub work-same : distinct (staged_in o.after.session) ≡ true → o.after.work ≡ p.after.work
    work-same d = slice_is o.after.work p.after.work (x.work ∙ sym y.work) (fun_ext (λ k. go k (lt-or-le k (length (staged_in o.after.session))) (call_stages N (view b.store) i c (get_or (staged_in o.after.session) k 0)) refl))
      where
        slice_is : (s t : Slice) → s.size ≡ t.size → s.block ≡ t.block → s ≡ t
        slice_is s t m n = λ j. record { size = m j; block = n j }

        kept : (k : ℕ) → (T (call_stages N (view b.store) i c (get_or (staged_in o.after.session) k 0)) → k < length (staged_in o.after.session) → ⊥)
            → o.after.work.block k ≡ p.after.work.block k
        kept k n =
            x.images k n
            ∙ sym (y.images k (subst (λ (l : List ℕ). T (call_stages N (view b.store) y.inode c (get_or l k 0)) → k < length l → ⊥) staged-same
            (subst (λ (m : ℕ). T (call_stages N (view b.store) m c (get_or (staged_in o.after.session) k 0)) → k < length (staged_in o.after.session) → ⊥) (sym inode-same) n)))

        go : (k : ℕ) → (k < length (staged_in o.after.session)) ⊎ (length (staged_in o.after.session) ≤ k) → (t : Bool)
            → call_stages N (view b.store) i c (get_or (staged_in o.after.session) k 0) ≡ t → o.after.work.block k ≡ p.after.work.block k
        go k (inr l) t e = kept k (λ h u. omega (arith, l, u))
        go k (inl l) false e = kept k (λ h u. not-both (holds (call_stages N (view b.store) i c (get_or (staged_in o.after.session) k 0)) h) e)
        go k (inl l) true e =
            sym (staged-view N b c o x d k l) ∙ block_same (get_or (staged_in o.after.session) k 0) e
            ∙ ap (λ (s : List ℕ). view p.after (get_or s k 0)) staged-same
            ∙ staged-view N b c p y (subst (λ (s : List ℕ). distinct s ≡ true) staged-same d) k (subst (λ (s : List ℕ). k < length s) staged-same l)
