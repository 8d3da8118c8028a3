-- What edits make of a disk, and which blocks they stage. Assumes nothing.
use Rattle.std.specs.Prelude.{ℕ, zero, suc, ◌+◌, ◌-◌, ◌≤◌, ◌<◌, ◌≡◌, refl, Bool, true, false, cond, not, ◌&&◌, ◌||◌, ◌⊎◌, List, [], ◌∷◌, ◌++◌, eqb, ltb, length}
use Rattle.std.proofs.Common.{sym, ap, ap₂, ◌∙◌, subst, inl, inr, eq-or-lt_of_le, arith, eqb-true, eq-eqb, ne_eqb}
use Rattle.std.proofs.Math.Bool.{and-true, and-false, or_self_left}
use Rattle.spec.specs.Layout.{block_size, bitmap_block}
use Rattle.spec.specs.Bytes.{same, keep, member, up_from}
use Rattle.spec.specs.Disk.{Disk}
use Rattle.spec.specs.Transaction.{BlockStore, put, insert, ascending}
use Rattle.spec.specs.Plan.{Edit, if_changed, stores_of}
use Rattle.lists.specs.Members.{member-cons}
use Rattle.block.proofs.Laws.{same_true}
use Rattle.logs.specs.Targets.{Fresh, Targets}
use Rattle.logs.specs.Stores.{upd_same, upd_other, Long, over, targets_of, Ascending, sorted}

-- ---- the targets in ascending order

member-insert : (b : ℕ) (x : BlockStore) (s : List BlockStore) → member b (targets_of (insert x s)) ≡ member b (targets_of (x ∷ s))
member-insert b x [] = refl
member-insert b x (y ∷ s) = go (ltb x.block y.block) (eqb x.block y.block) refl (member-insert b x s)
  where
    go : (t u : Bool) → eqb x.block y.block ≡ u → member b (targets_of (insert x s)) ≡ member b (targets_of (x ∷ s))
        → member b (targets_of (cond t (x ∷ y ∷ s) (cond u (y ∷ s) (y ∷ insert x s)))) ≡ member b (targets_of (x ∷ y ∷ s))
    go true u e ih = refl
    go false true e ih =
        let q = eqb-true x.block y.block e in
        member-cons b y.block (targets_of s) ∙ sym (or_self_left (eqb y.block b) (member b (targets_of s)))
        ∙ ap₂ (λ (k : ℕ) (t : Bool). eqb k b || t) (sym q) (sym (member-cons b y.block (targets_of s))) ∙ sym (member-cons b x.block (targets_of (y ∷ s)))
    go false false e ih =
        member-cons b y.block (targets_of (insert x s)) ∙ ap (λ t. eqb y.block b || t) (ih ∙ member-cons b x.block (targets_of s))
        ∙ turn (eqb y.block b) (eqb x.block b) (member b (targets_of s))
        ∙ ap (λ t. eqb x.block b || t) (sym (member-cons b y.block (targets_of s))) ∙ sym (member-cons b x.block (targets_of (y ∷ s)))
      where
        turn : (t u w : Bool) → (t || (u || w)) ≡ (u || (t || w))
        turn true true w = refl
        turn true false w = refl
        turn false u w = refl

member-ascending : (b : ℕ) (ws : List BlockStore) → member b (targets_of (ascending ws)) ≡ member b (targets_of ws)
unfolding ascending
member-ascending b [] = refl
member-ascending b (w ∷ ws) =
    member-insert b w (ascending ws) ∙ member-cons b w.block (targets_of (ascending ws))
    ∙ ap (λ t. eqb w.block b || t) (member-ascending b ws) ∙ sym (member-cons b w.block (targets_of ws))

-- a block below all of an ascending list is no target of it
below_none : (N lo b : ℕ) (t : List BlockStore) → b < lo → Ascending N lo t → member b (targets_of t) ≡ false
below_none N lo b [] h a = refl
below_none N lo b (e ∷ t) h a =
    member-cons b e.block (targets_of t)
    ∙ ap₂ ◌||◌ (ne_eqb e.block b (λ q. omega (arith, a.0))) (below_none N (suc e.block) b t (omega (arith, a.0)) a.2)

ascending-keep : (N lo n : ℕ) (t : List BlockStore) (f : ℕ → Bool) → lo + n ≡ N → Ascending N lo t
    → ((b : ℕ) → lo ≤ b → b < N → f b ≡ member b (targets_of t)) → targets_of t ≡ keep f (up_from lo n)
ascending-keep N lo zero [] f e a h = refl
ascending-keep N lo zero (x ∷ t) f e a h = absurd (omega (arith, a.0, a.1))
ascending-keep N lo (suc n) [] f e a h =
    ascending-keep N (suc lo) n [] f (omega arith) tt (λ b l u. h b (omega arith) u)
    ∙ ap (λ u. cond u (lo ∷ keep f (up_from (suc lo) n)) (keep f (up_from (suc lo) n))) (sym (h lo (omega arith) (omega arith)))
ascending-keep N lo (suc n) (x ∷ t) f e a h = go (eq-or-lt_of_le a.0) (ascending-keep N (suc lo) n t f) (ascending-keep N (suc lo) n (x ∷ t) f)
  where
    step : (u : Bool) → f lo ≡ u → keep f (up_from lo (suc n)) ≡ cond u (lo ∷ keep f (up_from (suc lo) n)) (keep f (up_from (suc lo) n))
    step u q = ap (λ u. cond u (lo ∷ keep f (up_from (suc lo) n)) (keep f (up_from (suc lo) n))) q

    go : (lo ≡ x.block) ⊎ (lo < x.block)
        → (suc lo + n ≡ N → Ascending N (suc lo) t → ((b : ℕ) → suc lo ≤ b → b < N → f b ≡ member b (targets_of t)) → targets_of t ≡ keep f (up_from (suc lo) n))
        → (suc lo + n ≡ N → Ascending N (suc lo) (x ∷ t) → ((b : ℕ) → suc lo ≤ b → b < N → f b ≡ member b (targets_of (x ∷ t))) → targets_of (x ∷ t) ≡ keep f (up_from (suc lo) n))
        → targets_of (x ∷ t) ≡ keep f (up_from lo (suc n))
    go (inl q) tail skip =
        let hit : f lo ≡ true = h lo (omega arith) (omega arith) ∙ member-cons lo x.block (targets_of t) ∙ ap (λ u. u || member lo (targets_of t)) (eq-eqb x.block lo (sym q)) in
        let rest = tail (omega arith) (subst (λ k. Ascending N (suc k) t) (sym q) a.2)
        (λ b l u. h b (omega arith) u ∙ member-cons b x.block (targets_of t) ∙ ap (λ u. u || member b (targets_of t)) (ne_eqb x.block b (λ p. omega arith))) in
        ap₂ (λ (k : ℕ) (l : List ℕ). k ∷ l) (sym q) rest ∙ sym (step true hit)
    go (inr l) tail skip =
        let miss : f lo ≡ false = h lo (omega arith) (omega arith) ∙ below_none N x.block lo (x ∷ t) l (omega arith, a.1, a.2) in
        skip (omega arith) (l, a.1, a.2) (λ b p u. h b (omega arith) u) ∙ sym (step false miss)

-- the targets are the blocks that pass, in order
pub sorted-keep : (N : ℕ) (ws : List BlockStore) (f : ℕ → Bool) → bitmap_block ≤ N → Targets N (targets_of ws)
    → ((b : ℕ) → bitmap_block ≤ b → b < N → f b ≡ member b (targets_of ws)) → targets_of (ascending ws) ≡ keep f (up_from bitmap_block (N - bitmap_block))
sorted-keep N ws f low t h =
    ascending-keep N bitmap_block (N - bitmap_block) (ascending ws) f (omega arith) (sorted N ws t).ascending (λ b l u. h b l u ∙ sym (member-ascending b ws))

-- ---- an edit that is staged where it changes the block

module _ (v : Disk) where
  abbrev pub blocks_of : List Edit → List ℕ
  blocks_of es = targets_of (stores_of v es)

  abbrev changes : Edit → Bool
  changes e = not (same (e.change (v e.block)) (v e.block))

  pub changed-member : (e : Edit) (es : List Edit) (b : ℕ) → member b (blocks_of (if_changed v e ++ es)) ≡ ((eqb e.block b && changes e) || member b (blocks_of es))
  changed-member e es b = go (same (e.change (v e.block)) (v e.block))
    where
      go : (t : Bool) → member b (blocks_of (cond t [] (e ∷ []) ++ es)) ≡ ((eqb e.block b && not t) || member b (blocks_of es))
      go true = ap (λ t. t || member b (blocks_of es)) (sym (and-false (eqb e.block b)))
      go false = member-cons b e.block (blocks_of es) ∙ ap (λ t. t || member b (blocks_of es)) (sym (and-true (eqb e.block b)))

  pub changed-targets : (N : ℕ) (e : Edit) (es : List Edit) → bitmap_block ≤ e.block → e.block < N → Fresh e.block (blocks_of es) → Targets N (blocks_of es)
      → Targets N (blocks_of (if_changed v e ++ es))
  changed-targets N e es lo hi fresh rest = go (same (e.change (v e.block)) (v e.block))
    where
      go : (t : Bool) → Targets N (blocks_of (cond t [] (e ∷ []) ++ es))
      go true = rest
      go false = (lo, hi, fresh, rest)

  pub changed-fresh : (b : ℕ) (e : Edit) (es : List Edit) → (b ≡ e.block → ⊥) → Fresh b (blocks_of es) → Fresh b (blocks_of (if_changed v e ++ es))
  changed-fresh b e es h rest = go (same (e.change (v e.block)) (v e.block))
    where
      go : (t : Bool) → Fresh b (blocks_of (cond t [] (e ∷ []) ++ es))
      go true = rest
      go false = (h, rest)

  pub changed-long : (e : Edit) (es : List Edit) → length (e.change (v e.block)) ≡ block_size → Long (stores_of v es) → Long (stores_of v (if_changed v e ++ es))
  changed-long e es h rest = go (same (e.change (v e.block)) (v e.block))
    where
      go : (t : Bool) → Long (stores_of v (cond t [] (e ∷ []) ++ es))
      go true = rest
      go false = (h, rest)

  pub over-fresh : (b : ℕ) (ws : List BlockStore) → Fresh b (targets_of ws) → over ws v b ≡ v b
  over-fresh b [] h = refl
  over-fresh b (w ∷ ws) h = upd_other w (over ws v) b h.0 ∙ over-fresh b ws h.1

  -- staged or not, its block holds the new content, and any other what the rest makes of it
  pub changed-own : (e : Edit) (es : List Edit) → Fresh e.block (blocks_of es) → over (stores_of v (if_changed v e ++ es)) v e.block ≡ e.change (v e.block)
  changed-own e es fresh = go (same (e.change (v e.block)) (v e.block)) refl
    where
      go : (t : Bool) → same (e.change (v e.block)) (v e.block) ≡ t → over (stores_of v (cond t [] (e ∷ []) ++ es)) v e.block ≡ e.change (v e.block)
      go true q = over-fresh e.block (stores_of v es) fresh ∙ sym (same_true (e.change (v e.block)) (v e.block) q)
      go false q = upd_same (put e.block (e.change (v e.block))) (over (stores_of v es) v)

  pub changed-other : (e : Edit) (es : List Edit) (b : ℕ) → (b ≡ e.block → ⊥) → over (stores_of v (if_changed v e ++ es)) v b ≡ over (stores_of v es) v b
  changed-other e es b h = go (same (e.change (v e.block)) (v e.block))
    where
      go : (t : Bool) → over (stores_of v (cond t [] (e ∷ []) ++ es)) v b ≡ over (stores_of v es) v b
      go true = refl
      go false = upd_other (put e.block (e.change (v e.block))) (over (stores_of v es) v) b h
