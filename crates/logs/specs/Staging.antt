-- What staging a call's stores leaves: the numbers in order, the other images as they were, the working copy with the stores on it. Assumes nothing.
use Rattle.std.specs.Prelude.{ℕ, zero, suc, ◌+◌, ◌-◌, ◌≤◌, ◌<◌, ◌≡◌, refl, Bool, true, false, cond, not, ◌&&◌, ◌||◌, List, [], ◌∷◌, ◌++◌, eqb, length, get_or}
use Rattle.std.proofs.Common.{sym, ap, ◌∙◌, subst, true≢false, append_assoc, length-append, arith, eqb-true, ne_eqb, eq-eqb}
use Rattle.std.proofs.Math.Path.{fun_ext}
use Rattle.std.proofs.Math.Bool.{and-true}
use Rattle.std.proofs.lemmas.Bool.{false≢true, eqb-false}
use Rattle.std.proofs.Math.Option.{Option, none, some, some-ne-none}
use Rattle.std.proofs.Math.ListN.{get_or-append}
use Rattle.std.proofs.Math.Seq.{get_or-append_seam}
use Rattle.spec.specs.Bytes.{place, place_from, all, keep, member, up_from}
use Rattle.spec.specs.Disk.{Disk}
use Rattle.spec.specs.Transaction.{BlockStore, Staged, stage, stage_each}
use Rattle.lists.specs.Places.{place-lt, place-value, no_place, all_append}
use Rattle.transaction.proofs.Laws.{shown, shown-stage, stage-new, stage-again}
use Rattle.logs.specs.Stores.{upd, applied, targets_of}
use Rattle.lists.specs.Members.{member-cons}
use Rattle.logs.specs.Targets.{Fresh, Targets}

-- ---- members

place-member : (b i j : ℕ) (xs : List ℕ) → place_from i b xs ≡ some j → member b xs ≡ true
place-member b i j [] h = absurd (some-ne-none j (sym h))
place-member b i j (x ∷ xs) h = go (eqb x b) refl (place-member b (suc i) j xs)
  where
    go : (t : Bool) → eqb x b ≡ t → (place_from (suc i) b xs ≡ some j → member b xs ≡ true) → member b (x ∷ xs) ≡ true
    go true e ih = rw e
    go false e ih = rw e (ih (rw e at h))

member-snoc : (x b : ℕ) (bs : List ℕ) → (b ≡ x → ⊥) → member x (bs ++ (b ∷ [])) ≡ member x bs
member-snoc x b bs h =
    let q : (all (λ y. not (eqb y x)) bs && all (λ y. not (eqb y x)) (b ∷ [])) ≡ all (λ y. not (eqb y x)) bs =
    rw (ne_eqb b x h) (and-true (all (λ y. not (eqb y x)) bs))
    in
    ap not (all_append (λ y. not (eqb y x)) bs (b ∷ []) ∙ q)

fresh-member : (b : ℕ) (xs : List ℕ) → Fresh b xs → member b xs ≡ false
fresh-member b [] g = refl
fresh-member b (x ∷ xs) g = member-cons b x xs ∙ rw (ne_eqb x b (λ q. g.0 (sym q))) (fresh-member b xs g.1)

keep_snoc : (b : ℕ) (bs ts : List ℕ) → Fresh b ts → keep (λ x. not (member x (bs ++ (b ∷ [])))) ts ≡ keep (λ x. not (member x bs)) ts
keep_snoc b bs [] g = refl
keep_snoc b bs (t ∷ ts) g = rw (member-snoc t b bs g.0, keep_snoc b bs ts g.1)

-- what is kept passes
pub member-keep : (x : ℕ) (f : ℕ → Bool) (xs : List ℕ) → member x (keep f xs) ≡ true → f x ≡ true
member-keep x f [] h = absurd (false≢true h)
member-keep x f (y ∷ xs) h = go (f y) refl (eqb y x) refl (member-keep x f xs)
  where
    go : (a : Bool) → f y ≡ a → (b : Bool) → eqb y x ≡ b → (member x (keep f xs) ≡ true → f x ≡ true) → f x ≡ true
    go true p true q ih = ap f (sym (eqb-true y x q)) ∙ p
    go true p false q ih = ih (simp (p, q) at h)
    go false p b q ih = ih (rw p at h)

-- numbers counted up from 33, and any of them
keep-fresh : (b a n : ℕ) (f : ℕ → Bool) → b < a → Fresh b (keep f (up_from a n))
keep-fresh b a zero f h = tt
keep-fresh b a (suc n) f h = go (f a) (keep-fresh b (suc a) n f (omega arith))
  where
    go : (t : Bool) → Fresh b (keep f (up_from (suc a) n)) → Fresh b (cond t (a ∷ keep f (up_from (suc a) n)) (keep f (up_from (suc a) n)))
    go true g = ((λ q. omega arith), g)
    go false g = g

pub keep-targets : (N a n : ℕ) (f : ℕ → Bool) → 33 ≤ a → a + n ≤ N → Targets N (keep f (up_from a n))
keep-targets N a zero f h k = tt
keep-targets N a (suc n) f h k = go (f a) (keep-targets N (suc a) n f (omega arith) (omega arith))
  where
    go : (t : Bool) → Targets N (keep f (up_from (suc a) n)) → Targets N (cond t (a ∷ keep f (up_from (suc a) n)) (keep f (up_from (suc a) n)))
    go true g = (h, omega arith, keep-fresh a (suc a) n f (omega arith), g)
    go false g = g

-- ---- the numbers staged

-- "within a call ascending": those not staged before, behind the others
pub each-blocks : (N : ℕ) (ws : List BlockStore) (t : Staged) → Targets N (targets_of ws)
    → (stage_each t ws).blocks ≡ t.blocks ++ keep (λ x. not (member x t.blocks)) (targets_of ws)
each-blocks N [] t g = sym (append-nil t.blocks)
  where
    append-nil : (xs : List ℕ) → xs ++ [] ≡ xs
    append-nil [] = refl
    append-nil (x ∷ xs) = ap {B = List ℕ} (λ ys. x ∷ ys) (append-nil xs)
each-blocks N (w ∷ ws) t g = go (place w.block t.blocks) refl (each-blocks N ws (stage t w) g.3)
  where
    go : (o : Option ℕ) → place w.block t.blocks ≡ o
        → (stage_each (stage t w) ws).blocks ≡ (stage t w).blocks ++ keep (λ x. not (member x (stage t w).blocks)) (targets_of ws)
        → (stage_each (stage t w) ws).blocks ≡ t.blocks ++ keep (λ x. not (member x t.blocks)) (targets_of (w ∷ ws))
    go none e ih =
        ih ∙ ap (λ (u : Staged). u.blocks ++ keep (λ x. not (member x u.blocks)) (targets_of ws)) (stage-new t w e)
        ∙ ap (λ (l : List ℕ). (t.blocks ++ (w.block ∷ [])) ++ l) (keep_snoc w.block t.blocks (targets_of ws) g.2)
        ∙ rw (no_place w.block 0 t.blocks e) (append_assoc t.blocks (w.block ∷ []) (keep (λ x. not (member x t.blocks)) (targets_of ws)))
    go (some j) e ih =
        ih ∙ ap (λ (u : Staged). u.blocks ++ keep (λ x. not (member x u.blocks)) (targets_of ws)) (stage-again t w j e)
        ∙ rw (place-member w.block 0 j t.blocks e)

-- ---- the images

module _ (N : ℕ) (ws : List BlockStore) (t : Staged) (g : Targets N (targets_of ws)) (j : ℕ) (h : j < length t.blocks) where
  each-kept : get_or (stage_each t ws).blocks j 0 ≡ get_or t.blocks j 0
  each-kept =
      ap (λ (l : List ℕ). get_or l j 0) (each-blocks N ws t g)
      ∙ get_or-append t.blocks (keep (λ x. not (member x t.blocks)) (targets_of ws)) 0 j h

  each-longer : j < length (stage_each t ws).blocks
  each-longer =
      omega (arith, ap length (each-blocks N ws t g), length-append t.blocks (keep (λ x. not (member x t.blocks)) (targets_of ws)))

-- "the rest of it is unchanged"
pub each-images : (N : ℕ) (ws : List BlockStore) (t : Staged) → Targets N (targets_of ws) → (i : ℕ)
    → (member (get_or (stage_each t ws).blocks i 0) (targets_of ws) ≡ true → i < length (stage_each t ws).blocks → ⊥)
    → (stage_each t ws).image i ≡ t.image i
each-images N [] t g i h = refl
each-images N (w ∷ ws) t g i h = each-images N ws (stage t w) g.3 i (λ m. h (more m)) ∙ go (place w.block t.blocks) refl
  where
    more : member (get_or (stage_each (stage t w) ws).blocks i 0) (targets_of ws) ≡ true → member (get_or (stage_each (stage t w) ws).blocks i 0) (targets_of (w ∷ ws)) ≡ true
    more m = member-cons (get_or (stage_each (stage t w) ws).blocks i 0) w.block (targets_of ws) ∙ rw m (either (eqb w.block (get_or (stage_each (stage t w) ws).blocks i 0)))
      where
        either : (b : Bool) → (b || true) ≡ true
        either true = refl
        either false = refl

    -- a place at which w stands is one of those staged
    own : (j : ℕ) → j < length (stage t w).blocks → get_or (stage t w).blocks j 0 ≡ w.block → i ≡ j → ⊥
    own j k q e =
        h (subst (λ (n : ℕ). member (get_or (stage_each (stage t w) ws).blocks n 0) (targets_of (w ∷ ws)) ≡ true) (sym e)
        (ap (λ (x : ℕ). member x (targets_of (w ∷ ws))) (each-kept N ws (stage t w) g.3 j k ∙ q) ∙ member-cons w.block w.block (targets_of ws) ∙ rw (eq-eqb w.block w.block refl)))
        (subst (λ (n : ℕ). n < length (stage_each (stage t w) ws).blocks) (sym e) (each-longer N ws (stage t w) g.3 j k))

    go : (o : Option ℕ) → place w.block t.blocks ≡ o → (stage t w).image i ≡ t.image i
    go none e =
        let q = ap (λ (u : Staged). u.blocks) (stage-new t w e) in
        ap (λ (u : Staged). u.image i) (stage-new t w e)
        ∙ rw (ne_eqb i (length t.blocks) (own (length t.blocks) (omega (arith, ap length q, length-append t.blocks (w.block ∷ [])))
        (ap (λ (l : List ℕ). get_or l (length t.blocks) 0) q ∙ get_or-append_seam t.blocks w.block [] 0)))
    go (some j) e =
        let q = ap (λ (u : Staged). u.blocks) (stage-again t w j e) in
        ap (λ (u : Staged). u.image i) (stage-again t w j e)
        ∙ rw (ne_eqb i j (own j (omega (arith, ap length q, place-lt w.block j t.blocks e)) (ap (λ (l : List ℕ). get_or l j 0) q ∙ place-value w.block j t.blocks e)))

-- ---- the working copy

pub each-shown : (d : Disk) (ws : List BlockStore) (t : Staged) → shown d (stage_each t ws) ≡ applied ws (shown d t)
each-shown d [] t = refl
each-shown d (w ∷ ws) t = each-shown d ws (stage t w) ∙ ap (applied ws) (fun_ext (λ c. unfold upd in shown-stage d t w c))

-- ---- how many

-- either of two tests: those of the first, and those of the second alone
keep-or : (f g : ℕ → Bool) (xs : List ℕ) → length (keep (λ x. f x || g x) xs) ≡ length (keep f xs) + length (keep (λ x. not (f x)) (keep g xs))
keep-or f g [] = refl
keep-or f g (x ∷ xs) = go (f x) refl (g x) refl (keep-or f g xs)
  where
    go : (a : Bool) → f x ≡ a → (b : Bool) → g x ≡ b
        → length (keep (λ x. f x || g x) xs) ≡ length (keep f xs) + length (keep (λ x. not (f x)) (keep g xs))
        → length (keep (λ x. f x || g x) (x ∷ xs)) ≡ length (keep f (x ∷ xs)) + length (keep (λ x. not (f x)) (keep g (x ∷ xs)))
    go true p true q ih = simp (p, q) (omega (arith, ih))
    go true p false q ih = simp (p, q) (omega (arith, ih))
    go false p true q ih = simp (p, q) (omega (arith, ih))
    go false p false q ih = simp (p, q) ih

keep-below : (x a n : ℕ) → x < a → keep (λ b. eqb x b) (up_from a n) ≡ []
keep-below x a zero h = refl
keep-below x a (suc n) h = rw (ne_eqb x a (λ q. omega arith)) (keep-below x (suc a) n (omega arith))

keep_one : (x a n : ℕ) → a ≤ x → x < a + n → length (keep (λ b. eqb x b) (up_from a n)) ≡ 1
keep_one x a zero h k = absurd (omega (arith, h, k))
keep_one x a (suc n) h k = go (eqb x a) refl (λ y. keep_one x (suc a) n y (omega arith))
  where
    go : (t : Bool) → eqb x a ≡ t → (suc a ≤ x → length (keep (λ b. eqb x b) (up_from (suc a) n)) ≡ 1) → length (keep (λ b. eqb x b) (up_from a (suc n))) ≡ 1
    go true q ih = rw (q, keep-below x (suc a) n (omega (arith, eqb-true x a q)))
    go false q ih = rw q (ih (omega (arith, h, eqb-false x a q)))

keep-nothing : (xs : List ℕ) → keep (λ x. false) xs ≡ []
keep-nothing [] = refl
keep-nothing (x ∷ xs) = keep-nothing xs

-- a number that is no member is none of those kept
keep-others : (x : ℕ) (bs xs : List ℕ) → member x bs ≡ false → keep (λ b. not (eqb x b)) (keep (λ b. member b bs) xs) ≡ keep (λ b. member b bs) xs
keep-others x bs [] h = refl
keep-others x bs (y ∷ xs) h = go (member y bs) refl (eqb x y) refl (keep-others x bs xs h)
  where
    go : (a : Bool) → member y bs ≡ a → (b : Bool) → eqb x y ≡ b
        → keep (λ b. not (eqb x b)) (keep (λ b. member b bs) xs) ≡ keep (λ b. member b bs) xs
        → keep (λ b. not (eqb x b)) (keep (λ b. member b bs) (y ∷ xs)) ≡ keep (λ b. member b bs) (y ∷ xs)
    go true p true q ih = absurd (true≢false (sym p ∙ ap (λ z. member z bs) (sym (eqb-true x y q)) ∙ h))
    go true p false q ih = simp (p, q) (ap {B = List ℕ} (λ l. y ∷ l) ih)
    go false p b q ih = simp p ih

count-members : (N : ℕ) (bs : List ℕ) → Targets N bs → length (keep (λ b. member b bs) (up_from 33 (N - 33))) ≡ length bs
count-members N [] g = ap length (keep-nothing (up_from 33 (N - 33)))
count-members N (x ∷ bs) g =
    ap (λ (f : ℕ → Bool). length (keep f (up_from 33 (N - 33)))) (fun_ext (λ b. member-cons b x bs))
    ∙ keep-or (λ b. eqb x b) (λ b. member b bs) (up_from 33 (N - 33))
    ∙ sum (keep_one x 33 (N - 33) g.0 (omega (arith, g.0, g.1))) (ap length (keep-others x bs (up_from 33 (N - 33)) (fresh-member x bs g.2)) ∙ count-members N bs g.3)
  where
    sum : {a b : ℕ} → a ≡ 1 → b ≡ length bs → a + b ≡ suc (length bs)
    sum p q = omega arith

-- 18. the blocks staged already or by this call
pub count-staged : (N : ℕ) (bs : List ℕ) (f : ℕ → Bool) → Targets N bs
    → length (bs ++ keep (λ x. not (member x bs)) (keep f (up_from 33 (N - 33)))) ≡ length (keep (λ b. member b bs || f b) (up_from 33 (N - 33)))
count-staged N bs f g =
    length-append bs (keep (λ x. not (member x bs)) (keep f (up_from 33 (N - 33))))
    ∙ ap (λ n. n + length (keep (λ x. not (member x bs)) (keep f (up_from 33 (N - 33))))) (sym (count-members N bs g))
    ∙ sym (keep-or (λ b. member b bs) f (up_from 33 (N - 33)))
