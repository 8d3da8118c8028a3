-- Where a number first stands in a list: laws of `place`, `member` and `distinct`. Assumes nothing.
use Rattle.std.specs.Prelude.{ℕ, suc, ◌+◌, ◌<◌, ◌≡◌, refl, Bool, true, false, cond, ◌&&◌, List, [], ◌∷◌, ◌++◌, length, get_or, eqb}
use Rattle.std.proofs.Common.{sym, ap, ◌∙◌, true≢false, add-zero, arith, eqb-true, eq-eqb, ne_eqb}
use Rattle.std.proofs.Math.Option.{none, some, some-ne-none, some-injective}
use Rattle.std.proofs.lemmas.Bool.{eqb-false}
use Rattle.spec.specs.Bytes.{place, place_from, member, distinct, all}
use Rattle.lists.specs.Members.{member-append}

-- ---- a place found

-- what is found stands there, and not before
pub record Stands (b i j : ℕ) (xs : List ℕ) : Type 0 where
  pub at : ℕ
  pub place : j ≡ i + at
  pub inside : at < length xs
  pub value : get_or xs at 0 ≡ b

pub place-stands : (b i j : ℕ) (xs : List ℕ) → place_from i b xs ≡ some j → Stands b i j xs
place-stands b i j [] h = absurd (some-ne-none j (sym h))
place-stands b i j (x ∷ xs) h = go (eqb x b) refl (place-stands b (suc i) j xs)
  where
    go : (t : Bool) → eqb x b ≡ t → (place_from (suc i) b xs ≡ some j → Stands b (suc i) j xs) → Stands b i j (x ∷ xs)
    go true e ih =
        let q : j ≡ i = sym (some-injective i j (rw e at h)) in
        record { at = 0; place = q ∙ sym (add-zero i); inside = omega arith; value = eqb-true x b e }
    go false e ih =
        let r = ih (rw e at h) in
        record { at = suc r.at; place = r.place ∙ omega arith; inside = omega (arith, r.inside); value = r.value }

pub place-lt : (b j : ℕ) (xs : List ℕ) → place b xs ≡ some j → j < length xs
place-lt b j xs h = let r = place-stands b 0 j xs h in omega (arith, r.place, r.inside)

pub place-value : (b j : ℕ) (xs : List ℕ) → place b xs ≡ some j → get_or xs j 0 ≡ b
place-value b j xs h =
    let r = place-stands b 0 j xs h in
    let q : j ≡ r.at = omega (arith, r.place) in
    ap (λ (k : ℕ). get_or xs k 0) q ∙ r.value

-- ---- a number put behind a list

pub place-new : (b i : ℕ) (xs : List ℕ) → place_from i b xs ≡ none → place_from i b (xs ++ (b ∷ [])) ≡ some (i + length xs)
place-new b i [] h = rw (eq-eqb b b refl) (ap some (sym (add-zero i)))
place-new b i (x ∷ xs) h = go (eqb x b) refl (place-new b (suc i) xs)
  where
    go : (t : Bool) → eqb x b ≡ t
        → (place_from (suc i) b xs ≡ none → place_from (suc i) b (xs ++ (b ∷ [])) ≡ some (suc i + length xs))
        → place_from i b ((x ∷ xs) ++ (b ∷ [])) ≡ some (i + length (x ∷ xs))
    go true e ih = absurd (some-ne-none i (rw e at h))
    go false e ih = rw e (ih (rw e at h) ∙ ap some (omega arith))

pub place_other : (b c i : ℕ) (xs : List ℕ) → (c ≡ b → ⊥) → place_from i c (xs ++ (b ∷ [])) ≡ place_from i c xs
place_other b c i [] h = rw (ne_eqb b c (λ q. h (sym q)))
place_other b c i (x ∷ xs) h = ap (cond (eqb x c) (some i)) (place_other b c (suc i) xs h)

-- ---- members

-- a number that has no place is no member
pub no_place : (b i : ℕ) (xs : List ℕ) → place_from i b xs ≡ none → member b xs ≡ false
no_place b i [] h = refl
no_place b i (x ∷ xs) h = go (eqb x b) refl (no_place b (suc i) xs)
  where
    go : (t : Bool) → eqb x b ≡ t → (place_from (suc i) b xs ≡ none → member b xs ≡ false) → member b (x ∷ xs) ≡ false
    go true e ih = absurd (some-ne-none i (rw e at h))
    go false e ih = rw e (ih (rw e at h))

-- ---- all of a list, and no number twice

module _ {A : Type 0} where
  pub all_append : (f : A → Bool) (xs ys : List A) → all f (xs ++ ys) ≡ (all f xs && all f ys)
  all_append f [] ys = refl
  all_append f (x ∷ xs) ys = go (f x) (all_append f xs ys)
    where
      go : (t : Bool) → all f (xs ++ ys) ≡ (all f xs && all f ys) → (t && all f (xs ++ ys)) ≡ ((t && all f xs) && all f ys)
      go true h = h
      go false h = refl

-- a number that is no member, put behind a list of different numbers
pub distinct_snoc : (b : ℕ) (xs : List ℕ) → member b xs ≡ false → distinct xs ≡ true → distinct (xs ++ (b ∷ [])) ≡ true
distinct_snoc b [] m d = refl
distinct_snoc b (x ∷ xs) m d = go (eqb x b) refl (member x xs) refl (distinct_snoc b xs)
  where
    go : (t : Bool) → eqb x b ≡ t → (u : Bool) → member x xs ≡ u
        → (member b xs ≡ false → distinct xs ≡ true → distinct (xs ++ (b ∷ [])) ≡ true)
        → distinct ((x ∷ xs) ++ (b ∷ [])) ≡ true
    go true e u f ih = let z : true ≡ false = rw e at m in absurd (true≢false z)
    go false e true f ih = let z : false ≡ true = rw f at d in absurd (true≢false (sym z))
    go false e false f ih =
        let ne : eqb b x ≡ false = ne_eqb b x (λ q. eqb-false x b e (sym q)) in
        let r : distinct (xs ++ (b ∷ [])) ≡ true = ih (rw e at m) (rw f at d) in
        let h : member x (xs ++ (b ∷ [])) ≡ false = member-append x xs (b ∷ []) ∙ rw (f, ne) in
        rw (h, r)
