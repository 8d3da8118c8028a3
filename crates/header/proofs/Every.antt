-- What holds of all entries of a list. Assumes nothing.
use Prim.Native.Nat.{ℕ, zero, suc, ◌<◌}
use mathlib.Core.Path.{◌≡◌, refl, sym}
use mathlib.Core.Bool.{Bool, true, false, true≢false}
use mathlib.Core.List.{List, [], ◌∷◌}
use native.Mathlib.Omega.{arith}
use borrow.Author.Tests.{eqb-false, ne_eqb}
use lib.Dec.{eqb}
use lib.ListN.{length, get_or}
use Rattle.spec.specs.Bytes.{all, member, distinct}

module _ {A : Type 0} where
  abbrev pub Every : (A → Type 0) → List A → Type 0
  Every P [] = Unit {0}
  Every P (x ∷ xs) = P x × Every P xs

  pub every-at : (P : A → Type 0) (xs : List A) (d : ℕ) (a : A) → Every P xs → d < length xs → P (get_or xs d a)
  every-at P [] d a g h = absurd (omega arith)
  every-at P (x ∷ xs) zero a g h = g.0
  every-at P (x ∷ xs) (suc d) a g h = every-at P xs d a g.1 (omega arith)

  pub every-from : (P : A → Type 0) (xs : List A) (a : A) → ((d : ℕ) → d < length xs → P (get_or xs d a)) → Every P xs
  every-from P [] a h = tt
  every-from P (x ∷ xs) a h = (h 0 (omega arith), every-from P xs a (λ d k. h (suc d) (omega arith)))

  pub every-weaken : (P Q : A → Type 0) (xs : List A) → ((x : A) → P x → Q x) → Every P xs → Every Q xs
  every-weaken P Q [] h g = tt
  every-weaken P Q (x ∷ xs) h g = (h x g.0, every-weaken P Q xs h g.1)

  -- the tests of lists
  pub all-every : (f : A → Bool) (xs : List A) → all f xs ≡ true → Every (λ x. f x ≡ true) xs
  all-every f [] h = tt
  all-every f (x ∷ xs) h = go (f x) refl (all-every f xs)
    where
      go : (t : Bool) → f x ≡ t → (all f xs ≡ true → Every (λ y. f y ≡ true) xs) → Every (λ y. f y ≡ true) (x ∷ xs)
      go true e ih = (e, ih (rw e at h))
      go false e ih = absurd (true≢false (sym (rw e at h)))

  pub every-all : (f : A → Bool) (xs : List A) → Every (λ x. f x ≡ true) xs → all f xs ≡ true
  every-all f [] g = refl
  every-all f (x ∷ xs) g = rw (g.0, every-all f xs g.1)

-- b is none of them
abbrev pub Avoids : ℕ → List ℕ → Type 0
Avoids b xs = Every (λ x. x ≡ b → ⊥) xs

no_member : (b : ℕ) (xs : List ℕ) → member b xs ≡ false → Avoids b xs
no_member b [] h = tt
no_member b (x ∷ xs) h = go (eqb x b) refl (no_member b xs)
  where
    go : (t : Bool) → eqb x b ≡ t → (member b xs ≡ false → Avoids b xs) → Avoids b (x ∷ xs)
    go true e ih = absurd (true≢false (rw e at h))
    go false e ih = (eqb-false x b e, ih (rw e at h))

pub member-no : (b : ℕ) (xs : List ℕ) → Avoids b xs → member b xs ≡ false
member-no b [] g = refl
member-no b (x ∷ xs) g = rw (ne_eqb x b g.0) (member-no b xs g.1)

-- none twice
abbrev pub Differ : List ℕ → Type 0
Differ [] = Unit {0}
Differ (x ∷ xs) = Avoids x xs × Differ xs

pub distinct-differ : (xs : List ℕ) → distinct xs ≡ true → Differ xs
distinct-differ [] h = tt
distinct-differ (x ∷ xs) h = go (member x xs) refl (distinct-differ xs)
  where
    go : (t : Bool) → member x xs ≡ t → (distinct xs ≡ true → Differ xs) → Differ (x ∷ xs)
    go true e ih = absurd (true≢false (sym (rw e at h)))
    go false e ih = (no_member x xs e, ih (rw e at h))

pub differ-distinct : (xs : List ℕ) → Differ xs → distinct xs ≡ true
differ-distinct [] g = refl
differ-distinct (x ∷ xs) g = rw (member-no x xs g.0) (differ-distinct xs g.1)
