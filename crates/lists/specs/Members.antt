-- Members of a list: by their places, and by how often they occur. Assumes nothing.
use Rattle.std.specs.Prelude.{ℕ, zero, suc, ◌≤◌, ◌<◌, ◌≡◌, refl, Bool, true, false, ◌||◌, ◌⊎◌, List, [], ◌∷◌, ◌++◌, eqb, length, get_or}
use Rattle.std.proofs.Common.{sym, ap, ◌∙◌, true≢false, inl, inr, arith, eqb-true, eq-eqb}
use Rattle.std.proofs.Math.Bool.{or_assoc}
use Rattle.spec.specs.Bytes.{member, occurs}
use Rattle.lists.specs.Tests.{or_cases, or-second, both_ways}
use Rattle.lists.specs.All.{any-cons}

pub member-cons : (b x : ℕ) (xs : List ℕ) → member b (x ∷ xs) ≡ (eqb x b || member b xs)
member-cons b x xs = any-cons (λ y. eqb y b) x xs

pub member-append : (b : ℕ) (xs ys : List ℕ) → member b (xs ++ ys) ≡ (member b xs || member b ys)
member-append b [] ys = refl
member-append b (x ∷ xs) ys =
    member-cons b x (xs ++ ys) ∙ ap (λ t. eqb x b || t) (member-append b xs ys) ∙ sym (or_assoc (eqb x b) (member b xs) (member b ys))
    ∙ ap (λ t. t || member b ys) (sym (member-cons b x xs))

-- ---- by their places

pub member-at : (xs : List ℕ) (p : ℕ) → p < length xs → member (get_or xs p 0) xs ≡ true
member-at [] p h = absurd (omega arith)
member-at (x ∷ xs) zero h = member-cons x x xs ∙ ap (λ t. t || member x xs) (eq-eqb x x refl)
member-at (x ∷ xs) (suc p) h = member-cons (get_or xs p 0) x xs ∙ or-second (eqb x (get_or xs p 0)) (member (get_or xs p 0) xs) (member-at xs p (omega arith))

pub member-place : (xs : List ℕ) (b : ℕ) (P : Type 0) → member b xs ≡ true → ((p : ℕ) → p < length xs → get_or xs p 0 ≡ b → P) → P
member-place [] b P h k = absurd (true≢false (sym h))
member-place (x ∷ xs) b P h k = go (or_cases (eqb x b) (member b xs) (sym (member-cons b x xs) ∙ h)) (member-place xs b P)
  where
    go : (eqb x b ≡ true) ⊎ (member b xs ≡ true) → (member b xs ≡ true → ((p : ℕ) → p < length xs → get_or xs p 0 ≡ b → P) → P) → P
    go (inl e) ih = k 0 (omega arith) (eqb-true x b e)
    go (inr e) ih = ih e (λ p l q. k (suc p) (omega arith) q)

-- ---- by how often they occur

pub member-occurs : (b : ℕ) (xs : List ℕ) → member b xs ≡ true → 1 ≤ occurs b xs
member-occurs b [] h = absurd (true≢false (sym h))
member-occurs b (x ∷ xs) h = go (eqb x b) refl (member-occurs b xs)
  where
    go : (t : Bool) → eqb x b ≡ t → (member b xs ≡ true → 1 ≤ occurs b xs) → 1 ≤ occurs b (x ∷ xs)
    go true e ih = rw e (omega arith)
    go false e ih = let z = ih (sym (member-cons b x xs ∙ ap (λ t. t || member b xs) e) ∙ h) in omega arith

pub absent-occurs : (b : ℕ) (xs : List ℕ) → member b xs ≡ false → occurs b xs ≡ 0
absent-occurs b [] h = refl
absent-occurs b (x ∷ xs) h = go (eqb x b) refl (absent-occurs b xs)
  where
    go : (t : Bool) → eqb x b ≡ t → (member b xs ≡ false → occurs b xs ≡ 0) → occurs b (x ∷ xs) ≡ 0
    go true e ih = absurd (true≢false (sym (member-cons b x xs ∙ ap (λ t. t || member b xs) e) ∙ h))
    go false e ih = let z = ih (sym (member-cons b x xs ∙ ap (λ t. t || member b xs) e) ∙ h) in rw e (omega arith)

pub occurs-member : (b : ℕ) (xs : List ℕ) → 1 ≤ occurs b xs → member b xs ≡ true
occurs-member b xs h = go (member b xs) refl
  where
    go : (t : Bool) → member b xs ≡ t → t ≡ true
    go true e = refl
    go false e = absurd (omega (arith, absent-occurs b xs e))

pub member-same : (b : ℕ) (xs ys : List ℕ) → occurs b xs ≡ occurs b ys → member b xs ≡ member b ys
member-same b xs ys h =
    both_ways (member b xs) (member b ys) (λ m. occurs-member b ys (omega (arith, member-occurs b xs m))) (λ m. occurs-member b xs (omega (arith, member-occurs b ys m)))
