-- The lowest number of a stretch that passes. Assumes nothing.
use Rattle.std.specs.Prelude.{ℕ, zero, suc, ◌+◌, ◌≤◌, ◌<◌, ◌≡◌, refl, Bool, true, false, cond, not, ◌&&◌, ◌⊎◌}
use Rattle.std.proofs.Common.{sym, ap, ◌∙◌, inl, inr, eq-or-lt_of_le, arith}
use Rattle.std.proofs.lemmas.Bool.{cases_lt as lt-or-le}
use Rattle.std.proofs.Math.Option.{Option, none, some, some-ne-none, some-injective}
use Rattle.spec.specs.Bytes.{all, up_from, lowest, is_some}
use Rattle.lists.specs.Tests.{not-both}

pub record Lowest (a n : ℕ) (f : ℕ → Bool) (k : ℕ) : Type 0 where
  pub passes : f k ≡ true
  pub from : a ≤ k
  pub below : k < a + n
  pub first : (j : ℕ) → a ≤ j → j < k → f j ≡ false

pub lowest-some : (a n : ℕ) (f : ℕ → Bool) (k : ℕ) → lowest a n f ≡ some k → Lowest a n f k
lowest-some a zero f k h = absurd (some-ne-none k (sym h))
lowest-some a (suc n) f k h = go (f a) refl (lowest-some (suc a) n f k)
  where
    go : (t : Bool) → f a ≡ t → (lowest (suc a) n f ≡ some k → Lowest (suc a) n f k) → Lowest a (suc n) f k
    go true e ih = let q = some-injective a k (rw e at h) in record { passes = ap f (sym q) ∙ e; from = omega arith; below = omega arith; first = λ j lo up. absurd (omega arith) }
    go false e ih = let r = ih (rw e at h) in record { passes = r.passes; from = omega arith; below = omega arith; first = λ j lo up. next r j up (eq-or-lt_of_le lo) }
      where
        next : Lowest (suc a) n f k → (j : ℕ) → j < k → (a ≡ j) ⊎ (a < j) → f j ≡ false
        next r j up (inl q) = ap f (sym q) ∙ e
        next r j up (inr l) = r.first j l up

pub lowest-none : (a n : ℕ) (f : ℕ → Bool) → lowest a n f ≡ none → (k : ℕ) → a ≤ k → k < a + n → f k ≡ false
lowest-none a zero f h k lo up = absurd (omega arith)
lowest-none a (suc n) f h k lo up = go (f a) refl (lowest-none (suc a) n f) (eq-or-lt_of_le lo)
  where
    go : (t : Bool) → f a ≡ t → (lowest (suc a) n f ≡ none → (k : ℕ) → suc a ≤ k → k < suc a + n → f k ≡ false) → (a ≡ k) ⊎ (a < k) → f k ≡ false
    go true e ih d = absurd (some-ne-none a (rw e at h))
    go false e ih (inl q) = ap f (sym q) ∙ e
    go false e ih (inr l) = ih (rw e at h) k l (omega arith)

-- the lowest one that passes, the only one, and none
pub lowest-is : (a n : ℕ) (f : ℕ → Bool) (k : ℕ) → Lowest a n f k → lowest a n f ≡ some k
lowest-is a n f k l = go (lowest a n f) refl
  where
    go : (o : Option ℕ) → lowest a n f ≡ o → o ≡ some k
    go none e = absurd (not-both l.passes (lowest-none a n f e k l.from l.below))
    go (some j) e = let r = lowest-some a n f j e in ap some (same j r (lt-or-le j k) (lt-or-le k j))
      where
        same : (j : ℕ) → Lowest a n f j → (j < k) ⊎ (k ≤ j) → (k < j) ⊎ (j ≤ k) → j ≡ k
        same j r (inl up) d = absurd (not-both r.passes (l.first j r.from up))
        same j r (inr lo) (inl up) = absurd (not-both l.passes (r.first k l.from up))
        same j r (inr lo) (inr hi) = omega arith

pub lowest-only : (a n : ℕ) (f : ℕ → Bool) (k : ℕ) → a ≤ k → k < a + n → f k ≡ true → ((j : ℕ) → a ≤ j → j < a + n → f j ≡ true → j ≡ k) → lowest a n f ≡ some k
lowest-only a n f k lo up p only = go (lowest a n f) refl
  where
    go : (o : Option ℕ) → lowest a n f ≡ o → o ≡ some k
    go none e = absurd (not-both p (lowest-none a n f e k lo up))
    go (some j) e = let r = lowest-some a n f j e in ap some (only j r.from r.below r.passes)

pub lowest-no : (a n : ℕ) (f : ℕ → Bool) → ((j : ℕ) → a ≤ j → j < a + n → f j ≡ false) → lowest a n f ≡ none
lowest-no a n f h = go (lowest a n f) refl
  where
    go : (o : Option ℕ) → lowest a n f ≡ o → o ≡ none
    go none e = refl
    go (some j) e = let r = lowest-some a n f j e in absurd (not-both r.passes (h j r.from r.below))

-- two searches that agree
pub lowest-agree : (a n : ℕ) (f g : ℕ → Bool) → ((j : ℕ) → a ≤ j → j < a + n → f j ≡ g j) → lowest a n f ≡ lowest a n g
lowest-agree a zero f g h = refl
lowest-agree a (suc n) f g h =
    rw (h a (omega arith) (omega arith), lowest-agree (suc a) n f g (λ j lo up. h j (omega arith) (omega arith)))

-- a search that finds none
pub none-lowest : (f : ℕ → Bool) (a n : ℕ) → all (λ i. not (f i)) (up_from a n) ≡ not (is_some (lowest a n f))
none-lowest f a zero = refl
none-lowest f a (suc n) = go (f a) (none-lowest f (suc a) n)
  where
    go : (t : Bool) → all (λ i. not (f i)) (up_from (suc a) n) ≡ not (is_some (lowest (suc a) n f))
        → (not t && all (λ i. not (f i)) (up_from (suc a) n)) ≡ not (is_some (cond t (some a) (lowest (suc a) n f)))
    go true ih = refl
    go false ih = ih
