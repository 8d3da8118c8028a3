-- Lists joined, one for each number from a on: how often a number occurs in them. Assumes nothing.
use Rattle.std.specs.Prelude.{ℕ, zero, suc, ◌+◌, ◌≤◌, ◌<◌, ◌≡◌, refl, ◌⊎◌, List, ◌++◌, map}
use Rattle.std.proofs.Common.{sym, ap, ap₂, ◌∙◌, inl, inr, not-suc-le-zero, eq-or-lt_of_le, arith}
use Rattle.spec.specs.Bytes.{occurs, concat, up_from}
use Rattle.bitmap.proofs.Laws.{occurs-append}

abbrev pub joined_up : (ℕ → List ℕ) → ℕ → ℕ → List ℕ
joined_up f a n = concat (map f (up_from a n))

occurs-more : (b : ℕ) (f : ℕ → List ℕ) (a n : ℕ) → occurs b (joined_up f a (suc n)) ≡ occurs b (f a) + occurs b (joined_up f (suc a) n)
occurs-more b f a n = occurs-append b (f a) (joined_up f (suc a) n)

-- one list, and two of them
pub occurs-one : (b : ℕ) (f : ℕ → List ℕ) (a n i : ℕ) → a ≤ i → i < a + n → occurs b (f i) ≤ occurs b (joined_up f a n)
occurs-one b f a zero i lo up = absurd (omega arith)
occurs-one b f a (suc n) i lo up = go (eq-or-lt_of_le lo) (occurs-one b f (suc a) n i)
  where
    go : (a ≡ i) ⊎ (a < i) → (suc a ≤ i → i < suc a + n → occurs b (f i) ≤ occurs b (joined_up f (suc a) n)) → occurs b (f i) ≤ occurs b (joined_up f a (suc n))
    go (inl q) ih = let e = ap (λ k. occurs b (f k)) q in omega (arith, occurs-more b f a n)
    go (inr l) ih = let z = ih l (omega arith) in omega (arith, occurs-more b f a n)

pub occurs-two : (b : ℕ) (f : ℕ → List ℕ) (a n i j : ℕ) → a ≤ i → i < a + n → a ≤ j → j < a + n → (i ≡ j → ⊥)
    → occurs b (f i) + occurs b (f j) ≤ occurs b (joined_up f a n)
occurs-two b f a zero i j il iu jl ju ne = absurd (omega arith)
occurs-two b f a (suc n) i j il iu jl ju ne = go (eq-or-lt_of_le il) (eq-or-lt_of_le jl) (occurs-two b f (suc a) n i j)
  where
    go : (a ≡ i) ⊎ (a < i) → (a ≡ j) ⊎ (a < j)
        → (suc a ≤ i → i < suc a + n → suc a ≤ j → j < suc a + n → (i ≡ j → ⊥) → occurs b (f i) + occurs b (f j) ≤ occurs b (joined_up f (suc a) n))
        → occurs b (f i) + occurs b (f j) ≤ occurs b (joined_up f a (suc n))
    go (inl p) (inl q) ih = absurd (ne (sym p ∙ q))
    go (inl p) (inr q) ih = let e = ap (λ k. occurs b (f k)) p in omega (arith, occurs-more b f a n, occurs-one b f (suc a) n j q (omega arith))
    go (inr p) (inl q) ih = let e = ap (λ k. occurs b (f k)) q in omega (arith, occurs-more b f a n, occurs-one b f (suc a) n i p (omega arith))
    go (inr p) (inr q) ih = let z = ih p (omega arith) q (omega arith) ne in omega (arith, occurs-more b f a n)

pub joined_same : (f g : ℕ → List ℕ) (a n : ℕ) → ((j : ℕ) → a ≤ j → j < a + n → g j ≡ f j) → joined_up g a n ≡ joined_up f a n
joined_same f g a zero h = refl
joined_same f g a (suc n) h =
    ap₂ (λ (x y : List ℕ). x ++ y) (h a (omega arith) (omega arith)) (joined_same f g (suc a) n (λ j lo up. h j (omega arith) (omega arith)))

-- one list of them replaced
pub occurs-replace : (b : ℕ) (f g : ℕ → List ℕ) (a n i : ℕ) → a ≤ i → i < a + n → ((j : ℕ) → a ≤ j → j < a + n → (j ≡ i → ⊥) → g j ≡ f j)
    → occurs b (joined_up g a n) + occurs b (f i) ≡ occurs b (joined_up f a n) + occurs b (g i)
occurs-replace b f g a zero i lo up h = absurd (omega arith)
occurs-replace b f g a (suc n) i lo up h = go (eq-or-lt_of_le lo) (occurs-replace b f g (suc a) n i)
  where
    go : (a ≡ i) ⊎ (a < i)
        → (suc a ≤ i → i < suc a + n → ((j : ℕ) → suc a ≤ j → j < suc a + n → (j ≡ i → ⊥) → g j ≡ f j)
        → occurs b (joined_up g (suc a) n) + occurs b (f i) ≡ occurs b (joined_up f (suc a) n) + occurs b (g i))
        → occurs b (joined_up g a (suc n)) + occurs b (f i) ≡ occurs b (joined_up f a (suc n)) + occurs b (g i)
    go (inl q) ih =
        let e = ap (λ k. occurs b (f k)) q in
        let d = ap (λ k. occurs b (g k)) q in
        let r = ap (occurs b) (joined_same f g (suc a) n (λ j jl ju. h j (omega arith) (omega arith) (λ p. omega arith))) in
        omega (arith, occurs-more b f a n, occurs-more b g a n)
    go (inr l) ih =
        let e = ap (occurs b) (h a (omega arith) (omega arith) (λ p. omega arith)) in
        let z = ih l (omega arith) (λ j jl ju ne. h j (omega arith) (omega arith) ne) in
        omega (arith, occurs-more b f a n, occurs-more b g a n)

-- what occurs, occurs in one of them
pub joined-some : (b : ℕ) (f : ℕ → List ℕ) (a n : ℕ) (P : Type 0) → 1 ≤ occurs b (joined_up f a n) → ((i : ℕ) → a ≤ i → i < a + n → 1 ≤ occurs b (f i) → P) → P
joined-some b f a zero P o k = absurd (not-suc-le-zero o)
joined-some b f a (suc n) P o k = go (occurs b (f a)) refl (joined-some b f (suc a) n P)
  where
    go : (m : ℕ) → occurs b (f a) ≡ m
        → (1 ≤ occurs b (joined_up f (suc a) n) → ((i : ℕ) → suc a ≤ i → i < suc a + n → 1 ≤ occurs b (f i) → P) → P) → P
    go zero q ih = ih (omega (arith, occurs-more b f a n)) (λ i lo up h. k i (omega arith) (omega arith) h)
    go (suc m) q ih = k a (omega arith) (omega arith) (omega arith)
