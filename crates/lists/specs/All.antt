-- All of a list, and some of it. Assumes nothing.
use Rattle.std.specs.Prelude.{ℕ, zero, suc, ◌+◌, ◌≤◌, ◌<◌, ◌≡◌, refl, Bool, true, false, not, ◌&&◌, ◌||◌, List, [], ◌∷◌, eqb}
use Rattle.std.proofs.Common.{sym, ap, ap₂, ◌∙◌, true≢false, not-suc-le-zero, arith, eqb-true}
use Rattle.std.proofs.Math.Bool.{not-not}
use Rattle.std.proofs.lemmas.Bool.{not-false}
use Rattle.spec.specs.Bytes.{all, any, occurs, up_from}
use Rattle.lists.specs.Tests.{and_both, both_true, not-both, false_of}
use Rattle.lists.specs.Counts.{occurs-head, occurs-up_from, up_from-occurs}

-- ---- each entry

module _ {A : Type 0} where
  abbrev pub All : (A → Type 0) → List A → Type 0
  All P [] = Unit {0}
  All P (x ∷ xs) = P x × All P xs

  pub all-All : (P : A → Type 0) (f : A → Bool) (xs : List A) → ((x : A) → f x ≡ true → P x) → all f xs ≡ true → All P xs
  all-All P f [] k h = tt
  all-All P f (x ∷ xs) k h = let t = both_true (f x) (all f xs) h in (k x t.0, all-All P f xs k t.1)

  pub All-all : (P : A → Type 0) (f : A → Bool) (xs : List A) → ((x : A) → P x → f x ≡ true) → All P xs → all f xs ≡ true
  All-all P f [] k h = refl
  All-all P f (x ∷ xs) k h = and_both (f x) (all f xs) (k x h.0) (All-all P f xs k h.1)

-- ---- each number that occurs

pub all-at : (f : ℕ → Bool) (xs : List ℕ) (b : ℕ) → all f xs ≡ true → 1 ≤ occurs b xs → f b ≡ true
all-at f [] b h o = absurd (not-suc-le-zero o)
all-at f (x ∷ xs) b h o = go (eqb x b) refl (all-at f xs b)
  where
    t : (f x ≡ true) × (all f xs ≡ true)
    t = both_true (f x) (all f xs) h

    go : (e : Bool) → eqb x b ≡ e → (all f xs ≡ true → 1 ≤ occurs b xs → f b ≡ true) → f b ≡ true
    go true e ih = ap f (sym (eqb-true x b e)) ∙ t.0
    go false e ih = ih t.1 (let z = rw e at o in omega arith)

pub all_of : (f : ℕ → Bool) (xs : List ℕ) → ((b : ℕ) → 1 ≤ occurs b xs → f b ≡ true) → all f xs ≡ true
all_of f [] h = refl
all_of f (x ∷ xs) h = and_both (f x) (all f xs) (h x (occurs-head x xs)) (all_of f xs (λ b o. h b (omega arith)))

-- ---- some number of a stretch

pub any-cons : (f : ℕ → Bool) (x : ℕ) (xs : List ℕ) → any f (x ∷ xs) ≡ (f x || any f xs)
any-cons f x xs = go (f x) (all (λ y. not (f y)) xs)
  where
    go : (t u : Bool) → not (not t && u) ≡ (t || not u)
    go true u = refl
    go false u = refl

pub any_some : (f : ℕ → Bool) (a n : ℕ) (P : Type 0) → any f (up_from a n) ≡ true → ((k : ℕ) → a ≤ k → k < a + n → f k ≡ true → P) → P
any_some f a zero P h k = absurd (true≢false (sym h))
any_some f a (suc n) P h k = go (f a) refl (any_some f (suc a) n P)
  where
    go : (t : Bool) → f a ≡ t → (any f (up_from (suc a) n) ≡ true → ((k : ℕ) → suc a ≤ k → k < suc a + n → f k ≡ true → P) → P) → P
    go true e ih = k a (omega arith) (omega arith) e
    go false e ih = ih (sym (any-cons f a (up_from (suc a) n) ∙ ap (λ t. t || any f (up_from (suc a) n)) e) ∙ h) (λ j l u q. k j (omega arith) (omega arith) q)

pub some-any : (f : ℕ → Bool) (a n k : ℕ) → a ≤ k → k < a + n → f k ≡ true → any f (up_from a n) ≡ true
some-any f a n k l u e =
    ap not (false_of (all (λ x. not (f x)) (up_from a n)) (λ h. not-both (all-at (λ x. not (f x)) (up_from a n) k h (up_from-occurs k a n l u)) (ap not e)))

pub none_any : (f : ℕ → Bool) (a n : ℕ) → ((k : ℕ) → a ≤ k → k < a + n → f k ≡ false) → any f (up_from a n) ≡ false
none_any f a n h = ap not (all_of (λ x. not (f x)) (up_from a n) (λ b o. let r = occurs-up_from b a n o in ap not (h b r.0 r.1)))

pub not-any : (f : ℕ → Bool) (a n : ℕ) → any (λ b. not (f b)) (up_from a n) ≡ false → (k : ℕ) → a ≤ k → k < a + n → f k ≡ true
not-any f a n h k lo up =
    sym (not-not (f k))
    ∙ all-at (λ b. not (not (f b))) (up_from a n) k (not-false (all (λ b. not (not (f b))) (up_from a n)) h) (up_from-occurs k a n lo up)

pub any-up : (f : ℕ → Bool) (a n : ℕ) → any f (up_from (suc a) n) ≡ any (λ k. f (suc k)) (up_from a n)
any-up f a zero = refl
any-up f a (suc n) =
    any-cons f (suc a) (up_from (suc (suc a)) n) ∙ ap (λ t. f (suc a) || t) (any-up f (suc a) n) ∙ sym (any-cons (λ k. f (suc k)) a (up_from (suc a) n))

pub any_same : (f g : ℕ → Bool) (a n : ℕ) → ((k : ℕ) → f k ≡ g k) → any f (up_from a n) ≡ any g (up_from a n)
any_same f g a zero h = refl
any_same f g a (suc n) h =
    any-cons f a (up_from (suc a) n) ∙ ap₂ ◌||◌ (h a) (any_same f g (suc a) n h) ∙ sym (any-cons g a (up_from (suc a) n))
