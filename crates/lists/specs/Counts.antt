-- How often a number occurs in a list, and in a stretch of numbers. Assumes nothing.
use Rattle.std.specs.Prelude.{ℕ, zero, suc, ◌+◌, ◌≤◌, ◌<◌, ◌≡◌, refl, Bool, true, false, List, [], ◌∷◌, eqb, length, take, drop, get_or}
use Rattle.std.proofs.Common.{ap, not-suc-le-zero, arith, eqb-true, eq-eqb}
use Rattle.std.proofs.lemmas.Bool.{eqb-false}
use Rattle.spec.specs.Bytes.{occurs, up_from}

pub occurs-head : (x : ℕ) (xs : List ℕ) → 1 ≤ occurs x (x ∷ xs)
occurs-head x xs = rw (eq-eqb x x refl) (omega arith)

pub occurs-take : (b k : ℕ) (xs : List ℕ) → occurs b (take k xs) ≤ occurs b xs
occurs-take b zero xs = omega arith
occurs-take b (suc k) [] = omega arith
occurs-take b (suc k) (x ∷ xs) = let z = occurs-take b k xs in omega arith

pub occurs-drop : (b k : ℕ) (xs : List ℕ) → occurs b (drop k xs) ≤ occurs b xs
occurs-drop b zero xs = omega arith
occurs-drop b (suc k) [] = omega arith
occurs-drop b (suc k) (x ∷ xs) = let z = occurs-drop b k xs in omega arith

pub occurs-at : (xs : List ℕ) (k : ℕ) → k < length xs → 1 ≤ occurs (get_or xs k 0) xs
occurs-at [] k h = absurd (not-suc-le-zero h)
occurs-at (x ∷ xs) zero h = occurs-head x xs
occurs-at (x ∷ xs) (suc k) h = let z = occurs-at xs k (omega arith) in omega arith

-- ---- a stretch of numbers

pub length-up_from : (a n : ℕ) → length (up_from a n) ≡ n
length-up_from a zero = refl
length-up_from a (suc n) = ap suc (length-up_from (suc a) n)

pub occurs-up_from : (b a n : ℕ) → 1 ≤ occurs b (up_from a n) → (a ≤ b) × (b < a + n)
occurs-up_from b a zero o = absurd (not-suc-le-zero o)
occurs-up_from b a (suc n) o = go (eqb a b) refl (occurs-up_from b (suc a) n)
  where
    go : (t : Bool) → eqb a b ≡ t → (1 ≤ occurs b (up_from (suc a) n) → (suc a ≤ b) × (b < suc a + n)) → (a ≤ b) × (b < a + suc n)
    go true e ih = let q = eqb-true a b e in omega arith
    go false e ih = let r = ih (let z = rw e at o in omega arith) in omega arith

pub up_from-occurs : (b a n : ℕ) → a ≤ b → b < a + n → 1 ≤ occurs b (up_from a n)
up_from-occurs b a zero lo up = absurd (omega arith)
up_from-occurs b a (suc n) lo up = go (eqb a b) refl (up_from-occurs b (suc a) n)
  where
    go : (t : Bool) → eqb a b ≡ t → (suc a ≤ b → b < suc a + n → 1 ≤ occurs b (up_from (suc a) n)) → 1 ≤ occurs b (up_from a (suc n))
    go true e ih = rw e (omega arith)
    go false e ih = let ne = eqb-false a b e in rw e (let z = ih (omega arith) (omega arith) in omega arith)
