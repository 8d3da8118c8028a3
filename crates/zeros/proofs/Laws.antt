-- Bytes tested one at a time. Assumes nothing.
use Prim.Native.Nat.{ℕ, zero, suc}
use mathlib.Core.Path.{◌≡◌, refl}
use mathlib.Core.Bool.{Bool, true, false, ◌&&◌}
use mathlib.Core.List.{List, [], ◌∷◌}
use borrow.Author.Tests.{eqb-true}
use lib.Dec.{eqb}
use lib.ListN.{take, drop, get_or}
use Rattle.std.specs.Prelude.{fold}
use Rattle.spec.specs.Bytes.{all, all_zero}
use Rattle.lists.specs.Tests.{both_true, and_both}

-- byte by byte
zero-from : (t : Bool) (xs : List ℕ) → fold (λ z x. z && eqb x 0) t xs ≡ t && all_zero xs
zero-from true [] = refl
zero-from false [] = refl
zero-from true (x ∷ xs) = zero-from (eqb x 0) xs
zero-from false (x ∷ xs) = zero-from false xs

pub zero-fold : (xs : List ℕ) → fold (λ z x. z && eqb x 0) true xs ≡ all_zero xs
zero-fold xs = zero-from true xs

-- ---- bytes that are all zero

pub all_take : (f : ℕ → Bool) (n : ℕ) (xs : List ℕ) → all f xs ≡ true → all f (take n xs) ≡ true
all_take f zero xs h = refl
all_take f (suc n) [] h = refl
all_take f (suc n) (x ∷ xs) h = let p = both_true (f x) (all f xs) h in and_both (f x) (all f (take n xs)) p.0 (all_take f n xs p.1)

pub all_drop : (f : ℕ → Bool) (n : ℕ) (xs : List ℕ) → all f xs ≡ true → all f (drop n xs) ≡ true
all_drop f zero xs h = h
all_drop f (suc n) [] h = refl
all_drop f (suc n) (x ∷ xs) h = all_drop f n xs (both_true (f x) (all f xs) h).1

pub zero-at : (xs : List ℕ) (k : ℕ) → all_zero xs ≡ true → get_or xs k 0 ≡ 0
zero-at [] k h = refl
zero-at (x ∷ xs) zero h = eqb-true x 0 (both_true (eqb x 0) (all_zero xs) h).0
zero-at (x ∷ xs) (suc k) h = zero-at xs k (both_true (eqb x 0) (all_zero xs) h).1
