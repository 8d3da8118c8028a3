-- Whether a list ascends, by its neighbours two by two, as `is_sorted_by` tells it. Assumes nothing.
use Prim.Native.Nat.{ℕ, zero, suc, ◌+◌, ◌<◌}
use mathlib.Core.Path.{◌≡◌, refl, sym, ap, ◌∙◌}
use mathlib.Core.Bool.{Bool, true, false, ◌&&◌, and-false}
use mathlib.Core.List.{List, [], ◌∷◌}
use native.Mathlib.Omega.{arith}
use lib.Dec.{ltb}
use lib.ListN.{length, get_or}
use Rattle.std.specs.List.{AllAdjacentBelow, IsAllAdjacentAnswer}
use Rattle.header.specs.Header.{ascends}

each-lower : (xs : List ℕ) → AllAdjacentBelow (λ x y. true ≡ ltb x y) xs (length xs) → ascends xs ≡ true
unfolding ascends
each-lower [] h = refl
each-lower (x ∷ []) h = refl
each-lower (x ∷ y ∷ ys) h =
    rw (sym (h 0 0 (omega arith)))
    (each-lower (y ∷ ys)
    (λ k d l. let j : suc k + 1 ≡ suc (k + 1) = omega arith in h (suc k) d (omega arith) ∙ ap (λ i. ltb (get_or (x ∷ y ∷ ys) (suc k) d) (get_or (x ∷ y ∷ ys) i d)) j))

one-not : (xs : List ℕ) (k : ℕ) → k + 1 < length xs → false ≡ ltb (get_or xs k 0) (get_or xs (k + 1) 0) → ascends xs ≡ false
unfolding ascends
one-not [] k l e = absurd (omega arith)
one-not (x ∷ []) k l e = absurd (omega arith)
one-not (x ∷ y ∷ ys) zero l e = rw (sym e)
one-not (x ∷ y ∷ ys) (suc k) l e =
    let j : suc k + 1 ≡ suc (k + 1) = omega arith in
    ap (λ b. ltb x y && b) (one-not (y ∷ ys) k (omega arith) (e ∙ ap (λ i. ltb (get_or (x ∷ y ∷ ys) (suc k) 0) (get_or (x ∷ y ∷ ys) i 0)) j)) ∙ and-false (ltb x y)

pub sorted-up : (xs : List ℕ) (r : Bool) → IsAllAdjacentAnswer (λ x y b. b ≡ ltb x y) xs r → r ≡ ascends xs
sorted-up xs true h = sym (each-lower xs h)
sorted-up xs false h = sym (one-not xs h.0 h.1 (h.2 0))
