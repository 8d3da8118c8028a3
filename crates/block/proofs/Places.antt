-- What the code's answer to a place says. Assumes nothing.
use Prim.Native.Nat.compare
use borrow.Author.Tests.{lt-ltb}
use Rattle.std.proofs.Common.{ℕ, suc, ◌+◌, ◌≡◌, refl, sym, ap, Bool, true, false, List, [], ◌∷◌, cond, nat_lt, nat_eq, length, Some, None, arith}
use Rattle.std.proofs.Math.Option.{Option, none, some}
use Rattle.std.specs.List.{position, position_or_len}
use Rattle.spec.specs.Bytes.{place, place_from}
use Rattle.block.specs.Places.{found_at}

pub found-some : (o : Option ℕ) (i : ℕ) → found_at o ≡ Some i → o ≡ some i
found-some none i e = cc
found-some (some j) i e = let z : j ≡ i = cc in ap some z

pub found-none : (o : Option ℕ) → found_at o ≡ None → o ≡ none
found-none none e = refl
found-none (some j) e = cc

-- std's search for a number finds its place
pub position-is : (b : ℕ) (xs : List ℕ) → position (λ x. nat_eq x b) xs ≡ found_at (place b xs)
position-is b xs = let z : 0 + position_or_len (λ x. nat_eq x b) xs ≡ position_or_len (λ x. nat_eq x b) xs = omega arith in sym (rw z at (go 0 xs))
  where
    go : (i : ℕ) (ys : List ℕ) → found_at (place_from i b ys)
        ≡ cond (nat_lt (position_or_len (λ x. nat_eq x b) ys) (length ys)) (Some (i + position_or_len (λ x. nat_eq x b) ys)) None
    go i [] = refl
    go i (y ∷ ys) = step (nat_eq y b) refl (go (suc i) ys)
      where
        q : ℕ
        q = position_or_len (λ x. nat_eq x b) ys

        step : (t : Bool) → nat_eq y b ≡ t
            → found_at (place_from (suc i) b ys) ≡ cond (nat_lt q (length ys)) (Some (suc i + q)) None
            → found_at (place_from i b (y ∷ ys)) ≡ cond (nat_lt (position_or_len (λ x. nat_eq x b) (y ∷ ys)) (suc (length ys))) (Some (i + position_or_len (λ x. nat_eq x b) (y ∷ ys))) None
        step true h e = let z : i + 0 ≡ i = omega arith in rw (h, lt-ltb 0 (suc (length ys)) (omega arith), z)
        step false h e =
            let z : 1 + q ≡ suc q = omega arith in
            let l : i + suc q ≡ suc i + q = omega arith in
            let m : nat_lt (suc q) (suc (length ys)) ≡ nat_lt q (length ys) = rw compare.suc-suc in
            rw h (rw z (rw (m, l) e))
