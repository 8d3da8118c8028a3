-- The list functions of std, as the clauses of the library have them, and those of the store's definitions. Assumes nothing.
use Rattle.std.proofs.Common.{ℕ, zero, suc, ◌+◌, arith, ◌≡◌, refl, sym, ap, ◌∙◌, Bool, true, false, List, [], ◌∷◌, ◌++◌, take, length, map, append_assoc, nat_eq}
use Rattle.std.specs.List.{list_any, prefix_len, take_while}
use Rattle.std.proofs.lemmas.List.Folds.{length-prefix_len}
use Rattle.spec.specs.Bytes.{member, leading, up_from, concat}

-- `contains`
pub list-member : (b : ℕ) (xs : List ℕ) → list_any (λ x. nat_eq x b) xs ≡ member b xs
list-member b [] = refl
list-member b (x ∷ xs) = go (nat_eq x b) refl (list-member b xs)
  where
    go : (t : Bool) → nat_eq x b ≡ t → list_any (λ y. nat_eq y b) xs ≡ member b xs → list_any (λ y. nat_eq y b) (x ∷ xs) ≡ member b (x ∷ xs)
    go true e h = rw e
    go false e h = rw (e, h)

-- `take_while`, and how many it takes
pub taken-leading : {A : Type 0} (f : A → Bool) (xs : List A) → take (length (take_while f xs)) xs ≡ leading f xs
taken-leading {A = A} f xs = rw length-prefix_len (go xs)
  where
    go : (ys : List A) → take (prefix_len f ys) ys ≡ leading f ys
    go [] = refl
    go (y ∷ ys) = step (f y) refl (go ys)
      where
        n : ℕ
        n = prefix_len f ys

        step : (t : Bool) → f y ≡ t → take n ys ≡ leading f ys → take (prefix_len f (y ∷ ys)) (y ∷ ys) ≡ leading f (y ∷ ys)
        step true e h = let z : 1 + n ≡ suc n = omega arith in rw (e, z, h)
        step false e h = rw e

-- numbers in a row, cut in two
pub up_from-append : (a n m : ℕ) → up_from a (n + m) ≡ up_from a n ++ up_from (a + n) m
up_from-append a zero m = let y : a + 0 ≡ a = omega arith in let z : 0 + m ≡ m = omega arith in rw (y, z)
up_from-append a (suc n) m =
    let y : a + suc n ≡ suc a + n = omega arith in
    let z : suc n + m ≡ suc (n + m) = omega arith in
    rw (y, z) (ap (λ (l : List ℕ). a ∷ l) (up_from-append (suc a) n m))

-- what each gives, one behind another
pub concat-map-append : (f : ℕ → List ℕ) (xs ys : List ℕ) → concat (map f (xs ++ ys)) ≡ concat (map f xs) ++ concat (map f ys)
concat-map-append f [] ys = refl
concat-map-append f (x ∷ xs) ys = ap (λ (l : List ℕ). f x ++ l) (concat-map-append f xs ys) ∙ sym (append_assoc (f x) (concat (map f xs)) (concat (map f ys)))
