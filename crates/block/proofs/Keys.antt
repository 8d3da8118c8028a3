-- Laws of names as numbers. Assumes nothing.
use Prim.Native.Nat.{ℕ, suc, ◌+◌, ◌*◌, ◌<◌}
use mathlib.Core.Path.{◌≡◌, refl, sym, ap, ◌∙◌}
use mathlib.Core.Bool.{Bool, true, false, ◌&&◌}
use mathlib.Core.List.{List, [], ◌∷◌}
use native.Mathlib.Omega.{arith}
use borrow.Author.Tests.{eqb-true, eqb-false, eq-eqb, ne_eqb}
use lib.Dec.{eqb}
use lib.ListN.{length, get_or}
use Rattle.std.specs.Int.{w64, from_le_bytes}
use Rattle.spec.specs.Bytes.{same, all_zero}
use Rattle.block.specs.Keys.{key_of, Name}

-- eight bytes, one by one
pub eight : (xs : List ℕ) → length xs ≡ 8
    → xs ≡ get_or xs 0 0 ∷ get_or xs 1 0 ∷ get_or xs 2 0 ∷ get_or xs 3 0 ∷ get_or xs 4 0 ∷ get_or xs 5 0 ∷ get_or xs 6 0 ∷ get_or xs 7 0 ∷ []
eight [] h = absurd (omega arith)
eight (a ∷ []) h = absurd (omega arith)
eight (a ∷ b ∷ []) h = absurd (omega arith)
eight (a ∷ b ∷ c ∷ []) h = absurd (omega arith)
eight (a ∷ b ∷ c ∷ d ∷ []) h = absurd (omega arith)
eight (a ∷ b ∷ c ∷ d ∷ e ∷ []) h = absurd (omega arith)
eight (a ∷ b ∷ c ∷ d ∷ e ∷ f ∷ []) h = absurd (omega arith)
eight (a ∷ b ∷ c ∷ d ∷ e ∷ f ∷ g ∷ []) h = absurd (omega arith)
eight (a ∷ b ∷ c ∷ d ∷ e ∷ f ∷ g ∷ x ∷ []) h = refl
eight (a ∷ b ∷ c ∷ d ∷ e ∷ f ∷ g ∷ x ∷ y ∷ xs) h = absurd (omega arith)

-- the number of eight bytes, as std has it
pub key-is : (xs : List ℕ) (k : ℕ) → length xs ≡ 8 → k ≡ from_le_bytes w64 xs → k ≡ key_of xs
unfolding key_of
key-is xs k l e = sym (ap key_of (eight xs l) ∙ omega (arith, e))

-- bytes are equal where their numbers are
pub same_key : (xs ys : List ℕ) → length xs ≡ length ys → ((i : ℕ) → get_or xs i 0 < 256) → ((i : ℕ) → get_or ys i 0 < 256) → same xs ys ≡ eqb (key_of xs) (key_of ys)
unfolding key_of
same_key [] [] l f g = refl
same_key [] (y ∷ ys) l f g = absurd (omega arith)
same_key (x ∷ xs) [] l f g = absurd (omega arith)
same_key (x ∷ xs) (y ∷ ys) l f g = go (eqb x y) refl (eqb (key_of xs) (key_of ys)) refl (same_key xs ys (omega arith) (λ i. f (suc i)) (λ i. g (suc i)))
  where
    p : x < 256
    p = f 0

    q : y < 256
    q = g 0

    go : (a : Bool) → eqb x y ≡ a → (b : Bool) → eqb (key_of xs) (key_of ys) ≡ b → same xs ys ≡ eqb (key_of xs) (key_of ys)
        → eqb x y && same xs ys ≡ eqb (x + 256 * key_of xs) (y + 256 * key_of ys)
    go true h true k e =
        rw (h, e, k, eq-eqb (x + 256 * key_of xs) (y + 256 * key_of ys) (omega (arith, eqb-true x y h, eqb-true (key_of xs) (key_of ys) k)))
    go true h false k e =
        rw (h, e, k, ne_eqb (x + 256 * key_of xs) (y + 256 * key_of ys) (λ z. eqb-false (key_of xs) (key_of ys) k (omega (arith, eqb-true x y h))))
    go false h b k e =
        rw (h, ne_eqb (x + 256 * key_of xs) (y + 256 * key_of ys) (λ z. eqb-false x y h (omega (arith, z, p, q))))

-- the same bytes otherwise spelt
pub key-as : (xs ys : List ℕ) (r : ℕ) → xs ≡ ys → (r ≡ key_of xs) × Name xs → (r ≡ key_of ys) × Name ys
key-as xs ys r e h = rw e at h

-- a name of zeros
pub zero-key : (xs : List ℕ) (k : ℕ) → k ≡ key_of xs → eqb k 0 ≡ all_zero xs
unfolding key_of
zero-key xs k e = rw e (go xs)
  where
    go : (xs : List ℕ) → eqb (key_of xs) 0 ≡ all_zero xs
    go [] = refl
    go (x ∷ xs) = step x xs (eqb x 0) refl (eqb (key_of xs) 0) refl (go xs)
      where
        step : (x : ℕ) (xs : List ℕ) (a : Bool) → eqb x 0 ≡ a → (b : Bool) → eqb (key_of xs) 0 ≡ b → eqb (key_of xs) 0 ≡ all_zero xs
            → eqb (x + 256 * key_of xs) 0 ≡ eqb x 0 && all_zero xs
        step x xs true h true k e = rw (h, ← e, k, eq-eqb (x + 256 * key_of xs) 0 (omega (arith, eqb-true x 0 h, eqb-true (key_of xs) 0 k)))
        step x xs true h false k e = rw (h, ← e, k, ne_eqb (x + 256 * key_of xs) 0 (λ z. eqb-false (key_of xs) 0 k (omega arith)))
        step x xs false h b k e = rw (h, ne_eqb (x + 256 * key_of xs) 0 (λ z. eqb-false x 0 h (omega arith)))
