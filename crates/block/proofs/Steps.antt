-- What the functions of this crate leave to prove. Assumes nothing.
use Prim.Native.Nat.{ℕ, zero, suc, ◌+◌, ◌*◌, ◌-◌, ◌<◌, ◌≤◌, min}
use mathlib.Core.Path.{◌≡◌, refl, sym, ap, ◌∙◌}
use mathlib.Core.List.{List, [], ◌∷◌, ◌++◌}
use mathlib.Core.Logic.{⊎_elim}
use native.Mathlib.Numerals.{add-one}
use native.Mathlib.Omega.{arith}
use borrow.Author.Tests.{lt-ltb, le-ltb}
use Rattle.std.proofs.lemmas.List.{drop-replicate}
use lib.ListN.{length, take, drop, get_or, set, replicate, length-drop, drop_of_length-le}
use lib.Seq.{take-suc, take-suc-set, take-nil, take_all, drop-drop, get_or-drop}
use Rattle.std.specs.Int.{w32, from_le_bytes}
use Rattle.spec.specs.Bytes.{exactly, number4}
use Rattle.spec.specs.Disk.{slice_of, area_of}
use Rattle.spec.specs.declared.Area.TheVariants.{Log, Inodes, Data}
use Rattle.block.specs.Stores.{stored_in}
use Rattle.block.proofs.Laws.{lt-or-le, length-patch, blocks-patch, exactly-first}

-- ---- areas

pub area-log : (b : ℕ) → 1 ≤ b → b < 33 → Log ≡ area_of b
unfolding area_of
area-log b g h = simp (le-ltb b 1 g, lt-ltb b 33 h)

pub area-inodes : (b : ℕ) → 34 ≤ b → b < 42 → Inodes ≡ area_of b
unfolding area_of
area-inodes b g h = simp (le-ltb b 1 (omega arith), le-ltb b 33 (omega arith), le-ltb b 34 (omega arith), lt-ltb b 42 (omega arith))

pub area-data : (b : ℕ) → 42 ≤ b → Data ≡ area_of b
unfolding area_of
area-data b g = simp (le-ltb b 1 (omega arith), le-ltb b 33 (omega arith), le-ltb b 34 (omega arith), le-ltb b 42 (omega arith))

-- ---- stores

-- the part that is block b, lent and given back with x in it
pub slice-stored : (b : ℕ) (x y w : List ℕ) → y ≡ x → length x ≡ 512 → 512 * b + 512 ≤ length w
    → slice_of (take (512 * b) w ++ (y ++ drop (512 * b + 512 - 512 * b) (drop (512 * b) w))) ≡ stored_in (slice_of w) b x
slice-stored b x y w e full fits =
    let f : 512 * b + length x ≤ length w = omega arith in
    let k : 512 * b + 512 - 512 * b ≡ length x = omega arith in
    rw (e, k, drop-drop (length x) (512 * b) w, length-patch (512 * b) x w f, blocks-patch b x w full fits)

-- ---- blocks read

-- as many as there are
take_within : (n k : ℕ) (xs : List ℕ) → k ≡ min n (length xs) → take k xs ≡ take n xs
take_within n k xs h =
    ⊎_elim (λ (l : n < length xs). let e : k ≡ n = omega arith in rw e)
    (λ (g : length xs ≤ n). take_all k xs (omega arith) ∙ sym (take_all n xs g))
    (lt-or-le n (length xs))

-- some bytes over m zeros, where fewer than m follow
pub filled : (m : ℕ) (xs : List ℕ) → length xs ≤ m → xs ++ drop (length xs) (replicate m 0) ≡ exactly m xs
filled m xs h = rw (drop-replicate {X = ℕ} (length xs) m 0) (over m xs h)
  where
    over : (m : ℕ) (zs : List ℕ) → length zs ≤ m → zs ++ replicate (m - length zs) 0 ≡ exactly m zs
    over zero [] l = refl
    over zero (z ∷ zs) l = absurd (omega arith)
    over (suc m) [] l =
        let n : suc m - 0 ≡ suc (m - 0) = omega arith in
        rw n (ap (λ ys. 0 ∷ ys) (over m [] (omega arith)))
    over (suc m) (z ∷ zs) l =
        let n : suc m - suc (length zs) ≡ m - length zs = omega arith in
        rw n (ap (λ ys. z ∷ ys) (over m zs (omega arith)))

-- from a place on, as far as some bytes reach
module _ (xs : List ℕ) (n from : ℕ) (e : from ≡ min (length xs) n) where
  pub rest-is : take (length xs - from) (drop from xs) ≡ drop n xs
  rest-is = take_all _ (drop from xs) (rw length-drop (omega arith)) ∙ ⊎_elim past inside (lt-or-le (length xs) n)
    where
      past : length xs < n → drop from xs ≡ drop n xs
      past h = drop_of_length-le xs {i = from} (omega arith) ∙ sym (drop_of_length-le xs {i = n} (omega arith))

      inside : n ≤ length xs → drop from xs ≡ drop n xs
      inside h = let z : from ≡ n = omega arith in rw z

  -- m bytes from there on, all there or not
  pub whole-at : (m : ℕ) (ys : List ℕ) → m ≤ length (take (length xs - from) (drop from xs))
      → ys ≡ take m (take (length xs - from) (drop from xs)) → ys ≡ exactly m (drop n xs)
  whole-at m ys l q = exactly-first m _ ys l q ∙ ap (exactly m) rest-is

  pub cut-at : (m : ℕ) (ys : List ℕ) → length (take (length xs - from) (drop from xs)) < m → ys ≡ take (length xs - from) (drop from xs)
      → ys ++ drop (length (take (length xs - from) (drop from xs))) (replicate m 0) ≡ exactly m (drop n xs)
  cut-at m ys l q = rw q (filled m _ (omega arith)) ∙ ap (exactly m) rest-is

-- four bytes from a place on, as std has their number
pub four-at : (at : ℕ) (xs : List ℕ) (k : ℕ) → k ≡ from_le_bytes w32 (exactly 4 (drop at xs)) → k ≡ number4 at xs
four-at at xs k e =
    let f = e ∙ ap (from_le_bytes w32) (four (drop at xs)) in
    omega (arith, f, byte 0 at (omega arith), byte 1 (at + 1) (omega arith), byte 2 (at + 2) (omega arith), byte 3 (at + 2 + 1) (omega arith))
  where
    four : (ys : List ℕ) → exactly 4 ys ≡ get_or ys 0 0 ∷ get_or ys 1 0 ∷ get_or ys 2 0 ∷ get_or ys 3 0 ∷ []
    four [] = refl
    four (a ∷ []) = refl
    four (a ∷ b ∷ []) = refl
    four (a ∷ b ∷ c ∷ []) = refl
    four (a ∷ b ∷ c ∷ d ∷ ys) = refl

    byte : (i j : ℕ) → at + i ≡ j → get_or (drop at xs) i 0 ≡ get_or xs j 0
    byte i j q = get_or-drop at xs i 0 ∙ ap (λ n. get_or xs n 0) q

-- a part of some bytes, as far as they reach
pub part_in : (xs : List ℕ) (n m from end : ℕ) → from ≡ min (length xs) n → end ≡ min (length xs) (n + m) → take (end - from) (drop from xs) ≡ take m (drop n xs)
part_in xs n m from end e f = ⊎_elim past inside (lt-or-le (length xs) n)
  where
    past : length xs < n → take (end - from) (drop from xs) ≡ take m (drop n xs)
    past h = rw (drop_of_length-le xs {i = n} (omega arith), drop_of_length-le xs {i = from} (omega arith), take-nil {A = ℕ} m, take-nil {A = ℕ} (end - from))

    inside : n ≤ length xs → take (end - from) (drop from xs) ≡ take m (drop n xs)
    inside h =
        let z : from ≡ n = omega arith in
        rw z (take_within m (end - n) (drop n xs) (rw length-drop (omega arith)))

-- ---- for loops that store byte by byte

-- the first k bytes of x stored
pub placed-more : (k x : ℕ) (to from : List ℕ) → take k to ≡ take k from → k < length to → k < length from → x ≡ get_or from k 0
    → take (k + 1) (set to k x) ≡ take (k + 1) from
placed-more k x to from e h m q =
    rw (add-one k) (take-suc-set to k x h ∙ ap (λ (l : List ℕ). l ++ (x ∷ [])) e ∙ ap (λ (y : ℕ). take k from ++ (y ∷ [])) q ∙ sym (take-suc from k 0 m))

pub placed-all : (k n : ℕ) (to from : List ℕ) → take k to ≡ take k from → length to ≡ n → length from ≡ n → n ≤ k → to ≡ from
placed-all k n to from e a b h = sym (take_all k to (omega arith)) ∙ e ∙ take_all k from (omega arith)
