-- The bits of a number as a list.
use Prim.Native.Nat.{ℕ, zero, suc, ◌+◌, ◌-◌, ◌*◌, ◌/◌, ◌%◌, ◌^◌, ◌<◌, max, min}
use mathlib.Core.Path.{◌≡◌, refl, sym, ap, ap₂, ◌∙◌}
use mathlib.Core.Bool.{cond}
use mathlib.Core.List.{List, [], ◌∷◌, ◌++◌}
use mathlib.Core.Option.{some}
use native.Mathlib.Nat.{add-zero, zero-add, suc-add, pow-suc, div-div-eq-div-mul}
use native.Mathlib.Omega.{arith}
use native.Mathlib.Numerals.{one-add}
use lib.Dec.{eqb}
use lib.Pow.{shr-shr, pow-lt, pow_pos}
use lib.Bits.{bit_and, bit_or, block_half, block_odd, and_step, or_step, or_zero_r}
use lib.Count.{ones, ones_step, count_trailing_zeros}
use lib.ListN.{length, get_or, set}
use Rattle.spec.specs.Bytes.{place_from}
use Rattle.spec.specs.Bitmap.{bits_of_byte, byte_of, free_bits}
use Rattle.bitmap.specs.Words.{Below}

-- the k lowest bits, the lowest first
unfoldable pub low_bits : ℕ → ℕ → List ℕ
low_bits zero n = []
low_bits (suc k) n = n % 2 ∷ low_bits k (n / 2)

pub byte_low : (x : ℕ) → bits_of_byte x ≡ low_bits 8 x
unfolding low_bits
byte_low x = simp div-div-eq-div-mul

pub length-low : (k n : ℕ) → length (low_bits k n) ≡ k
unfolding low_bits
length-low zero n = refl
length-low (suc k) n = ap suc (length-low k (n / 2))

half_lt : (k n : ℕ) → n < 2 ^ suc k → n / 2 < 2 ^ k
half_lt k n h = omega (arith, pow-suc 2 k)

pub low-append : (k j high low : ℕ) → low < 2 ^ k → low_bits (k + j) (high * 2 ^ k + low) ≡ low_bits k low ++ low_bits j high
unfolding low_bits
low-append zero j high low h = ap₂ low_bits (zero-add j) (omega arith)
low-append (suc k) j high low h =
    rw (suc-add k j, block_odd high k low, block_half high k low) (ap (λ (l : List ℕ). low % 2 ∷ l) (low-append k j high (low / 2) (half_lt k low h)))

pub low_bit : (k n j d : ℕ) → j < k → get_or (low_bits k n) j d ≡ n / 2 ^ j % 2
unfolding low_bits
low_bit zero n j d h = absurd (omega arith)
low_bit (suc k) n zero d h = omega arith
low_bit (suc k) n (suc j) d h = low_bit k (n / 2) j d (omega arith) ∙ ap (λ (x : ℕ). x % 2) (shr-shr n 1 j ∙ ap (λ (x : ℕ). n / 2 ^ x) (one-add j))

-- the number of some bits is byte_of
pub byte-of-low : (k n : ℕ) → n < 2 ^ k → byte_of (low_bits k n) ≡ n
unfolding low_bits
byte-of-low zero n h = omega arith
byte-of-low (suc k) n h = omega (arith, byte-of-low k (n / 2) (half_lt k n h))

pub low-byte-of : (xs : List ℕ) → Below 2 xs → low_bits (length xs) (byte_of xs) ≡ xs
unfolding low_bits
low-byte-of [] h = refl
low-byte-of (x ∷ xs) h =
    let b = h 0 in
    let e : (x + 2 * byte_of xs) % 2 ≡ x = omega arith in
    let f : (x + 2 * byte_of xs) / 2 ≡ byte_of xs = omega arith in
    rw (e, f) (ap (λ (l : List ℕ). x ∷ l) (low-byte-of xs (λ i. h (suc i))))

-- ---- its zero bits, by its complement

module _ (k n : ℕ) (h : n < 2 ^ suc k) where
  odd : (2 ^ suc k - 1 - n) % 2 ≡ 1 - n % 2
  odd = omega (arith, pow-suc 2 k)

  half : (2 ^ suc k - 1 - n) / 2 ≡ 2 ^ k - 1 - n / 2
  half = omega (arith, pow-suc 2 k)

pub low_free : (k n : ℕ) → n < 2 ^ k → free_bits (low_bits k n) ≡ ones (2 ^ k - 1 - n)
unfolding low_bits ones
low_free zero n h = let e : 2 ^ 0 - 1 - n ≡ 0 = omega arith in rw e
low_free (suc k) n h =
    omega (arith, lowest (n % 2) (omega arith), low_free k (n / 2) (half_lt k n h), ones_step (2 ^ suc k - 1 - n), odd k n h, ap ones (half k n h))
  where
    lowest : (x : ℕ) → x < 2 → cond (eqb x 0) 1 0 ≡ 1 - x
    lowest zero l = refl
    lowest (suc zero) l = refl
    lowest (suc (suc x)) l = absurd (omega arith)

-- the lowest zero bit of a number
pub low-place : (k n i : ℕ) (rest : List ℕ) → n < 2 ^ k → (2 ^ k - 1 - n ≡ 0 → ⊥) → place_from i 0 (low_bits k n ++ rest) ≡ some (i + count_trailing_zeros k (2 ^ k - 1 - n))
unfolding low_bits count_trailing_zeros
low-place zero n i rest h ne = absurd (ne (omega arith))
low-place (suc k) n i rest h ne = go (n % 2) refl (low-place k (n / 2) (suc i) rest (half_lt k n h))
  where
    go : (d : ℕ) → n % 2 ≡ d → ((2 ^ k - 1 - n / 2 ≡ 0 → ⊥) → place_from (suc i) 0 (low_bits k (n / 2) ++ rest) ≡ some (suc i + count_trailing_zeros k (2 ^ k - 1 - n / 2)))
        → place_from i 0 (low_bits (suc k) n ++ rest) ≡ some (i + count_trailing_zeros (suc k) (2 ^ suc k - 1 - n))
    go zero q more = rw (q, odd k n h, q) (ap some (sym (add-zero i)))
    go (suc zero) q more = rw (q, odd k n h, q, half k n h) (more (λ z. ne (omega (arith, odd k n h, half k n h))) ∙ ap some (omega arith))
    go (suc (suc d)) q more = absurd (omega arith)

-- ---- one of its bits changed

low-cons : (n y z d : ℕ) → y ≡ z * 2 + d → d < 2 → low_bits (suc n) y ≡ d ∷ low_bits n z
unfolding low_bits
low-cons n y z d e h =
    let a : y % 2 ≡ d = omega arith in
    let b : y / 2 ≡ z = omega arith in
    rw (a, b)

low_or : (n x y : ℕ) → low_bits (suc n) (bit_or x y) ≡ max (x % 2) (y % 2) ∷ low_bits n (bit_or (x / 2) (y / 2))
low_or n x y = low-cons n (bit_or x y) (bit_or (x / 2) (y / 2)) (max (x % 2) (y % 2)) (or_step x y) (omega arith)

low_and : (n x y : ℕ) → low_bits (suc n) (bit_and x y) ≡ min (x % 2) (y % 2) ∷ low_bits n (bit_and (x / 2) (y / 2))
low_and n x y = low-cons n (bit_and x y) (bit_and (x / 2) (y / 2)) (min (x % 2) (y % 2)) (and_step x y) (omega arith)

pub or-low : (n k x : ℕ) → k < n → low_bits n (bit_or x (2 ^ k)) ≡ set (low_bits n x) k 1
unfolding low_bits
or-low zero k x h = absurd (omega arith)
or-low (suc n) zero x h =
    let d : max (x % 2) (1 % 2) ≡ 1 = omega arith in
    low_or n x 1 ∙ rw (d, or_zero_r (x / 2))
or-low (suc n) (suc k) x h =
    let p : 2 ^ suc k / 2 ≡ 2 ^ k = omega (arith, pow-suc 2 k) in
    let d : max (x % 2) (2 ^ suc k % 2) ≡ x % 2 = omega (arith, pow-suc 2 k) in
    low_or n x (2 ^ suc k) ∙ rw (d, p, or-low n k (x / 2) (omega arith))

pub mask_low : (n x : ℕ) → low_bits n (bit_and x (2 ^ n - 1)) ≡ low_bits n x
unfolding low_bits
mask_low zero x = refl
mask_low (suc n) x =
    let p : (2 ^ suc n - 1) / 2 ≡ 2 ^ n - 1 = omega (arith, pow-suc 2 n) in
    let d : min (x % 2) ((2 ^ suc n - 1) % 2) ≡ x % 2 = omega (arith, pow-suc 2 n, pow_pos n) in
    low_and n x (2 ^ suc n - 1) ∙ rw (d, p, mask_low n (x / 2))

pub and_low : (n k x : ℕ) → k < n → low_bits n (bit_and x (2 ^ n - 1 - 2 ^ k)) ≡ set (low_bits n x) k 0
unfolding low_bits
and_low zero k x h = absurd (omega arith)
and_low (suc n) zero x h =
    let p : (2 ^ suc n - 1 - 1) / 2 ≡ 2 ^ n - 1 = omega (arith, pow-suc 2 n) in
    let d : min (x % 2) ((2 ^ suc n - 1 - 1) % 2) ≡ 0 = omega (arith, pow-suc 2 n, pow_pos n) in
    low_and n x (2 ^ suc n - 1 - 1) ∙ rw (d, p, mask_low n (x / 2))
and_low (suc n) (suc k) x h =
    let l = pow-lt {i = k} {j = n} (omega arith) in
    let p : (2 ^ suc n - 1 - 2 ^ suc k) / 2 ≡ 2 ^ n - 1 - 2 ^ k = omega (arith, pow-suc 2 n, pow-suc 2 k) in
    let d : min (x % 2) ((2 ^ suc n - 1 - 2 ^ suc k) % 2) ≡ x % 2 = omega (arith, pow-suc 2 n, pow-suc 2 k) in
    low_and n x (2 ^ suc n - 1 - 2 ^ suc k) ∙ rw (d, p, and_low n k (x / 2) (omega arith))
