-- What the code's loops and stores do to the table's bits.
use Prim.Native.Nat.{ℕ, zero, suc, ◌+◌, ◌-◌, ◌*◌, ◌/◌, ◌%◌, ◌^◌, ◌≤◌, ◌<◌}
use mathlib.Core.Path.{◌≡◌, refl, sym, ap, ap₂, ◌∙◌}
use mathlib.Core.List.{List, [], ◌∷◌, ◌++◌, append_assoc}
use mathlib.Core.Option.{some}
use native.Mathlib.Nat.{add-zero, zero-add, add_assoc}
use native.Mathlib.Omega.{arith}
use native.Mathlib.Numerals.{add-one}
use lib.Pow.{shl_exact, pow-add}
use lib.Bits.{bit_and, bit_or}
use lib.Count.{ones, count_trailing_zeros, trailing_le}
use lib.ListN.{length, take, drop, get_or, set, length-drop, take-append-drop}
use lib.Seq.{length-take-le, set-append_left, take-add, take_at, take_all, get_or-take, get_or-drop, drop-drop, drop-nil}
use Rattle.std.specs.Prelude.{sum_by}
use Rattle.std.specs.Int.{w64, from_le_bytes}
use Rattle.std.specs.Simd.{first_chunks}
use Rattle.std.proofs.lemmas.List.Sums.{sum_by-cons}
use Rattle.spec.specs.Bytes.{place, place_from}
use Rattle.spec.specs.Bitmap.{bits_of_byte, bits_of, free_bits}
use Rattle.bitmap.specs.Words.{Table, word_of, free_of_word}
use Rattle.bitmap.proofs.Numbers.{low_bits, byte_low, length-low, low-append, low_free, low-place, or-low, and_low}
use Rattle.bitmap.proofs.Laws.{length-bits, drop-byte, byte-bits, occurs-append, place_after}

-- ---- a word is 64 bits

-- the number of the k bytes from place i
unfoldable number : List ℕ → ℕ → ℕ → ℕ
number t i zero = 0
number t i (suc k) = number t (suc i) k * 256 + get_or t i 0

-- of k bytes from place i, the first and the others
module _ (t : List ℕ) (i k : ℕ) (h : (j : ℕ) → j < suc k → get_or t (i + j) 0 < 256) where
  first_byte : get_or t i 0 < 256
  first_byte = let z : i + 0 ≡ i = omega arith in rw (← z) (h 0 (omega arith))

  other-bytes : (j : ℕ) → j < k → get_or t (suc i + j) 0 < 256
  other-bytes j l = let z : suc i + j ≡ i + suc j = omega arith in rw z (h (suc j) (omega arith))

number_lt : (t : List ℕ) (i k : ℕ) → ((j : ℕ) → j < k → get_or t (i + j) 0 < 256) → number t i k < 2 ^ (8 * k)
unfolding number
number_lt t i zero h = omega arith
number_lt t i (suc k) h =
    let e : 2 ^ (8 * suc k) ≡ 256 * 2 ^ (8 * k) = ap (λ (n : ℕ). 2 ^ n) (omega arith) ∙ pow-add 2 8 (8 * k) in
    omega (arith, e, first_byte t i k h, number_lt t (suc i) k (other-bytes t i k h))

number-bits : (t : List ℕ) (i k : ℕ) → ((j : ℕ) → j < k → get_or t (i + j) 0 < 256) → i + k ≤ length t → drop (8 * i) (bits_of t) ≡ low_bits (8 * k) (number t i k) ++ drop (8 * (i + k)) (bits_of t)
unfolding number low_bits
number-bits t i zero h l = ap (λ (n : ℕ). drop (8 * n) (bits_of t)) (sym (add-zero i))
number-bits t i (suc k) h l =
    let e : 8 * suc k ≡ 8 + 8 * k = omega arith in
    let f : suc i + k ≡ i + suc k = omega arith in
    byte-bits t i (omega arith) ∙ ap₂ (λ (a b : List ℕ). a ++ b) (byte_low (get_or t i 0)) (number-bits t (suc i) k (other-bytes t i k h) (omega arith))
    ∙ sym (append_assoc (low_bits 8 (get_or t i 0)) (low_bits (8 * k) (number t (suc i) k)) (drop (8 * (suc i + k)) (bits_of t)))
    ∙ ap₂ (λ (a b : List ℕ). a ++ b) (sym (low-append 8 (8 * k) (number t (suc i) k) (get_or t i 0) (first_byte t i k h)) ∙ ap (λ (n : ℕ). low_bits n (number t i (suc k))) (sym e))
    (ap (λ (n : ℕ). drop (8 * n) (bits_of t)) f)

word_number : (t : List ℕ) (w : ℕ) → word_of t w ≡ number t (8 * w) 8
unfolding number
word_number t w = simp (← add-one, add_assoc, zero-add)

-- ---- what the loops need of word w

pub record Word (t : List ℕ) (w x : ℕ) : Type 0 where
  pub small : x < 2 ^ 64
  pub count : free_bits (take (64 * (w + 1)) (bits_of t)) ≡ free_bits (take (64 * w) (bits_of t)) + ones (2 ^ 64 - 1 - x)
  pub found : free_bits (take (64 * w) (bits_of t)) ≡ 0 → (2 ^ 64 - 1 - x ≡ 0 → ⊥)
      → place 0 (bits_of t) ≡ some (64 * w + count_trailing_zeros 64 (2 ^ 64 - 1 - x))

module _ (t : List ℕ) (table : Table t) (w x : ℕ) (inside : w < 64) (is : x ≡ word_of t w) where
  is_number : x ≡ number t (8 * w) 8
  is_number = is ∙ word_number t w

  word_lt : x < 2 ^ 64
  word_lt = rw is_number (number_lt t (8 * w) 8 (λ j l. table.bytes _))

  word-bits : drop (64 * w) (bits_of t) ≡ low_bits 64 x ++ drop (64 * (w + 1)) (bits_of t)
  word-bits =
      let e : 64 * w ≡ 8 * (8 * w) = omega arith in
      let f : 64 * (w + 1) ≡ 8 * (8 * w + 8) = omega arith in
      rw (f, e, is_number) (number-bits t (8 * w) 8 (λ j l. table.bytes _) (omega (arith, table.full)))

  words-to : take (64 * (w + 1)) (bits_of t) ≡ take (64 * w) (bits_of t) ++ low_bits 64 x
  words-to =
      let e : 64 * (w + 1) ≡ 64 * w + 64 = omega arith in
      ap (λ (n : ℕ). take n (bits_of t)) e ∙ take-add (64 * w) 64 (bits_of t)
      ∙ ap (λ (l : List ℕ). take (64 * w) (bits_of t) ++ l) (ap (take 64) word-bits ∙ take_at (low_bits 64 x) _ 64 (length-low 64 x))

  pub word-says : Word t w x
  word-says =
      let l : length (take (64 * w) (bits_of t)) ≡ 64 * w = length-take-le (64 * w) (bits_of t) (omega (arith, length-bits t, table.full)) in
      record {
        small = word_lt;
        count = omega (arith, ap free_bits words-to, occurs-append 0 (take (64 * w) (bits_of t)) (low_bits 64 x), low_free 64 x word_lt);
        found = λ none ne. ap (place 0) (sym (take-append-drop (64 * w) (bits_of t)))
            ∙ place_after 0 (take (64 * w) (bits_of t)) (drop (64 * w) (bits_of t)) none
            ∙ ap₂ (λ (n : ℕ) (bits : List ℕ). place_from n 0 bits) (zero-add _ ∙ l) word-bits ∙ low-place 64 x (64 * w) _ word_lt ne;
      }

-- a word of which no bit is 0
pub full-word : (t : List ℕ) (w x : ℕ) → Word t w x → 2 ^ 64 - 1 - x ≡ 0 → free_bits (take (64 * (w + 1)) (bits_of t)) ≡ free_bits (take (64 * w) (bits_of t))
unfolding ones
full-word t w x word z = let e : ones 0 ≡ 0 = refl in omega (arith, word.count, ap ones z, e)

-- ---- the zero bits of all words

bytes-drop : (t : List ℕ) (i : ℕ) → drop (8 * i) (bits_of t) ≡ bits_of (drop i t)
unfolding bits_of
bytes-drop t zero = refl
bytes-drop [] (suc i) = drop-nil {A = ℕ} (8 * suc i)
bytes-drop (x ∷ xs) (suc i) = drop-byte x xs i ∙ bytes-drop xs i

-- eight bytes as std has their number
module _ (t : List ℕ) (i : ℕ) where
  abbrev word : List ℕ
  word = take 8 (drop i t)

  byte_at : (j k : ℕ) → j < 8 → i + j ≡ k → get_or word j 0 ≡ get_or t k 0
  byte_at j k l e = get_or-take 8 (drop i t) j 0 l ∙ get_or-drop i t j 0 ∙ ap (λ n. get_or t n 0) e

  chunk-number : from_le_bytes w64 word ≡ number t i 8
  unfolding number
  chunk-number =
      omega (
        arith,
        byte_at 0 i (omega arith) (omega arith),
        byte_at 1 (suc i) (omega arith) (omega arith),
        byte_at 2 (suc (suc i)) (omega arith) (omega arith),
        byte_at 3 (suc (suc (suc i))) (omega arith) (omega arith),
        byte_at 4 (suc (suc (suc (suc i)))) (omega arith) (omega arith),
        byte_at 5 (suc (suc (suc (suc (suc i))))) (omega arith) (omega arith),
        byte_at 6 (suc (suc (suc (suc (suc (suc i)))))) (omega arith) (omega arith),
        byte_at 7 (suc (suc (suc (suc (suc (suc (suc i))))))) (omega arith) (omega arith),
      )

-- as many words as there are
words-free : (k : ℕ) (t : List ℕ) → length t ≡ 8 * k → ((j : ℕ) → get_or t j 0 < 256) → sum_by free_of_word (first_chunks 8 k t) ≡ free_bits (bits_of t)
unfolding bits_of free_of_word
words-free zero [] l h = refl
words-free zero (x ∷ t) l h = absurd (omega arith)
words-free (suc k) t l h =
    let rest = words-free k (drop 8 t) (length-drop 8 t ∙ omega arith) (λ j. rw get_or-drop (h (8 + j))) in
    let bits = number-bits t 0 8 (λ j m. h (0 + j)) (omega arith) in
    let few : number t 0 8 < 2 ^ 64 = number_lt t 0 8 (λ j m. h (0 + j)) in
    sum_by-cons free_of_word (take 8 t) (first_chunks 8 k (drop 8 t))
    ∙ omega (
      arith,
      rest,
      ap (λ n. ones (2 ^ 64 - 1 - n)) (chunk-number t 0),
      ap free_bits bits,
      occurs-append 0 (low_bits 64 (number t 0 8)) (drop 64 (bits_of t)),
      low_free 64 (number t 0 8) few,
      ap free_bits (bytes-drop t 8),
    )

-- word w of so many
chunk-at : (k w : ℕ) (t d : List ℕ) → w < k → get_or (first_chunks 8 k t) w d ≡ take 8 (drop (8 * w) t)
chunk-at zero w t d h = absurd (omega arith)
chunk-at (suc k) zero t d h = refl
chunk-at (suc k) (suc w) t d h =
    let e : 8 + 8 * w ≡ 8 * suc w = omega arith in
    chunk-at k w (drop 8 t) d (omega arith) ∙ ap (take 8) (drop-drop (8 * w) 8 t ∙ ap (λ n. drop n t) e)

-- the words of a table
module _ (t : List ℕ) (full : length t ≡ 512) (words : List (List ℕ)) (all : words ≡ first_chunks 8 (length t / 8) t) where
  pub all-free : ((j : ℕ) → get_or t j 0 < 256) → sum_by free_of_word words ≡ free_bits (bits_of t)
  all-free h = ap (sum_by free_of_word) all ∙ words-free (length t / 8) t (omega arith) h

  pub word-read : (w x : ℕ) (d : List ℕ) → w < 64 → x ≡ from_le_bytes w64 (get_or words w d) → x ≡ word_of t w
  word-read w x d l e =
      let q = ap (λ (ws : List (List ℕ)). get_or ws w d) all ∙ chunk-at (length t / 8) w t d (omega arith) in
      e ∙ ap (from_le_bytes w64) q ∙ chunk-number t (8 * w) ∙ sym (word_number t w)

pub all_words : (t : List ℕ) (w : ℕ) → length t ≡ 512 → 64 ≤ w → take (64 * w) (bits_of t) ≡ bits_of t
all_words t w full h = take_all (64 * w) (bits_of t) (omega (arith, length-bits t))

-- a bit's number fits
pub place-lt : (a y : ℕ) → a < 4096 → a + count_trailing_zeros 64 y < 2 ^ 32
place-lt a y h = omega (arith, trailing_le 64 y)

-- ---- one bit changed

-- bit k of byte i changes
set-byte : (t : List ℕ) (i k v y : ℕ) → k < 8 → bits_of_byte y ≡ set (bits_of_byte (get_or t i 0)) k v → bits_of (set t i y) ≡ set (bits_of t) (8 * i + k) v
unfolding bits_of
set-byte [] i k v y h e = refl
set-byte (x ∷ xs) zero k v y h e =
    let z : 8 * 0 + k ≡ k = omega arith in
    rw (z, set-append_left (bits_of_byte x) (bits_of xs) k v h) (ap (λ (b : List ℕ). b ++ bits_of xs) e)
set-byte (x ∷ xs) (suc i) k v y h e =
    let z : 8 * suc i + k ≡ suc (suc (suc (suc (suc (suc (suc (suc (8 * i + k)))))))) = omega arith in
    rw z (ap (λ (b : List ℕ). bits_of_byte x ++ b) (set-byte xs i k v y h e))

-- the mask of bit k, as the code shifts it
mask : (k : ℕ) → k < 8 → 1 * 2 ^ k % 256 ≡ 2 ^ k
mask k h = omega (arith, shl_exact {a = 1} 1 k 8 (omega arith) (omega arith))

module _ (t : List ℕ) (b : ℕ) where
  set-bits : (v y : ℕ) → low_bits 8 y ≡ set (low_bits 8 (get_or t (b / 8) 0)) (b % 8) v → bits_of (set t (b / 8) y) ≡ set (bits_of t) b v
  set-bits v y e =
      let s : 8 * (b / 8) + b % 8 ≡ b = omega arith in
      set-byte t (b / 8) (b % 8) v y (omega arith) (byte_low y ∙ e ∙ ap (λ (l : List ℕ). set l (b % 8) v) (sym (byte_low _)))
      ∙ ap (λ (n : ℕ). set (bits_of t) n v) s

  pub bit-set : bits_of (set t (b / 8) (bit_or (get_or t (b / 8) 0) (1 * 2 ^ (b % 8) % 256))) ≡ set (bits_of t) b 1
  bit-set = set-bits 1 _ (rw (mask (b % 8) (omega arith)) (or-low 8 (b % 8) _ (omega arith)))

  pub bit-cleared : bits_of (set t (b / 8) (bit_and (get_or t (b / 8) 0) (255 - 1 * 2 ^ (b % 8) % 256))) ≡ set (bits_of t) b 0
  bit-cleared = set-bits 0 _ (rw (mask (b % 8) (omega arith)) (and_low 8 (b % 8) _ (omega arith)))
