-- A run of bits cleared: by a mask in one byte, and by whole bytes. Assumes nothing.
use Prim.Native.Nat.{ℕ, zero, suc, ◌+◌, ◌*◌, ◌-◌, ◌/◌, ◌%◌, ◌^◌, ◌<◌, ◌≤◌, min}
use mathlib.Core.Path.{◌≡◌, refl, sym, ap, ◌∙◌}
use mathlib.Core.Bool.{Bool, true, ◌||◌}
use mathlib.Core.List.{List, [], ◌∷◌, ◌++◌}
use mathlib.Core.Logic.{⊎_elim}
use native.Mathlib.Nat.{add-zero}
use native.Mathlib.Omega.{arith}
use borrow.Author.Tests.{eqb-true, lt-leb}
use lib.Dec.{eqb, leb}
use lib.Bits.{bit_and}
use lib.ListN.{length, take, drop, get_or, set, replicate, length-set, length-take, length-drop}
use lib.Seq.{set_out, set-append_left}
use Rattle.std.proofs.lemmas.Nat.{and_assoc}
use Rattle.std.proofs.lemmas.Bool.{cases_lt}
use Rattle.spec.specs.Bytes.{all, up_from}
use Rattle.spec.specs.Bitmap.{bits_of_byte, bits_of, mark}
use Rattle.lists.specs.Bits.{mark-append}
use Rattle.lists.specs.Counts.{up_from-occurs}
use Rattle.lists.specs.All.{all-at}
use Rattle.block.proofs.Lists.{up_from-append}
use Rattle.bitmap.specs.Words.{mask_of}
use Rattle.bitmap.proofs.Numbers.{low_bits, byte_low, mask_low, and_low}

-- ---- numbers in a row, marked

pub mark-more : (v : ℕ) (bs : List ℕ) (b : ℕ) (bits : List ℕ) → mark v (bs ++ (b ∷ [])) bits ≡ set (mark v bs bits) b v
unfolding mark
mark-more v bs b bits = mark-append v bs (b ∷ []) bits

up_more : (b k : ℕ) → up_from b (suc k) ≡ up_from b k ++ ((b + k) ∷ [])
up_more b zero = rw (add-zero b)
up_more b (suc k) = let e : suc b + k ≡ b + suc k = omega arith in ap (λ (l : List ℕ). b ∷ l) (up_more (suc b) k ∙ rw e)

-- the next m blocks
pub run-part : (bits x y : List ℕ) (b k c m : ℕ) → x ≡ mark 0 (up_from b k) bits → c ≡ b + k → y ≡ mark 0 (up_from c m) x → y ≡ mark 0 (up_from b (k + m)) bits
run-part bits x y b k c m e q h = h ∙ rw (q, e, up_from-append b k m) (sym (mark-append 0 (up_from b k) (up_from (b + k) m) bits))

up-mark-append : (bits : List ℕ) (b k m : ℕ) → mark 0 (up_from b (k + m)) bits ≡ mark 0 (up_from (b + k) m) (mark 0 (up_from b k) bits)
up-mark-append bits b k m = ap (λ (bs : List ℕ). mark 0 bs bits) (up_from-append b k m) ∙ mark-append 0 (up_from b k) (up_from (b + k) m) bits

-- whole bytes of the table cleared
set-behind : (xs ys : List ℕ) (n k v : ℕ) → n ≡ length xs + k → set (xs ++ ys) n v ≡ xs ++ set ys k v
set-behind [] ys n k v e = let z : n ≡ k = omega arith in rw z
set-behind (x ∷ xs) ys zero k v e = absurd (omega arith)
set-behind (x ∷ xs) ys (suc n) k v e = ap (λ (l : List ℕ). x ∷ l) (set-behind xs ys n k v (omega arith))

pub mark-behind : (v : ℕ) (xs ys : List ℕ) (a b n : ℕ) → a ≡ length xs + b → mark v (up_from a n) (xs ++ ys) ≡ xs ++ mark v (up_from b n) ys
unfolding mark
mark-behind v xs ys a b zero e = refl
mark-behind v xs ys a b (suc n) e =
    ap (mark v (up_from (suc a) n)) (set-behind xs ys a b v e) ∙ mark-behind v xs (set ys b v) (suc a) (suc b) n (omega arith)

-- n bytes of it from i on
abbrev cleared : List ℕ → ℕ → ℕ → List ℕ
cleared t i n = take i t ++ (replicate n 0 ++ drop n (drop i t))

zeros-first : (t : List ℕ) (n : ℕ) → n ≤ length t → bits_of (replicate n 0 ++ drop n t) ≡ mark 0 (up_from 0 (8 * n)) (bits_of t)
unfolding bits_of mark
zeros-first t zero h = refl
zeros-first [] (suc n) h = absurd (omega arith)
zeros-first (x ∷ t) (suc n) h =
    let e : 8 * suc n ≡ 8 + 8 * n = omega arith in
    rw (e, zeros-first t n (omega arith))
    (sym (up-mark-append (bits_of_byte x ++ bits_of t) 0 8 (8 * n) ∙ mark-behind 0 (bits_of_byte 0) (bits_of t) 8 0 (8 * n) refl))

bytes-cleared : (t : List ℕ) (i n : ℕ) → i + n ≤ length t → bits_of (cleared t i n) ≡ mark 0 (up_from (8 * i) (8 * n)) (bits_of t)
unfolding bits_of mark
bytes-cleared t zero n h = zeros-first t n (omega arith)
bytes-cleared [] (suc i) n h = absurd (omega arith)
bytes-cleared (x ∷ t) (suc i) n h =
    let e : 8 * suc i ≡ 8 + 8 * i = omega arith in
    rw e (ap (λ (l : List ℕ). bits_of_byte x ++ l) (bytes-cleared t i n (omega arith)) ∙ sym (mark-behind 0 (bits_of_byte x) (bits_of t) (8 + 8 * i) (8 * i) (8 * n) refl))

-- as a fill leaves them
pub bytes_filled : (t zs : List ℕ) (i n : ℕ) → length t ≡ 512 → i + n ≤ 512 → zs ≡ replicate (length (take (i + n - i) (drop i t))) 0
    → bits_of (take i t ++ (zs ++ drop (i + n - i) (drop i t))) ≡ mark 0 (up_from (8 * i) (8 * n)) (bits_of t)
bytes_filled t zs i n l h z =
    let m : i + n - i ≡ n = omega arith in
    let w : length (take n (drop i t)) ≡ n = omega (arith, length-take n (drop i t), length-drop i t) in
    rw (z, m, w) (bytes-cleared t i n (omega arith))

-- marks past the end
mark-past : (v b n : ℕ) (bits : List ℕ) → length bits ≤ b → mark v (up_from b n) bits ≡ bits
unfolding mark
mark-past v b zero bits h = refl
mark-past v b (suc n) bits h = ap (mark v (up_from (suc b) n)) (set_out bits b v h) ∙ mark-past v (suc b) n bits (omega arith)

length-mark : (v : ℕ) (bs bits : List ℕ) → length (mark v bs bits) ≡ length bits
unfolding mark
length-mark v [] bits = refl
length-mark v (b ∷ bs) bits = length-mark v bs (set bits b v) ∙ length-set bits b v

pub unmarked : (v b n : ℕ) (bits : List ℕ) → n ≡ 0 → mark v (up_from b n) bits ≡ bits
unfolding mark
unmarked v b n bits z = rw z

-- only the blocks that the table has
pub run-cut : (bits : List ℕ) (b n k : ℕ) → length bits ≡ 4096 → k ≡ min n (4096 - min b 4096) → mark 0 (up_from (min b 4096) k) bits ≡ mark 0 (up_from b n) bits
run-cut bits b n k l e = ⊎_elim inside outside (cases_lt b 4096)
  where
    past : b < 4096 → mark 0 (up_from (b + k) (n - k)) (mark 0 (up_from b k) bits) ≡ mark 0 (up_from b k) bits
    past h = ⊎_elim
        (λ (c : k < n). mark-past 0 (b + k) (n - k) _ (omega (arith, length-mark 0 (up_from b k) bits)))
        (λ (c : n ≤ k). unmarked 0 (b + k) (n - k) _ (omega arith))
        (cases_lt k n)

    inside : b < 4096 → mark 0 (up_from (min b 4096) k) bits ≡ mark 0 (up_from b n) bits
    inside h =
        let a : min b 4096 ≡ b = omega arith in
        let s : n ≡ k + (n - k) = omega arith in
        ap (λ (x : ℕ). mark 0 (up_from x k) bits) a
        ∙ sym (ap (λ (x : ℕ). mark 0 (up_from b x) bits) s ∙ up-mark-append bits b k (n - k) ∙ past h)

    outside : 4096 ≤ b → mark 0 (up_from (min b 4096) k) bits ≡ mark 0 (up_from b n) bits
    outside h = mark-past 0 (min b 4096) k bits (omega arith) ∙ sym (mark-past 0 b n bits (omega arith))

-- ---- bits of one byte, by a mask

-- zeros from bit s on, n of them, and ones elsewhere
unfoldable pub hole : ℕ → ℕ → ℕ
hole n s = 255 - mask_of n s

-- a mask as the code shifts it
mask-shifts : ℕ → ℕ → Bool
mask-shifts n s = eqb (255 / 2 ^ (8 - n) * 2 ^ s % 256) (mask_of n s)

masks-shift : all (λ n. all (mask-shifts n) (up_from 0 8)) (up_from 0 9) ≡ true
unfolding mask-shifts mask_of mark
masks-shift = refl

pub mask-shift : (n s : ℕ) → n ≤ 8 → s < 8 → 255 / 2 ^ (8 - n) * 2 ^ s % 256 ≡ mask_of n s
unfolding mask-shifts
mask-shift n s hn hs =
    let p = all-at (λ m. all (mask-shifts m) (up_from 0 8)) (up_from 0 9) n masks-shift (up_from-occurs n 0 9 (omega arith) (omega arith)) in
    let q = all-at (mask-shifts n) (up_from 0 8) s p (up_from-occurs s 0 8 (omega arith) (omega arith)) in
    eqb-true _ _ q

hole-grows : ℕ → ℕ → Bool
hole-grows n s = leb 8 (s + n) || eqb (hole (suc n) s) (bit_and (hole n s) (255 - 2 ^ (s + n)))

holes-grow : all (λ n. all (hole-grows n) (up_from 0 8)) (up_from 0 8) ≡ true
unfolding hole-grows hole mask_of mark
holes-grow = refl

or-false : (a : ℕ) (d : Bool) → a < 8 → leb 8 a || d ≡ true → d ≡ true
or-false a d h e = rw (lt-leb 8 a h) at e

hole-more : (n s : ℕ) → s + n < 8 → hole (suc n) s ≡ bit_and (hole n s) (255 - 2 ^ (s + n))
unfolding hole-grows
hole-more n s h =
    let p = all-at (λ m. all (hole-grows m) (up_from 0 8)) (up_from 0 8) n holes-grow (up_from-occurs n 0 8 (omega arith) (omega arith)) in
    let q = all-at (hole-grows n) (up_from 0 8) s p (up_from-occurs s 0 8 (omega arith) (omega arith)) in
    eqb-true (hole (suc n) s) (bit_and (hole n s) (255 - 2 ^ (s + n))) (or-false (s + n) _ h q)

low-hole : (x n s : ℕ) → s + n ≤ 8 → low_bits 8 (bit_and x (hole n s)) ≡ mark 0 (up_from s n) (low_bits 8 x)
unfolding mark hole mask_of
low-hole x zero s h = mask_low 8 x
low-hole x (suc n) s h =
    rw (hole-more n s (omega arith), ← and_assoc (255 - 2 ^ (s + n)) x (hole n s), up_more s n, mark-more 0 (up_from s n) (s + n) (low_bits 8 x))
    (and_low 8 (s + n) (bit_and x (hole n s)) (omega arith) ∙ ap (λ (l : List ℕ). set l (s + n) 0) (low-hole x n s (omega arith)))

mark-front : (v k n : ℕ) (xs ys : List ℕ) → k + n ≤ length xs → mark v (up_from k n) (xs ++ ys) ≡ mark v (up_from k n) xs ++ ys
unfolding mark
mark-front v k zero xs ys h = refl
mark-front v k (suc n) xs ys h =
    ap (mark v (up_from (suc k) n)) (set-append_left xs ys k v (omega arith)) ∙ mark-front v (suc k) n (set xs k v) ys (omega (arith, length-set xs k v))

mark-byte : (t : List ℕ) (i k n v y : ℕ) → k + n ≤ 8 → i < length t → bits_of_byte y ≡ mark v (up_from k n) (bits_of_byte (get_or t i 0))
    → bits_of (set t i y) ≡ mark v (up_from (8 * i + k) n) (bits_of t)
unfolding bits_of
mark-byte [] i k n v y h l e = absurd (omega arith)
mark-byte (x ∷ xs) zero k n v y h l e =
    let z : 8 * 0 + k ≡ k = omega arith in
    rw (z, mark-front v k n (bits_of_byte x) (bits_of xs) h) (ap (λ (b : List ℕ). b ++ bits_of xs) e)
mark-byte (x ∷ xs) (suc i) k n v y h l e =
    ap (λ (b : List ℕ). bits_of_byte x ++ b) (mark-byte xs i k n v y h (omega arith) e)
    ∙ sym (mark-behind v (bits_of_byte x) (bits_of xs) (8 * suc i + k) (8 * i + k) n (omega arith))

pub bits-holed : (t : List ℕ) (b n : ℕ) → length t ≡ 512 → b < 4096 → b % 8 + n ≤ 8
    → bits_of (set t (b / 8) (bit_and (get_or t (b / 8) 0) (hole n (b % 8)))) ≡ mark 0 (up_from b n) (bits_of t)
bits-holed t b n l h m =
    let s : 8 * (b / 8) + b % 8 ≡ b = omega arith in
    mark-byte t (b / 8) (b % 8) n 0 _ m (omega arith) (byte_low _ ∙ low-hole _ n (b % 8) m ∙ ap (mark 0 (up_from (b % 8) n)) (sym (byte_low _)))
    ∙ ap (λ (x : ℕ). mark 0 (up_from x n) (bits_of t)) s

-- the parts of a run in turn: a head up to a whole byte, whole bytes, a tail
pub run-parts : (bits x y z : List ℕ) (b a m h c d : ℕ) → x ≡ mark 0 (up_from b a) bits → c ≡ b + a → y ≡ mark 0 (up_from c m) x → d ≡ b + a + m
    → z ≡ mark 0 (up_from d h) y → z ≡ mark 0 (up_from b (a + m + h)) bits
run-parts bits x y z b a m h c d e p f q g = run-part bits y z b (a + m) d h (run-part bits x y b a c m e p f) (q ∙ omega arith) g

-- and the run as it was asked for, which may reach past the table
pub cut-short : (bits z : List ℕ) (b n from k j : ℕ) → length bits ≡ 4096 → from ≡ min b 4096 → k ≡ min n (4096 - from) → j ≡ k
    → z ≡ mark 0 (up_from from j) bits → z ≡ mark 0 (up_from b n) bits
cut-short bits z b n from k j l f e q h =
    h ∙ ap (λ (x : ℕ). mark 0 (up_from x j) bits) f ∙ ap (λ (x : ℕ). mark 0 (up_from (min b 4096) x) bits) q
    ∙ run-cut bits b n k l (e ∙ ap (λ (x : ℕ). min n (4096 - x)) f)
