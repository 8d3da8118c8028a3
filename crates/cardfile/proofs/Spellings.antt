-- What is written is read back, and what is read was so written: a line determines its letter, serial and amount, and they determine the line. Assumes nothing.
use Prim.Native.Nat.{ℕ, zero, suc, ◌+◌, ◌*◌, ◌-◌, ◌/◌, ◌%◌, ◌<◌, ◌≤◌, ◌^◌}
use mathlib.Core.Path.{◌≡◌, refl, sym, ap, ◌∙◌}
use mathlib.Core.Bool.{Bool, true, false, cond, ◌||◌}
use mathlib.Core.List.{List, [], ◌∷◌, ◌++◌}
use mathlib.Core.Option.{Option, none, some, some-ne-none, some-injective}
use mathlib.Core.Logic.{◌⊎◌, inl, inr}
use native.Mathlib.Omega.{arith}
use native.Mathlib.Nat.{pow-succ', pow-le-pow_right}
use lib.ListN.{length, take, drop, get_or, length-append, take-append-drop, get_or-eq_default, get_or-append}
use lib.Seq.{take-append_seam, drop-append-add, get_or-append-add}
use lib.Dec.{eqb, ltb, leb}
use borrow.Author.Tests.{eqb-true, eqb-false, eq-eqb, ne_eqb, lt-ltb, le-ltb, le-leb, ltb-true, ltb-false, leb-true, leb-false}
pub use Rattle.text.proofs.Laws.{length-hex}
use Rattle.spec.specs.Listing.{digits, decimal, hex_digit, hexadecimal}
use Rattle.cardfile.specs.Cards.{IsSerial, Proper, letter_h, letter_d, number_of, bytes_of, padded, digits_for, spell, line_text, digit_value, hex_value, hex_byte, in_front, read_hex, read_decimal, within, serial_h, serial_d, serial_of, amount_of, Entry, entry, before, split, entry_of}
use Rattle.cardfile.proofs.Laws.{hex-low, hex-digit, hex-gap, hex-high, hex-letter, pair-first, pair-second, pair-both, decimal-next, decimal-done, before-hit, before-miss, next-byte, length-bytes, number-bytes, hex-length}
use Rattle.cardfile.proofs.Digits.{value-digit, decimal_step, padded-back}
use Rattle.cardfile.proofs.Forms.{cents-text, cents-of}

-- ---- a byte that does not occur

Free : ℕ → List ℕ → Type 0
Free x [] = Unit {0}
Free x (c ∷ t) = (c ≡ x → ⊥) × Free x t

free-append : (x : ℕ) (s t : List ℕ) → Free x s → Free x t → Free x (s ++ t)
unfolding Free
free-append x [] t f g = g
free-append x (c ∷ s) t f g = (f.0, free-append x s t f.1 g)

before-free : (x : ℕ) (s r : List ℕ) → Free x s → before x (s ++ (x ∷ r)) ≡ s
unfolding Free
before-free x [] r f = before-hit x x r refl
before-free x (c ∷ s) r f = before-miss x c (s ++ (x ∷ r)) f.0 ∙ ap (λ (l : List ℕ). c ∷ l) (before-free x s r f.1)

-- ---- hexadecimal digits

digit-hex : (x : ℕ) → x < 16 → hex_value (hex_digit x) ≡ x
digit-hex x h = go (ltb x 10) refl
  where
    go : (t : Bool) → ltb x 10 ≡ t → hex_value (cond t (48 + x) (55 + x)) ≡ x
    go true e = sym (hex-digit (48 + x) (omega arith) (let z = ltb-true x 10 e in omega arith)) ∙ omega arith
    go false e = sym (hex-letter (55 + x) (let z = ltb-false x 10 e in omega arith) (omega arith)) ∙ omega arith

digit-free : (x : ℕ) → x < 16 → hex_digit x ≡ 59 → ⊥
digit-free x h = go (ltb x 10) refl
  where
    go : (t : Bool) → ltb x 10 ≡ t → cond t (48 + x) (55 + x) ≡ 59 → ⊥
    go true e q = let z = ltb-true x 10 e in omega arith
    go false e q = let z = ltb-false x 10 e in omega arith

hex-digit-is : (c : ℕ) → hex_value c < 16 → hex_digit (hex_value c) ≡ c
hex-digit-is c h = go (leb 48 c) refl (leb c 57) refl (leb 65 c) refl (leb c 70) refl
  where
    made : (v : ℕ) → v ≡ hex_value c → cond (ltb v 10) (48 + v) (55 + v) ≡ c → hex_digit (hex_value c) ≡ c
    made v e q = rw e at q

    go : (a : Bool) → leb 48 c ≡ a → (b : Bool) → leb c 57 ≡ b → (d : Bool) → leb 65 c ≡ d → (e : Bool) → leb c 70 ≡ e → hex_digit (hex_value c) ≡ c
    go false p b q d r e s = absurd (omega (arith, hex-low c (leb-false 48 c p)))
    go true p true q d r e s =
        let x = leb-true 48 c p in
        let y = leb-true c 57 q in
        made (c - 48) (hex-digit c x y) (rw (lt-ltb (c - 48) 10 (omega arith)) (omega arith))
    go true p false q false r e s = absurd (omega (arith, hex-gap c (leb-false c 57 q) (leb-false 65 c r)))
    go true p false q true r false s = absurd (omega (arith, hex-high c (leb-false c 70 s)))
    go true p false q true r true s =
        let x = leb-true 65 c r in
        let y = leb-true c 70 s in
        made (c - 55) (hex-letter c x y) (rw (le-ltb (c - 55) 10 (omega arith)) (omega arith))

-- two digits that make a byte
record Pair (a b x : ℕ) : Type 0 where
  pub high : hex_digit (x / 16) ≡ a
  pub low : hex_digit (x % 16) ≡ b

pair_is : (a b : ℕ) → hex_byte a b < 256 → Pair a b (hex_byte a b)
pair_is a b h = go (ltb (hex_value a) 16) refl (ltb (hex_value b) 16) refl
  where
    go : (u : Bool) → ltb (hex_value a) 16 ≡ u → (v : Bool) → ltb (hex_value b) 16 ≡ v → Pair a b (hex_byte a b)
    go false p v q = absurd (omega (arith, pair-first a b (ltb-false (hex_value a) 16 p)))
    go true p false q = absurd (omega (arith, pair-second a b (ltb-false (hex_value b) 16 q)))
    go true p true q =
        let x = ltb-true (hex_value a) 16 p in
        let y = ltb-true (hex_value b) 16 q in
        let e : 16 * hex_value a + hex_value b ≡ hex_byte a b = pair-both a b x y in
        let f : hex_byte a b / 16 ≡ hex_value a = omega (arith, e) in
        let g : hex_byte a b % 16 ≡ hex_value b = omega (arith, e) in
        record { high = ap hex_digit f ∙ hex-digit-is a x; low = ap hex_digit g ∙ hex-digit-is b y }

-- ---- hexadecimal serials

free-hex : (s : List ℕ) → ((i : ℕ) → get_or s i 0 < 256) → Free 59 (hexadecimal s)
unfolding Free
free-hex [] f = tt
free-hex (x ∷ s) f =
    let z : x < 256 = f 0 in
    (digit-free (x / 16) (omega arith), (digit-free (x % 16) (omega arith), free-hex s (λ i. f (suc i))))

pub hex-back : (s : List ℕ) → ((i : ℕ) → get_or s i 0 < 256) → read_hex (hexadecimal s) ≡ some s
unfolding read_hex
hex-back [] f = refl
hex-back (x ∷ s) f =
    let z : x < 256 = f 0 in
    let a : hex_value (hex_digit (x / 16)) ≡ x / 16 = digit-hex (x / 16) (omega arith) in
    let b : hex_value (hex_digit (x % 16)) ≡ x % 16 = digit-hex (x % 16) (omega arith) in
    let e : hex_byte (hex_digit (x / 16)) (hex_digit (x % 16)) ≡ x = byte-is (hex_digit (x / 16)) (hex_digit (x % 16)) x a b z in
    rw (e, lt-ltb x 256 z, hex-back s (λ i. f (suc i)))
  where
    byte-is : (c d x : ℕ) → hex_value c ≡ x / 16 → hex_value d ≡ x % 16 → x < 256 → hex_byte c d ≡ x
    byte-is c d x p q z = sym (pair-both c d (omega (arith, p)) (omega (arith, q))) ∙ omega (arith, p, q)

record Hexed (t s : List ℕ) : Type 0 where
  pub text : hexadecimal s ≡ t
  pub small : (i : ℕ) → get_or s i 0 < 256

no_bytes : (i : ℕ) → get_or {A = ℕ} [] i 0 < 256
no_bytes zero = omega arith
no_bytes (suc i) = omega arith

front-small : (x : ℕ) (s : List ℕ) → x < 256 → ((i : ℕ) → get_or s i 0 < 256) → (i : ℕ) → get_or (x ∷ s) i 0 < 256
front-small x s h f zero = h
front-small x s h f (suc i) = f i

hexed : (t s : List ℕ) → read_hex t ≡ some s → Hexed t s
unfolding read_hex
hexed [] s h = let z : [] ≡ s = cc in rw (← z) (record { text = refl; small = no_bytes })
hexed (a ∷ []) s h = absurd (some-ne-none s (sym h))
hexed (a ∷ b ∷ t) s h = go (ltb (hex_byte a b) 256) refl (read_hex t) refl (hexed t) h
  where
    go : (u : Bool) → ltb (hex_byte a b) 256 ≡ u → (o : Option (List ℕ)) → read_hex t ≡ o → ((s : List ℕ) → read_hex t ≡ some s → Hexed t s)
        → cond u (in_front (hex_byte a b) o) none ≡ some s → Hexed (a ∷ b ∷ t) s
    go false p o e ih h = absurd (some-ne-none s (sym h))
    go true p none e ih h = absurd (some-ne-none s (sym h))
    go true p (some r) e ih h =
        let z : hex_byte a b ∷ r ≡ s = cc in
        let k = ltb-true (hex_byte a b) 256 p in
        let q = pair_is a b k in
        let i = ih r e in
        rw (← z) (record { text = joined q.high q.low i.text; small = front-small (hex_byte a b) r k i.small })
      where
        joined : {c d : ℕ} {r u : List ℕ} → c ≡ a → d ≡ b → r ≡ u → c ∷ d ∷ r ≡ a ∷ b ∷ u
        joined p q e = cc

-- ---- decimal serials

pub length-padded : (k n : ℕ) → length (padded k n) ≡ k
unfolding padded
length-padded zero n = refl
length-padded (suc k) n = length-append (padded k (n / 10)) ((48 + n % 10) ∷ []) ∙ (let z = length-padded k (n / 10) in omega arith)

free-padded : (k n : ℕ) → Free 59 (padded k n)
unfolding padded Free
free-padded zero n = tt
free-padded (suc k) n = free-append 59 (padded k (n / 10)) ((48 + n % 10) ∷ []) (free-padded k (n / 10)) ((λ q. omega arith), tt)

read_on : Option ℕ → List ℕ → Option ℕ
read_on none t = none
read_on (some n) t = read_decimal n t

read-append : (s t : List ℕ) (n : ℕ) → read_decimal n (s ++ t) ≡ read_on (read_decimal n s) t
unfolding read_decimal read_on
read-append [] t n = refl
read-append (c ∷ s) t n = go (ltb (digit_value c) 10) (read-append s t (10 * n + digit_value c))
  where
    go : (u : Bool) → read_decimal (10 * n + digit_value c) (s ++ t) ≡ read_on (read_decimal (10 * n + digit_value c) s) t
        → cond u (read_decimal (10 * n + digit_value c) (s ++ t)) none ≡ read_on (cond u (read_decimal (10 * n + digit_value c) s) none) t
    go true e = e
    go false e = refl

-- one more digit
read_more : (s : List ℕ) (n d : ℕ) → read_decimal 0 s ≡ some n → d < 10 → read_decimal 0 (s ++ ((48 + d) ∷ [])) ≡ some (10 * n + d)
unfolding read_on
read_more s n d e h =
    read-append s ((48 + d) ∷ []) 0 ∙ ap (λ (o : Option ℕ). read_on o ((48 + d) ∷ [])) e
    ∙ decimal-next n (48 + d) d [] (sym (value-digit d h)) h ∙ decimal-done (10 * n + d)

pub padded-value : (k n : ℕ) → n < 10 ^ k → read_decimal 0 (padded k n) ≡ some n
unfolding padded
padded-value zero n h = let z : 0 ≡ n = omega arith in decimal-done 0 ∙ ap some z
padded-value (suc k) n h =
    let e = pow-succ' 10 k in
    let q : n / 10 < 10 ^ k = omega arith in
    let r : 10 * (n / 10) + n % 10 ≡ n = omega arith in
    read_more (padded k (n / 10)) (n / 10) (n % 10) (padded-value k (n / 10) q) (omega arith) ∙ ap some r

pub number_small : (s : List ℕ) → ((i : ℕ) → get_or s i 0 < 256) → number_of s < 256 ^ length s
unfolding number_of
number_small [] f = omega arith
number_small (x ∷ s) f =
    let e = pow-succ' 256 (length s) in
    let q = number_small s (λ i. f (suc i)) in
    let z : x < 256 = f 0 in
    omega arith

pub bytes-number : (s : List ℕ) → ((i : ℕ) → get_or s i 0 < 256) → bytes_of (length s) (number_of s) ≡ s
unfolding number_of bytes_of
bytes-number [] f = refl
bytes-number (x ∷ s) f =
    let z : x < 256 = f 0 in
    let a : (x + 256 * number_of s) % 256 ≡ x = omega arith in
    let b : (x + 256 * number_of s) / 256 ≡ number_of s = omega arith in
    rw (a, b, bytes-number s (λ i. f (suc i)))

pub bytes_small : (w n : ℕ) → (i : ℕ) → get_or (bytes_of w n) i 0 < 256
unfolding bytes_of
bytes_small zero n i = no_bytes i
bytes_small (suc w) n zero = omega arith
bytes_small (suc w) n (suc i) = bytes_small w (n / 256) i

-- ---- a serial in either spelling

d-ten-is : (t : List ℕ) → length t ≡ 10 → serial_d t ≡ within 4 (read_decimal 0 t)
unfolding serial_d
d-ten-is t l = rw (eq-eqb (length t) 10 l)

d-seventeen-is : (t : List ℕ) → length t ≡ 17 → serial_d t ≡ within 7 (read_decimal 0 t)
unfolding serial_d
d-seventeen-is t l = rw l

d-none-is : (t : List ℕ) → eqb (length t) 10 ≡ false → eqb (length t) 17 ≡ false → serial_d t ≡ none
unfolding serial_d
d-none-is t p q = rw (p, q)

module _ (s : List ℕ) (p : IsSerial s) where
  h-back : serial_h (hexadecimal s) ≡ some s
  unfolding serial_h
  h-back = go p.width
    where
      go : (length s ≡ 4) ⊎ (length s ≡ 7) → cond (eqb (length (hexadecimal s)) 8 || eqb (length (hexadecimal s)) 14) (read_hex (hexadecimal s)) none ≡ some s
      go (inl e) = let z : length (hexadecimal s) ≡ 8 = length-hex s ∙ omega arith in rw (eq-eqb (length (hexadecimal s)) 8 z) (hex-back s p.bytes)
      go (inr e) = let z : length (hexadecimal s) ≡ 14 = length-hex s ∙ omega arith in rw (z) (hex-back s p.bytes)

  d-back : serial_d (padded (digits_for (length s)) (number_of s)) ≡ some s
  d-back = go p.width
    where
      room : (k : ℕ) → 256 ^ length s ≤ 10 ^ k → read_decimal 0 (padded k (number_of s)) ≡ some (number_of s)
      room k h = let z = number_small s p.bytes in padded-value k (number_of s) (omega arith)

      held : (w : ℕ) → length s ≡ w → within w (some (number_of s)) ≡ some s
      held w e =
          let z : number_of s < 256 ^ w = rw e at (number_small s p.bytes) in
          rw (lt-ltb (number_of s) (256 ^ w) z) (ap some (rw e at (bytes-number s p.bytes)))

      ten : (t : List ℕ) → length t ≡ 10 → serial_d t ≡ within 4 (read_decimal 0 t)
      ten t l = d-ten-is t l

      seventeen : (t : List ℕ) → length t ≡ 17 → serial_d t ≡ within 7 (read_decimal 0 t)
      seventeen t l = d-seventeen-is t l

      go : (length s ≡ 4) ⊎ (length s ≡ 7) → serial_d (padded (digits_for (length s)) (number_of s)) ≡ some s
      go (inl e) =
          let q : 256 ^ length s ≤ 10 ^ 10 = rw e (omega arith) in
          rw (eq-eqb (length s) 4 e)
          (ten (padded 10 (number_of s)) (length-padded 10 (number_of s)) ∙ ap (within 4) (room 10 q) ∙ held 4 e)
      go (inr e) =
          let q : 256 ^ length s ≤ 10 ^ 17 = rw e (omega arith) in
          let n : length s ≡ 4 → ⊥ = λ h. omega arith in
          rw (ne_eqb (length s) 4 n)
          (seventeen (padded 17 (number_of s)) (length-padded 17 (number_of s)) ∙ ap (within 7) (room 17 q) ∙ held 7 e)

free-spell : (c : ℕ) (s : List ℕ) → IsSerial s → Free 59 (spell c s)
unfolding spell
free-spell c s p = go (eqb c 72)
  where
    go : (t : Bool) → Free 59 (cond t (hexadecimal s) (padded (digits_for (length s)) (number_of s)))
    go true = free-hex s p.bytes
    go false = free-padded (digits_for (length s)) (number_of s)

-- a serial spelt with a letter is read back with it
pub serial-back : (c : ℕ) (s : List ℕ) → IsSerial s → (c ≡ letter_h) ⊎ (c ≡ letter_d) → serial_of c (spell c s) ≡ some s
unfolding serial_of spell
serial-back c s p (inl e) = rw e (h-back s p)
serial-back c s p (inr e) = rw e (d-back s p)

-- ---- a serial that was read

record Spelt (c : ℕ) (t s : List ℕ) : Type 0 where
  pub letter : (c ≡ letter_h) ⊎ (c ≡ letter_d)
  pub serial : IsSerial s
  pub text : t ≡ spell c s

h-spelt : (t s : List ℕ) → serial_h t ≡ some s → Spelt 72 t s
unfolding serial_h spell
h-spelt t s h = go (eqb (length t) 8) refl (eqb (length t) 14) refl h
  where
    halves : (w : ℕ) → length t ≡ 2 * w → read_hex t ≡ some s → length s ≡ w
    halves w l e = let z = hex-length t s e in omega arith

    go : (a : Bool) → eqb (length t) 8 ≡ a → (b : Bool) → eqb (length t) 14 ≡ b → cond (a || b) (read_hex t) none ≡ some s → Spelt 72 t s
    go true p b q h =
        let k = hexed t s h in
        record { letter = inl refl; serial = record { width = inl (halves 4 (eqb-true (length t) 8 p) h); bytes = k.small }; text = sym k.text }
    go false p true q h =
        let k = hexed t s h in
        record { letter = inl refl; serial = record { width = inr (halves 7 (eqb-true (length t) 14 q) h); bytes = k.small }; text = sym k.text }
    go false p false q h = absurd (some-ne-none s (sym h))

-- a number within w bytes
record Held (w : ℕ) (t s : List ℕ) : Type 0 where
  pub number : ℕ
  pub read : read_decimal 0 t ≡ some number
  pub small : number < 256 ^ w
  pub bytes : s ≡ bytes_of w number

held_of : (w : ℕ) (t s : List ℕ) → within w (read_decimal 0 t) ≡ some s → Held w t s
held_of w t s h = go (read_decimal 0 t) refl h
  where
    go : (o : Option ℕ) → read_decimal 0 t ≡ o → within w o ≡ some s → Held w t s
    go none e h = absurd (some-ne-none s (sym h))
    go (some n) e h = in_two (ltb n (256 ^ w)) refl h
      where
        in_two : (b : Bool) → ltb n (256 ^ w) ≡ b → cond b (some (bytes_of w n)) none ≡ some s → Held w t s
        in_two true q h = record { number = n; read = e; small = ltb-true n (256 ^ w) q; bytes = sym (some-injective (bytes_of w n) s h) }
        in_two false q h = absurd (some-ne-none s (sym h))

-- the digits of a serial of w bytes are those of its number
held-text : (w k : ℕ) (t s : List ℕ) → Held w t s → length t ≡ k → digits_for w ≡ k → t ≡ padded (digits_for (length s)) (number_of s)
held-text w k t s p l d =
    let a : length s ≡ w = ap length p.bytes ∙ length-bytes w p.number in
    let b : number_of s ≡ p.number = ap number_of p.bytes ∙ number-bytes w p.number p.small in
    let e : digits_for (length s) ≡ length t = ap digits_for a ∙ d ∙ sym l in
    sym (ap (λ (j : ℕ). padded j (number_of s)) e ∙ ap (padded (length t)) b ∙ padded-back t p.number p.read)

held-width : (w : ℕ) (t s : List ℕ) → Held w t s → length s ≡ w
held-width w t s p = ap length p.bytes ∙ length-bytes w p.number

held_small : (w : ℕ) (t s : List ℕ) → Held w t s → (i : ℕ) → get_or s i 0 < 256
held_small w t s p i = rw p.bytes (bytes_small w p.number i)

d-spelt : (t s : List ℕ) → serial_d t ≡ some s → Spelt 68 t s
unfolding spell
d-spelt t s h = go (eqb (length t) 10) refl (eqb (length t) 17) refl
  where
    go : (a : Bool) → eqb (length t) 10 ≡ a → (b : Bool) → eqb (length t) 17 ≡ b → Spelt 68 t s
    go true p b q =
        let l = eqb-true (length t) 10 p in
        let k = held_of 4 t s (sym (d-ten-is t l) ∙ h) in
        record { letter = inr refl; serial = record { width = inl (held-width 4 t s k); bytes = held_small 4 t s k }; text = held-text 4 10 t s k l refl }
    go false p true q =
        let l = eqb-true (length t) 17 q in
        let k = held_of 7 t s (sym (d-seventeen-is t l) ∙ h) in
        record { letter = inr refl; serial = record { width = inr (held-width 7 t s k); bytes = held_small 7 t s k }; text = held-text 7 17 t s k l refl }
    go false p false q = absurd (some-ne-none s (sym h ∙ d-none-is t p q))

serial-spelt : (c : ℕ) (t s : List ℕ) → serial_of c t ≡ some s → Spelt c t s
unfolding serial_of
serial-spelt c t s h = go (eqb c 72) refl (eqb c 68) refl h
  where
    go : (a : Bool) → eqb c 72 ≡ a → (b : Bool) → eqb c 68 ≡ b → cond a (serial_h t) (cond b (serial_d t) none) ≡ some s → Spelt c t s
    go true p b q h = let z : c ≡ 72 = eqb-true c 72 p in rw z (h-spelt t s h)
    go false p true q h = let z : c ≡ 68 = eqb-true c 68 q in rw z (d-spelt t s h)
    go false p false q h = absurd (some-ne-none s (sym h))

-- ---- amounts

digits_value : (m n : ℕ) → n < 10 ^ m → 1 ≤ m → read_decimal 0 (digits m n) ≡ some n
digits_value zero n h k = absurd (omega arith)
digits_value (suc m) n h k = go (ltb n 10) refl (digits_value m (n / 10))
  where
    go : (t : Bool) → ltb n 10 ≡ t → (n / 10 < 10 ^ m → 1 ≤ m → read_decimal 0 (digits m (n / 10)) ≡ some (n / 10))
        → read_decimal 0 (cond t ((48 + n) ∷ []) (digits m (n / 10) ++ ((48 + n % 10) ∷ []))) ≡ some n
    go true e ih =
        let z = ltb-true n 10 e in
        let y : 10 * 0 + n ≡ n = omega arith in
        decimal-next 0 (48 + n) n [] (sym (value-digit n z)) z ∙ decimal-done (10 * 0 + n) ∙ ap some y
    go false e ih =
        let z = ltb-false n 10 e in
        let p = pow-succ' 10 m in
        let q : n / 10 < 10 ^ m = omega arith in
        let r : 10 * (n / 10) + n % 10 ≡ n = omega arith in
        read_more (digits m (n / 10)) (n / 10) (n % 10) (ih q (power m q)) (omega arith) ∙ ap some r
      where
        power : (m : ℕ) → n / 10 < 10 ^ m → 1 ≤ m
        power zero q = let z = ltb-false n 10 e in absurd (omega arith)
        power (suc m) q = omega arith

pub digits-few : (m k n : ℕ) → n < 10 ^ suc k → length (digits m n) ≤ suc k
digits-few zero k n h = omega arith
digits-few (suc m) k n h = go (ltb n 10) refl k h (digits-few m)
  where
    go : (t : Bool) → ltb n 10 ≡ t → (k : ℕ) → n < 10 ^ suc k → ((k n : ℕ) → n < 10 ^ suc k → length (digits m n) ≤ suc k)
        → length (cond t ((48 + n) ∷ []) (digits m (n / 10) ++ ((48 + n % 10) ∷ []))) ≤ suc k
    go true e k h ih = omega arith
    go false e zero h ih = let z = ltb-false n 10 e in let y : n < 10 = h in absurd (omega arith)
    go false e (suc k) h ih =
        let p = pow-succ' 10 (suc k) in
        let q : n / 10 < 10 ^ suc k = omega arith in
        let r = ih k (n / 10) q in
        rw (length-append (digits m (n / 10)) ((48 + n % 10) ∷ [])) (omega arith)

digits-some : (m n : ℕ) → 1 ≤ n → n < 10 ^ m → 1 ≤ length (digits m n)
digits-some zero n h k = absurd (omega arith)
digits-some (suc m) n h k = go (ltb n 10)
  where
    go : (t : Bool) → 1 ≤ length (cond t ((48 + n) ∷ []) (digits m (n / 10) ++ ((48 + n % 10) ∷ [])))
    go true = omega arith
    go false = rw (length-append (digits m (n / 10)) ((48 + n % 10) ∷ [])) (omega arith)

digits-front : (m n : ℕ) → 1 ≤ n → n < 10 ^ m → get_or (digits m n) 0 0 ≡ 48 → ⊥
digits-front zero n h k = λ e. omega arith
digits-front (suc m) n h k = go (ltb n 10) refl (digits-front m (n / 10))
  where
    go : (t : Bool) → ltb n 10 ≡ t → (1 ≤ n / 10 → n / 10 < 10 ^ m → get_or (digits m (n / 10)) 0 0 ≡ 48 → ⊥)
        → get_or (cond t ((48 + n) ∷ []) (digits m (n / 10) ++ ((48 + n % 10) ∷ []))) 0 0 ≡ 48 → ⊥
    go true e ih q = omega arith
    go false e ih q =
        let z = ltb-false n 10 e in
        let p = pow-succ' 10 m in
        let u : n / 10 < 10 ^ m = omega arith in
        let v : 1 ≤ n / 10 = omega arith in
        ih v u (sym (get_or-append (digits m (n / 10)) ((48 + n % 10) ∷ []) 0 0 (digits-some m (n / 10) v u)) ∙ q)

-- the tests of an amount, of any digits
amount-of : (t : List ℕ) (n : ℕ) → 1 ≤ length t → length t ≤ 8 → (length t ≡ 1) ⊎ (get_or t 0 0 ≡ 48 → ⊥) → read_decimal 0 t ≡ some n → amount_of t ≡ some n
unfolding amount_of
amount-of t n a b (inl c) e = rw (c) e
amount-of t n a b (inr c) e = rw (le-leb 1 (length t) a, le-leb (length t) 8 b, ne_eqb (get_or t 0 0) 48 c) (go (eqb (length t) 1))
  where
    go : (u : Bool) → cond (u || true) (read_decimal 0 t) none ≡ some n
    go true = e
    go false = e

amount-in : (m n : ℕ) → 1 ≤ n → n < 100000000 → n < 10 ^ m → amount_of (digits m n) ≡ some n
amount-in m n h k l =
    amount-of (digits m n) n (digits-some m n h l) (digits-few m 7 n k) (inr (digits-front m n h l)) (digits_value m n l (least m l))
  where
    least : (m : ℕ) → n < 10 ^ m → 1 ≤ m
    least zero q = absurd (omega arith)
    least (suc m) q = omega arith

pub amount-back : (n : ℕ) → n < 100000000 → amount_of (decimal n) ≡ some n
unfolding amount_of read_decimal digit_value
amount-back zero h = refl
amount-back (suc n) h = amount-in 20 (suc n) (omega arith) h (omega arith)

decimal-bound : (t : List ℕ) (a n k : ℕ) → a < 10 ^ k → read_decimal a t ≡ some n → n < 10 ^ (k + length t)
decimal-bound [] a n k h e =
    let z : a ≡ n = some-injective a n (sym (decimal-done a) ∙ e) in
    let y : k + 0 ≡ k = omega arith in
    rw (y, ← z) h
decimal-bound (c ∷ t) a n k h e =
    let s = decimal_step a c n t e in
    let p = pow-succ' 10 k in
    let y : suc k + length t ≡ k + suc (length t) = omega arith in
    rw y at (decimal-bound t (10 * a + digit_value c) n (suc k) (omega (arith, s.value)) s.rest)

pub amount-small : (t : List ℕ) (n : ℕ) → amount_of t ≡ some n → n < 100000000
amount-small t n h =
    let c = cents-of t n h in
    let a : n < 10 ^ (0 + length t) = decimal-bound t 0 n 0 (omega arith) c.number in
    let z : 0 < 10 = omega arith in
    let y : 0 + length t ≤ 8 = omega (arith, c.few-digits) in
    let b : 10 ^ (0 + length t) ≤ 100000000 = pow-le-pow_right z {i = 0 + length t} {j = 8} y in
    omega arith

-- ---- lines

-- a line put together from a serial's text, a letter and an amount's digits
put-together : (c : ℕ) (t ds s : List ℕ) (n : ℕ) → Free 59 t → serial_of c t ≡ some s → amount_of ds ≡ some n
    → entry_of (t ++ (59 ∷ c ∷ 59 ∷ ds)) ≡ some (record { letter = c; serial = s; amount = n })
unfolding entry_of split
put-together c t ds s n f e g =
    let k : before 59 (t ++ (59 ∷ c ∷ 59 ∷ ds)) ≡ t = before-free 59 t (c ∷ 59 ∷ ds) f in
    rw (
      k,
      get_or-append-add t (59 ∷ c ∷ 59 ∷ ds) 2 0,
      get_or-append-add t (59 ∷ c ∷ 59 ∷ ds) 1 0,
      take-append_seam t (59 ∷ c ∷ 59 ∷ ds),
      drop-append-add t (59 ∷ c ∷ 59 ∷ ds) 3,
      e,
      g,
    )

-- what a line says is what was written
pub read_back : (e : Entry) → Proper e → entry_of (line_text e.letter e.serial e.amount) ≡ some e
unfolding line_text
read_back e p =
    put-together e.letter (spell e.letter e.serial) (decimal e.amount) e.serial e.amount
    (free-spell e.letter e.serial p.serial)
    (serial-back e.letter e.serial p.serial p.letter)
    (amount-back e.amount p.amount)

-- the byte behind those before x is x
pub before-stop : (x : ℕ) (l : List ℕ) → length (before x l) < length l → get_or l (length (before x l)) 0 ≡ x
before-stop x [] h = absurd (omega arith)
before-stop x (c ∷ l) h = go (eqb c x) refl (before-stop x l)
  where
    go : (t : Bool) → eqb c x ≡ t → (length (before x l) < length l → get_or l (length (before x l)) 0 ≡ x) → get_or (c ∷ l) (length (before x (c ∷ l))) 0 ≡ x
    go true e ih = let q = eqb-true c x e in rw (before-hit x c l q) q
    go false e ih =
        let q : before x (c ∷ l) ≡ c ∷ before x l = before-miss x c l (eqb-false c x e) in
        let z : length (before x (c ∷ l)) ≡ suc (length (before x l)) = ap length q in
        rw q (ih (omega arith))

-- a line that is of the form
pub record Says (l : List ℕ) (e : Entry) : Type 0 where
  pub proper : Proper e
  pub text : l ≡ line_text e.letter e.serial e.amount
  pub cents : drop (length (before 59 l) + 3) l ≡ decimal e.amount

three-bytes : (l : List ℕ) (k : ℕ) → k + 2 < length l → drop k l ≡ get_or l k 0 ∷ get_or l (k + 1) 0 ∷ get_or l (k + 2) 0 ∷ drop (k + 3) l
three-bytes l k h =
    let a : k + 1 + 1 ≡ k + 2 = omega arith in
    let b : k + 2 + 1 ≡ k + 3 = omega arith in
    next-byte l k (omega arith)
    ∙ ap (λ (t : List ℕ). get_or l k 0 ∷ t)
    (next-byte l (k + 1) (omega arith)
    ∙ ap (λ (t : List ℕ). get_or l (k + 1) 0 ∷ t)
    (ap (λ (j : ℕ). drop j l) a ∙ next-byte l (k + 2) (omega arith) ∙ ap (λ (j : ℕ). get_or l (k + 2) 0 ∷ drop j l) b))

line_as : (c : ℕ) (x : List ℕ) (n : ℕ) (t ds : List ℕ) → t ≡ spell c x → ds ≡ decimal n → t ++ (59 ∷ c ∷ 59 ∷ ds) ≡ line_text c x n
unfolding line_text
line_as c x n t ds v d = rw (v, d)

pub read_is : (l : List ℕ) (e : Entry) → entry_of l ≡ some e → Says l e
unfolding entry_of split
read_is l e h = go (eqb (get_or l (length (before 59 l) + 2) 0) 59) refl h
  where
    apart : (k : ℕ) → k ≡ length (before 59 l) → get_or l (k + 2) 0 ≡ 59 → l ≡ take k l ++ (59 ∷ get_or l (k + 1) 0 ∷ 59 ∷ drop (k + 3) l)
    apart k q s =
        let m : k + 2 < length l = inside (ltb (k + 2) (length l)) refl in
        let z : get_or l k 0 ≡ 59 = rw (← q) at (before-stop 59 l (rw (← q) (omega arith))) in
        sym (take-append-drop k l) ∙ ap (λ (t : List ℕ). take k l ++ t) (three-bytes l k m ∙ rw (z, s))
      where
        inside : (b : Bool) → ltb (k + 2) (length l) ≡ b → k + 2 < length l
        inside true p = ltb-true (k + 2) (length l) p
        inside false p =
            let z : get_or l (k + 2) 0 ≡ 0 = get_or-eq_default l 0 (ltb-false (k + 2) (length l) p) in
            absurd (omega (arith, z, s))

    both : (k : ℕ) → k ≡ length (before 59 l) → get_or l (k + 2) 0 ≡ 59 → (o : Option (List ℕ)) → serial_of (get_or l (k + 1) 0) (take k l) ≡ o
        → (a : Option ℕ) → amount_of (drop (k + 3) l) ≡ a → entry (get_or l (k + 1) 0) o a ≡ some e → Says l e
    both k q s none p a g h = absurd (some-ne-none e (sym h))
    both k q s (some x) p none g h = absurd (some-ne-none e (sym h))
    both k q s (some x) p (some n) g h =
        let z = some-injective (record { letter = get_or l (k + 1) 0; serial = x; amount = n }) e h in
        let w = serial-spelt (get_or l (k + 1) 0) (take k l) x p in
        let d : decimal n ≡ drop (k + 3) l = cents-text (drop (k + 3) l) n g in
        rw (← z)
        (says (get_or l (k + 1) 0) x n (take k l) (drop (k + 3) l) w (amount-small (drop (k + 3) l) n g) (apart k q s) w.text (sym d) (ap (λ (j : ℕ). drop (j + 3) l) (sym q)))
      where
        says : (c : ℕ) (x : List ℕ) (n : ℕ) (t ds : List ℕ) → Spelt c t x → n < 100000000 → l ≡ t ++ (59 ∷ c ∷ 59 ∷ ds) → t ≡ spell c x → ds ≡ decimal n
            → drop (length (before 59 l) + 3) l ≡ ds → Says l (record { letter = c; serial = x; amount = n })
        says c x n t ds w m u v d f =
            record {
              proper = record { letter = w.letter; serial = w.serial; amount = m };
              text = u ∙ line_as c x n t ds v d;
              cents = f ∙ d;
            }

    go : (b : Bool) → eqb (get_or l (length (before 59 l) + 2) 0) 59 ≡ b
        → cond b
        (entry (get_or l (length (before 59 l) + 1) 0) (serial_of (get_or l (length (before 59 l) + 1) 0) (take (length (before 59 l)) l)) (amount_of (drop (length (before 59 l) + 3) l)))
        none
        ≡ some e → Says l e
    go true p h =
        both (length (before 59 l)) refl (eqb-true (get_or l (length (before 59 l) + 2) 0) 59 p) (serial_of (get_or l (length (before 59 l) + 1) 0) (take (length (before 59 l)) l)) refl
        (amount_of (drop (length (before 59 l) + 3) l)) refl h
    go false p h = absurd (some-ne-none e (sym h))
