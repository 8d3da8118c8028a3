-- Names and serials: each name is of one serial, the two spellings of a serial are one card, and what the code answers of a serial is the serial. Assumes nothing.
use Prim.Native.Nat.{ℕ, zero, suc, ◌<◌, ◌≤◌, ◌^◌}
use mathlib.Core.Path.{◌≡◌, refl, sym, ap, ◌∙◌}
use mathlib.Core.Bool.{true}
use mathlib.Core.List.{List, [], ◌∷◌}
use mathlib.Core.Option.{none, some, some-injective}
use mathlib.Core.Logic.{◌⊎◌, inl, inr}
use native.Mathlib.Omega.{arith}
use lib.ListN.{length, take, get_or}
use borrow.Author.Tests.{le-ltb}
use Rattle.spec.specs.Bytes.{exactly}
use Rattle.spec.specs.Inode.{is_name}
use Rattle.cardfile.proofs.Laws.{length-bytes}
use Rattle.cardfile.specs.Cards.{IsSerial, Proper, letter_h, letter_d, number_of, name_of, amount_bytes, padded, spell, line_text, digit_value, read_decimal, within, serial_d, serial_of, Entry, entry_of}
use Rattle.cardfile.specs.Lines.{name_told}
use Rattle.cardfile.proofs.Forms.{name-is}
use Rattle.cardfile.proofs.Spellings.{serial-back, number_small, bytes-number, read_back}

-- ---- a name is of one serial

pub exactly-front : (k : ℕ) (s : List ℕ) → length s ≤ k → take (length s) (exactly k s) ≡ s
exactly-front k [] h = refl
exactly-front zero (x ∷ s) h = absurd (omega arith)
exactly-front (suc k) (x ∷ s) h = ap (λ (l : List ℕ). x ∷ l) (exactly-front k s (omega arith))

width_small : (s : List ℕ) → IsSerial s → length s ≤ 7
width_small s p = go p.width
  where
    go : (length s ≡ 4) ⊎ (length s ≡ 7) → length s ≤ 7
    go (inl e) = omega arith
    go (inr e) = omega arith

tail : List ℕ → List ℕ
tail [] = []
tail (x ∷ s) = s

pub name-exact : (s t : List ℕ) → IsSerial s → IsSerial t → name_of s ≡ name_of t → s ≡ t
unfolding name_of tail
name-exact s t p q e =
    let n : length s ≡ length t = ap (λ (l : List ℕ). get_or l 0 0) e in
    let m : exactly 7 s ≡ exactly 7 t = ap tail e in
    sym (exactly-front 7 s (width_small s p)) ∙ ap (take (length s)) m ∙ ap (λ (k : ℕ). take k (exactly 7 t)) n ∙ exactly-front 7 t (width_small t q)

-- ---- refusal 3 cannot occur: a card's name is a name

pub name-is-name : (s : List ℕ) → IsSerial s → is_name (name_of s) ≡ true
unfolding name_of is_name
name-is-name s p = go p.width
  where
    eight : (k : ℕ) (t : List ℕ) → length (exactly k t) ≡ k
    eight zero t = refl
    eight (suc k) [] = ap suc (eight k [])
    eight (suc k) (x ∷ t) = ap suc (eight k t)

    go : (length s ≡ 4) ⊎ (length s ≡ 7) → is_name (exactly 8 (length s ∷ s)) ≡ true
    go (inl e) = rw (e, eight 7 s)
    go (inr e) = rw (e, eight 7 s)

pub amount-length : (n : ℕ) → length (amount_bytes n) ≡ 8
unfolding amount_bytes
amount-length n = length-bytes 8 n

-- ---- the two spellings of a serial are one card, and no other is spelt so

pub one-card : (s : List ℕ) → IsSerial s → (serial_of letter_h (spell letter_h s) ≡ some s) × (serial_of letter_d (spell letter_d s) ≡ some s)
one-card s p = (serial-back letter_h s p (inl refl), serial-back letter_d s p (inr refl))

pub spell-exact : (c : ℕ) (s t : List ℕ) → (c ≡ letter_h) ⊎ (c ≡ letter_d) → IsSerial s → IsSerial t → spell c s ≡ spell c t → s ≡ t
spell-exact c s t l p q e = some-injective s t (sym (serial-back c s p l) ∙ ap (serial_of c) e ∙ serial-back c t q l)

-- a line says one thing, and one thing has one line for each letter
pub line-exact : (d e : Entry) → Proper d → Proper e → line_text d.letter d.serial d.amount ≡ line_text e.letter e.serial e.amount → d ≡ e
line-exact d e p q h = some-injective d e (sym (read_back d p) ∙ ap entry_of h ∙ read_back e q)

-- a number that the bytes do not hold is no serial, with any digits
pub too_large : (t : List ℕ) (n w : ℕ) → read_decimal 0 t ≡ some n → 256 ^ w ≤ n → within w (read_decimal 0 t) ≡ none
too_large t n w e h = rw (e, le-ltb n (256 ^ w) h)

-- ---- what the code answers of a serial

pub number_fits : (e : Entry) → Proper e → number_of e.serial < 256 ^ length e.serial
number_fits e p = number_small e.serial p.serial.bytes

pub width_fits : (e : Entry) → Proper e → length e.serial ≤ 7
width_fits e p = width_small e.serial p.serial

-- the name that the code makes is that of the serial
pub name-told : (e : Entry) → Proper e → name_told (length e.serial) (number_of e.serial) ≡ name_of e.serial
name-told e p =
    name-is (length e.serial) (number_of e.serial) (width_fits e p) (number_fits e p) ∙ ap name_of (bytes-number e.serial p.serial.bytes)

-- ---- the paper's own card: "04A1B2C3 with H and 3283263748 with D are one card"

card : List ℕ
card = 4 ∷ 161 ∷ 178 ∷ 195 ∷ []

-- 04A1B2C3
in-h : spell letter_h card ≡ 48 ∷ 52 ∷ 65 ∷ 49 ∷ 66 ∷ 50 ∷ 67 ∷ 51 ∷ []
unfolding spell card
in-h = refl

-- 3283263748
in-d : spell letter_d card ≡ 51 ∷ 50 ∷ 56 ∷ 51 ∷ 50 ∷ 54 ∷ 51 ∷ 55 ∷ 52 ∷ 56 ∷ []
unfolding spell card padded number_of
in-d = refl

name-of-card : name_of card ≡ 4 ∷ 4 ∷ 161 ∷ 178 ∷ 195 ∷ 0 ∷ 0 ∷ 0 ∷ []
unfolding name_of card
name-of-card = refl

-- 4294967296 with D
above : serial_of letter_d (52 ∷ 50 ∷ 57 ∷ 52 ∷ 57 ∷ 54 ∷ 55 ∷ 50 ∷ 57 ∷ 54 ∷ []) ≡ none
unfolding serial_of serial_d read_decimal digit_value
above = refl
