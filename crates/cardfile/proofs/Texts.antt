-- A text with a line of the form at a place has its card there: with `stands`, a card stands exactly where its line does. Assumes nothing.
use Prim.Native.Nat.{ℕ, zero, suc, ◌+◌, ◌/◌, ◌%◌, ◌≤◌}
use mathlib.Core.Path.{◌≡◌, refl, ap, ◌∙◌}
use mathlib.Core.Bool.{Bool, true, false, cond}
use mathlib.Core.List.{List, [], ◌∷◌, ◌++◌}
use mathlib.Core.Logic.{◌⊎◌, inl, inr}
use native.Mathlib.Omega.{arith}
use lib.ListN.{length, drop, length-append, length-drop}
use lib.Dec.{eqb, ltb}
use borrow.Author.Tests.{lt-ltb, le-ltb, lt-leb}
use Rattle.spec.specs.Listing.{digits, decimal, hex_digit, hexadecimal}
use Rattle.cardfile.specs.Cards.{IsSerial, Proper, Entry, letter_h, letter_d, number_of, padded, digits_for, spell, line_text, before}
use Rattle.cardfile.specs.Lines.{card, standing_in, standing}
use Rattle.cardfile.proofs.Laws.{before-hit, before-miss}
use Rattle.cardfile.proofs.Spellings.{length-hex, length-padded, digits-few, read_back}

-- bytes from 48 on: no feed is among them
unfoldable pub Printed : List ℕ → Type 0
Printed [] = Unit {0}
Printed (c ∷ t) = (48 ≤ c) × Printed t

printed-append : (s t : List ℕ) → Printed s → Printed t → Printed (s ++ t)
unfolding Printed
printed-append [] t f g = g
printed-append (c ∷ s) t f g = (f.0, printed-append s t f.1 g)

digit-printed : (n : ℕ) → 48 ≤ hex_digit n
digit-printed n = go (ltb n 10)
  where
    go : (t : Bool) → 48 ≤ cond t (48 + n) (55 + n)
    go true = omega arith
    go false = omega arith

hex-printed : (s : List ℕ) → Printed (hexadecimal s)
unfolding Printed
hex-printed [] = tt
hex-printed (x ∷ s) = (digit-printed (x / 16), (digit-printed (x % 16), hex-printed s))

padded-printed : (k n : ℕ) → Printed (padded k n)
unfolding Printed padded
padded-printed zero n = tt
padded-printed (suc k) n = printed-append (padded k (n / 10)) ((48 + n % 10) ∷ []) (padded-printed k (n / 10)) (omega arith, tt)

digits-printed : (m n : ℕ) → Printed (digits m n)
unfolding Printed
digits-printed zero n = tt
digits-printed (suc m) n = go (ltb n 10) (digits-printed m (n / 10))
  where
    go : (t : Bool) → Printed (digits m (n / 10)) → Printed (cond t ((48 + n) ∷ []) (digits m (n / 10) ++ ((48 + n % 10) ∷ [])))
    go true ih = (omega arith, tt)
    go false ih = printed-append (digits m (n / 10)) ((48 + n % 10) ∷ []) ih (omega arith, tt)

spell-printed : (c : ℕ) (s : List ℕ) → Printed (spell c s)
unfolding spell
spell-printed c s = go (eqb c letter_h)
  where
    go : (t : Bool) → Printed (cond t (hexadecimal s) (padded (digits_for (length s)) (number_of s)))
    go true = hex-printed s
    go false = padded-printed (digits_for (length s)) (number_of s)

pub line-printed : (e : Entry) → Proper e → Printed (line_text e.letter e.serial e.amount)
unfolding line_text Printed
line-printed e p =
    printed-append (spell e.letter e.serial) (59 ∷ e.letter ∷ 59 ∷ decimal e.amount) (spell-printed e.letter e.serial)
    (omega arith, (letter p.letter, (omega arith, digits-printed 20 e.amount)))
  where
    letter : (e.letter ≡ letter_h) ⊎ (e.letter ≡ letter_d) → 48 ≤ e.letter
    letter (inl q) = omega (arith, q)
    letter (inr q) = omega (arith, q)

before-printed : (l r : List ℕ) → Printed l → before 10 (l ++ (10 ∷ r)) ≡ l
unfolding Printed
before-printed [] r p = before-hit 10 10 r refl
before-printed (c ∷ l) r p =
    let z : c ≡ 10 → ⊥ = λ q. omega (arith, p.0) in
    before-miss 10 c (l ++ (10 ∷ r)) z ∙ ap (λ (t : List ℕ). c ∷ t) (before-printed l r p.1)

spell-short : (c : ℕ) (s : List ℕ) → IsSerial s → length (spell c s) ≤ 17
unfolding spell
spell-short c s p = go (eqb c letter_h) p.width
  where
    few : (t : Bool) → cond t 10 17 ≤ 17
    few true = omega arith
    few false = omega arith

    go : (t : Bool) → (length s ≡ 4) ⊎ (length s ≡ 7) → length (cond t (hexadecimal s) (padded (digits_for (length s)) (number_of s))) ≤ 17
    go true (inl e) = omega (arith, length-hex s, e)
    go true (inr e) = omega (arith, length-hex s, e)
    go false w = rw (length-padded (digits_for (length s)) (number_of s)) (few (eqb (length s) 4))

-- a line of the form is never too long
pub line-short : (e : Entry) → Proper e → length (line_text e.letter e.serial e.amount) ≤ 64
unfolding line_text
line-short e p =
    let a = length-append (spell e.letter e.serial) (59 ∷ e.letter ∷ 59 ∷ decimal e.amount) in
    let b = spell-short e.letter e.serial p.serial in
    let c : length (decimal e.amount) ≤ 8 = digits-few 20 7 e.amount p.amount in
    omega (arith, a, b, c)

module _ (text : List ℕ) (at : ℕ) (e : Entry) (r : List ℕ) (p : Proper e) where
  abbrev line : List ℕ
  line = line_text e.letter e.serial e.amount

  pub line-stands : drop at text ≡ line ++ (10 ∷ r) → standing text at ≡ card e (at + length line + 1)
  unfolding standing standing_in
  line-stands h =
      let n : length (drop at text) ≡ length line + suc (length r) = ap length h ∙ length-append line (10 ∷ r) in
      let d = length-drop at text in
      let l : before 10 (drop at text) ≡ line = ap (before 10) h ∙ before-printed line r (line-printed e p) in
      rw (lt-leb (length text) at (omega (arith, n, d)), l, le-ltb 64 (length line) (line-short e p), lt-ltb (length line) (length (drop at text)) (omega (arith, n)), read_back e p)
