-- What the two passes over a file compute, for the contracts of this crate.
use Rattle.std.specs.Prelude.{ℕ, ◌+◌, ◌*◌, cond, List, [], ◌∷◌, length, eqb, leb, Option, Some, None, Result, Ok, Err}
use Rattle.spec.specs.Answers.{Answer, refused, counted}
use Rattle.cardfile.specs.declared.Card.{Card}
use Rattle.cardfile.specs.declared.Line.{Line}
use Rattle.cardfile.specs.declared.LineFault.{LineFault}
use Rattle.cardfile.specs.Cards.{letter_h, digits_for}
use Rattle.converter.specs.declared.ConvertFault.{ConvertFault}
use Rattle.converter.specs.declared.ConvertFault.TheVariants.{BadLine}
use Rattle.converter.specs.Convert.{Conversion, output, refusal}

-- the answer for a buffer of so many bytes, behind the bytes already counted; none where these do not fit
unfoldable pub answer_behind : ℕ → Option ℕ → Conversion → Answer
answer_behind most room (refusal k n) = refused k (n ∷ [])
answer_behind most None (output u) = refused 25 []
answer_behind most (Some total) (output u) = cond (leb (total + length u) most) (counted (total + length u)) (refused 25 [])

abbrev pub answer_for : ℕ → Conversion → Answer
answer_for most c = answer_behind most (Some 0) c

-- the card of a line, or its fault with its number
abbrev pub card_told : ℕ → Result Line LineFault → Result Card ConvertFault
card_told line (Ok found) = Ok found.card
card_told line (Err fault) = Err (BadLine line fault)

-- the output, none for a file that is refused
abbrev pub output_of : Conversion → List ℕ
output_of (refusal k n) = []
output_of (output u) = u

-- how many bytes a serial is spelt in
abbrev pub spelt_size : ℕ → ℕ → ℕ
spelt_size wanted width = cond (eqb wanted letter_h) (2 * width) (digits_for width)
