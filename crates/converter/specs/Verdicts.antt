-- What a line is refused with by itself, and the cards of a file: what the theorems about conversions speak of.
use Rattle.std.specs.Prelude.{ℕ, zero, suc, cond, List, [], ◌∷◌, length, eqb, ltb}
use Rattle.std.proofs.Math.Option.{Option, none, some}
use Rattle.cardfile.specs.Cards.{Entry, entry_of}
use Rattle.cardfile.specs.Lines.{letter_of, split_lines}
use Rattle.cardfile.specs.declared.Spelling.{Spelling}
use Rattle.cardfile.specs.declared.Spelling.TheVariants.{Hexadecimal, Decimal}

-- ---- one line

-- 21, 24
abbrev pub entry_verdict : ℕ → Option Entry → Option ℕ
entry_verdict wanted none = some 21
entry_verdict wanted (some e) = cond (eqb e.letter wanted) (some 24) none

-- a line that has its feed: "per line 20, 21, 24"; none where it is converted
unfoldable pub verdict : ℕ → List ℕ → Option ℕ
verdict wanted l = cond (ltb 64 (length l)) (some 20) (entry_verdict wanted (entry_of l))

-- what stands behind the last feed
unfoldable pub last_verdict : List ℕ → Option ℕ
last_verdict [] = none
last_verdict (c ∷ l) = cond (ltb 64 (length (c ∷ l))) (some 20) (some 21)

-- of line i of some lines, counted from 0; behind the last, none
unfoldable pub verdict_at : ℕ → List (List ℕ) → ℕ → Option ℕ
verdict_at wanted [] i = none
verdict_at wanted (l ∷ []) zero = last_verdict l
verdict_at wanted (l ∷ []) (suc i) = none
verdict_at wanted (l ∷ m ∷ ls) zero = verdict wanted l
verdict_at wanted (l ∷ m ∷ ls) (suc i) = verdict_at wanted (m ∷ ls) i

-- ---- cards

abbrev pub other : Spelling → Spelling
other Hexadecimal = Decimal
other Decimal = Hexadecimal

-- what a line says, with the letter of a spelling
abbrev pub in_spelling : Spelling → Entry → Entry
in_spelling s e = record { letter = letter_of s; serial = e.serial; amount = e.amount }

abbrev pub and_card : Option Entry → List Entry → List Entry
and_card none es = es
and_card (some e) es = e ∷ es

-- what those lines say that are of the form, in their order
unfoldable pub cards_of : List (List ℕ) → List Entry
cards_of [] = []
cards_of (l ∷ ls) = and_card (entry_of l) (cards_of ls)

-- of a whole file
abbrev pub cards_in : List ℕ → List Entry
cards_in text = cards_of (split_lines text)
