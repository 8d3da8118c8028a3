-- What stands at a place of a text, and what the code answers of it.
use Rattle.std.specs.Prelude.{ℕ, suc, ◌+◌, ◌*◌, ◌%◌, cond, List, [], ◌∷◌, length, take, drop, eqb, ltb, leb, Option, Some, None, Result, Ok, Err}
use Rattle.std.proofs.Math.Option.{Option as Maybe, none, some}
use Rattle.spec.specs.Bytes.{occurs}
use Rattle.spec.specs.Listing.{decimal}
use Rattle.cardfile.specs.Cards.{Entry, letter_h, letter_d, digits_for, number_of, bytes_of, before, entry_of}
use Rattle.cardfile.specs.declared.Spelling.{Spelling}
use Rattle.cardfile.specs.declared.Spelling.TheVariants.{Hexadecimal, Decimal}
use Rattle.cardfile.specs.declared.Serial.{Serial}
use Rattle.cardfile.specs.declared.Card.{Card}
use Rattle.cardfile.specs.declared.Line.{Line}
use Rattle.cardfile.specs.declared.LineFault.{LineFault}
use Rattle.cardfile.specs.declared.LineFault.TheVariants.{TooLong, BadForm}

abbrev pub feed : ℕ
feed = 10

-- the bytes of a line before its feed, of a text that begins with it
abbrev pub line_of : List ℕ → List ℕ
line_of text = before feed text

-- a byte in front of the first line
abbrev pub longer : ℕ → List (List ℕ) → List (List ℕ)
longer c [] = (c ∷ []) ∷ []
longer c (l ∷ ls) = (c ∷ l) ∷ ls

-- a text split at its feeds: its lines without them, and last what stands behind the last feed
unfoldable pub split_lines : List ℕ → List (List ℕ)
split_lines [] = [] ∷ []
split_lines (c ∷ t) = cond (eqb c feed) ([] ∷ split_lines t) (longer c (split_lines t))

-- the number of the line at a place, "counted from 1"
unfoldable pub line_number : List ℕ → ℕ → ℕ
line_number text at = suc (occurs feed (take at text))

-- what stands at a place of a text: a card with the place behind its feed, a line to be refused with 20 or with 21, or no line
pub data Standing : Type 0 where
  card : Entry → ℕ → Standing
  too_long : Standing
  malformed : Standing
  nothing : Standing

abbrev pub formed : Maybe Entry → ℕ → Standing
formed none next = malformed
formed (some e) next = card e next

-- of the text from that place on. 20: "line longer than 64 bytes"; 21: "line not of this form or without its feed"
unfoldable pub standing_in : List ℕ → ℕ → Standing
standing_in rest at =
    cond (ltb 64 (length (line_of rest))) too_long
    (cond (ltb (length (line_of rest)) (length rest)) (formed (entry_of (line_of rest)) (at + length (line_of rest) + 1)) malformed)

unfoldable pub standing : List ℕ → ℕ → Standing
standing text at = cond (leb (length text) at) nothing (standing_in (drop at text) at)

-- ---- the code's answers for what is read

-- a value below a limit, which stands for none: 10 for a digit, 16 for a hexadecimal digit, 256 for two of them
abbrev pub below : ℕ → ℕ → Option ℕ
below limit v = cond (ltb v limit) (Some v) None

abbrev pub number_told : Maybe ℕ → Option ℕ
number_told none = None
number_told (some n) = Some n

abbrev pub bytes_told : Maybe (List ℕ) → Option ℕ
bytes_told none = None
bytes_told (some s) = Some (number_of s)

-- a serial by the number of its bytes and the number they make
abbrev pub serial_for : List ℕ → Serial
serial_for s = record { bytes = length s; number = number_of s }

abbrev pub serial_told : Maybe (List ℕ) → Option Serial
serial_told none = None
serial_told (some s) = Some (serial_for s)

-- the letter of the lines in a spelling
abbrev pub letter_of : Spelling → ℕ
letter_of Hexadecimal = letter_h
letter_of Decimal = letter_d

abbrev pub spelling_of : ℕ → Option Spelling
spelling_of letter = cond (eqb letter letter_h) (Some Hexadecimal) (cond (eqb letter letter_d) (Some Decimal) None)

-- the spelling of an entry, whose letter is one of the two
abbrev pub spelling_for : ℕ → Spelling
spelling_for letter = cond (eqb letter letter_h) Hexadecimal Decimal

-- how many digits spell a serial of so many bytes, and how many bytes so many digits spell
abbrev pub digits_of : Spelling → ℕ → ℕ
digits_of Hexadecimal width = 2 * width
digits_of Decimal width = digits_for width

unfoldable pub width_of : Spelling → ℕ → Option ℕ
width_of spelling digits = cond (eqb digits (digits_of spelling 4)) (Some 4) (cond (eqb digits (digits_of spelling 7)) (Some 7) None)

-- an entry with its amount's digits counted
unfoldable pub card_for : Entry → Card
card_for e =
    record {
      serial = serial_for e.serial;
      spelling = spelling_for e.letter;
      amount = e.amount;
      digits = length (decimal e.amount);
    }

abbrev pub form_told : Maybe Entry → Option Card
form_told none = None
form_told (some e) = Some (card_for e)

-- a card with the place behind its line's feed
abbrev pub line_for : Entry → ℕ → Line
line_for e next = record { card = card_for e; next = next }

abbrev pub line_told : Standing → Result (Option Line) LineFault
line_told (card e next) = Ok (Some (line_for e next))
line_told too_long = Err TooLong
line_told malformed = Err BadForm
line_told nothing = Ok None

-- 20 "line longer than 64 bytes", 21 "line not of this form or without its feed"
abbrev pub line_fault_number : LineFault → ℕ
line_fault_number TooLong = 20
line_fault_number BadForm = 21

abbrev pub line_in : List ℕ → ℕ → Result (Option Line) LineFault
line_in rest at = line_told (standing_in rest at)

abbrev pub line_at : List ℕ → ℕ → Result (Option Line) LineFault
line_at text at = line_told (standing text at)

-- the name of a card by the number of its serial's bytes and the number they make; of other numbers, the lowest bytes
unfoldable pub name_told : ℕ → ℕ → List ℕ
name_told bytes number = bytes_of 8 (bytes % 256 + 256 * (number % 72057594037927936))
