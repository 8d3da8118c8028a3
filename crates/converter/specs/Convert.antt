-- The printer's file in the other supplier's spelling: "the serial is respelled, the letter changed, the amount copied".
use Rattle.std.specs.Prelude.{ℕ, suc, ◌+◌, cond, List, [], ◌∷◌, ◌++◌, length, drop, eqb, ltb, leb, Result, Ok, Err}
use Rattle.std.proofs.Math.Option.{Option, none, some}
use Rattle.spec.specs.Answers.{Answer, refused, counted}
use Rattle.cardfile.specs.Cards.{Entry, semicolon, spell, before, entry_of}
use Rattle.cardfile.specs.Lines.{feed, letter_of, split_lines, line_fault_number}
use Rattle.cardfile.specs.declared.Spelling.{Spelling}
use Rattle.converter.specs.declared.ConvertFault.{ConvertFault}
use Rattle.converter.specs.declared.ConvertFault.TheVariants.{BadLine, SameSpelling, TooSmall}

-- ---- a line

-- "the amount copied": the bytes behind the second semicolon, as they stand
unfoldable pub cents : List ℕ → List ℕ
cents l = drop (length (before semicolon l) + 3) l

-- a serial, a letter and an amount's bytes as a line with its feed
unfoldable pub line_with : ℕ → List ℕ → List ℕ → List ℕ
line_with letter serial amount = (spell letter serial ++ (semicolon ∷ letter ∷ semicolon ∷ amount)) ++ (feed ∷ [])

-- ---- the lines of a file

-- what they become: the output, or the refusal's number and the line
pub data Conversion : Type 0 where
  output : List ℕ → Conversion
  refusal : ℕ → ℕ → Conversion

-- a line's output in front of what the lines behind it become
abbrev pub onto : List ℕ → Conversion → Conversion
onto t (output u) = output (t ++ u)
onto t (refusal k n) = refusal k n

-- 21 "line not of this form", 24 "line already in the wanted spelling"
abbrev pub entry_converted : ℕ → ℕ → List ℕ → Option Entry → Conversion → Conversion
entry_converted wanted n l none behind = refusal 21 n
entry_converted wanted n l (some e) behind = cond (eqb e.letter wanted) (refusal 24 n) (onto (line_with wanted e.serial (cents l)) behind)

-- line n, without its feed: "per line 20, 21, 24"; 20 "line longer than 64 bytes"
unfoldable pub line_converted : ℕ → ℕ → List ℕ → Conversion → Conversion
line_converted wanted n l behind = cond (ltb 64 (length l)) (refusal 20 n) (entry_converted wanted n l (entry_of l) behind)

-- what stands behind the last feed: nothing, or line n "without its feed"
unfoldable pub last_converted : ℕ → List ℕ → Conversion
last_converted n [] = output []
last_converted n (c ∷ l) = cond (ltb 64 (length (c ∷ l))) (refusal 20 n) (refusal 21 n)

-- lines from number n on: "the lowest line decides"
unfoldable pub convert_lines : ℕ → ℕ → List (List ℕ) → Conversion
convert_lines wanted n [] = output []
convert_lines wanted n (l ∷ []) = last_converted n l
convert_lines wanted n (l ∷ m ∷ ls) = line_converted wanted n l (convert_lines wanted (suc n) (m ∷ ls))

-- "a whole file", its lines counted from 1
unfoldable pub convert_file : ℕ → List ℕ → Conversion
convert_file wanted text = convert_lines wanted 1 (split_lines text)

-- ---- the call

-- what is answered, and the bytes of the output buffer
pub record ConvertOutcome : Type 0 where
  pub answer : Answer
  pub buffer : List ℕ

abbrev pub left_buffer : List ℕ → Answer → ConvertOutcome
left_buffer buffer a = record { answer = a; buffer = buffer }

-- "It converts all lines or none and answers the output's length, or with 20, 21 and 24 the line; the output buffer is untouched by a refusal, and behind the output
-- otherwise"; 25 "output longer than the buffer", "after all lines"
abbrev pub settled : List ℕ → Conversion → ConvertOutcome
settled out (refusal k n) = left_buffer out (refused k (n ∷ []))
settled out (output u) = cond (leb (length u) (length out)) (left_buffer (u ++ drop (length u) out) (counted (length u))) (left_buffer out (refused 25 []))

unfoldable pub convert : Spelling → List ℕ → List ℕ → ConvertOutcome
convert wanted text out = settled out (convert_file (letter_of wanted) text)

-- ---- the form of the promise

abbrev pub converted_of : Result ℕ ConvertFault → Answer
converted_of (Ok n) = counted n
converted_of (Err (BadLine line fault)) = refused (line_fault_number fault) (line ∷ [])
converted_of (Err (SameSpelling line)) = refused 24 (line ∷ [])
converted_of (Err TooSmall) = refused 25 []
