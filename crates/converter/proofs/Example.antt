-- The paper's own card as a file of one line, both ways: "04A1B2C3 with H and 3283263748 with D are one card". Every byte of the buffer is pinned. Assumes nothing.
use Prim.Native.Nat.{ℕ}
use mathlib.Core.Path.{◌≡◌, refl}
use mathlib.Core.List.{List, [], ◌∷◌}
use Rattle.spec.specs.Answers.{counted}
use Rattle.cardfile.specs.Cards.{number_of, bytes_of, padded, spell, digit_value, hex_value, hex_byte, read_hex, read_decimal, serial_h, serial_d, serial_of, amount_of, before, split, entry_of}
use Rattle.cardfile.specs.Lines.{split_lines}
use Rattle.cardfile.specs.declared.Spelling.TheVariants.{Hexadecimal, Decimal}
use Rattle.converter.specs.Convert.{cents, line_with, line_converted, last_converted, convert_lines, convert_file, left_buffer, convert}

-- 04A1B2C3;H;12 and its feed, in front of other bytes
in-h : List ℕ → List ℕ
in-h rest = 48 ∷ 52 ∷ 65 ∷ 49 ∷ 66 ∷ 50 ∷ 67 ∷ 51 ∷ 59 ∷ 72 ∷ 59 ∷ 49 ∷ 50 ∷ 10 ∷ rest

-- 3283263748;D;12 and its feed, in front of other bytes
in-d : List ℕ → List ℕ
in-d rest = 51 ∷ 50 ∷ 56 ∷ 51 ∷ 50 ∷ 54 ∷ 51 ∷ 55 ∷ 52 ∷ 56 ∷ 59 ∷ 68 ∷ 59 ∷ 49 ∷ 50 ∷ 10 ∷ rest

-- a buffer of 18 bytes: those behind the output stay
dots : List ℕ
dots = 46 ∷ 46 ∷ 46 ∷ 46 ∷ 46 ∷ 46 ∷ 46 ∷ 46 ∷ 46 ∷ 46 ∷ 46 ∷ 46 ∷ 46 ∷ 46 ∷ 46 ∷ 46 ∷ 46 ∷ 46 ∷ []

to-d : convert Decimal (in-h []) dots ≡ left_buffer (in-d (46 ∷ 46 ∷ [])) (counted 16)
unfolding in-h in-d dots convert convert_file convert_lines line_converted last_converted cents line_with split_lines entry_of split before serial_of serial_h read_hex hex_byte hex_value amount_of read_decimal digit_value spell number_of padded
to-d = refl

to-h : convert Hexadecimal (in-d []) dots ≡ left_buffer (in-h (46 ∷ 46 ∷ 46 ∷ 46 ∷ [])) (counted 14)
unfolding in-h in-d dots convert convert_file convert_lines line_converted last_converted cents line_with split_lines entry_of split before serial_of serial_d read_decimal digit_value bytes_of amount_of spell
to-h = refl
