use Rattle.std.proofs.Common.{arith}
use Rattle.text.proofs.Laws.{put_as}
use Rattle.converter.proofs.Writes.{spell-h, spell-d}
use Rattle.converter.proofs.put_serial.Goals as goal

pub returns-in-Hexadecimal : goal.returns-in-Hexadecimal
returns-in-Hexadecimal c = rw c.in-Hexadecimal.is (put_as _ _ _ _ c.put_hex.ensures (spell-h _ _ (omega arith) (omega arith) _ c.name_of-name.ensures))

pub returns-in-Decimal : goal.returns-in-Decimal
returns-in-Decimal c = let e = rw c.in-Decimal.is at c.digits.ensures.0 in rw c.in-Decimal.is (put_as _ _ _ _ (rw e at c.put_padded.ensures) (spell-d _ _ (omega arith) (omega arith)))
