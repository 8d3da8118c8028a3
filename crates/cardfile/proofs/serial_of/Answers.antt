use Rattle.std.proofs.Common.{◌∙◌}
use Rattle.cardfile.proofs.Forms.{h-room, d-room, h-good, d-good, width-none}
use Rattle.cardfile.proofs.serial_of.Goals as goal

pub returns-in_err-bytes : goal.returns-in_err-bytes
returns-in_err-bytes c = c.from_residual.ensures ∙ width-none _ _ c.in_err-bytes.ensures

pub hex_serial-requires : goal.hex_serial-requires
hex_serial-requires c = h-room _ _ (rw c.in-Hexadecimal.is at c.in_ok-bytes.ensures)

pub decimal_serial-requires : goal.decimal_serial-requires
decimal_serial-requires c = d-room _ _ (rw c.in-Decimal.is at c.in_ok-bytes.ensures)

pub returns-in-Hexadecimal : goal.returns-in-Hexadecimal
returns-in-Hexadecimal c = rw c.in-Hexadecimal.is (h-good _ _ (rw c.in-Hexadecimal.is at c.in_ok-bytes.ensures) _ c.hex_serial.ensures)

pub returns-in-Decimal : goal.returns-in-Decimal
returns-in-Decimal c = rw c.in-Decimal.is (d-good _ _ (rw c.in-Decimal.is at c.in_ok-bytes.ensures) _ c.decimal_serial.ensures)
