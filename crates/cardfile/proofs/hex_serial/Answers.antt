use Rattle.std.proofs.Common.{sym, arith}
use Rattle.cardfile.proofs.Laws.{hex-good}
use Rattle.cardfile.proofs.hex_serial.Goals as goal

pub returns : goal.returns
returns c = hex-good _ _ _ (omega arith) (sym c.in_ok-number.ensures)
