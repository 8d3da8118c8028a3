use Rattle.std.proofs.Common.{sym, ◌∙◌}
use Rattle.cardfile.proofs.Laws.{within-shown}
use Rattle.cardfile.proofs.decimal_serial.Goals as goal

pub returns : goal.returns
returns c = c.then_some.ensures ∙ within-shown c.args.t.now c.args.bytes c.in_ok-number.number c.requires.1 (sym c.decimal_number.ensures ∙ c.in_ok-number.was)
