use Rattle.std.proofs.Common.{ap, length, ◌∙◌}
use Rattle.std.specs.Prelude.{unwrap_or}
use Rattle.cardfile.proofs.Laws.{until-is}
use Rattle.cardfile.proofs.until.Goals as goal

pub returns : goal.returns
returns c =
    let s = c.args.s.now in
    until-is c.args.x s _ (c.unwrap_or.ensures ∙ ap (λ o. unwrap_or o (length s)) c.place_of.ensures)
