use mathlib.Core.Path.{ap, ◌∙◌}
use lib.ListN.{length}
use Rattle.std.specs.Option.{unwrap_or}
use Rattle.transaction.proofs.Laws.{spot-is}
use Rattle.transaction.proofs.spot.Goals as goal

pub returns : goal.returns
returns c =
    let l = c.args.staged.now in
    c.unwrap_or.ensures ∙ ap (λ o. unwrap_or o (length l)) c.place_in.ensures ∙ spot-is l c.args.b.0
