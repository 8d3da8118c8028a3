use Rattle.std.proofs.Common.{◌∙◌}
use Rattle.block.proofs.Places.{position-is}
use Rattle.transaction.proofs.place_in.Goals as goal

pub returns : goal.returns
returns c = c.first_place.ensures ∙ position-is c.args.b.0 c.args.staged.now
