use Rattle.transaction.specs.LentSessions.{session_lent}
use Rattle.transaction.proofs.Laws.{spot-after}
use Rattle.transaction.proofs.image.Image.add.Goals as goal

pub invariant_of-self : goal.invariant_of-self
invariant_of-self c =
    let m = c.args.self.now in
    record { own = spot-after (session_lent m.images.now.lent.now) _ m.block.0 _ m.own c.add.ensures.numbers; inside = m.inside }
