use native.Mathlib.Omega.{arith}
use Rattle.spec.specs.Session.{staged_in}
use Rattle.transaction.proofs.Laws.{spot-le}
use Rattle.trial.proofs.Lent.stage.Goals as goal

pub stage-self-requires : goal.stage-self-requires
stage-self-requires g c =
    omega (arith, spot-le (staged_in c.args.self.now.session) c.args.b, c.staged_count.ensures.0, c.if-staged_count-lt-LOG_LENGTH.true)
