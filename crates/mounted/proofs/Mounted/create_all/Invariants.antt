use mathlib.Core.Path.{◌≡◌}
use Rattle.mounted.specs.States.{state_in}
use Rattle.mounted.specs.Rounds.{rounds, created}
use Rattle.mounted.proofs.Mounted.create_all.Given as goal

abbrev pub invariant-loop-k : goal.invariant-loop-k
invariant-loop-k g l = (l.self.lent.device ≡ l.initial.self.lent.device) × (state_in l.self ≡ rounds created l.k (state_in l.initial.self))
