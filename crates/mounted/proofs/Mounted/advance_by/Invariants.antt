use mathlib.Core.Path.{◌≡◌}
use Rattle.mounted.specs.States.{state_in}
use Rattle.mounted.specs.Rounds.{rounds, advanced}
use Rattle.mounted.proofs.Mounted.advance_by.Given as goal

abbrev pub invariant-loop : goal.invariant-loop
invariant-loop g l = (l.self.lent.work ≡ l.initial.self.lent.work) × (state_in l.self ≡ rounds advanced l.counter (state_in l.initial.self))
