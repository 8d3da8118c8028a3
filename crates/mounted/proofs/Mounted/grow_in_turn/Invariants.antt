use mathlib.Core.Path.{◌≡◌}
use Prim.Native.Nat.{suc}
use Rattle.mounted.specs.States.{state_in}
use Rattle.mounted.specs.Rounds.{rounds, pair_grown}
use Rattle.mounted.proofs.Mounted.grow_in_turn.Given as goal

abbrev pub invariant-loop-i : goal.invariant-loop-i
invariant-loop-i g l = (l.self.lent.device ≡ l.initial.self.lent.device) × (state_in l.self ≡ rounds (λ i. pair_grown (suc i)) l.i (state_in l.initial.self))
