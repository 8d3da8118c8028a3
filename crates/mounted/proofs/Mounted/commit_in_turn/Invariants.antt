use mathlib.Core.Path.{◌≡◌}
use Prim.Native.Nat.{suc}
use Rattle.mounted.specs.States.{state_in}
use Rattle.mounted.specs.Rounds.{rounds, pair_grown, committed}
use Rattle.mounted.proofs.Mounted.commit_in_turn.Given as goal

abbrev pub invariant-loop-turn : goal.invariant-loop-turn
invariant-loop-turn g l = state_in l.self ≡ rounds (λ i s. committed (pair_grown (suc i) s)) l.turn (state_in l.initial.self)
