use mathlib.Core.Path.{◌≡◌}
use lib.ListN.{length, take}
use Rattle.block.proofs.copy.Given as goal

-- the bytes before byte k are copied
abbrev pub invariant-loop-k : goal.invariant-loop-k
invariant-loop-k l = (length l.to ≡ length l.initial.to) × (take l.k l.to ≡ take l.k l.from)
