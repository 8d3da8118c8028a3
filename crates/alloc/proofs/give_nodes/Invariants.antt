use mathlib.Core.Path.{◌≡◌}
use lib.ListN.{drop}
use Rattle.spec.specs.Bitmap.{bits_of, mark}
use Rattle.alloc.proofs.Laws.{skip_rest}
use Rattle.alloc.proofs.give_nodes.Given as goal

abbrev pub invariant-loop-b : goal.invariant-loop-b
invariant-loop-b l = mark 0 (skip_rest l.b-iterator) (bits_of l.t.bytes) ≡ mark 0 (drop l.wanted l.held) (bits_of l.initial.t.bytes)
