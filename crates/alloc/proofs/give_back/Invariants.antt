use mathlib.Core.Path.{◌≡◌}
use lib.ListN.{take, drop}
use Rattle.spec.specs.Bitmap.{bits_of, mark}
use Rattle.transaction.specs.Volumes.{working}
use Rattle.extents.specs.Pieces.{pieces_left}
use Rattle.alloc.specs.Parts.{data_at}
use Rattle.alloc.proofs.Laws.{Passed}
use Rattle.alloc.proofs.give_back.Given as goal

abbrev pub invariant-loop-e : goal.invariant-loop-e
invariant-loop-e l = record {
  passed : Passed (take 2048 (drop l.fn.from.0 (data_at (working l.copy) l.fn.i.n))) (pieces_left l.e-iterator) l.count;
  given : bits_of l.t.bytes ≡ mark 0 (take l.count (take 2048 (drop l.fn.from.0 (data_at (working l.copy) l.fn.i.n)))) (bits_of l.initial.t.bytes);
}
