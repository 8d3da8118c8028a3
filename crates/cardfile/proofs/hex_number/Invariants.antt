use Rattle.std.proofs.Common.{◌/◌, length}
use Rattle.std.specs.Iterator.Adapters.{rev_source}
use Rattle.std.specs.Slice.Iter.{iter_rest}
use Rattle.cardfile.proofs.Laws.{Pairs}
use Rattle.cardfile.proofs.hex_number.Given as goal

abbrev pub invariant-loop-a : goal.invariant-loop-a
invariant-loop-a l = Pairs l.t (length l.t / 2) l.n (iter_rest (rev_source l.a-iterator))
