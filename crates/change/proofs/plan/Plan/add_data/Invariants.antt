use mathlib.Core.Path.{◌≡◌}
use mathlib.Core.List.{[]}
use lib.ListN.{length, take}
use Rattle.std.specs.Slice.Iter.{iter_rest}
use Rattle.std.specs.Iterator.Adapters.{rev_source}
use Rattle.spec.specs.Disk.{Disk}
use Rattle.spec.specs.Transaction.{ascending}
use Rattle.agenda.specs.Agenda.{Lists}
use Rattle.change.specs.Contents.{content_by, data_from, place_of}
use Rattle.change.proofs.plan.Plan.add_data.Given as goal

-- the iterator has the front of the extents left
abbrev pub invariant-loop-e : goal.invariant-loop-e
invariant-loop-e l = record {
  front : iter_rest (rev_source l.e-iterator) ≡ take (length (iter_rest (rev_source l.e-iterator))) l.self.draft.extents.now;
  at : l.at ≡ place_of l.self.draft.extents.now (length (iter_rest (rev_source l.e-iterator)));
  lists : (v : Disk) → Lists (content_by v l.self) l.initial.agenda [] → Lists (content_by v l.self) l.agenda (ascending (data_from v l.self l.at));
}
