use Prim.Native.Nat.{◌≤◌}
use Rattle.spec.specs.Disk.{Disk}
use Rattle.spec.specs.Transaction.{ascending}
use Rattle.agenda.specs.Agenda.{Lists}
use Rattle.change.specs.Contents.{content_by, data_from}
use Rattle.change.proofs.plan.Plan.add_places.Given as goal

abbrev pub invariant-loop-p : goal.invariant-loop-p
invariant-loop-p l = record {
  low : l.fn.from.0 ≤ l.p;
  lists : (v : Disk) → Lists (content_by v l.self) l.initial.agenda (ascending (data_from v l.self l.fn.to.0)) → Lists (content_by v l.self) l.agenda (ascending (data_from v l.self l.p));
}
