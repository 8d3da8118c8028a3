use mathlib.Core.Path.{◌≡◌}
use lib.ListN.{length, take}
use Rattle.std.specs.Slice.Iter.{iter_rest}
use Rattle.std.specs.Iterator.Adapters.{rev_source, enumerate_source, enumerate_count}
use Rattle.spec.specs.Transaction.{ascending}
use Rattle.transaction.specs.Volumes.{working}
use Rattle.agenda.specs.Agenda.{Lists}
use Rattle.runs.specs.Runs.{nodes_in}
use Rattle.change.specs.Contents.{change_of, content_by, data_from, nodes_from}
use Rattle.change.proofs.plan.Plan.add_nodes.Given as goal

-- the iterator has the front of the nodes left; from the lists of the data blocks, as they came, to those of the nodes behind it
abbrev pub invariant-loop-j : goal.invariant-loop-j
invariant-loop-j l =
    let rest = iter_rest (enumerate_source (rev_source l.j-iterator)) in record {
      none : enumerate_count (rev_source l.j-iterator) ≡ 0;
      front : rest ≡ take (length rest) (nodes_in (change_of l.self).tree);
      lists : Lists (content_by (working l.copy) l.self) l.initial.agenda (ascending (data_from (working l.copy) l.self 0))
          → Lists (content_by (working l.copy) l.self) l.agenda (ascending (nodes_from (working l.copy) l.self (length rest)));
    }
