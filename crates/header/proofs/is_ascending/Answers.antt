use lib.Dec.{ltb}
use Rattle.std.proofs.Common.{rules, tests}
use Rattle.std.proofs.lemmas.List.Sorted.{answers_always}
use Rattle.header.proofs.Neighbours.{sorted-up}
use Rattle.header.proofs.is_ascending.Goals as goal

pub returns : goal.returns
returns c = sorted-up c.args.l.now _ (c.is_sorted_by.ensures.cases ltb (answers_always _ _ _ (λ f a r q k. search (rules, tests))))
