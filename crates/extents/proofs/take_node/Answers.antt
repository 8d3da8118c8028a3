use Rattle.extents.proofs.Laws.{node-next, node-none}
use Rattle.extents.proofs.take_node.Goals as goal

pub returns-in_err-b : goal.returns-in_err-b
returns-in_err-b c = λ v tb x n. rw c.from_residual.ensures (node-none v tb c.args.scan (c.in_err-b.ensures v tb x n))

pub returns : goal.returns
returns c = λ v tb x n. let e = c.in_ok-b.ensures v tb x n in (node-next v tb c.args.scan _ _ e.0, e.1)
