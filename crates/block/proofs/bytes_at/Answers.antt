use Rattle.block.proofs.Steps.{whole-at, cut-at}
use Rattle.block.proofs.bytes_at.Goals as goal

pub returns-in-Some : goal.returns-in-Some
returns-in-Some g c =
    whole-at c.args.bytes.now c.args.at _ c.min.ensures g.row.W c.in-Some.whole.now c.in-Some.ensures.cases.enough c.in-Some.ensures.cases.same

pub returns : goal.returns
returns g c = cut-at c.args.bytes.now c.args.at _ c.min.ensures g.row.W _ c.in_default.ensures.cases c.copy_from_slice.ensures.after
