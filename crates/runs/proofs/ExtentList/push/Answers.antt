use borrow.Author.Rules.{rules}
use Rattle.runs.proofs.Laws.{joins-true, joins-false, push-joined, push-joined-over, push-another, push-another-over}
use Rattle.runs.proofs.ExtentList.push.Goals as goal

pub returns-then-len-le-MAX_EXTENTS : goal.returns-then-len-le-MAX_EXTENTS
returns-then-len-le-MAX_EXTENTS c = let j = joins-true _ _ _ c.if-joins.true in push-joined c.args.self.now c.args.b.0 c.args.c j.0 j.1 (search rules)

pub returns-else-len-le-MAX_EXTENTS : goal.returns-else-len-le-MAX_EXTENTS
returns-else-len-le-MAX_EXTENTS c = let j = joins-true _ _ _ c.if-joins.true in push-joined-over c.args.self.now c.args.b.0 c.args.c j.0 j.1 (search rules)

pub returns-then-len-lt-MAX_EXTENTS : goal.returns-then-len-lt-MAX_EXTENTS
returns-then-len-lt-MAX_EXTENTS c = push-another c.args.self.now c.args.b.0 c.args.c (joins-false _ _ _ c.if-joins.false) (search rules)

pub returns-else-len-lt-MAX_EXTENTS : goal.returns-else-len-lt-MAX_EXTENTS
returns-else-len-lt-MAX_EXTENTS c = push-another-over c.args.self.now c.args.b.0 c.args.c (joins-false _ _ _ c.if-joins.false) (search rules)
