use Rattle.query.specs.Records.{record_told}
use Rattle.query.proofs.record_of.Goals as goal

pub returns-then-is_empty : goal.returns-then-is_empty
unfolding record_told
returns-then-is_empty c = rw (← c.is_empty.ensures, c.if-is_empty.true)

pub returns : goal.returns
unfolding record_told
returns c = rw (← c.is_empty.ensures, c.if-is_empty.false, c.name.ensures, c.size.ensures)
