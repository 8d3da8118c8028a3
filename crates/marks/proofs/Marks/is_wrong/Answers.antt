use Rattle.marks.specs.Marks.{wrong}
use Rattle.marks.proofs.Marks.is_wrong.Goals as goal

pub returns : goal.returns
unfolding wrong
returns c = rw (c.bit_is.ensures, c.bit_is-2.ensures, c.bit_is-3.ensures)
