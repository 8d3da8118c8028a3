use Rattle.block.proofs.Steps.{slice-stored}
use borrow.Author.Rules.{rules}
use Rattle.block.proofs.store_block.Goals as goal

pub returns : goal.returns
returns c = let a = c.args in slice-stored a.b.0 a.x.now _ a.bytes.now c.copy.ensures (search rules) c.requires
