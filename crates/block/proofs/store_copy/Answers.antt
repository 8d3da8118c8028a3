use mathlib.Core.Path.{ap, ◌∙◌}
use Rattle.block.specs.Stores.{stored_in}
use Rattle.block.proofs.Laws.{exactly-first}
use Rattle.block.proofs.store_copy.Goals as goal

pub returns-in-Some : goal.returns-in-Some
returns-in-Some c = c.store_block.ensures ∙ ap (stored_in _ _) (exactly-first 512 c.args.from.now _ c.in-Some.ensures.cases.enough c.in-Some.ensures.cases.same)
