use Rattle.block.proofs.Laws.{exactly-first}
use Rattle.block.proofs.on_whole.Goals as goal

pub returns-in-Some : goal.returns-in-Some
returns-in-Some g c =
    (c.in-Some.whole, c.told.ensures, exactly-first 512 c.args.bytes.now _ c.in-Some.ensures.cases.enough c.in-Some.ensures.cases.same)
