use borrow.Author.Rules.{rules}
use Rattle.runs.proofs.Laws.{listed-got}
use Rattle.runs.proofs.ExtentList.listed.Goals as goal

pub returns : goal.returns
returns c = listed-got c.args.self.now c.get.result (search rules) c.get.ensures.lookup.0
