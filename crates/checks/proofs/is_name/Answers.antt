use Rattle.std.proofs.Common.{rules}
use Rattle.checks.proofs.Laws.{name-test}
use Rattle.checks.proofs.is_name.Goals as goal

pub returns : goal.returns
returns c = name-test c.args.name.now _ _ _ c.as_array.ensures.cases c.is_some_and.ensures (λ y q. search rules)
