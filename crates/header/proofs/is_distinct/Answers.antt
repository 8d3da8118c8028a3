use mathlib.Core.Path.{ap, ◌∙◌}
use mathlib.Core.Bool.{not}
use Rattle.std.proofs.Common.{rules, tests}
use Rattle.std.proofs.lemmas.Iterator.{YieldsList-from_slice}
use Rattle.std.proofs.lemmas.Iterator.Consumers.{YieldsList-from_enumerate}
use Rattle.std.proofs.lemmas.Iterator.Search.{all_from_yields_List}
use Rattle.std.specs.Slice.Iter.{iter_rest}
use Rattle.header.proofs.Loops.{stands_behind, apart}
use Rattle.header.proofs.is_distinct.Goals as goal

pub returns : goal.returns
returns c =
    let l = c.args.l.now in
    all_from_yields_List (λ p. not (stands_behind l p.0 p.1)) _ _ c.all.result c.all.ensures.ran
    (YieldsList-from_enumerate (YieldsList-from_slice l (ap iter_rest c.enumerate.ensures.source ∙ c.iter.ensures.rest)) c.enumerate.ensures.count)
    (λ x b q k. search (rules, tests))
    ∙ apart l
