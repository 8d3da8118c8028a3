use mathlib.Core.Path.{◌∙◌}
use mathlib.Core.Bool.{true, ◌&&◌}
use lib.Dec.{eqb}
use Rattle.std.proofs.Common.{rules, tests}
use Rattle.std.proofs.lemmas.Iterator.{YieldsList-from_slice}
use Rattle.std.proofs.lemmas.Iterator.Consumers.{fold_from_yields_List}
use Rattle.zeros.proofs.Laws.{zero-fold}
use Rattle.zeros.proofs.is_zero.Goals as goal

pub returns : goal.returns
returns c =
    fold_from_yields_List _ (λ zero x. zero && eqb x 0) true c.fold.result c.fold.ensures.ran (YieldsList-from_slice c.args.bytes.now c.iter.ensures.rest)
    (λ a x b q k. search (rules, tests))
    ∙ zero-fold c.args.bytes.now
