use Rattle.std.proofs.Common.{rules}
use mathlib.Core.Path.{refl}
use Rattle.std.proofs.lemmas.Iterator.{YieldsList-from_range}
use Rattle.std.proofs.lemmas.Iterator.Consumers.{YieldsList-at, YieldsList-from_filter, count_from_yields_List}
use Rattle.transaction.specs.Volumes.{working}
use Rattle.listing.specs.Steps.{used}
use Rattle.listing.proofs.Laws.{count-is}
use Rattle.listing.proofs.count_files.Goals as goal

pub returns : goal.returns
returns c =
    let v = working c.args.copy.now in
    let all = YieldsList-at c.filter.ensures.source (YieldsList-from_range 0 128 128 refl refl) in
    count-is v c.count.result (count_from_yields_List _ _ c.count.ensures.ran (YieldsList-from_filter _ (used v) all c.filter.ensures.closure (λ x b q k. search rules)))
