use mathlib.Core.Path.{◌∙◌}
use Rattle.std.proofs.lemmas.Iterator.Consumers.{nth_from_yields_List, YieldsList-from_first}
use Rattle.spec.specs.declared.Extent.{Extent}
use Rattle.extents.specs.Runs.{runs_left}
use Rattle.extents.proofs.Laws.{nth-told, as-given}
use Rattle.extents.proofs.nth_extent.Goals as goal

pub returns : goal.returns
returns c =
    as-given c.nth.result
    ∙ nth_from_yields_List c.nth.result c.nth.new.self c.args.k c.nth.ensures.ran (YieldsList-from_first (λ (x : Extent). x) runs_left _ c.of.ensures.0)
    ∙ nth-told _ c.args.k
