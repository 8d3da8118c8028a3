use mathlib.Core.Path.{ap, ◌∙◌}
use mathlib.Core.List.{List}
use lib.ListN.{get_elem?}
use Rattle.spec.specs.declared.Extent.{Extent}
use Rattle.extents.specs.Stretches.{run_of}
use Rattle.extents.proofs.Laws.{runs-seen}
use Rattle.query.proofs.Laws.{nth-fine}
use Rattle.query.proofs.nth_extent_in.Goals as goal

pub returns : goal.returns
returns c =
    let a = c.args in
    λ s q. nth-fine s a.name.now a.from.0 a.n a.k _ (c.in_ok-i.ensures s q) _
    (c.nth_extent.ensures ∙ ap (λ (es : List Extent). run_of (get_elem? es a.k)) (runs-seen a.volume.now s _ _ _ q))
