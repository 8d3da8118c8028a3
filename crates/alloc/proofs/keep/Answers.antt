use mathlib.Core.Path.{ap, ◌∙◌}
use native.Mathlib.Omega.{arith}
use Rattle.spec.specs.Inode.{blocks_in}
use Rattle.extents.specs.declared.pieces.Pieces.{Pieces}
use Rattle.extents.specs.Pieces.{pieces_left}
use Rattle.runs.proofs.Laws.{holds-none}
use Rattle.alloc.proofs.Laws.{keep-start, keep-more, keep-end}
use Rattle.alloc.proofs.keep.Goals as goal

pub loop-e-init : goal.loop-e-init
loop-e-init c =
    keep-start _ _ _ _ _ (ap (λ (p : Pieces). blocks_in (pieces_left p)) c.into_iter-e-iterator.ensures.into_iter_gives ∙ c.of-e-items.ensures)
    (holds-none _ (omega (arith, c.requires.len))) c.requires

pub loop-e-preserved : goal.loop-e-preserved
loop-e-preserved c =
    let p = c.in-Some.ensures.steps in
    keep-more _ _ _ _ c.loop-e.invariant _ _ p.rest p.some c.in-Some.e.first _ c.push.ensures

pub returns : goal.returns
returns c = keep-end _ _ _ _ _ c.loop-e.invariant c.in-None.ensures.steps.0
