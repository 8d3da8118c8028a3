use native.Mathlib.Omega.{arith}
use borrow.Author.Rules.{rules}
use Rattle.change.proofs.stage_block.Goals as goal

pub invariant_of-image : goal.invariant_of-image
invariant_of-image c = record { own = c.spot-place.ensures; inside = omega (arith, c.spot-place.ensures, c.requires) }

pub returns-clause-parts : goal.returns-clause-parts
returns-clause-parts c =
    let p = c.stage_image.ensures.parts.images in
    let h = c.stage_image.ensures.parts.parts in
    search (rules, h, p)

pub returns-clause-state : goal.returns-clause-state
returns-clause-state c =
    let p = c.stage_image.ensures.parts.images in
    let h = c.stage_image.ensures.state in
    search (rules, h, p)
