use native.Mathlib.Omega.{arith}
use Rattle.change.specs.Contents.{change_of}
use Rattle.change.proofs.Steps.{told-err, told-gap, data-below, gap-lists}
use Rattle.change.proofs.plan.Plan.add_run.Goals as goal

pub returns-in_err-add_places : goal.returns-in_err-add_places
returns-in_err-add_places c =
    let p = c.args.self.now in
    λ v l. let e = c.in_err-add_places.ensures v l in
    told-err _ _ _ _ _ c.from_residual.ensures.1 e.0 (data-below v p.number.n (change_of p) c.args.at.0 c.clamp-new.result (omega (arith, c.clamp-new.ensures)) e.1)

pub add_places-requires-2 : goal.add_places-requires-2
add_places-requires-2 c =
    let new = c.clamp-new.ensures in
    let high = c.clamp-high.ensures in
    let low = c.clamp-low.ensures in
    (omega arith, omega arith, omega (arith, c.requires.1), c.requires.0, λ j l. c.requires.2 j (omega arith))

pub returns : goal.returns
returns c =
    let p = c.args.self.now in
    let d = change_of p in
    let new = c.clamp-new.ensures in
    let high = c.clamp-high.ensures in
    let low = c.clamp-low.ensures in
    λ v l.
    let one = c.in_ok-add_places.ensures v l in
    let two = gap-lists v p.number.n d _ c.clamp-high.result c.clamp-new.result (omega arith) (λ q a b. c.requires.3.between q (omega arith) (omega arith)) one in
    told-gap v p.number.n d _ _ c.args.at.0 c.clamp-low.result (omega arith) (λ q a b. c.requires.3.below q (omega arith)) (c.add_places-2.ensures v two)
