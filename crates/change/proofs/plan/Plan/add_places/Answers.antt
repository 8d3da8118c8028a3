use Prim.Native.Nat.{◌+◌, ◌-◌}
use mathlib.Core.Path.{◌≡◌}
use native.Mathlib.Omega.{arith}
use Rattle.change.specs.Contents.{change_of, IsBlock}
use Rattle.change.proofs.Steps.{told-err, data-cast, data-below}
use Rattle.change.proofs.plan.Plan.add_places.Goals as goal

pub add_place-requires : goal.add_place-requires
add_place-requires c =
    let j = c.loop-p.p - 1 - c.args.at.0 in
    let low = c.loop-p.invariant.low in
    let z : c.args.at.0 + j ≡ c.loop-p.p - 1 = omega arith in
    let b : IsBlock (change_of c.args.self.now) (c.args.at.0 + j) (c.args.first.0 + j) = c.requires.4 j (omega arith) in
    rw z at b

pub returns-in_err-add_place : goal.returns-in_err-add_place
returns-in_err-add_place c =
    let p = c.args.self.now in
    let z : c.loop-p.p ≡ c.loop-p.p - 1 + 1 = omega (arith, c.loop-p-test.true) in
    λ v l. let e = c.in_err-add_place.ensures v (data-cast v p.number.n (change_of p) _ _ _ z (c.loop-p.invariant.lists v l)) in
    told-err _ _ _ _ _ c.from_residual.ensures.1 e.0 (data-below v p.number.n (change_of p) c.args.from.0 (c.loop-p.p - 1) (omega arith) e.1)
