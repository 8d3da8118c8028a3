use Rattle.change.specs.Contents.{change_of}
use Rattle.change.proofs.Steps.{place-taken, place-left}
use Rattle.change.proofs.plan.Plan.add_place.Goals as goal

pub returns-then-is_staged : goal.returns-then-is_staged
returns-then-is_staged c =
    let p = c.args.self.now in
    λ v h. place-taken v p.number.n (change_of p) c.args.p.0 c.args.b.0 c.requires.0 c.requires.1 _ c.is_staged.ensures _ _ c.if-is_staged.true (c.insert.ensures.lists _ _ h)

pub returns : goal.returns
returns c =
    let p = c.args.self.now in
    λ v h. place-left v p.number.n (change_of p) c.args.p.0 c.args.b.0 c.requires.0 c.requires.1 _ c.is_staged.ensures _ c.if-is_staged.false h
