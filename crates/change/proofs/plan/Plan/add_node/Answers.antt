use native.Mathlib.Omega.{arith}
use Rattle.transaction.specs.Volumes.{working}
use Rattle.change.specs.Contents.{change_of}
use Rattle.change.proofs.Contents.{node-told}
use Rattle.change.proofs.Steps.{held-lists, new-lists}
use Rattle.change.proofs.plan.Plan.add_node.Goals as goal

pub returns-then-from-self : goal.returns-then-from-self
returns-then-from-self c =
    let a = c.args in
    let v = working a.copy.now in
    let p = a.self.now in
    let d = change_of p in
    λ h. held-lists v p.number.n d a.j c.requires.0 _ c.requires.1 _ _ (omega (arith, c.if-from-self.true, c.from.ensures))
    (c.add_block.ensures _ _ (node-told v p.number.n d _ a.j _ c.node_content-new.ensures) h)

pub returns : goal.returns
returns c =
    let a = c.args in
    let v = working a.copy.now in
    let p = a.self.now in
    λ h. new-lists v p.number.n (change_of p) a.j c.requires.0 _ c.requires.1 _ _ (omega (arith, c.if-from-self.false, c.from.ensures)) (c.insert.ensures.lists _ _ h)
