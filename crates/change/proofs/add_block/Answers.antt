use borrow.Author.Rules.{rules}
use Rattle.transaction.specs.Volumes.{working}
use Rattle.change.proofs.Steps.{changed-not, changed-is}
use Rattle.change.proofs.Images.{block-compared}
use Rattle.change.proofs.add_block.Goals as goal

pub returns-then-same_at : goal.returns-then-same_at
returns-then-same_at c =
    let a = c.args in
    let v = working a.copy.now in
    λ f ws e h. changed-not f v a.agenda.now a.b.0 a.content ws h _ (block-compared v a.b.0 _ _ _ c.block.ensures.0 (search rules) c.same_at.ensures _ e) c.if-same_at.true

pub returns : goal.returns
returns c =
    let a = c.args in
    let v = working a.copy.now in
    λ f ws e h. changed-is f v a.agenda.now a.b.0 a.content ws h _ (block-compared v a.b.0 _ _ _ c.block.ensures.0 (search rules) c.same_at.ensures _ e) _ _ c.if-same_at.false (λ z. c.insert.ensures.lists f _ z)
