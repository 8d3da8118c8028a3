use mathlib.Core.Path.{refl}
use borrow.Author.Rules.{rules}
use Rattle.change.specs.Contents.{change_of, content_of}
use Rattle.change.proofs.Images.{image-staged}
use Rattle.change.proofs.stage_image.Goals as goal

pub returns-clause-state : goal.returns-clause-state
returns-clause-state c =
    let p = c.args.plan.now in
    let g = content_of p.number.n (change_of p) c.args.content in
    let ready = c.ready_image.ensures in
    let edit = c.edit.ensures in
    image-staged c.args.image.now c.ready_image.new.image c.edit.new.self c.add.new.self g ready.parts ready.numbers (ready.bytes p.number.n (change_of p) refl)
    edit.parts edit.numbers (edit.bytes g (λ p q e. search rules)) c.add.ensures.parts c.add.ensures.bytes c.add.ensures.numbers
