use mathlib.Core.Path.{refl, ap, ◌∙◌}
use Prim.Native.Nat.{ℕ}
use native.Mathlib.Omega.{arith}
use borrow.Author.Rules.{rules}
use Rattle.spec.specs.Transaction.{with_staging, stage, staged_of, put, view}
use Rattle.transaction.specs.LentSessions.{state_lent}
use Rattle.content.specs.Content.{with_record}
use Rattle.change.proofs.Images.{ready-loaded, image-staged}
use Rattle.change.proofs.stage_record.Goals as goal

pub returns-clause-state : goal.returns-clause-state
returns-clause-state c =
    let m = c.args.image.now in
    let st = state_lent m.images.now.lent.now in
    let r = c.load.new.self in
    let g = with_record c.args.i.n c.args.new.bytes.now in
    let load = c.load.ensures in
    let edit = c.edit.ensures in
    image-staged m r c.edit.new.self c.add.new.self g load.parts load.numbers (ready-loaded _ _ _ _ _ _ refl (omega (arith, r.images.now.whole, m.inside)) load.bytes)
    edit.parts edit.numbers (edit.bytes g (λ p q e. search rules)) c.add.ensures.parts c.add.ensures.bytes c.add.ensures.numbers
    ∙ ap (λ (b : ℕ). with_staging st (stage (staged_of st) (put b (g (view st b))))) c.requires
