use mathlib.Core.Path.{refl, ap, ◌∙◌}
use native.Mathlib.Omega.{arith}
use lib.ListN.{length}
use Rattle.spec.specs.Disk.{Disk, slice_of}
use Rattle.block.specs.Stores.{stored_in}
use Rattle.transaction.specs.LentSessions.{session_lent, numbers_lent}
use Rattle.transaction.proofs.Laws.{image-held, image-new, view_of}
use Rattle.transaction.proofs.image.Image.load.Goals as goal

pub returns-then-k-staged-clause-bytes : goal.returns-then-k-staged-clause-bytes
returns-then-k-staged-clause-bytes c =
    let m = c.args.self.now in
    let l = m.images.now.lent.now in
    image-held (numbers_lent l) l.device.now l.work.now m.block.0 m.place m.own (omega (arith, ap length c.staged.ensures, c.if-k-staged.true))
    ∙ ap (λ (v : Disk). stored_in (slice_of l.work.now) m.place (v m.block.0)) (view_of (session_lent l) l.device.now l.work.now (numbers_lent l) refl)

pub returns-clause-bytes : goal.returns-clause-bytes
returns-clause-bytes c =
    let m = c.args.self.now in
    let l = m.images.now.lent.now in
    image-new (numbers_lent l) l.device.now l.work.now m.block.0 m.place m.own _ _ (omega (arith, ap length c.staged.ensures, c.if-k-staged.false)) c.block_in-from.ensures c.store_copy.ensures
    ∙ ap (λ (v : Disk). stored_in (slice_of l.work.now) m.place (v m.block.0)) (view_of (session_lent l) l.device.now l.work.now (numbers_lent l) refl)
