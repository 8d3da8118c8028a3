use Rattle.transaction.specs.LentSessions.{session_lent}
use Rattle.change.specs.Contents.{change_of}
use Rattle.change.proofs.Steps.{passed-on}
use Rattle.change.proofs.Staging.{change-over, change-full, change-rising, change-room, change-done}
use Rattle.change.proofs.apply.Goals as goal

pub returns-in_err-add_all-clause-state : goal.returns-in_err-add_all-clause-state
returns-in_err-add_all-clause-state c =
    let l = c.args.images.now.lent.now in
    let p = c.args.plan.now in
    let e = c.in_err-add_all.ensures (c.empty-agenda.ensures _) in
    passed-on _ _ _ _ c.from_residual.ensures.1 (rw e.0 (change-over (session_lent l) l.device.now l.work.now c.args.plan.now.number.n (change_of p) _ c.copy.ensures e.1))

pub returns-then-not-fits-clause-state : goal.returns-then-not-fits-clause-state
returns-then-not-fits-clause-state c =
    let l = c.args.images.now.lent.now in
    let p = c.args.plan.now in
    change-full (session_lent l) l.device.now l.work.now c.args.plan.now.number.n (change_of p) _ c.copy.ensures _ c.staged.ensures _
    (c.in_ok-add_all.ensures (c.empty-agenda.ensures _)) _ c.fits.ensures c.if-not-fits.true

pub stage_all-requires : goal.stage_all-requires
stage_all-requires c =
    let l = c.args.images.now.lent.now in
    let p = c.args.plan.now in
    let lists = c.in_ok-add_all.ensures (c.empty-agenda.ensures _) in
    record {
      rising = change-rising (session_lent l) l.device.now l.work.now c.args.plan.now.number.n (change_of p) _ c.copy.ensures _ c.staged.ensures _ lists _ c.fits.ensures c.if-not-fits.false;
      room = change-room (session_lent l) l.device.now l.work.now c.args.plan.now.number.n (change_of p) _ c.copy.ensures _ c.staged.ensures _ lists _ c.fits.ensures c.if-not-fits.false;
    }

pub returns-clause-state : goal.returns-clause-state
returns-clause-state c =
    let l = c.args.images.now.lent.now in
    let p = c.args.plan.now in
    let q = c.stage_all.new.images.lent.now in
    change-done (session_lent l) l.device.now l.work.now c.args.plan.now.number.n (change_of p) _ c.copy.ensures _ c.staged.ensures _
    (c.in_ok-add_all.ensures (c.empty-agenda.ensures _)) _ c.fits.ensures c.if-not-fits.false
    (session_lent q) q.device.now q.work.now c.stage_all.ensures.state
