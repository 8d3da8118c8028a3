use mathlib.Core.Path.{◌≡◌}
use native.Mathlib.Omega.{arith}
use borrow.Author.Rules.{rules}
use lib.Seq.{take_all}
use Rattle.spec.specs.Answers.{done_of}
use Rattle.spec.specs.Transaction.{view}
use Rattle.spec.specs.Calls.{outcome, rename}
use Rattle.transaction.specs.LentSessions.{session_lent, state_lent}
use Rattle.lookup.proofs.Laws.{rename-says, rename-free}
use Rattle.update.proofs.Records.{named-anew}
use Rattle.update.proofs.Stores.{rename-stores}
use Rattle.change.proofs.Steps.{passed-on}
use Rattle.update.proofs.Laws.{rename-bad, rename-fine}
use Rattle.update.proofs.rename_in.Goals as goal

pub returns-in_err-i-clause-state : goal.returns-in_err-i-clause-state
returns-in_err-i-clause-state c =
    let l = c.args.lent.now in
    passed-on _ _ _ _ c.from_residual.ensures.1 (rename-bad (session_lent l) l.device.now l.work.now c.args.name.now c.args.new.now _ (c.in_err-i.ensures _ c.volume.ensures))

pub invariant_of-change_record : goal.invariant_of-change_record
invariant_of-change_record c =
    let l = c.args.lent.now in
    record { whole = (rename-says (session_lent l) l.device.now l.work.now c.args.name.now _ c.args.new.now (c.in_ok-i.ensures _ c.volume.ensures)).0 }

pub change_record-requires : goal.change_record-requires
change_record-requires c =
    let l = c.args.lent.now in
    let s = session_lent l in
    let new = c.args.new.now in
    let e = c.in_ok-i.ensures _ c.volume.ensures in
    let n = (rename-says s l.device.now l.work.now c.args.name.now _ new e).1 in
    named-anew s l.device.now l.work.now _ new new (omega (arith, n)) n (take_all 8 new (omega (arith, n))) (rename-free s l.device.now l.work.now c.args.name.now _ new e) c.in_ok-i.i.low

pub returns-clause-state : goal.returns-clause-state
returns-clause-state c =
    let l = c.args.lent.now in
    let h : outcome (state_lent c.change_record.new.images.lent.now) (done_of c.change_record.result) ≡ rename (state_lent l) c.args.name.now c.args.new.now =
    rename-fine (session_lent l) l.device.now l.work.now c.args.name.now c.args.new.now _ _ _ (c.in_ok-i.ensures _ c.volume.ensures)
    (rename-stores (view (state_lent l)) _ c.args.new.now) c.change_record.ensures.state
    in
    search (rules, h)

pub invariant_of-change_record-2 : goal.invariant_of-change_record-2
invariant_of-change_record-2 c =
    let l = c.args.lent.now in
    let n = (rename-says (session_lent l) l.device.now l.work.now c.args.name.now _ c.args.new.now (c.in_ok-i.ensures _ c.volume.ensures)).1 in
    record { short = omega (arith, n) }
