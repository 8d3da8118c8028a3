use mathlib.Core.Path.{◌≡◌, ◌∙◌}
use borrow.Author.Rules.{rules}
use Rattle.spec.specs.Answers.{done_of}
use Rattle.spec.specs.Transaction.{view}
use Rattle.spec.specs.Calls.{outcome, create}
use Rattle.transaction.specs.LentSessions.{session_lent, state_lent}
use Rattle.lookup.proofs.Laws.{new-says, new-free}
use Rattle.update.proofs.Records.{new-record, new-length, new-name, named-anew}
use Rattle.update.proofs.Stores.{create-stores}
use Rattle.change.proofs.Steps.{passed-on}
use Rattle.update.proofs.Laws.{create-bad, create-fine}
use Rattle.update.proofs.create_in.Goals as goal

pub returns-in_err-i-clause-state : goal.returns-in_err-i-clause-state
returns-in_err-i-clause-state c =
    let l = c.args.lent.now in
    passed-on _ _ _ _ c.from_residual.ensures.1 (create-bad (session_lent l) l.device.now l.work.now c.args.name.now _ (c.in_err-i.ensures _ c.volume.ensures))

pub new_record-record-requires : goal.new_record-record-requires
new_record-record-requires c =
    let l = c.args.lent.now in
    (new-says (session_lent l) l.device.now l.work.now c.args.name.now _ (c.in_ok-i.ensures _ c.volume.ensures)).1

pub invariant_of-change_record : goal.invariant_of-change_record
invariant_of-change_record c =
    let l = c.args.lent.now in
    record { whole = (new-says (session_lent l) l.device.now l.work.now c.args.name.now _ (c.in_ok-i.ensures _ c.volume.ensures)).0 }

pub change_record-requires : goal.change_record-requires
change_record-requires c =
    let l = c.args.lent.now in
    let s = session_lent l in
    let name = c.args.name.now in
    let e = c.in_ok-i.ensures _ c.volume.ensures in
    let n = new-says s l.device.now l.work.now name _ e in
    let few = new-length name _ n.1 c.new_record-record.ensures in
    named-anew s l.device.now l.work.now _ name _ few n.1 (new-name name _ n.1 c.new_record-record.ensures) (new-free s l.device.now l.work.now name _ e) c.in_ok-i.i.low

pub returns-clause-state : goal.returns-clause-state
returns-clause-state c =
    let l = c.args.lent.now in
    let name = c.args.name.now in
    let h : outcome (state_lent c.change_record.new.images.lent.now) (done_of c.change_record.result) ≡ create (state_lent l) c.args.name.now =
    create-fine (session_lent l) l.device.now l.work.now name _ _ _ (c.in_ok-i.ensures _ c.volume.ensures)
    (create-stores (view (state_lent l)) _ name _ (c.new_record-record.ensures ∙ new-record name)) c.change_record.ensures.state
    in
    search (rules, h)
