use mathlib.Core.Path.{◌≡◌, ap, ◌∙◌}
use Prim.Native.Nat.{ℕ, ◌+◌, max}
use native.Mathlib.Omega.{arith}
use borrow.Author.Rules.{rules}
use lib.ListN.{length}
use Rattle.spec.specs.Disk.{Disk}
use Rattle.spec.specs.Inode.{block_of_inode}
use Rattle.spec.specs.Answers.{done_of}
use Rattle.spec.specs.Transaction.{view}
use Rattle.spec.specs.Calls.{outcome, write}
use Rattle.transaction.specs.LentSessions.{session_lent, state_lent}
use Rattle.transaction.proofs.Laws.{shows-view}
use Rattle.lookup.proofs.Laws.{size-says}
use Rattle.inode.proofs.Laws.{size-told}
use Rattle.change.proofs.Steps.{passed-on}
use Rattle.update.proofs.Laws.{write-bad, write-fine}
use Rattle.update.proofs.write_in.Goals as goal

pub returns-in_err-i-clause-state : goal.returns-in_err-i-clause-state
returns-in_err-i-clause-state c =
    let a = c.args in
    let l = a.lent.now in
    passed-on _ _ _ _ c.from_residual.ensures.1 (write-bad (session_lent l) l.device.now l.work.now a.name.now a.x.0 a.bytes.now _ (c.in_err-i.ensures _ c.volume-volume.ensures))

pub overflow_add-x : goal.overflow_add-x
overflow_add-x c =
    let a = c.args in
    let l = a.lent.now in
    let z = (size-says (session_lent l) l.device.now l.work.now a.name.now _ (a.x.0 + length a.bytes.now) (c.in_ok-i.ensures _ c.volume-volume.ensures)).1 in
    omega arith

pub invariant_of-resize : goal.invariant_of-resize
invariant_of-resize c =
    let a = c.args in
    let l = a.lent.now in
    record { whole = (size-says (session_lent l) l.device.now l.work.now a.name.now _ (a.x.0 + length a.bytes.now) (c.in_ok-i.ensures _ c.volume-volume.ensures)).0 }

pub overflow_cast-x : goal.overflow_cast-x
overflow_cast-x c =
    let a = c.args in
    let l = a.lent.now in
    let z = (size-says (session_lent l) l.device.now l.work.now a.name.now _ (a.x.0 + length a.bytes.now) (c.in_ok-i.ensures _ c.volume-volume.ensures)).1 in
    omega (arith, z)

pub resize-requires : goal.resize-requires
resize-requires c =
    let a = c.args in
    let l = a.lent.now in
    (size-says (session_lent l) l.device.now l.work.now a.name.now _ (a.x.0 + length a.bytes.now) (c.in_ok-i.ensures _ c.volume-volume.ensures)).1

pub returns-clause-state : goal.returns-clause-state
returns-clause-state c =
    let a = c.args in
    let l = a.lent.now in
    let h : outcome (state_lent c.resize.new.images.lent.now) (done_of c.resize.result) ≡ write (state_lent l) a.name.now a.x.0 a.bytes.now =
    write-fine (session_lent l) l.device.now l.work.now a.name.now a.x.0 a.bytes.now _ _ _ (c.in_ok-i.ensures _ c.volume-volume.ensures)
    (c.max-size.ensures
    ∙ ap (λ (k : ℕ). max k (a.x.0 + length a.bytes.now))
    (size-told (view (state_lent l)) _ _ c.in_ok-i.i.n _ c.of.ensures.0 (c.of.ensures.1 ∙ ap (λ (v : Disk). v (block_of_inode c.in_ok-i.i.n)) (shows-view _ _ c.volume-volume.ensures)) c.size-old.ensures))
    c.resize.ensures.state
    in
    search (rules, h)
