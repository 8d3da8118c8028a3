use mathlib.Core.Path.{◌≡◌}
use Prim.Native.Nat.{◌+◌}
use native.Mathlib.Omega.{arith}
use borrow.Author.Rules.{rules}
use Rattle.spec.specs.Answers.{done_of}
use Rattle.spec.specs.Calls.{outcome, set_size}
use Rattle.transaction.specs.LentSessions.{session_lent, state_lent}
use Rattle.lookup.proofs.Laws.{size-says}
use Rattle.change.proofs.Steps.{passed-on}
use Rattle.update.proofs.Laws.{set-size-bad, set-size-fine}
use Rattle.update.proofs.set_size_in.Goals as goal

pub returns-in_err-i-clause-state : goal.returns-in_err-i-clause-state
returns-in_err-i-clause-state c =
    let a = c.args in
    let l = a.lent.now in
    passed-on _ _ _ _ c.from_residual.ensures.1 (set-size-bad (session_lent l) l.device.now l.work.now a.name.now a.size _ (c.in_err-i.ensures _ c.volume.ensures))

pub invariant_of-resize : goal.invariant_of-resize
invariant_of-resize c =
    let a = c.args in
    let l = a.lent.now in
    record { whole = (size-says (session_lent l) l.device.now l.work.now a.name.now _ (0 + a.size) (c.in_ok-i.ensures _ c.volume.ensures)).0 }

pub overflow_cast-size : goal.overflow_cast-size
overflow_cast-size c =
    let a = c.args in
    let l = a.lent.now in
    let z = (size-says (session_lent l) l.device.now l.work.now a.name.now _ (0 + a.size) (c.in_ok-i.ensures _ c.volume.ensures)).1 in
    omega (arith, z)

pub returns-clause-state : goal.returns-clause-state
returns-clause-state c =
    let a = c.args in
    let l = a.lent.now in
    let h : outcome (state_lent c.resize.new.images.lent.now) (done_of c.resize.result) ≡ set_size (state_lent l) a.name.now a.size =
    set-size-fine (session_lent l) l.device.now l.work.now a.name.now _ a.size _ (c.in_ok-i.ensures _ c.volume.ensures) c.resize.ensures.state
    in
    search (rules, h)
