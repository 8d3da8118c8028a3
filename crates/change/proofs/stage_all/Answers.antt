use mathlib.Core.Path.{ap, ap₂, ◌∙◌}
use mathlib.Core.List.{List}
use Prim.Native.Nat.{ℕ}
use Rattle.spec.specs.Transaction.{state_of}
use Rattle.transaction.specs.LentSessions.{session_lent, state_lent}
use Rattle.transaction.proofs.Laws.{held_then}
use Rattle.change.specs.Contents.{change_of}
use Rattle.change.proofs.Staging.{stage-room, stage-step, stage-end}
use Rattle.change.proofs.stage_all.Invariants.{all_staged}
use Rattle.change.proofs.stage_all.Goals as goal

pub stage_block-requires : goal.stage_block-requires
stage_block-requires c =
    let p = c.args.plan.now in
    let l = c.loop-e.images.lent.now in
    let es = c.as_slice-e-items.result.now in
    stage-room c.args.plan.now.number.n (change_of p) _ (session_lent l) l.device.now l.work.now es _ c.loop-e.invariant.going c.loop-e-test.true

pub loop-e-preserved : goal.loop-e-preserved
loop-e-preserved c =
    let p = c.args.plan.now in
    let l = c.loop-e.images.lent.now in
    let es = c.as_slice-e-items.result.now in
    record {
      parts = held_then _ _ _ c.loop-e.invariant.parts c.stage_block.ensures.parts;
      going = stage-step c.args.plan.now.number.n (change_of p) _ (session_lent l) l.device.now l.work.now es _ c.loop-e.invariant.going c.loop-e-test.true _ c.stage_block.ensures.state;
    }

pub returns-clause-state : goal.returns-clause-state
returns-clause-state c =
    let p = c.args.plan.now in
    let l = c.loop-e.images.lent.now in
    let q = c.settle.new.self in
    let es = c.as_slice-e-items.result.now in
    ap₂ (λ (d w : List ℕ). state_of (session_lent q) d w) c.settle.ensures.parts.device c.settle.ensures.bytes
    ∙ stage-end c.args.plan.now.number.n (change_of p) _ (session_lent l) l.device.now l.work.now es _ c.loop-e.invariant.going c.loop-e-test.false _ c.settle.ensures.numbers
    ∙ ap (all_staged p (state_lent c.args.images.now.lent.now)) c.as_slice-e-items.ensures.0
