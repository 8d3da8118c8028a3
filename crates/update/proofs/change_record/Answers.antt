use mathlib.Core.Path.{◌≡◌, sym, ap, ◌∙◌}
use mathlib.Core.List.{List}
use Prim.Native.Nat.{ℕ}
use native.Mathlib.Omega.{arith}
use Rattle.spec.specs.Inode.{block_of_inode}
use Rattle.spec.specs.Answers.{done}
use borrow.Author.Rules.{rules}
use Rattle.spec.specs.Transaction.{state_of, view}
use Rattle.spec.specs.Calls.{left, outcome, settle, staging}
use Rattle.transaction.specs.Places.{spot}
use Rattle.transaction.specs.LentSessions.{session_lent, numbers_lent, state_lent}
use Rattle.transaction.proofs.Laws.{few-lent}
use Rattle.update.specs.Records.{record_stores}
use Rattle.update.proofs.OneBlock.{record-full, record-staged}
use Rattle.update.proofs.change_record.Goals as goal

pub returns-then-place-ge-LOG_LENGTH-clause-state : goal.returns-then-place-ge-LOG_LENGTH-clause-state
returns-then-place-ge-LOG_LENGTH-clause-state c =
    let l = c.args.images.now.lent.now in
    let at : c.spot-place.result ≡ spot (numbers_lent l) (block_of_inode c.args.i.n) = c.spot-place.ensures ∙ ap (spot (numbers_lent l)) c.table_block-block.ensures in
    record-full (session_lent l) l.device.now l.work.now c.args.i.n c.args.new.bytes.now (few-lent l) c.requires (omega (arith, at, c.if-place-ge-LOG_LENGTH.true))

pub invariant_of-image : goal.invariant_of-image
invariant_of-image c = record { own = c.spot-place.ensures; inside = omega (arith, c.if-place-ge-LOG_LENGTH.false) }

pub returns-clause-parts : goal.returns-clause-parts
returns-clause-parts c =
    let p = c.stage_record.ensures.parts.images in
    let h = c.stage_record.ensures.parts.parts in
    search (rules, h, p)

pub returns-clause-state : goal.returns-clause-state
returns-clause-state c =
    let l = c.args.images.now.lent.now in
    let q = c.stage_record.new.image.images.now.lent.now in
    let at : c.spot-place.result ≡ spot (numbers_lent l) (block_of_inode c.args.i.n) = c.spot-place.ensures ∙ ap (spot (numbers_lent l)) c.table_block-block.ensures in
    let d = c.stage_record.ensures.parts.parts.parts.device in
    let p = c.stage_record.ensures.parts.images in
    let h : outcome (state_lent q) done ≡ settle (outcome (state_lent l)) (staging (state_lent l) (record_stores (view (state_lent l)) c.args.i.n c.args.new.bytes.now)) =
    ap (λ (d : List ℕ). left (session_lent q) d q.work.now done) d
    ∙ record-staged (session_lent l) l.device.now l.work.now c.args.i.n c.args.new.bytes.now (few-lent l) c.requires (omega (arith, at, c.if-place-ge-LOG_LENGTH.false)) (session_lent q) q.work.now
    (ap (λ (d : List ℕ). state_of (session_lent q) d q.work.now) (sym d) ∙ c.stage_record.ensures.state)
    in
    search (rules, h, p)
