use mathlib.Core.Path.{sym, ap, ◌∙◌}
use native.Mathlib.Omega.{arith}
use Rattle.transaction.specs.Volumes.{working}
use Rattle.extents.proofs.Laws.{no_room}
use Rattle.extents.proofs.pieces.PiecesIterator.next.Goals as goal

pub returns-in_err-b-in-Unused-clause-steps : goal.returns-in_err-b-in-Unused-clause-steps
returns-in_err-b-in-Unused-clause-steps c =
    let s = c.loop-self.self in
    let v = working s.copy in
    let n = c.in_err-b-in-Unused.ensures v s.record_block.0 s.of_record (c.in-Unused.ensures v s.record_block.0 s.of_cursor) in
    rw c.from_residual.ensures (c.loop-self.invariant.left ∙ n, n)

pub invariant_of-self-in-Unused-2 : goal.invariant_of-self-in-Unused-2
invariant_of-self-in-Unused-2 c =
    let s = c.loop-self.self in
    let v = working s.copy in
    let g = c.in_ok-b-in-Unused.ensures v s.record_block.0 s.of_record (c.in-Unused.ensures v s.record_block.0 s.of_cursor) in
    record { of_record = s.of_record; of_cursor = c.block.ensures.0 ∙ ap v (sym g.1) }

pub loop-self-smaller : goal.loop-self-smaller
loop-self-smaller c =
    let s = c.loop-self.self in
    let v = working s.copy in
    (c.in_ok-b-in-Unused.ensures v s.record_block.0 s.of_record (c.in-Unused.ensures v s.record_block.0 s.of_cursor)).0.less

pub loop-self-preserved : goal.loop-self-preserved
loop-self-preserved c =
    let s = c.loop-self.self in
    let v = working s.copy in
    let w = c.loop-self.invariant in
    let g = (c.in_ok-b-in-Unused.ensures v s.record_block.0 s.of_record (c.in-Unused.ensures v s.record_block.0 s.of_cursor)).0 in
    record { left = w.left ∙ g.pieces; room = g.room ∙ w.room; copy = w.copy; tree = w.tree }

pub returns-clause-steps : goal.returns-clause-steps
returns-clause-steps c = let n = no_room _ _ c.loop-self.self.scan (omega arith) in (c.loop-self.invariant.left ∙ n, n)
