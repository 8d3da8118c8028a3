use Rattle.transaction.specs.Volumes.{working}
use Rattle.inode.proofs.Cursor.step.Goals as goal

pub returns-in-Some : goal.returns-in-Some
returns-in-Some c = (c.in-Some.ensures (working c.args.copy.now) c.args.record_block.0 c.block.ensures.0).0

pub returns-in_err-b : goal.returns-in_err-b
returns-in_err-b c =
    let v = working c.args.copy.now in
    let tb = c.args.record_block.0 in
    rw c.from_residual.ensures (c.in_err-b.ensures v tb c.block-2.ensures.0 (c.in_default.ensures v tb c.block.ensures.0))

pub returns : goal.returns
returns c =
    let v = working c.args.copy.now in
    let tb = c.args.record_block.0 in
    (c.in_ok-b.ensures v tb c.block-2.ensures.0 (c.in_default.ensures v tb c.block.ensures.0)).0
