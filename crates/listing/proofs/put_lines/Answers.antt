use native.Mathlib.Omega.{arith}
use Rattle.text.proofs.Laws.{left_step, left_end}
use Rattle.transaction.specs.Volumes.{working}
use Rattle.listing.proofs.Laws.{lines_more, lines_end}
use Rattle.listing.proofs.put_lines.Goals as goal

pub loop-i-preserved : goal.loop-i-preserved
loop-i-preserved c = left_step _ _ _ _ c.loop-i.invariant _ _ _ (lines_more (working c.args.copy.now) c.loop-i.i (omega arith)) c.put_line.ensures

pub returns : goal.returns
returns c = left_end _ _ _ _ c.loop-i.invariant (lines_end (working c.args.copy.now) c.loop-i.i (omega arith))
