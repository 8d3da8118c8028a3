use mathlib.Core.Path.{sym}
use native.Mathlib.Omega.{arith}
use Rattle.bitmap.proofs.Runs.{hole, unmarked, bits-holed}
use Rattle.bitmap.proofs.table.Bitmap.clear_in_byte.Goals as goal

pub returns-then-n-eq0 : goal.returns-then-n-eq0
returns-then-n-eq0 c = sym (unmarked 0 _ _ _ c.if-n-eq0.true)

pub returns : goal.returns
unfolding hole
returns c = rw c.mask.ensures (bits-holed _ _ _ c.args.self.now.whole.full (omega arith) (omega arith))
