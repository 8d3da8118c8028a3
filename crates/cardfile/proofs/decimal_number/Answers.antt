use Rattle.std.proofs.Common.{arith}
use Rattle.cardfile.proofs.Laws.{told_below, decimals-more, decimals-room}
use Rattle.cardfile.proofs.decimal_number.Goals as goal

pub overflow_mul-n : goal.overflow_mul-n
overflow_mul-n c = omega (arith, decimals-room _ _ _ c.loop-c.invariant (omega arith))

pub overflow_add-n : goal.overflow_add-n
overflow_add-n c = let d = told_below 10 _ _ c.in_ok-n.ensures in omega (arith, decimals-room _ _ _ c.loop-c.invariant (omega arith), d.1)

pub loop-c-preserved : goal.loop-c-preserved
loop-c-preserved c = decimals-more _ _ _ c.loop-c.invariant _ c.loop-c-test.true c.in_ok-n.ensures
