use mathlib.Core.Path.{refl}
use native.Mathlib.Omega.{arith}
use Rattle.marks.proofs.Laws.{run-start, run_more, run_end, kept_on, kept-end}
use Rattle.marks.proofs.Marks.mark_run.Goals as goal

pub returns-then-end-from : goal.returns-then-end-from
returns-then-end-from c =
    kept-end _ _ _ _ _ (run-start _ _ _ c.data_from-from.result.0 c.min-end.result _ (omega arith) (omega arith)) _ (run_end _ _ c.if-end-from.true) refl

pub loop-i-init : goal.loop-i-init
loop-i-init c = run-start _ _ _ _ _ _ (omega arith) (omega arith)

pub loop-i-preserved : goal.loop-i-preserved
loop-i-preserved c =
    kept_on _ _ _ _ _ c.loop-i.invariant _ _ _ (run_more _ _ _ _ _ (omega arith) (omega arith) (omega arith)) (c.mark_byte.ensures _ (omega arith))
