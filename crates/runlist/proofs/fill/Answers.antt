use mathlib.Core.Path.{sym, ◌∙◌}
use native.Mathlib.Omega.{arith}
use Rattle.runlist.proofs.Laws.{fill_more, fill_there}
use Rattle.runlist.proofs.fill.Goals as goal

pub unwrap-requires : goal.unwrap-requires
unwrap-requires c = fill_there _ _ _ c.loop-k.invariant (omega (arith, c.loop-k.auto.k-end, c.loop-k-test.true)) _ c.nth_extent.ensures

pub loop-k-preserved : goal.loop-k-preserved
loop-k-preserved c = fill_more _ _ _ c.loop-k.invariant (omega (arith, c.loop-k.auto.k-end, c.loop-k-test.true)) _ (sym c.unwrap.ensures ∙ c.nth_extent.ensures)
