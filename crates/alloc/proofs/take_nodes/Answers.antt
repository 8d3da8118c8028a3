use mathlib.Core.Path.{refl}
use native.Mathlib.Omega.{arith}
use Rattle.alloc.proofs.Laws.{fill_start, fill_few, fill_more, fill_end}
use Rattle.alloc.proofs.take_nodes.Goals as goal

pub loop-init : goal.loop-init
loop-init c = fill_start _ _ _ _ _ c.len-counter.ensures.0 c.prefix-nodes.ensures

pub pick-requires : goal.pick-requires
pick-requires c = let f = c.loop.invariant in (refl, omega (arith, f.low, f.free, c.requires.1, c.loop-test.true))

pub push-requires : goal.push-requires
push-requires c = fill_few _ _ _ _ _ _ c.loop.invariant c.loop-test.true c.requires.0

pub loop-preserved : goal.loop-preserved
loop-preserved c = rw c.push.ensures (fill_more _ _ _ _ _ _ c.loop.invariant c.loop-test.true _ _ c.pick.ensures)

pub returns : goal.returns
returns c = fill_end _ _ _ _ _ _ c.loop.invariant c.loop-test.false
