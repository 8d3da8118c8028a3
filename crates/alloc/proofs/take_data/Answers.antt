use Prim.Native.Nat.{◌-◌}
use mathlib.Core.Path.{◌≡◌}
use native.Mathlib.Omega.{arith}
use Rattle.alloc.proofs.Laws.{take-start, take_more}
use Rattle.alloc.proofs.take_data.Goals as goal

pub loop-init : goal.loop-init
loop-init c = take-start _ _ _

pub push-requires : goal.push-requires
push-requires c =
    let l = c.loop in
    let s = l.invariant.small c.args.kept c.requires.0 in
    let w = l.invariant.within in
    (omega (arith, s.count (l.extents.end.len - 1), w, c.requires), omega (arith, s.len, w, c.requires), omega (arith, s.next, w, c.requires))

pub loop-preserved : goal.loop-preserved
loop-preserved c = take_more _ _ _ _ _ _ _ c.loop.invariant c.loop-test.true _ _ _ c.pick-b.ensures c.push.ensures

pub returns : goal.returns
returns c =
    let i = c.loop.invariant in
    let e : c.loop.counter ≡ c.args.n = omega (arith, c.loop-test.false, i.within) in
    rw (← e) (record { bits = i.bits; free = i.free; holds = i.holds; small = i.small c.args.kept c.requires.0 })
