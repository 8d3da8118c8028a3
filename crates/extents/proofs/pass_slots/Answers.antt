use Prim.Native.Nat.{◌+◌}
use mathlib.Core.Path.{refl, ap}
use native.Mathlib.Omega.{arith}
use Rattle.inode.proofs.Walk.{slots-many}
use Rattle.extents.proofs.Laws.{whole_none, whole-passed}
use Rattle.extents.proofs.pass_slots.Goals as goal

pub loop-bytes-init : goal.loop-bytes-init
loop-bytes-init c = record { each = refl; passes = λ v tb x. whole_none v tb c.args.scan }

pub overflow_add-passed : goal.overflow_add-passed
overflow_add-passed c = omega (arith, c.loop-bytes.invariant.each)

pub loop-bytes-preserved : goal.loop-bytes-preserved
loop-bytes-preserved c =
    let e = c.loop-bytes.invariant.each in
    let w = c.whole_slots-bytes-items.ensures in
    record {
      each = ap (λ k. k + 1) e;
      passes = λ v tb x.
          whole-passed v tb c.args.scan c.args.block.now.bytes.now c.loop-bytes.passed c.loop-bytes.skip c.slot_of-count.result c.args.block.now.short x (c.loop-bytes.invariant.passes v tb x)
          (rw (e, ← w) c.loop-bytes-test.true) (rw (e, ← w) c.slot_of-count.ensures) c.if-count-skip.false;
    }

pub overflow_mul-at : goal.overflow_mul-at
overflow_mul-at c =
    let a = c.args in
    let n = slots-many a.block.now.bytes.now a.scan.at.at a.scan.at.left c.loop-bytes.passed a.block.now.short _ c.whole_slots-bytes-items.ensures (omega (arith, c.loop-bytes.invariant.each)) in
    omega (arith, n)

pub overflow_add-at : goal.overflow_add-at
overflow_add-at c =
    let a = c.args in
    let n = slots-many a.block.now.bytes.now a.scan.at.at a.scan.at.left c.loop-bytes.passed a.block.now.short _ c.whole_slots-bytes-items.ensures (omega (arith, c.loop-bytes.invariant.each)) in
    omega (arith, n)

pub overflow_sub-at : goal.overflow_sub-at
overflow_sub-at c =
    let a = c.args in
    (slots-many a.block.now.bytes.now a.scan.at.at a.scan.at.left c.loop-bytes.passed a.block.now.short _ c.whole_slots-bytes-items.ensures (omega (arith, c.loop-bytes.invariant.each))).0

pub returns : goal.returns
returns c = c.loop-bytes.invariant.passes
