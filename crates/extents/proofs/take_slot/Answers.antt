use mathlib.Core.Path.{refl}
use native.Mathlib.Omega.{arith}
use Rattle.spec.specs.Bytes.{exactly}
use Rattle.extents.proofs.Laws.{slot-piece, slot-passed}
use Rattle.extents.proofs.take_slot.Goals as goal

pub returns-in_default : goal.returns-in_default
returns-in_default c = c.in_default.ensures

pub returns-then-count-scan : goal.returns-then-count-scan
returns-then-count-scan c = λ v tb x. let o = c.in-Some.ensures v tb x in (slot-passed v tb c.args.scan _ _ o.0 c.if-count-scan.true, o.1)

pub overflow_add-result : goal.overflow_add-result
overflow_add-result c = let o = (c.in-Some.ensures (λ b. exactly 512 c.args.block.now.bytes.now) 0 refl).0 in omega (arith, o.first, o.count)

pub invariant_of-result : goal.invariant_of-result
invariant_of-result c = let o = (c.in-Some.ensures (λ b. exactly 512 c.args.block.now.bytes.now) 0 refl).0 in
    record { first = omega (arith, o.first, o.count); end = omega (arith, o.first, o.count); count = omega (arith, o.first, o.count) }

pub returns : goal.returns
returns c = λ v tb x. let o = c.in-Some.ensures v tb x in slot-piece v tb c.args.scan _ _ o.0 o.1 (omega arith) c.requires _ c.min-here.ensures
