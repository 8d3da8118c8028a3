use Rattle.std.proofs.Common.{◌≡◌, ◌/◌, length, arith, rules}
use Rattle.std.specs.Iterator.Adapters.{rev_source}
use Rattle.std.specs.Simd.{first_chunks}
use Rattle.std.specs.Slice.Iter.{iter_rest}
use Rattle.cardfile.proofs.Laws.{told_below, pairs-none, pairs-more, pairs-room}
use Rattle.cardfile.proofs.hex_number.Goals as goal

pub loop-a-init : goal.loop-a-init
loop-a-init c =
    let t = c.args.t.now in
    let e : iter_rest (rev_source c.into_iter-a-iterator.result) ≡ first_chunks 2 (length t / 2) t = search rules in
    pairs-none t (length t / 2) _ (omega arith) e

pub overflow_mul-n : goal.overflow_mul-n
overflow_mul-n c = omega (arith, pairs-room c.args.t.now _ _ _ _ _ c.loop-a.invariant (omega arith) c.in-Some.ensures.steps (omega arith))

pub overflow_add-n : goal.overflow_add-n
overflow_add-n c =
    let d = told_below 256 _ _ c.in_ok-n.ensures in
    omega (arith, pairs-room c.args.t.now _ _ _ _ _ c.loop-a.invariant (omega arith) c.in-Some.ensures.steps (omega arith), d.1)

pub loop-a-preserved : goal.loop-a-preserved
loop-a-preserved c = pairs-more c.args.t.now _ _ _ _ _ c.loop-a.invariant (omega arith) c.in-Some.ensures.steps _ c.in_ok-n.ensures
