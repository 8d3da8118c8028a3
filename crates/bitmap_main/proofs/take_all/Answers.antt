use mathlib.Core.Path.{sym, ◌∙◌}
use native.Mathlib.Omega.{arith}
use Rattle.spec.specs.Bytes.{place}
use Rattle.spec.specs.Bitmap.{bits_of}
use Rattle.bitmap.proofs.Laws.{next-free, found_nothing, none_free, free-le, length-bits}
use Rattle.bitmap_main.proofs.take_all.Goals as goal

-- `bitmap_main::take_all` meets its contract. The bits taken and those still free are as many as were free at first.

pub returns-in_default : goal.returns-in_default
returns-in_default c =
    let bits = bits_of c.loop-taken.t.bytes in
    omega (arith, none_free bits (found_nothing (place 0 bits) (sym c.in_default.is ∙ c.lowest_free_from.ensures)), c.loop-taken.invariant.1)

pub set-requires : goal.set-requires
set-requires c =
    (next-free c.loop-taken.t.bytes c.in-Some.b c.loop-taken.t.whole (sym c.in-Some.is ∙ c.lowest_free_from.ensures)).within

pub loop-taken-preserved : goal.loop-taken-preserved
loop-taken-preserved c =
    let n = next-free c.loop-taken.t.bytes c.in-Some.b c.loop-taken.t.whole (sym c.in-Some.is ∙ c.lowest_free_from.ensures) in
    rw c.set.ensures (n.below, omega (arith, n.fewer, c.loop-taken.invariant.1))

pub returns : goal.returns
returns c =
    let t = c.args.table in
    omega (arith, free-le (bits_of t.bytes), length-bits t.bytes, t.whole.full)
