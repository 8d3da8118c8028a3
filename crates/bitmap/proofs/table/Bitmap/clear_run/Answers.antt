use Prim.Native.Nat.{◌+◌, ◌*◌, ◌-◌, ◌/◌, ◌%◌}
use mathlib.Core.Path.{◌≡◌}
use native.Mathlib.Omega.{arith}
use lib.ListN.{length}
use Rattle.spec.specs.Bitmap.{bits_of}
use Rattle.bitmap.proofs.Laws.{length-bits}
use Rattle.bitmap.proofs.Runs.{cut-short, run-parts}
use Rattle.bitmap.proofs.table.Bitmap.clear_run.Goals as goal

pub returns-then-end-whole : goal.returns-then-end-whole
returns-then-end-whole c =
    let t = c.args.self.now in
    let l : length (bits_of t.bytes) ≡ 4096 = omega (arith, length-bits t.bytes, t.whole.full) in
    cut-short (bits_of t.bytes) _ _ _ _ _ _ l c.min-from.ensures c.min.ensures (omega arith) c.clear_in_byte.ensures

pub returns : goal.returns
returns c =
    let t = c.args.self.now in
    let from = c.min-from.result in
    let whole = c.next_multiple_of-whole.result in
    let n = c.min.result in
    let end = from + n in
    let m = 8 * ((end - end % 8 - whole) / 8) in
    let l : length (bits_of t.bytes) ≡ 4096 = omega (arith, length-bits t.bytes, t.whole.full) in
    let a : 8 * (whole / 8) ≡ from + (whole - from) = omega (arith, c.next_multiple_of-whole.ensures) in
    let b : end - end % 8 ≡ from + (whole - from) + m = omega (arith, c.next_multiple_of-whole.ensures) in
    let d : whole - from + m + end % 8 ≡ n = omega (arith, c.next_multiple_of-whole.ensures) in
    let p = run-parts (bits_of t.bytes) _ _ _ from (whole - from) m (end % 8) _ _ c.clear_in_byte-2.ensures a c.clear_bytes.ensures b c.clear_in_byte-3.ensures in
    cut-short (bits_of t.bytes) _ _ _ _ _ _ l c.min-from.ensures c.min.ensures d p
