use Prim.Native.Nat.{◌+◌, ◌-◌}
use mathlib.Core.Path.{refl}
use lib.ListN.{length, take, drop}
use native.Mathlib.Omega.{arith}
use Rattle.change.proofs.Images.{same-slices, part-padded, part-whole}
use Rattle.change.proofs.same_at.Goals as goal

pub returns-then-end-block : goal.returns-then-end-block
returns-then-end-block c =
    let a = c.args in
    part-padded a.block.now a.bytes.now a.at _ _ refl (omega (arith, c.requires)) (omega (arith, c.if-end-block.true)) (same-slices (take (a.at + length a.bytes.now - a.at) (drop a.at a.block.now)) a.bytes.now _ c.eq.ensures)

pub returns : goal.returns
returns c = let a = c.args in
    part-whole a.block.now _ a.bytes.now a.at _ _ c.copy_of-padded.ensures refl (same-slices (take (a.at + length a.bytes.now - a.at) (drop a.at c.copy_of-padded.result)) a.bytes.now _ c.eq-2.ensures)
