use Prim.Native.Nat.{ℕ, ◌+◌, ◌*◌, ◌-◌, ◌≤◌}
use mathlib.Core.Path.{◌≡◌, refl, sym, ap, ◌∙◌}
use native.Mathlib.Omega.{arith}
use lib.ListN.{length, take, drop, length-take, length-drop}
use Rattle.transaction.specs.Volumes.{working}
use Rattle.transaction.proofs.Laws.{working-length}
use Rattle.file.specs.Bytes.{run_bytes}
use Rattle.file.proofs.Laws.{landed, landed_none, landed-step, landed-all, part_of, stretch-length, run-next}
use Rattle.file.proofs.copy_blocks.Goals as goal

pub loop-k-init : goal.loop-k-init
loop-k-init c = (refl, omega arith, refl, omega arith, λ count h. landed_none _ _, omega arith, omega arith)

pub loop-k-preserved : goal.loop-k-preserved
loop-k-preserved c =
    let a = c.args in
    let v = working a.copy.now in
    let w = working-length a.copy.now in
    let len = length a.to.now in
    let to = c.loop-k.to in
    let done = c.loop-k.done in
    let off = c.loop-k.off in
    let until = c.min-until.result in
    let n = until - done in
    let begins : a.skip + done ≡ 512 * c.loop-k.k + off = omega (arith, c.loop-k.invariant, c.div_ceil-k-end.ensures, c.loop-k-test.true) in
    let some : done ≤ until = omega (arith, c.loop-k.invariant, c.div_ceil-k-end.ensures, c.loop-k-test.true, c.min-until.ensures) in
    let few : done + n ≤ len = omega (arith, c.min-until.ensures, c.loop-k.invariant.0) in
    let fits : off + n ≤ 512 = omega (arith, c.min-until.ensures) in
    let ends : done + n ≡ until = omega arith in
    let lent : length (take n (drop done to)) ≡ n = simp (length-take, length-drop) (omega (arith, c.loop-k.invariant.0)) in (
      omega arith,
      omega arith,
      refl,
      omega arith,
      λ count h.
          let run = take len (drop a.skip (run_bytes v a.run.extent.first count)) in
          let l = stretch-length v w a.run.extent.first count a.skip len h in
          landed-step run a.to.now to _ done n n (c.loop-k.invariant.4 count h) (omega arith) (omega arith) refl
          (part_of c.block-block.result.now _ (take n (drop done to)) _ off n c.copy_part.ensures lent c.block-block.ensures.0
          ∙ sym (run-next v w a.run.extent.first count a.skip len done c.loop-k.k off n h begins few fits))
          ∙ ap (λ (d : ℕ). landed run d a.to.now) ends,
      omega (arith, c.loop-k.invariant, c.div_ceil-k-end.ensures, c.loop-k-test.true, c.min-until.ensures),
      omega (arith, c.loop-k.invariant, c.loop-k-test.true),
    )

pub returns : goal.returns
returns c =
    let a = c.args in
    let v = working a.copy.now in
    let h = c.requires in
    landed-all _ a.to.now _ _ (c.loop-k.invariant.4 a.run.extent.count h)
    (stretch-length v (working-length a.copy.now) a.run.extent.first a.run.extent.count a.skip (length a.to.now) h)
    (omega (arith, c.loop-k.invariant, c.div_ceil-k-end.ensures, c.loop-k-test.false))
