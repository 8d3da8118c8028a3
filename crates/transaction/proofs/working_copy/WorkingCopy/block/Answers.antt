use mathlib.Core.Path.{ap, sym, ◌∙◌}
use native.Mathlib.Omega.{arith}
use Rattle.spec.specs.Bytes.{exactly}
use Rattle.block.proofs.Laws.{block-is}
use Rattle.transaction.proofs.Laws.{at_lt, view-at, view-new, part-few}
use Rattle.transaction.proofs.working_copy.WorkingCopy.block.Goals as goal

pub overflow_cast-i : goal.overflow_cast-i
overflow_cast-i c = omega (arith, at_lt c.args.self.now.staged.list.now c.args.b.0 c.in-Some.i (sym c.place_of.ensures ∙ c.in-Some.is))

pub returns-in-Some : goal.returns-in-Some
returns-in-Some c = (
  ap (exactly 512) c.block_in.ensures ∙ sym (block-is _ _)
      ∙ sym (view-at _ c.args.self.now.device.now _ _ _ (sym c.place_of.ensures ∙ c.in-Some.is)),
  part-few c.args.self.now.work.now _ c.in-Some.i c.block_in.ensures,
)

pub returns-in-None : goal.returns-in-None
returns-in-None c = (
  ap (exactly 512) c.block_in-in-None.ensures ∙ sym (block-is _ _)
      ∙ sym (view-new _ _ c.args.self.now.work.now _ (sym c.place_of.ensures ∙ c.in-None.is)),
  part-few c.args.self.now.device.now _ c.args.b.0 c.block_in-in-None.ensures,
)
