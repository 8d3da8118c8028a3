use mathlib.Core.Path.{◌∙◌}
use native.Mathlib.Omega.{arith}
use borrow.Author.Rules.{rules}
use Rattle.content.proofs.Laws.{slots-more}
use Rattle.content.proofs.lay_slots.Goals as goal

pub loop-k-preserved : goal.loop-k-preserved
loop-k-preserved c =
    let i = c.loop-k.invariant in
    record {
      within = omega (arith, c.loop-k-test.true);
      full = search rules;
      laid = slots-more _ _ _ _ _ i.laid c.loop-k-test.true (c.copy_from_slice.ensures.after ∙ c.slot_bytes.ensures);
    }
