use mathlib.Core.Path.{ap, ◌∙◌}
use native.Mathlib.Omega.{arith}
use lib.ListN.{length}
use Rattle.block.proofs.Laws.{length-exactly, exactly-small}
use Rattle.bitmap.proofs.table.Bitmap.of.Goals as goal

pub invariant_of-result : goal.invariant_of-result
invariant_of-result c =
    let block = c.args.block.now in
    record {
      whole = record {
        full = ap length c.copy_of.ensures ∙ length-exactly 512 block;
        bytes = λ i. rw c.copy_of.ensures (exactly-small 512 256 block (omega arith) (λ j. omega (arith, c.type_inv.block j)) i);
      };
    }
