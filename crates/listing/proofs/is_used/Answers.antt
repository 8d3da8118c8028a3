use Prim.Native.Nat.{ℕ}
use lib.ListN.{take}
use Rattle.spec.specs.Bytes.{all_zero}
use Rattle.inode.specs.Records.{record_in}
use mathlib.Core.Path.{ap, ◌∙◌}
use mathlib.Core.Bool.{not}
use Rattle.transaction.specs.Volumes.{working}
use Rattle.listing.proofs.Laws.{used-is, used-none, used-some}
use Rattle.listing.proofs.is_used.Goals as goal

pub returns-in_default : goal.returns-in_default
returns-in_default c = used-none (working c.args.copy.now) c.args.i c.in_default.ensures

pub returns : goal.returns
returns c =
    let v = working c.args.copy.now in
    used-some v c.args.i c.in-Some.i _ c.in-Some.ensures (ap not (c.is_empty.ensures ∙ ap (λ (k : ℕ). all_zero (take 8 (record_in c.of-2.result.table.now k))) c.of-2.ensures.0) ∙ used-is v c.in-Some.i.n c.of-2.result.table.now c.of-2.ensures.1)
