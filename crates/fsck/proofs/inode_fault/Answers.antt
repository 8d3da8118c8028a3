use Prim.Native.Nat.{◌+◌, ◌*◌}
use mathlib.Core.Path.{◌≡◌, refl, sym, ◌∙◌}
use native.Mathlib.Omega.{arith}
use Rattle.block.proofs.Laws.{block-length}
use Rattle.inode.proofs.Laws.{lowest-in, lowest-past, lowest-none}
use Rattle.marks.proofs.Laws.{kept-start, kept_on, kept-end, reach-start, reach-on, reach-end}
use Rattle.fsck.proofs.Names.{told-start}
use Rattle.fsck.proofs.Records.{fault-all, found_some}
use Rattle.fsck.proofs.inode_fault.Goals as goal

pub loop-k-init : goal.loop-k-init
loop-k-init c = (refl, kept-start _ _ _ _ (reach-start _), told-start _ (block-length _) _ c.default-names.ensures)

pub returns-in-Some : goal.returns-in-Some
returns-in-Some c = let l = c.loop-k in
    (sym (fault-all _ _ ∙ l.invariant.0 ∙ lowest-in _ 128 _ (16 * l.k) (omega arith) (omega arith) _ (sym c.records_fault.ensures.0 ∙ c.in-Some.is)), λ h. found_some _ h)

pub loop-k-preserved : goal.loop-k-preserved
loop-k-preserved c = let l = c.loop-k in let i = l.invariant in let r = c.records_fault.ensures in let n = c.in_default.is in let q = r.1 n in
    let e : 16 * l.k + 16 ≡ 16 * (l.k + 1) = omega arith in (
      rw (← e) (i.0 ∙ lowest-past _ 128 _ (16 * l.k) (omega arith) (omega arith) (sym r.0 ∙ n)),
      rw (← e) (kept_on _ _ _ _ _ i.1 _ _ _ (reach-on _ 128 _ (16 * l.k) (omega arith) (omega arith)) q.marks),
      rw (← e) q.told,
    )

pub returns : goal.returns
returns c = let l = c.loop-k in (sym (fault-all _ _ ∙ l.invariant.0 ∙ lowest-none _ _ _ (omega arith)), λ _. kept-end _ _ _ _ _ l.invariant.1 _ (reach-end _ _ _ (omega arith)) refl)
