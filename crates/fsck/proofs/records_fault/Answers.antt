use Prim.Native.Nat.{◌+◌}
use mathlib.Core.Path.{◌≡◌, sym, ap, ◌∙◌}
use mathlib.Core.Bool.{not}
use native.Mathlib.Omega.{arith}
use Rattle.marks.specs.Device.{disk_of}
use Rattle.block.proofs.Laws.{block-length}
use Rattle.inode.proofs.Laws.{lowest-hit, lowest-miss, lowest-none}
use Rattle.marks.proofs.Laws.{kept_on, reach-more}
use Rattle.fsck.proofs.Records.{unsound-by, found_some, zero-fault, zero-passed, table-holds, passed-end}
use Rattle.fsck.proofs.records_fault.Goals as goal

pub returns-then-is_zero : goal.returns-then-is_zero
returns-then-is_zero c = let x = c.args.device.now in let first = c.args.first.n in let p = c.requires in let v = disk_of x in
    let e = c.copy_of-table.ensures ∙ c.block_at.ensures ∙ ap v c.table_block.ensures in let z = sym c.is_zero.ensures ∙ c.if-is_zero.true in
    (zero-fault x.blocks v first p.0 _ e z, λ _. zero-passed x.blocks v first p.0 _ e z (block-length x.bytes.now) _ _ p.1)

pub invariant_of-record : goal.invariant_of-record
invariant_of-record c = let x = c.args.device.now in record {
  stands = table-holds (disk_of x) c.copy_of-table.result c.block_at.result.now c.args.first.n _ c.loop-i.i c.copy_of-table.ensures c.block_at.ensures c.table_block.ensures c.requires.0 (omega arith) (omega arith);
}

pub returns-then-not-inode_sound : goal.returns-then-not-inode_sound
returns-then-not-inode_sound c = let l = c.loop-i in
    (sym (l.invariant.0 ∙ lowest-hit _ _ _ (omega arith) (unsound-by _ _ _ _ _ c.inode_sound.ensures.0.answer (ap not c.if-not-inode_sound.true))), λ h. found_some _ h)

pub loop-i-preserved : goal.loop-i-preserved
loop-i-preserved c = let l = c.loop-i in let r = c.inode_sound.ensures in let s = c.if-not-inode_sound.false in (
  l.invariant.0 ∙ lowest-miss _ _ _ (omega arith) (unsound-by _ _ _ _ _ r.0.answer (ap not s)),
  kept_on _ _ _ _ _ l.invariant.1 _ _ _ (reach-more _ (c.args.first.n + 16) l.i (omega arith)) (r.0.marks s),
  r.1 s,
)

pub returns : goal.returns
returns c = let l = c.loop-i in let e : l.i ≡ c.args.first.n + 16 = omega arith in
    (sym (l.invariant.0 ∙ lowest-none _ _ _ (omega arith)), λ _. passed-end _ _ _ l.i _ _ _ _ e l.invariant.1 l.invariant.2)
