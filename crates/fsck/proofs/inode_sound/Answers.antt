use Rattle.std.proofs.Common.{rules}
use mathlib.Core.Path.{sym, ◌∙◌}
use mathlib.Core.Bool.{true≢false}
use native.Mathlib.Omega.{arith}
use borrow.Author.Tests.{eq-eqb, ne_eqb}
use Rattle.block.proofs.Laws.{block-length}
use Rattle.marks.specs.Device.{disk_of}
use Rattle.filecheck.specs.File.{Stands}
use Rattle.fsck.proofs.Names.{empty-by, told-empty, told-more, first_off, first_on}
use Rattle.fsck.proofs.Records.{rest-zero, inode-empty, inode-off, inode-on}
use Rattle.fsck.proofs.inode_sound.Goals as goal

pub returns-then-number-eq0 : goal.returns-then-number-eq0
returns-then-number-eq0 c = let x = c.args.file.now in let s : Stands x = search rules in let v = disk_of x.device in let f = block-length x.device.bytes.now in let w = c.key-number.ensures in
    let e = empty-by v f x.table.now x.i.n _ s w in let h = eq-eqb c.key-number.result 0 c.if-number-eq0.true in
    (inode-empty _ v x.i.n _ e _ _ h (rest-zero v _ x.i.n _ _ c.place_in_block-at.ensures.0 s (sym e ∙ h) c.clear_in.ensures), λ _. told-empty v f _ x.i.n c.requires (sym e ∙ h))

pub returns-then-holds : goal.returns-then-holds
returns-then-holds c = let x = c.args.file.now in let s : Stands x = search rules in let v = disk_of x.device in let f = block-length x.device.bytes.now in let w = c.key-number.ensures in (
  inode-off _ v x.i.n _ (empty-by v f x.table.now x.i.n _ s w) (ne_eqb c.key-number.result 0 c.if-number-eq0.false) _ _
      (first_off v f x.table.now x.i.n _ s w _ c.requires (omega arith) _ c.holds.ensures c.if-holds.true),
  λ h. absurd (true≢false (sym h)),
)

pub returns : goal.returns
returns c = let x = c.args.file.now in let s : Stands x = search rules in let v = disk_of x.device in let f = block-length x.device.bytes.now in let w = c.key-number.ensures in (
  inode-on _ v x.i.n _ (empty-by v f x.table.now x.i.n _ s w) (ne_eqb c.key-number.result 0 c.if-number-eq0.false) _ _ _
      (first_on v f x.table.now x.i.n _ s w _ c.requires (omega arith) _ c.holds.ensures c.if-holds.false) c.file_sound.ensures,
  λ _. told-more v f x.table.now x.i.n _ s w _ c.requires (omega arith) _ c.add.ensures,
)
