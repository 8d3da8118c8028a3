use Prim.Native.Nat.{ℕ}
use mathlib.Core.Path.{subst}
use borrow.Author.Rules.{rules}
use Rattle.spec.specs.Transaction.{ascending, insert, put}
use Rattle.transaction.specs.Volumes.{working}
use Rattle.agenda.specs.declared.Content.TheVariants.{Record}
use Rattle.agenda.specs.Agenda.{Told}
use Rattle.change.proofs.Steps.{changed-not, changed-is}
use Rattle.change.proofs.Images.{record-compared}
use Rattle.change.proofs.add_record.Goals as goal

pub returns-then-same_at : goal.returns-then-same_at
returns-then-same_at c =
    let a = c.args in
    let v = working a.copy.now in
    λ f ws e h. changed-not f v a.agenda.now _ Record ws h _ (record-compared v a.i.n _ _ _ _ c.place_in_block.ensures.0 c.inode_block-table.ensures.0 (search rules) c.same_at.ensures _ e) c.if-same_at.true

pub returns : goal.returns
returns c =
    let a = c.args in
    let v = working a.copy.now in
    λ f ws e h. changed-is f v a.agenda.now _ Record ws h _ (record-compared v a.i.n _ _ _ _ c.place_in_block.ensures.0 c.inode_block-table.ensures.0 (search rules) c.same_at.ensures _ e) _ _ c.if-same_at.false
    (λ z. subst (λ (b : ℕ). Told c.insert.result f c.insert.new.self (insert (put b (f b Record)) (ascending ws))) c.table_block.ensures (c.insert.ensures.lists f _ z))
