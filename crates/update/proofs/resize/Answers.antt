use mathlib.Core.Path.{refl, sym, ap, subst, ◌∙◌}
use Prim.Native.Nat.{ℕ}
use native.Mathlib.Omega.{arith}
use mathlib.Core.List.{List}
use Rattle.spec.specs.Disk.{Disk}
use Rattle.spec.specs.Inode.{name_at, inode_with, bytes_of_inode, block_of_inode}
use Rattle.spec.specs.Transaction.{view}
use Rattle.transaction.specs.LentSessions.{session_lent, state_lent}
use Rattle.runs.specs.Push.{Small}
use Rattle.runs.specs.declared.ExtentList.{ExtentList}
use Rattle.runs.specs.Runs.{levels_in}
use Rattle.runs.proofs.Laws.{small-none}
use Rattle.content.specs.Content.{tree_of}
use Rattle.alloc.specs.Draft.{tree_in}
use Rattle.change.specs.Change.{Change}
use Rattle.content.proofs.Record.{parts-levels}
use lib.ListN.{take}
use Rattle.inode.specs.Records.{record_in}
use Rattle.inode.proofs.Laws.{size-told}
use Rattle.update.proofs.Records.{kept_record}
use Rattle.update.proofs.Stores.{rewrite-stores}
use Rattle.change.proofs.Steps.{passed-on}
use Rattle.update.proofs.Laws.{drafted-for, rewrite-bad, rewrite-fine}
use Rattle.update.proofs.resize.Goals as goal

pub draft_of-requires : goal.draft_of-requires
draft_of-requires c =
    (c.blocks_for-wanted.ensures.1, c.of-bitmap.ensures ∙ c.block.ensures.0, subst (λ (e : ExtentList). Small e 0) (sym c.empty-extents.ensures) small-none)

pub returns-in-Err-clause-state : goal.returns-in-Err-clause-state
returns-in-Err-clause-state c =
    let a = c.args in
    let l = a.images.now.lent.now in
    let plan = drafted-for _ _ a.i.n _ a.size _ _ c.copy-copy.ensures c.blocks_for-wanted.ensures.0 c.draft_of.ensures in
    rewrite-bad (session_lent l) l.device.now l.work.now a.i.n a.size a.x.0 a.bytes.now _ plan.verdict _ c.in-Err.is

pub record_bytes-inode-requires : goal.record_bytes-inode-requires
record_bytes-inode-requires c = omega (arith, (c.draft_of.ensures.tree _ c.in-Ok.is).bounded.blocks)

pub invariant_of-plan : goal.invariant_of-plan
invariant_of-plan c = record { bounded = (c.draft_of.ensures.tree _ c.in-Ok.is).bounded }

pub returns-clause-state : goal.returns-clause-state
returns-clause-state c =
    let a = c.args in
    let l = a.images.now.lent.now in
    let v = view (state_lent l) in
    let seen = c.copy-copy.ensures in
    let plan = drafted-for _ _ a.i.n _ a.size _ _ seen c.blocks_for-wanted.ensures.0 c.draft_of.ensures in
    let draft = c.in-Ok.draft in
    let t = tree_in c.draft_of.new.table.bytes draft in
    let r = c.of-before in
    let block = r.ensures.1 ∙ ap (λ (u : Disk). u (block_of_inode a.i.n)) seen in
    let d : Change = record { tree = t; «record» = c.record_bytes-inode.result; old = c.size-old.result; size = a.size; x = a.x.0; bytes = a.bytes.now } in
    rewrite-fine (session_lent l) l.device.now l.work.now a.i.n a.size a.x.0 a.bytes.now _ plan.verdict _ _ draft c.in-Ok.is
    (rewrite-stores v a.i.n _ d (plan.tree draft c.in-Ok.is) _ a.size
    (c.record_bytes-inode.ensures
    ∙ kept_record v a.i.n _ _ a.size t.extents (levels_in (tree_of t.extents draft.nodes)) (c.name.ensures ∙ ap (λ (k : ℕ). take 8 (record_in r.result.table.now k)) r.ensures.0) block
    ∙ ap (λ (ls : List (List ℕ)). bytes_of_inode (inode_with (name_at v a.i.n) a.size t.extents ls)) (parts-levels t.table t.extents draft.nodes t.before t.held))
    (size-told v _ _ a.i.n _ r.ensures.0 block c.size-old.ensures) refl)
    c.apply.ensures.state
