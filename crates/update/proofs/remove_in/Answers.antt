use mathlib.Core.Path.{◌≡◌, refl, sym, subst, ◌∙◌}
use mathlib.Core.List.{[]}
use native.Mathlib.Omega.{arith}
use borrow.Author.Rules.{rules}
use lib.ListN.{replicate}
use Rattle.spec.specs.Disk.{Disk}
use Rattle.spec.specs.Answers.{done_of}
use Rattle.spec.specs.Transaction.{view}
use Rattle.spec.specs.Calls.{outcome, remove}
use Rattle.transaction.specs.LentSessions.{session_lent, state_lent}
use Rattle.transaction.proofs.Laws.{shows-view}
use Rattle.lookup.proofs.Laws.{file-says}
use Rattle.runs.specs.Push.{Small}
use Rattle.runs.specs.declared.ExtentList.{ExtentList}
use Rattle.runs.proofs.Laws.{small-none}
use Rattle.alloc.specs.Draft.{Built, tree_in}
use Rattle.change.specs.Change.{Change}
use Rattle.update.proofs.Stores.{emptied-fits, remove-stores}
use Rattle.change.proofs.Steps.{passed-on}
use Rattle.update.proofs.Laws.{remove-bad, remove-fine}
use Rattle.update.proofs.remove_in.Goals as goal

pub returns-in_err-i-clause-state : goal.returns-in_err-i-clause-state
returns-in_err-i-clause-state c =
    let l = c.args.lent.now in
    passed-on _ _ _ _ c.from_residual.ensures.1 (remove-bad (session_lent l) l.device.now l.work.now c.args.name.now _ (c.in_err-i.ensures _ c.volume-volume.ensures))

pub draft_of-requires : goal.draft_of-requires
draft_of-requires c =
    (omega arith, c.of-bitmap.ensures ∙ c.block.ensures.0, subst (λ (e : ExtentList). Small e 0) (sym c.empty-extents.ensures) small-none)

pub returns-in-Err-clause-state : goal.returns-in-Err-clause-state
returns-in-Err-clause-state c = let (d, e, b) = emptied-fits _ _ _ _ c.draft_of.ensures in let w = c.in-Err.is in cc

pub invariant_of-plan : goal.invariant_of-plan
invariant_of-plan c = record { bounded = (c.draft_of.ensures.tree _ c.in-Ok.is).bounded }

pub invariant_of-apply : goal.invariant_of-apply
invariant_of-apply c =
    let l = c.args.lent.now in
    record { whole = file-says (session_lent l) l.device.now l.work.now c.args.name.now _ (c.in_ok-i.ensures _ c.volume-volume.ensures) }

pub returns-clause-state : goal.returns-clause-state
returns-clause-state c =
    let l = c.args.lent.now in
    let v = view (state_lent l) in
    let i = c.in_ok-i.i.n in
    let t = tree_in c.draft_of.new.table.bytes c.in-Ok.draft in
    let built = subst (λ (v : Disk). Built v i 0 t) (shows-view _ _ c.volume-volume.ensures) (c.draft_of.ensures.tree _ c.in-Ok.is) in
    let d : Change = record { tree = t; «record» = replicate 32 0; old = 0; size = 0; x = 0; bytes = [] } in
    let h : outcome (state_lent c.apply.new.images.lent.now) (done_of c.apply.result) ≡ remove (state_lent l) c.args.name.now =
    remove-fine (session_lent l) l.device.now l.work.now c.args.name.now _ _ _ (c.in_ok-i.ensures _ c.volume-volume.ensures) (remove-stores v i d built refl) c.apply.ensures.state
    in
    search (rules, h)
