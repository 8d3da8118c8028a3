use Prim.Native.Nat.{ℕ, ◌-◌}
use native.Mathlib.Omega.{arith}
use mathlib.Core.Path.{refl, ap, ◌∙◌}
use Rattle.transaction.specs.Volumes.{working}
use Rattle.runs.proofs.Laws.{listed-few, listed-none}
use Rattle.alloc.proofs.Plan.{held-few, no-space, no-space-nodes, too_many, drafted}
use Rattle.alloc.proofs.draft_of.Goals as goal

pub returns-then-free-fresh : goal.returns-then-free-fresh
returns-then-free-fresh c =
    let v = working c.args.copy.now in
    no-space v c.args.i.n c.args.wanted _ _ _ _ c.requires.1 c.free_in-free.ensures c.keep-kept.ensures c.if-free-fresh.true _

pub returns-then-free-fresh-2 : goal.returns-then-free-fresh-2
returns-then-free-fresh-2 c =
    let v = working c.args.copy.now in
    let held = c.held_nodes-held.ensures v c.inode_block.ensures.0 in
    no-space-nodes v c.args.i.n c.args.wanted _ _ _ _ c.requires.1 c.free_in-free.ensures c.keep-kept.ensures c.if-free-fresh.false _ _ c.take_data.ensures _ held
    _ c.nodes_for-many.ensures _ (c.saturating_sub-lacking.ensures ∙ ap (λ (k : ℕ). c.nodes_for-many.result - k) c.len.ensures.0) c.if-free-fresh-2.true _

pub returns-in_default : goal.returns-in_default
returns-in_default c =
    let v = working c.args.copy.now in
    let held = c.held_nodes-held.ensures v c.inode_block.ensures.0 in
    too_many v c.args.i.n c.args.wanted _ _ _ _ c.requires.1 c.free_in-free.ensures c.keep-kept.ensures c.if-free-fresh.false _ _ c.take_data.ensures _ held
    _ c.nodes_for-many.ensures _ (c.saturating_sub-lacking.ensures ∙ ap (λ (k : ℕ). c.nodes_for-many.result - k) c.len.ensures.0) c.if-free-fresh-2.false (listed-none _ c.in_default.ensures) _

pub overflow_add-result : goal.overflow_add-result
overflow_add-result c = omega (arith, held-few _ c.args.i.n c.args.wanted _ _ _ _ _ c.keep-kept.ensures c.give_back-dropped.ensures)

pub returns : goal.returns
returns c =
    let v = working c.args.copy.now in
    let held = c.held_nodes-held.ensures v c.inode_block.ensures.0 in
    drafted v c.args.i.n c.args.wanted _ _ _ _ c.requires.1 c.free_in-free.ensures c.keep-kept.ensures c.if-free-fresh.false _ _ c.take_data.ensures _ held
    _ c.nodes_for-many.ensures _ (c.saturating_sub-lacking.ensures ∙ ap (λ (k : ℕ). c.nodes_for-many.result - k) c.len.ensures.0) c.if-free-fresh-2.false _ c.in-Some.ensures
    _ _ _ _ c.take_nodes-nodes.ensures _ c.give_back-dropped.ensures c.give_nodes.ensures c.give_nodes.new.t.whole _ refl _ c.len-2.ensures.0

pub take_nodes-nodes-requires : goal.take_nodes-nodes-requires
take_nodes-nodes-requires c =
    let few = listed-few _ _ c.in-Some.ensures in
    (omega (arith, few, c.nodes_for-many.ensures), omega (arith, c.take_data.ensures.free, c.free_in-free.ensures, c.if-free-fresh-2.false, c.saturating_sub-lacking.ensures, c.len.ensures.0))
