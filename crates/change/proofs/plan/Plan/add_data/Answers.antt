use Prim.Native.Nat.{ℕ, ◌-◌}
use mathlib.Core.Path.{◌≡◌, sym, ap, ◌∙◌}
use native.Mathlib.Omega.{arith}
use lib.ListN.{length, take}
use lib.Seq.{take-length}
use Rattle.std.specs.Slice.Iter.{iter_rest}
use Rattle.std.specs.Iterator.Adapters.{rev_source}
use Rattle.spec.specs.declared.Extent.{Extent}
use Rattle.content.proofs.Record.{counts-by}
use Rattle.change.specs.Contents.{place_of, change_of}
use Rattle.change.proofs.Places.{place_none, place-sum, all_blocks, extent-left}
use Rattle.change.proofs.Steps.{told-err, data-cast, data-start, gap-lists, data-below}
use Rattle.change.proofs.Outside.{clear-run}
use Rattle.change.proofs.plan.Plan.add_data.Goals as goal

pub block_count-at-requires : goal.block_count-at-requires
block_count-at-requires c = omega (arith, counts-by c.args.self.now.draft.extents.now, c.args.self.now.bounded.blocks)

pub loop-e-init : goal.loop-e-init
loop-e-init c =
    let es = c.args.self.now.draft.extents.now in
    let r : iter_rest (rev_source c.into_iter-e-iterator.result) ≡ es =
    ap (λ q. iter_rest q) (ap (λ q. rev_source q) c.into_iter-e-iterator.ensures.into_iter_gives ∙ c.rev-e-items.ensures.source) ∙ c.iter.ensures.rest in
    let p = place-sum es _ c.block_count-at.ensures in
    record {
      front = r ∙ sym (take-length es) ∙ ap (λ (k : ℕ). take k es) (ap length (sym r));
      at = p ∙ ap (place_of es) (ap length (sym r));
      lists = λ v l. data-start v c.args.self.now.number.n (change_of c.args.self.now) _ _ (all_blocks es _ p) l;
    }

pub overflow_sub-at : goal.overflow_sub-at
overflow_sub-at c = (extent-left c.args.self.now.draft.extents.now _ _ _ _ c.loop-e.invariant.front c.loop-e.invariant.at c.in-Some.ensures.steps).under

pub add_run-requires : goal.add_run-requires
add_run-requires c =
    let b = c.args.self.now.bounded in
    let r = extent-left c.args.self.now.draft.extents.now _ _ _ _ c.loop-e.invariant.front c.loop-e.invariant.at c.in-Some.ensures.steps in
    (omega (arith, ap (λ (e : Extent). e.first) r.is, b.first (length (iter_rest (rev_source c.next.new.self)))), omega (arith, r.whole, r.room, b.blocks), r.each, c.of-w.ensures)

pub loop-e-preserved-in-Continue-1 : goal.loop-e-preserved-in-Continue-1
loop-e-preserved-in-Continue-1 c =
    let r = extent-left c.args.self.now.draft.extents.now _ _ _ _ c.loop-e.invariant.front c.loop-e.invariant.at c.in-Some.ensures.steps in
    record {
      front = r.front;
      at = r.back;
      lists = λ v l. c.in_ok-add_run.ensures v (data-cast v c.args.self.now.number.n (change_of c.args.self.now) _ _ _ r.whole (c.loop-e.invariant.lists v l));
    }

pub returns-in_err-add_run : goal.returns-in_err-add_run
returns-in_err-add_run c =
    let p = c.args.self.now in
    let r = extent-left p.draft.extents.now _ _ _ _ c.loop-e.invariant.front c.loop-e.invariant.at c.in-Some.ensures.steps in
    λ v l. let h = c.in_err-add_run.ensures v (data-cast v p.number.n (change_of p) _ _ _ r.whole (c.loop-e.invariant.lists v l)) in
    told-err _ _ _ _ _ c.from_residual.ensures.1 h.0 (data-below v p.number.n (change_of p) 0 (c.loop-e.at - c.in-Some.e.now.count) (omega arith) h.1)

pub loop-e-preserved : goal.loop-e-preserved
loop-e-preserved c =
    let p = c.args.self.now in
    let r = extent-left p.draft.extents.now _ _ _ _ c.loop-e.invariant.front c.loop-e.invariant.at c.in-Some.ensures.steps in
    record {
      front = r.front;
      at = r.back;
      lists = λ v l.
          gap-lists v p.number.n (change_of p) _ _ c.loop-e.at (omega arith)
          (clear-run p.data.held p.data.old p.data.size p.data.x.0 p.data.bytes.now _ _ _ c.of-w.ensures c.if-w-end.false) (c.loop-e.invariant.lists v l);
    }

pub returns : goal.returns
returns c =
    let es = c.args.self.now.draft.extents.now in
    let z : length (iter_rest (rev_source c.loop-e.e-iterator)) ≡ 0 = c.in-None.ensures.steps.0 in
    λ v l. data-cast v c.args.self.now.number.n (change_of c.args.self.now) _ _ _ (c.loop-e.invariant.at ∙ ap (place_of es) z ∙ place_none es) (c.loop-e.invariant.lists v l)
