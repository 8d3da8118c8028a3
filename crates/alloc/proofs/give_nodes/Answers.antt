use Prim.Native.Nat.{ℕ}
use mathlib.Core.List.{List}
use mathlib.Core.Path.{ap, ◌∙◌}
use Rattle.spec.specs.Bitmap.{bits_of, mark}
use Rattle.std.specs.Slice.Iter.{iter_rest}
use Rattle.std.specs.Iterator.Adapters.{skip_count, skip_source}
use Rattle.alloc.proofs.Laws.{leave-start, leave-more, leave-end}
use Rattle.alloc.proofs.give_nodes.Goals as goal

pub loop-b-init : goal.loop-b-init
loop-b-init c =
    let given = c.into_iter-b-iterator.ensures.into_iter_gives in
    let n = ap (λ q. skip_count q) given ∙ c.skip-b-items.ensures.count in
    let e = ap (λ q. iter_rest (skip_source q)) given ∙ ap (λ q. iter_rest q) c.skip-b-items.ensures.source ∙ c.iter.ensures.rest ∙ c.as_slice.ensures.0 in
    ap (λ (bs : List ℕ). mark 0 bs (bits_of c.args.t.now.bytes)) (leave-start c.into_iter-b-iterator.result _ _ n e)

pub loop-b-preserved : goal.loop-b-preserved
loop-b-preserved c = leave-more _ _ c.in-Some.b c.in-Some.ensures.steps _ _ _ c.loop-b.invariant c.clear_run.ensures

pub returns : goal.returns
returns c = leave-end _ _ c.in-None.ensures.steps _ _ c.loop-b.invariant
