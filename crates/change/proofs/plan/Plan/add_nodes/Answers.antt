use Prim.Native.Nat.{ℕ}
use mathlib.Core.Path.{◌≡◌, sym, ap, ◌∙◌}
use native.Mathlib.Omega.{arith}
use lib.ListN.{length, take}
use lib.Seq.{take-length}
use Rattle.std.specs.Slice.Iter.{iter_rest}
use Rattle.std.specs.Iterator.Adapters.{rev_source, enumerate_source}
use Rattle.runs.specs.Runs.{nodes_in}
use Rattle.transaction.specs.Volumes.{working}
use Rattle.change.specs.Contents.{change_of}
use Rattle.change.proofs.Places.{node-left}
use Rattle.change.proofs.Steps.{told-err, nodes-start, nodes-longer, node-cast}
use Rattle.change.proofs.plan.Plan.add_nodes.Goals as goal

pub loop-j-init : goal.loop-j-init
unfolding nodes_in
loop-j-init c =
    let v = working c.args.copy.now in
    let e = ap (λ q. enumerate_source q) (ap (λ q. rev_source q) c.into_iter-j-iterator.ensures.into_iter_gives ∙ c.rev-j-items.ensures.source) ∙ c.enumerate.ensures.source in
    let r : iter_rest (enumerate_source (rev_source c.into_iter-j-iterator.result)) ≡ nodes_in (change_of c.args.self.now).tree =
    ap (λ q. iter_rest q) e ∙ c.iter.ensures.rest ∙ c.as_slice-nodes.ensures.0 in
    record {
      none = ap (λ q. q.count) (ap (λ q. rev_source q) c.into_iter-j-iterator.ensures.into_iter_gives ∙ c.rev-j-items.ensures.source) ∙ c.enumerate.ensures.count;
      front = r ∙ sym (take-length (nodes_in (change_of c.args.self.now).tree)) ∙ ap (λ (k : ℕ). take k (nodes_in (change_of c.args.self.now).tree)) (ap length (sym r));
      lists = λ l. node-cast v c.args.self.now.number.n (change_of c.args.self.now) _ _ _ (ap length (sym r)) (nodes-start v c.args.self.now.number.n (change_of c.args.self.now) _ l);
    }

pub loop-j-preserved : goal.loop-j-preserved
unfolding nodes_in
loop-j-preserved c =
    let v = working c.args.copy.now in
    let d = change_of c.args.self.now in
    let inv = c.loop-j.invariant in
    let st = c.in-Some.ensures.steps in
    let n = node-left (nodes_in d.tree) _ _ _ _ _ inv.front inv.none st.1.0 st.1.1 in
    record {
      none = st.0 ∙ inv.none;
      front = n.front;
      lists = λ l. node-cast v c.args.self.now.number.n d _ _ _ n.place (c.in_ok-add_node.ensures (node-cast v c.args.self.now.number.n d _ _ _ n.behind (inv.lists l)));
    }

pub returns-in_err-add_node : goal.returns-in_err-add_node
unfolding nodes_in
returns-in_err-add_node c =
    let v = working c.args.copy.now in
    let p = c.args.self.now in
    let d = change_of p in
    let inv = c.loop-j.invariant in
    let st = c.in-Some.ensures.steps in
    let n = node-left (nodes_in d.tree) _ _ _ _ _ inv.front inv.none st.1.0 st.1.1 in
    λ l. let h = c.in_err-add_node.ensures (node-cast v c.args.self.now.number.n d _ _ _ n.behind (inv.lists l)) in
    told-err _ _ _ _ _ c.from_residual.ensures.1 h.0 (nodes-longer v c.args.self.now.number.n d c.in-Some.j (omega (arith, n.inside)) h.1)
