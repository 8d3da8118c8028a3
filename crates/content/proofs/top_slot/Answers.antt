use mathlib.Core.Path.{◌≡◌}
use native.Mathlib.Omega.{arith}
use borrow.Author.Rules.{rules}
use lib.ListN.{length, get_or}
use Rattle.spec.specs.Inode.{extent}
use Rattle.content.specs.Content.{tree_of}
use Rattle.content.proofs.Record.{top-flat, top-node, top-past, below-is, below-few}
use Rattle.content.proofs.top_slot.Goals as goal

pub returns-then-is_empty : goal.returns-then-is_empty
returns-then-is_empty c =
    let n : length c.args.nodes.now ≡ 0 = search rules in
    top-flat (tree_of c.args.extents.now c.args.nodes.now) c.args.k n _ c.extent_at.ensures

pub block_count-requires : goal.block_count-requires
block_count-requires c = omega (arith, below-few c.args.extents.now c.args.k c.extents_of.result.now c.extents_of.ensures, c.requires)

pub returns-in-Some : goal.returns-in-Some
returns-in-Some c =
    let a = c.args in
    let n : length a.nodes.now ≡ 0 → ⊥ = λ z. search rules in
    let b : c.in-Some.first.now ≡ get_or a.nodes.now a.k 0 = search rules in
    top-node (tree_of a.extents.now a.nodes.now) a.k n (search rules) _ _ b
    (below-is a.extents.now a.k c.extents_of.result.now c.extents_of.ensures _ c.block_count.ensures)

pub returns-in-None : goal.returns-in-None
returns-in-None c =
    let n : length c.args.nodes.now ≡ 0 → ⊥ = λ z. search rules in
    let e : c.default.result ≡ extent 0 0 = search rules in
    rw e (top-past (tree_of c.args.extents.now c.args.nodes.now) c.args.k n (search rules))
