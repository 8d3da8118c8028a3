use Rattle.std.proofs.Common.{◌≡◌, ◌∙◌, refl, rules, arith, Ok}
use Rattle.std.specs.Prelude.{Some}
use Rattle.std.specs.Iterator.Adapters.{map_while_source}
use Rattle.cardfile.specs.declared.Line.{Line}
use Rattle.cardfile.specs.Lines.{letter_of}
use Rattle.text.proofs.Laws.{lent-written}
use Rattle.converter.proofs.Passes.{seen, bytes_fit, number-fit}
use Rattle.converter.proofs.Writes.{put-none, put-last, put-more, put-card, digits-room}
use Rattle.converter.proofs.put_cards.Goals as goal

pub loop-found-init : goal.loop-found-init
loop-found-init c =
    let g = c.into_iter-found-iterator.ensures.into_iter_gives in
    let n = c.map_while-found-items.ensures.source in
    rw (g, n, c.of.ensures.1) (c.of.ensures.0, put-none _ _ _ c.requires)

pub overflow_sub-from : goal.overflow_sub-from
overflow_sub-from c =
    let p = c.in-Some.ensures.steps in
    let e : p.0 ≡ Some (Ok c.in-Some.found) = search rules in
    omega (arith, digits-room _ _ _ _ _ (put-card (letter_of c.args.wanted) _ _ _ _ c.loop-found.invariant.0 (rw e at p.1) _ refl))

pub slice_bounds-put_card-end : goal.slice_bounds-put_card-end
slice_bounds-put_card-end c =
    let p = c.in-Some.ensures.steps in
    let e : p.0 ≡ Some (Ok c.in-Some.found) = search rules in
    omega (arith, (put-card (letter_of c.args.wanted) _ _ _ _ c.loop-found.invariant.0 (rw e at p.1) _ refl).stood.inside)

pub put_card-requires : goal.put_card-requires
put_card-requires c =
    let p = c.in-Some.ensures.steps in
    let e : p.0 ≡ Some (Ok c.in-Some.found) = search rules in
    let s = put-card (letter_of c.args.wanted) _ _ _ _ c.loop-found.invariant.0 (rw e at p.1) _ refl in
    (bytes_fit _ _ _ _ _ s, number-fit _ _ _ _ _ s)

pub loop-found-preserved : goal.loop-found-preserved
loop-found-preserved c =
    let i = c.loop-found.invariant in
    let p = c.in-Some.ensures.steps in
    let e : p.0 ≡ Some (Ok c.in-Some.found) = search rules in
    let s = put-card (letter_of c.args.wanted) _ _ _ _ i.0 (rw e at p.1) _ refl in
    (p.1.text ∙ i.0, rw (p.1.behind _ e) (put-more _ _ _ _ _ s _ _ i.1 _ c.put_card.ensures))

pub returns : goal.returns
returns c =
    let i = c.loop-found.invariant in
    let p = c.in-None.ensures.steps in
    let l = map_while_source c.loop-found.found-iterator in
    let f : (x : Line) → p.0 ≡ Some (Ok x) → ⊥ = λ x e. (search rules) in
    lent-written _ _ _ _ _ c.new-w.ensures.bytes c.new-w.ensures.place (put-last _ _ _ _ _ i.1 _ (seen _ l _ _ i.0 p.1) f) (search rules)
