use Rattle.std.proofs.Common.{rules, tests, Some, None}
use mathlib.Core.Path.{ap, ◌∙◌}
use Rattle.tree.specs.Slots.{slots_left}
use Rattle.tree.proofs.Reading.{length_slots, taken}
use Rattle.tree.proofs.Walks.{going_start, going_more, going_over}
use Rattle.tree.proofs.Walk.extents_over.Goals as goal

pub loop-slot-init : goal.loop-slot-init
loop-slot-init c = let i = c.into_iter-slot-iterator.ensures.into_iter_gives in
    (ap (λ w. w.done) i ∙ c.take_while-slot-items.ensures.done, going_start _ _ _ _ _ _ _ (ap (λ w. slots_left w.iter) i ∙ ap slots_left c.take_while-slot-items.ensures.source) (length_slots _ _))

pub loop-slot-preserved : goal.loop-slot-preserved
loop-slot-preserved c = let i = c.loop-slot.invariant in let w = c.test_extent-q.ensures in
    let k = taken _ (λ p q x b h. search (rules, tests)) _ _ i.0 (Some _) c.in-Some.ensures.steps in
    (k.2, going_more _ _ _ _ _ _ _ _ _ i.1 _ _ k.0 _ _ k.1 c.in-Some.slot.count w.0 w.1)

pub returns : goal.returns
returns c = let i = c.loop-slot.invariant in
    going_over _ _ _ _ _ _ _ _ _ i.1 (taken _ (λ p q x b h. search (rules, tests)) _ c.next.new.self i.0 None c.in-None.ensures.steps)
