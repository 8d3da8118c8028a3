use Rattle.std.proofs.Common.{rules, tests, Some, None}
use mathlib.Core.Path.{ap, ◌∙◌}
use Rattle.marks.specs.Device.{disk_of}
use Rattle.tree.specs.Runs.{flat}
use Rattle.tree.specs.Slots.{slots_left}
use Rattle.tree.proofs.Reading.{length_slots, taken}
use Rattle.tree.proofs.Walks.{Noded, noding_start, noding_more, noding_over}
use Rattle.tree.proofs.Walk.nodes_over.Goals as goal
use Rattle.tree.proofs.Walk.nodes_over.Goals.{In-None}

pub loop-slot-init : goal.loop-slot-init
loop-slot-init c = let i = c.into_iter-slot-iterator.ensures.into_iter_gives in let w = c.take_while-slot-items.ensures in (
  ap (λ w. w.done) i ∙ w.done,
  noding_start _ _ _ _ _ _ _ (c.flat-f.ensures ∙ ap flat c.none.ensures) (ap (λ w. slots_left w.iter) i ∙ ap slots_left w.source) (length_slots _ _ ∙ c.requires),
)

pub loop-slot-preserved : goal.loop-slot-preserved
loop-slot-preserved c = let i = c.loop-slot.invariant in let w = c.test_node-f.ensures in
    let k = taken _ (λ p q x b h. search (rules, tests)) _ _ i.0 (Some _) c.in-Some.ensures.steps in
    (k.2, noding_more _ _ _ _ _ _ _ _ i.1 _ _ k.0 _ _ k.1 c.in-Some.slot.count w.0 w.1 w.2 w.3)

over : (c : In-None) → Noded c.args.self.now.device.blocks c.args.self.now.last.0 (disk_of c.args.self.now.device) c.loop-slot.marks c.loop-slot.f c.args.marks.now (slots_left c.args.slots)
over c = let i = c.loop-slot.invariant in noding_over _ _ _ _ _ _ _ _ i.1 (taken _ (λ p q x b h. search (rules, tests)) _ c.next.new.self i.0 None c.in-None.ensures.steps)

pub are_packed-requires : goal.are_packed-requires
are_packed-requires c = (over c).tops

pub returns : goal.returns
returns c = let h = over (goal.at.returns c).In-None in (h.is, c.are_packed.ensures, h.marks)
