use Rattle.std.proofs.Common.{rules, tests}
use mathlib.Core.Path.{refl, ap, ◌∙◌}
use mathlib.Core.List.{◌∷◌, ◌++◌}
use Rattle.spec.specs.Inode.{bytes_of_slots}
use Rattle.content.specs.Content.{tree_of, slots_above}
use Rattle.content.proofs.Record.{record_is, depth-is, size-bytes, slots-made}
use Rattle.content.proofs.record_bytes.Goals as goal

pub returns : goal.returns
returns c =
    let a = c.args in
    let t = tree_of a.extents.now a.nodes.now in
    let s = slots-made (slots_above t) _ (λ i e q k. search (rules, tests)) _ c.from_fn-slots.ensures.items in
    record_is t a.name c.to_le_bytes.result c.joined.result c.depth_of.result a.size _ _ _ _ (c.to_le_bytes.ensures ∙ size-bytes a.size) (c.depth_of.ensures ∙ depth-is t)
    refl refl refl refl (c.joined.ensures ∙ ap (λ x. a.name ++ (c.to_le_bytes.result ++ (c.depth_of.result ∷ 0 ∷ 0 ∷ 0 ∷ bytes_of_slots x))) s)
