use mathlib.Core.Path.{sym, ap, ◌∙◌}
use Rattle.spec.specs.Disk.{is_target}
use Rattle.header.proofs.Ends.{no-ends, both-ends, can-list-none, can-list-up}
use Rattle.header.proofs.can_list_up.Goals as goal

pub returns-in_default : goal.returns-in_default
returns-in_default c = can-list-none _ _ (no-ends _ _ _ c.first.ensures.item c.last.ensures.item (sym c.zip.ensures ∙ c.in_default.is))

pub returns : goal.returns
returns c =
    let t = is_target c.args.blocks in
    let p = both-ends _ _ _ _ _ c.first.ensures.item c.last.ensures.item (sym c.zip.ensures ∙ c.in-Some.is) in
    can-list-up _ _ _ _ p.0 c.requires (c.is_target.ensures ∙ ap t p.1) (c.is_target-2.ensures ∙ ap t p.2)
