use mathlib.Core.Path.{◌∙◌}
use lib.ListN.{get_or, take}
use Rattle.block.proofs.Lists.{list-member}
use Rattle.header.proofs.Loops.{wrong-by}
use Rattle.header.proofs.is_record_wrong.Goals as goal

pub returns : goal.returns
returns c =
    let p = c.requires in
    let l = c.args.l.now in
    let i = c.args.i in
    let seen = c.contains-seen.ensures.value ∙ list-member (get_or l i 0) (take i l) in
    let late = c.contains-late.ensures.value ∙ list-member 0 (take i l) in
    wrong-by _ _ _ _ _ _ _ _ p.0 p.1 c.is_target-outside.ensures seen late c.is_zero_at-blank.ensures
