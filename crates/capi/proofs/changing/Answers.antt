use borrow.Author.Rules.{rules}
use Rattle.capi.proofs.Ends.{ends-in}
use Rattle.capi.proofs.changing.Goals as goal

pub shape_of-s : goal.shape_of-s
shape_of-s g c = let k = c.requires.keeps _ _ _ c.call-answer.ensures in search rules

pub returns : goal.returns
returns g c f still does =
    let a = c.args in
    let k = c.requires.keeps _ _ _ c.call-answer.ensures in
    ends-in f still a.numbers.now a.staged.now a.device.now a.work.now _ c.of-s.ensures
    c.new-lent.result c.call-answer.new.arg2 c.new-lent.ensures.parts k _ (does _ _ _ c.call-answer.ensures) _ _ c.changed.ensures _ _ (search rules) (search rules)
