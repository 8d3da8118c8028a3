use Rattle.std.proofs.Common.{rules, tests}
use mathlib.Core.Path.{refl}
use Rattle.std.proofs.lemmas.Iterator.Consumers.{YieldsList-from_first}
use Rattle.std.proofs.lemmas.Iterator.Search.{all_from_yields_List}
use Rattle.tree.specs.Reached.{is_unused}
use Rattle.tree.specs.Slots.{slots_left}
use Rattle.tree.proofs.Reading.{others-zero}
use Rattle.tree.proofs.slots.Slots.are_packed.Goals as goal

pub returns : goal.returns
returns c = let s = c.args.self in others-zero _ s.at s.left _ c.requires _
    (all_from_yields_List is_unused c.all.new.self _ c.all.result c.all.ensures.ran (YieldsList-from_first (λ slot. slot.extent) slots_left _ refl) (λ x b q k. search (rules, tests)))
