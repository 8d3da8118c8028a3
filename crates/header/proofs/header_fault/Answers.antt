use mathlib.Core.Bool.{true, false}
use mathlib.Core.Path.{◌≡◌, sym, ◌∙◌}
use Rattle.std.proofs.Common.{rules, tests}
use Rattle.std.proofs.lemmas.Iterator.{first_from_Range}
use Rattle.spec.specs.Journal.{is_record_wrong}
use Rattle.header.proofs.Loops.{fault-zero, fault-found}
use Rattle.header.proofs.header_fault.Goals as goal

pub returns-then-is_zero : goal.returns-then-is_zero
returns-then-is_zero c = fault-zero _ _ (sym c.is_zero.ensures ∙ c.if-is_zero.true)

pub returns : goal.returns
returns c =
    let w = is_record_wrong c.args.blocks c.args.head.now in
    fault-found _ _ _
    (first_from_Range _ _ _ _ (λ i. w i ≡ true) (λ i. w i ≡ false) c.find.ensures.ran
    (λ x q k. search (rules, tests))
    (λ x q k. (search (rules, tests), search (rules, tests))))
