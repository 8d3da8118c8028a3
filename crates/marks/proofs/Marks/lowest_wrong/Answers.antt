use borrow.Author.Rules.{rules}
use borrow.Author.Tests.{tests}
use lib.ListN.{length}
use mathlib.Core.Bool.{true, false}
use mathlib.Core.Path.{◌≡◌, sym, ap, ◌∙◌}
use Rattle.std.proofs.lemmas.Iterator.{first_from_Range}
use Rattle.marks.specs.Marks.{block_found, wrong}
use Rattle.marks.proofs.Laws.{all_right, first-passing}
use Rattle.marks.proofs.Marks.lowest_wrong.Goals as goal

pub returns-then-are_right : goal.returns-then-are_right
returns-then-are_right c =
    let m = c.args.self.now in
    let o : length m.once ≡ 512 = search rules in
    let t : length m.twice ≡ 512 = search rules in
    sym (ap block_found (all_right _ _ o t c.told-bitmap (sym c.are_right.ensures ∙ c.if-are_right.true)))

pub returns : goal.returns
returns c =
    let w = wrong c.args.self.now c.args.bitmap.now in
    let r = first_from_Range _ _ _ _ (λ b. w b ≡ true) (λ b. w b ≡ false) c.find.ensures.ran (λ x q k. search (rules, tests)) (λ x q k. (search (rules, tests), search (rules, tests))) in
    let e : c.find.result ≡ _ = first-passing 4096 w c.find.result r in
    search (rules, tests, e)
