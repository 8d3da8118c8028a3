use Rattle.std.proofs.Common.{ap, sym, length, take, min, ◌∙◌, ◌≡◌, ℕ, arith}
use Rattle.cardfile.specs.Cards.{before}
use Rattle.cardfile.proofs.Laws.{before-length, line-seen}
use Rattle.cardfile.proofs.line_length.Goals as goal

pub returns-in-Some : goal.returns-in-Some
returns-in-Some c =
    let s = c.args.rest.now in
    let z : min (length s) 65 ≡ 65 = omega (arith, c.in-Some.ensures.cases.enough) in
    line-seen 10 s _ (c.until.ensures ∙ ap (λ t. length (before 10 t)) c.in-Some.ensures.cases.same ∙ ap (λ (k : ℕ). length (before 10 (take k s))) (sym z))

pub returns-in-None : goal.returns-in-None
returns-in-None c = omega (arith, c.until-in-None.ensures, before-length 10 c.args.rest.now, c.in-None.ensures.cases)
