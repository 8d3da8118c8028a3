use Rattle.std.proofs.Common.{◌≡◌, ◌∙◌, Ok, Some, None, rules}
use Rattle.mirror.proofs.Laws.{advanced-refused, advanced-stored, advanced-idle}
use Rattle.mirror.proofs.advanced.Goals as goal

pub returns-in-Ok-None : goal.returns-in-Ok-None
returns-in-Ok-None c =
    let a : c.args.answer ≡ Ok None = search rules in
    let e : c.default.result ≡ record { refusal = 0; block = 0; last = 0; number = 0 } = search rules in
    rw a (e ∙ advanced-idle)

pub returns-in-Ok-Some : goal.returns-in-Ok-Some
returns-in-Ok-Some c =
    let a : c.args.answer ≡ Ok (Some c.in-Ok-Some.stored) = search rules in
    rw a (advanced-stored c.in-Ok-Some.stored _ _ c.from.ensures c.from-in-Ok-Some.ensures)

pub returns-in-Err : goal.returns-in-Err
returns-in-Err c = rw (c.in-Err.is) (advanced-refused c.in-Err.why _ c.number.ensures c.default-in-Err.result c.default-in-Err.ensures)
