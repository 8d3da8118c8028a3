use Rattle.std.proofs.Common.{◌≡◌, ◌∙◌, Ok, Some, None, rules}
use Rattle.mirror.proofs.Laws.{run-refused, run-extent, run_none}
use Rattle.mirror.proofs.run.Goals as goal

pub returns-in-Ok-Some : goal.returns-in-Ok-Some
returns-in-Ok-Some c =
    let a : c.args.answer ≡ Ok (Some c.in-Ok-Some.extent) = search rules in
    rw a (run-extent c.in-Ok-Some.extent)

pub returns-in-Ok-None : goal.returns-in-Ok-None
returns-in-Ok-None c =
    let a : c.args.answer ≡ Ok None = search rules in
    let e : c.default.result ≡ record { refusal = 0; first = 0; count = 0 } = search rules in
    rw a (e ∙ run_none)

pub returns-in-Err : goal.returns-in-Err
returns-in-Err c = rw (c.in-Err.is) (run-refused c.in-Err.why _ c.number.ensures c.default-in-Err.result c.default-in-Err.ensures)
