use Rattle.std.proofs.Common.{◌≡◌, Ok, Some, None, rules}
use Rattle.mirror.proofs.Laws.{recorded-refused, recorded-file, recorded-none}
use Rattle.mirror.proofs.recorded.Goals as goal

pub returns-in-Ok-Some : goal.returns-in-Ok-Some
returns-in-Ok-Some c =
    let a : c.args.answer ≡ Ok (Some c.in-Ok-Some.file) = search rules in
    rw a (recorded-file c.args.name.now _ _ _ c.from.ensures)

pub returns-in-Ok-None : goal.returns-in-Ok-None
returns-in-Ok-None c =
    let a : c.args.answer ≡ Ok None = search rules in
    let e : c.default.result ≡ record { refusal = 0; used = 0; size = 0 } = search rules in
    rw a (recorded-none _ c.args.name.now e)

pub returns-in-Err : goal.returns-in-Err
returns-in-Err c = rw (c.in-Err.is) (recorded-refused c.in-Err.why _ c.number.ensures c.default-in-Err.result c.default-in-Err.ensures c.args.name.now)
