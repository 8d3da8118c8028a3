use Rattle.std.proofs.Common.{◌≡◌, ap, ◌∙◌, rules}
use Rattle.std.specs.Prelude.{unwrap_or}
use Rattle.mirror.proofs.Laws.{refused-numbers, finished-done, finished-refused}
use Rattle.mirror.proofs.finished.Goals as goal

pub returns-in-Ok : goal.returns-in-Ok
returns-in-Ok c =
    let e : c.default.result ≡ record { refusal = 0; fault = 0 } = search rules in
    rw (c.in-Ok.is) (e ∙ finished-done)

pub returns-in-Err : goal.returns-in-Err
returns-in-Err c = rw (c.in-Err.is) (finished-refused c.in-Err.why _ c.number.ensures _ (c.unwrap_or.ensures ∙ ap (λ o. unwrap_or o 0) c.fault.ensures ∙ (refused-numbers c.in-Err.why).0))
