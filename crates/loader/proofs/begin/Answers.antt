use Rattle.std.proofs.Common.{◌≡◌, Err, rules}
use Rattle.loader.proofs.Laws.{begin-refused, begin-fine, begin-busy}
use Rattle.loader.proofs.begin.Goals as goal

pub returns-in_err-stores : goal.returns-in_err-stores
returns-in_err-stores c =
    let a = c.args in
    let e : c.from_residual.result ≡ Err c.in_err-stores.field-0.0 = search rules in
    rw e (begin-refused a.session _ a.device.now a.work.now _ c.commit-c.ensures _ c.in_err-stores.was)

pub returns-then-staged : goal.returns-then-staged
returns-then-staged c = let a = c.args in begin-busy a.session _ a.device.now a.work.now _ c.commit-c.ensures _ c.in_ok-stores.was (search rules)

pub returns : goal.returns
returns c = let a = c.args in begin-fine a.session _ a.device.now a.work.now _ c.commit-c.ensures _ c.in_ok-stores.was (search rules)
