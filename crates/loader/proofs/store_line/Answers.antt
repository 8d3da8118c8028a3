use Rattle.std.proofs.Common.{◌≡◌, Err, rules}
use Rattle.loader.proofs.Laws.{line-stops, line-goes-on, write-stops, write-goes-on}
use Rattle.loader.proofs.store_line.Goals as goal

pub returns-in_err-made : goal.returns-in_err-made
returns-in_err-made c =
    let a = c.args in
    let e : c.from_residual.result ≡ Err c.in_err-made.field-0.0 = search rules in
    rw e (line-stops a.session.now _ a.device.now a.work.now _ a.name.now a.amount.now _ c.create-made.ensures _ c.in_err-made.was)

pub returns-in-Err : goal.returns-in-Err
returns-in-Err c =
    let a = c.args in
    line-goes-on a.session.now _ a.device.now a.work.now _ a.name.now a.amount.now _ c.create-made.ensures c.in_ok-made.was c.requires _ c.first_image-kept.ensures _
    (write-stops a.session.now _ _ a.device.now _ _ c.first_image-kept.result a.name.now a.amount.now _ c.write-wrote.ensures _ _ c.in-Err.is c.put_back.ensures)

pub returns : goal.returns
returns c =
    let a = c.args in
    line-goes-on a.session.now _ a.device.now a.work.now _ a.name.now a.amount.now _ c.create-made.ensures c.in_ok-made.was c.requires _ c.first_image-kept.ensures _
    (write-goes-on a.session.now _ _ a.device.now _ _ c.first_image-kept.result a.name.now a.amount.now _ c.write-wrote.ensures _ c.in_default.is c.commit-c.ensures)
