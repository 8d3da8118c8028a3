use Rattle.std.proofs.Common.{arith, rules}
use Rattle.cardfile.proofs.Laws.{before-length}
use Rattle.cardfile.proofs.Forms.{cents-in, form-cents, form-good}
use Rattle.cardfile.proofs.form_of.Goals as goal

pub split_at-requires : goal.split_at-requires
split_at-requires c = omega (arith, before-length 59 c.args.line.now)

pub returns-in_err-amount : goal.returns-in_err-amount
returns-in_err-amount c =
    let l = c.args.line.now in
    let t = cents-in l _ c.until.result c.split_at.ensures.back in
    rw c.from_residual-in_err-amount.ensures (form-cents l c.until.result c.until.ensures (search rules) c.in_ok-spelling.spelling (search rules) _ c.in_err-amount.ensures t)

pub returns : goal.returns
returns c =
    let l = c.args.line.now in
    let t = cents-in l _ c.until.result c.split_at.ensures.back in
    let h = rw c.split_at.ensures.front at c.in_ok-serial.ensures in
    form-good l c.until.result c.until.ensures (search rules) c.in_ok-spelling.spelling (search rules) _ h _ _ c.in_ok-amount.ensures t
