use Rattle.std.proofs.Common.{◌≡◌, refl, Err, rules}
use Rattle.converter.proofs.Writes.{all-converted, none-converted, is-output}
use Rattle.converter.proofs.convert.Goals as goal

pub returns-in_err-length : goal.returns-in_err-length
returns-in_err-length c =
    let a = c.args in
    let e : c.from_residual.result ≡ Err c.in_err-length.field-0.0 = search rules in
    rw e (none-converted a.wanted a.text.now a.out.now _ refl _ c.in_err-length.ensures)

pub put_cards-requires : goal.put_cards-requires
put_cards-requires c = let a = c.args in is-output a.wanted a.text.now a.out.now _ refl _ c.in_ok-length.ensures

pub returns : goal.returns
returns c = let a = c.args in all-converted a.wanted a.text.now a.out.now _ refl _ c.in_ok-length.ensures _ _ c.put_cards.ensures
