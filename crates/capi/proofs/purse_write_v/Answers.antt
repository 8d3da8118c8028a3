use borrow.Author.Rules.{rules}
use Rattle.spec.specs.Transaction.{State}
use Rattle.spec.specs.Calls.{write}
use Rattle.capi.proofs.Kept.{write-still}
use Rattle.capi.proofs.purse_write_v.Goals as goal

pub returns : goal.returns
returns c =
    let a = c.args in
    c.changing.ensures (λ (s : State). write s a.name.now a.x a.bytes.now) (λ (s : State). write-still s a.name.now a.x a.bytes.now) (λ p q r e. search rules)
