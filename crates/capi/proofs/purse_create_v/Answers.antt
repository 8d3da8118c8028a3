use borrow.Author.Rules.{rules}
use Rattle.spec.specs.Transaction.{State}
use Rattle.spec.specs.Calls.{create}
use Rattle.capi.proofs.Kept.{create-still}
use Rattle.capi.proofs.purse_create_v.Goals as goal

pub returns : goal.returns
returns c =
    let a = c.args in
    c.changing.ensures (λ (s : State). create s a.name.now) (λ (s : State). create-still s a.name.now) (λ p q r e. search rules)
