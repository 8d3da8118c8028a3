use borrow.Author.Rules.{rules}
use Rattle.spec.specs.Transaction.{State}
use Rattle.spec.specs.Calls.{remove}
use Rattle.capi.proofs.Kept.{remove-still}
use Rattle.capi.proofs.purse_remove_v.Goals as goal

pub returns : goal.returns
returns c =
    let a = c.args in
    c.changing.ensures (λ (s : State). remove s a.name.now) (λ (s : State). remove-still s a.name.now) (λ p q r e. search rules)
