use borrow.Author.Rules.{rules}
use Rattle.spec.specs.Transaction.{State}
use Rattle.spec.specs.Calls.{set_size}
use Rattle.capi.proofs.Kept.{size-still}
use Rattle.capi.proofs.purse_set_size_v.Goals as goal

pub returns : goal.returns
returns c =
    let a = c.args in
    c.changing.ensures (λ (s : State). set_size s a.name.now a.size) (λ (s : State). size-still s a.name.now a.size) (λ p q r e. search rules)
