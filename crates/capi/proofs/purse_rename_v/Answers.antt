use borrow.Author.Rules.{rules}
use Rattle.spec.specs.Transaction.{State}
use Rattle.spec.specs.Calls.{rename}
use Rattle.capi.proofs.Kept.{rename-still}
use Rattle.capi.proofs.purse_rename_v.Goals as goal

pub returns : goal.returns
returns c =
    let a = c.args in
    c.changing.ensures (λ (s : State). rename s a.name.now a.new.now) (λ (s : State). rename-still s a.name.now a.new.now) (λ p q r e. search rules)
