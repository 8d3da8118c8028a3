use borrow.Author.Rules.{rules}
use Rattle.content.proofs.Laws.{kept-test}
use Rattle.content.proofs.Rewrite.is_last_kept.Goals as goal

pub returns : goal.returns
returns c = let a = c.args in kept-test a.self.now.old a.self.now.size a.p.0 _ _ _ c.last_kept.ensures c.is_some_and.ensures (λ k q. search rules)
