use mathlib.Core.Path.{refl}
use Rattle.content.specs.Content.{last_kept}
use Rattle.content.proofs.Rewrite.last_kept.Goals as goal

pub returns-then-self : goal.returns-then-self
unfolding last_kept
returns-then-self c = rw c.if-self.true refl

pub returns : goal.returns
unfolding last_kept
returns c = rw c.if-self.false refl
