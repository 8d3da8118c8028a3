use borrow.Author.Rules.{rules}
use mathlib.Core.Path.{sym, ◌∙◌}
use Rattle.content.proofs.Laws.{kept_new, kept-cut, kept_same}
use Rattle.content.proofs.Rewrite.clear.Goals as goal

pub returns-then-self-p : goal.returns-then-self-p
returns-then-self-p c = kept_new _ _ _ _ _ c.if-self-p.true (search rules) _ (c.fill.ensures.after (λ y e. e))

pub returns-then-is_last_kept : goal.returns-then-is_last_kept
returns-then-is_last_kept c = kept-cut _ _ _ _ _ c.if-self-p.false (sym c.is_last_kept.ensures ∙ c.if-is_last_kept.true) (search rules) _ (c.fill-then-is_last_kept.ensures.after (λ y e. e))

pub returns-else-is_last_kept : goal.returns-else-is_last_kept
returns-else-is_last_kept c = kept_same _ _ _ _ _ c.if-self-p.false (sym c.is_last_kept.ensures ∙ c.if-is_last_kept.false)
