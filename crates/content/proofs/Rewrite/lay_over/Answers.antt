use Prim.Native.Nat.{ℕ, min}
use borrow.Author.Rules.{rules}
use mathlib.Core.Path.{ap, ◌∙◌}
use Rattle.content.proofs.Laws.{reach, over_none, part-laid}
use Rattle.content.proofs.Rewrite.lay_over.Goals as goal

pub returns-then-from-end : goal.returns-then-from-end
returns-then-from-end c =
    part-laid _ _ _ _ (search rules) _ _
    (reach _ _ _ _ _ (c.min-from.ensures ∙ ap (λ (n : ℕ). min 512 n) c.saturating_sub.ensures) (c.min-end.ensures ∙ ap (λ (n : ℕ). min 512 n) c.saturating_sub-2.ensures) c.if-from-end.true) _
    c.copy.ensures

pub returns-else-from-end : goal.returns-else-from-end
returns-else-from-end c =
    over_none _ _ _ _ (search rules) _ _ (c.min-from.ensures ∙ ap (λ (n : ℕ). min 512 n) c.saturating_sub.ensures) (c.min-end.ensures ∙ ap (λ (n : ℕ). min 512 n) c.saturating_sub-2.ensures) c.if-from-end.false
