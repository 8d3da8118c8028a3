use borrow.Author.Rules.{rules}
use mathlib.Core.Path.{sym, ◌∙◌}
use Rattle.content.proofs.Laws.{Under, under-kept, under-covered}
use Rattle.content.proofs.Rewrite.lay.Goals as goal
use Rattle.content.proofs.Rewrite.lay.Goals.{then-not-is_covered, else-not-is_covered}

pub returns : goal.returns
returns c =
    let s = c.args.self.now in
    let under : Under s.held s.old s.size s.x.0 s.bytes.now c.args.p.0 c.args.block.now c.if-not-is_covered.block = elim c.if-not-is_covered.branch [
      | then-not-is_covered w ↦ under-kept _ _ _ _ _ _ _ _ (search rules) (w.block-is ∙ w.clear.ensures)
      | else-not-is_covered w ↦ under-covered _ _ _ _ _ _ _ _ (search rules) (sym c.is_covered.ensures ∙ w.if-not-is_covered.false) w.block-is
    ] in
    c.lay_over.ensures ∙ under.is
