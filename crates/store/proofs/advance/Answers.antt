use mathlib.Core.Path.{ap, ◌∙◌}
use Rattle.spec.specs.declared.Session.{Session}
use Rattle.spec.specs.Answers.{stored_of}
use Rattle.spec.specs.Calls.{left}
use Rattle.checks.proofs.Laws.{seen-cells}
use Rattle.store.proofs.advance.Goals as goal

pub returns : goal.returns
returns c =
    let a = c.args in
    let s = a.session in
    ap (λ (x : Session). left x c.advance_in-answer.new.device a.work.now (stored_of c.advance_in-answer.result)) c.after-next.ensures
    ∙ c.advance_in-answer.ensures s (seen-cells s.blocks s.phase s.staged s.count _ c.of-staged.ensures)
