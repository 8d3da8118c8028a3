use Rattle.std.proofs.Common.{sym, ◌∙◌}
use Rattle.capi.proofs.Ends.{done-ok, done-err, stays, becomes}
use Rattle.capi.proofs.changed.Goals as goal
use Rattle.capi.proofs.changed.Goals.{then-is_ok, else-is_ok}

pub returns : goal.returns
returns c =
    elim c.if-is_ok.branch [
      | then-is_ok w ↦ (c.finished.ensures, becomes _ _ _ _ (done-ok c.args.answer (sym c.is_ok.ensures.value ∙ w.if-is_ok.true)) (w.numbers-is ∙ w.keep.ensures))
      | else-is_ok w ↦ (c.finished.ensures, w.numbers-is ∙ stays _ _ _ (done-err c.args.answer (sym c.is_ok.ensures.value ∙ w.if-is_ok.false)))
    ]
