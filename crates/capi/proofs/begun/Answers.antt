use Rattle.std.proofs.Common.{sym, ap, ◌∙◌}
use Rattle.mirror.specs.Mirror.{numbers_of, head_of}
use Rattle.capi.proofs.Ends.{started-ok, started-err, stays, becomes}
use Rattle.capi.proofs.begun.Goals as goal
use Rattle.capi.proofs.begun.Goals.{then-is_ok, else-is_ok}

pub returns : goal.returns
returns c =
    elim c.if-is_ok.branch [
      | then-is_ok w ↦ (
        c.committed.ensures,
        becomes _ _ _ _ (started-ok c.args.answer (sym c.is_ok.ensures.value ∙ w.if-is_ok.true))
            (w.numbers-is ∙ w.keep.ensures ∙ ap (λ p. numbers_of (head_of c.args.s.blocks p c.args.s.count)) w.begun_phase.ensures),
      )
      | else-is_ok w ↦ (c.committed.ensures, w.numbers-is ∙ stays _ _ _ (started-err c.args.answer (sym c.is_ok.ensures.value ∙ w.if-is_ok.false)))
    ]
