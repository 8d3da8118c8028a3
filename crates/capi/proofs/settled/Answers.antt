use Rattle.std.proofs.Common.{ap, ◌∙◌}
use Rattle.spec.specs.Answers.{is_refused, done_of}
use Rattle.capi.proofs.Ends.{refused-is, stays, becomes}
use Rattle.capi.proofs.settled.Goals as goal
use Rattle.capi.proofs.settled.Goals.{in-Ok, in_default}

pub returns : goal.returns
returns c =
    elim c.match-f.branch [
      | in-Ok w ↦
          (let t = ap (λ x. is_refused (done_of x)) w.in-Ok.is in
          (c.finished.ensures, becomes _ _ _ _ t (w.numbers-is ∙ w.keep_session.ensures.0), becomes _ _ _ _ t (w.staged-is ∙ w.keep_session.ensures.1)))
      | in_default w ↦
          (let t = ap (λ x. is_refused (done_of x)) w.in_default.is ∙ refused-is _ in
          (c.finished.ensures, w.numbers-is ∙ stays _ _ _ t, w.staged-is ∙ stays _ _ _ t))
    ]
