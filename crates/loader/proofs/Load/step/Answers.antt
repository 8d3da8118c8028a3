use Rattle.std.proofs.Common.{◌≡◌, ◌∙◌, ap, sym, Err, Option, Result, rules}
use Rattle.spec.specs.Transaction.{state_of}
use Rattle.loader.specs.Load.{answered, advancing, left_load}
use Rattle.spec.specs.Answers.{stored_of}
use Rattle.spec.specs.declared.Refusal.{Refusal}
use Rattle.spec.specs.declared.BlockStored.{BlockStored}
use Rattle.loader.specs.declared.LoadFault.TheVariants.{Refused}
use Rattle.loader.proofs.Laws.{step-other, step-committing}
use Rattle.loader.proofs.Load.step.Goals as goal

pub returns-in_err-a : goal.returns-in_err-a
returns-in_err-a c =
    let a = c.args in
    let r = c.advance-a in
    let e : c.from_residual.result ≡ Err (Refused c.in_err-a.field-0.0) = search rules in
    rw e
    (step-committing (state_of a.self.now.session a.device.now a.work.now) a.self.now.text.now a.self.now.at _ _ c.in-Committing.is
    (ap (λ (q : Result (Option BlockStored) Refusal). left_load r.result.session r.new.device a.work.now a.self.now.at (answered (stored_of q))) (sym c.in_err-a.was) ∙ ap (advancing a.self.now.at) r.ensures))

pub returns-in-Committing : goal.returns-in-Committing
returns-in-Committing c =
    let a = c.args in
    let r = c.advance-a in
    step-committing (state_of a.self.now.session a.device.now a.work.now) a.self.now.text.now a.self.now.at _ _ c.in-Committing.is
    (ap (λ (q : Result (Option BlockStored) Refusal). left_load r.result.session r.new.device a.work.now a.self.now.at (answered (stored_of q))) (sym c.in_ok-a.was) ∙ ap (advancing a.self.now.at) r.ensures)

pub returns : goal.returns
returns c = let a = c.args in step-other (state_of a.self.now.session a.device.now a.work.now) a.self.now.text.now a.self.now.at _ c.in_default.not-Committing c.next_line.ensures
