use Rattle.std.proofs.Common.{◌≡◌, Ok, Err, rules, ◌∙◌, ap, List, ℕ}
use Rattle.spec.specs.Transaction.{state_of}
use Rattle.cardfile.specs.Lines.{line_number, standing}
use Rattle.loader.specs.Load.{take_line}
use Rattle.loader.specs.declared.LoadFault.TheVariants.{Refused}
use Rattle.loader.proofs.Laws.{begin-lent, may-begin, next-stops, next-goes}
use Rattle.loader.proofs.Load.next_line.Goals as goal

pub returns-in_err-begin : goal.returns-in_err-begin
returns-in_err-begin c =
    let a = c.args in
    let load = a.self.now in
    let e : c.from_residual.result ≡ Err (Refused c.in_err-begin.field-0.0) = search rules in
    rw e (next-stops (state_of load.session a.device.now a.work.now) load.text.now load.at _ _ c.begin.ensures c.in_err-begin.was)

pub unreachable-requires : goal.unreachable-requires
unreachable-requires c =
    let fine : c.begin.result ≡ Ok tt = c.in_ok-begin.was in
    c.in_default.ensures.cases (begin-lent c.args.self.now.session _ _ (rw fine at c.begin.ensures))

pub take_line-requires : goal.take_line-requires
take_line-requires c =
    let a = c.args in
    let load = a.self.now in
    let fine : c.begin.result ≡ Ok tt = c.in_ok-begin.was in
    may-begin (state_of load.session a.device.now a.work.now) load.text.now load.at (rw fine at c.begin.ensures)

pub returns : goal.returns
returns c =
    let a = c.args in
    let load = a.self.now in
    let fine : c.begin.result ≡ Ok tt = c.in_ok-begin.was in
    next-goes (state_of load.session a.device.now a.work.now) load.text.now load.at _ (rw fine at c.begin.ensures)
    (c.take_line.ensures
    ∙ ap (λ (w : List ℕ). take_line (state_of load.session a.device.now w) load.at (line_number load.text.now load.at) (standing load.text.now load.at)) c.in-Some.ensures.cases.same)
