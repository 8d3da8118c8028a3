use Rattle.std.proofs.Common.{rules, ◌≡◌}
use lib.ListN.{length}
use Rattle.std.specs.Prelude.{Some, Ok, Err}
use Rattle.cardfile.specs.declared.Line.{Line}
use Rattle.cardfile.specs.declared.LineFault.{LineFault}
use Rattle.cardfile.specs.Lines.{line_at}
use Rattle.cardfile.specs.Steps.{line_shown}
use Rattle.cardfile.proofs.Steps.{goes-on}
use Rattle.cardfile.proofs.LinesIterator.next.Goals as goal

pub returns-clause-goes : goal.returns-clause-goes
returns-clause-goes c =
    let s = c.args.self.now in
    let r = c.in_ok-found.found in
    let e : line_shown (line_at s.text.now s.at) ≡ Some r = search rules in
    let m : (x : Line) → r ≡ Ok x → c.map_or-self.result ≡ x.next = λ x h. search rules in
    let f : (w : LineFault) → r ≡ Err w → c.map_or-self.result ≡ length s.text.now = λ w h. search rules in
    record { on = λ _. (tt, tt, goes-on s.text.now s.at r _ e m f); keeps = tt; rests = λ _. tt }
