-- A text's lines one by one.
use Rattle.std.specs.Prelude.{◌≡◌, Option, Some, None, Result, Ok, Err}
use Rattle.cardfile.specs.declared.Line.{Line}
use Rattle.cardfile.specs.declared.LineFault.{LineFault}
use Rattle.cardfile.specs.declared.Lines.{Lines}
use Rattle.cardfile.specs.Lines.{line_at}

-- what stands at a place, none behind the end
abbrev pub line_shown : Result (Option Line) LineFault → Option (Result Line LineFault)
line_shown (Ok (Some x)) = Some (Ok x)
line_shown (Ok None) = None
line_shown (Err f) = Some (Err f)

-- a step shows what stands at the place, and goes behind the line
pub record LineStep (s : Lines) (r : Option (Result Line LineFault)) (t : Lines) : Type 0 where
  pub shows : r ≡ line_shown (line_at s.text.now s.at)
  pub text : t.text.now ≡ s.text.now
  pub behind : (x : Line) → r ≡ Some (Ok x) → t.at ≡ x.next
