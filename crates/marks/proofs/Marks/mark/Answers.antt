use mathlib.Core.Path.{sym, ap, ◌∙◌}
use mathlib.Core.Bool.{not}
use native.Mathlib.Omega.{arith}
use Rattle.marks.proofs.Laws.{data-low, mark-out}
use Rattle.marks.proofs.Marks.mark.Goals as goal

pub returns-then-not-in_data : goal.returns-then-not-in_data
returns-then-not-in_data c = mark-out _ _ _ _ c.in_data.ensures (ap not c.if-not-in_data.true)

pub mark_byte-requires : goal.mark_byte-requires
mark_byte-requires c = let d = data-low _ _ (sym c.in_data.ensures ∙ c.if-not-in_data.false) in (d.0, omega arith, omega arith, omega (arith, d.1))

pub returns : goal.returns
returns c = let d = data-low _ _ (sym c.in_data.ensures ∙ c.if-not-in_data.false) in c.mark_byte.ensures _ (omega (arith, d.1))
