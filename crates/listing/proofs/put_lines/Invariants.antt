use Rattle.text.proofs.Laws.{Left}
use Rattle.transaction.specs.Volumes.{working}
use Rattle.listing.specs.Steps.{lines_text}
use Rattle.listing.proofs.put_lines.Given as goal

abbrev pub invariant-loop-i : goal.invariant-loop-i
invariant-loop-i l = Left l.initial.w (lines_text (working l.copy) 0) l.w (lines_text (working l.copy) l.i)
