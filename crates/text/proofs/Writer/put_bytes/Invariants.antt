use lib.ListN.{drop}
use Rattle.text.proofs.Laws.{Left}
use Rattle.text.proofs.Writer.put_bytes.Given as goal

abbrev pub invariant-loop-x : goal.invariant-loop-x
invariant-loop-x l = Left l.initial.self l.bytes l.self (drop l.x-index l.bytes)
