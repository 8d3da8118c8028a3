use lib.ListN.{drop}
use Rattle.spec.specs.Listing.{hexadecimal}
use Rattle.text.proofs.Laws.{Left}
use Rattle.text.proofs.Writer.put_hex.Given as goal

abbrev pub invariant-loop-x : goal.invariant-loop-x
invariant-loop-x l = Left l.initial.self (hexadecimal l.bytes) l.self (hexadecimal (drop l.x-index l.bytes))
