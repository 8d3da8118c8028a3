use Rattle.converter.proofs.Writes.{Found}
use Rattle.converter.proofs.put_padded.Given as goal

abbrev pub invariant-loop-k : goal.invariant-loop-k
invariant-loop-k l = Found l.count l.n l.digits l.k l.rest
