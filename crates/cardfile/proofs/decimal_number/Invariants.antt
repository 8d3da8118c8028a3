use Rattle.cardfile.proofs.Laws.{Decimals}
use Rattle.cardfile.proofs.decimal_number.Given as goal

abbrev pub invariant-loop-c : goal.invariant-loop-c
invariant-loop-c l = Decimals l.t l.n l.c-index
