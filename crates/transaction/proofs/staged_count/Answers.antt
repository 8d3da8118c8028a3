use native.Mathlib.Omega.{arith}
use lib.ListN.{length}
use mathlib.Core.Path.{◌≡◌}
use Rattle.transaction.proofs.Laws.{length-staged}
use borrow.Author.Rules.{rules}
use Rattle.transaction.proofs.staged_count.Goals as goal

pub returns : goal.returns
returns c = let l : length c.args.s.staged ≡ 32 = search rules in
    (omega (arith, c.staged_in.ensures.0, length-staged c.args.s l), c.staged_in.ensures.1)
