use mathlib.Core.Path.{◌∙◌}
use mathlib.Core.Bool.{false, ◌||◌}
use lib.Dec.{eqb}
use lib.ListN.{take}
use Rattle.std.proofs.Common.{rules, tests}
use Rattle.std.proofs.lemmas.Iterator.{YieldsList-from_slice}
use Rattle.std.proofs.lemmas.Iterator.Consumers.{fold_from_yields_List}
use Rattle.fsck.proofs.Names.{seen-new, seen-fold}
use Rattle.fsck.proofs.NameTable.holds.Goals as goal

pub returns-then-not-self-place : goal.returns-then-not-self-place
returns-then-not-self-place c = let p = c.requires in seen-new _ _ _ p.0 p.1 c.if-not-self-place.true

pub returns : goal.returns
returns c =
    fold_from_yields_List _ (λ found n. found || eqb n c.args.number) false c.fold.result c.fold.ensures.ran (YieldsList-from_slice (take c.args.i.n c.args.self.now.numbers) c.iter.ensures.rest)
    (λ a x b q k. search (rules, tests))
    ∙ seen-fold c.args.number (take c.args.i.n c.args.self.now.numbers)
