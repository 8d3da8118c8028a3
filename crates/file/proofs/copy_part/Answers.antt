use borrow.Author.Rules.{rules}
use mathlib.Core.Path.{◌≡◌}
use Prim.Native.Nat.{◌-◌}
use lib.ListN.{length, replicate}
use Rattle.file.proofs.Laws.{part-padded}
use Rattle.file.proofs.copy_part.Goals as goal

pub returns : goal.returns
returns c =
    let zeros : c.fill.new.self ≡ replicate (length c.args.to.now - c.min-n.result) 0 = search rules in
    part-padded c.args.block.now c.args.off (length c.args.to.now) c.requires _ _ _ _ c.min.ensures c.min-n.ensures c.copy.ensures zeros
