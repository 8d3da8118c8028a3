use borrow.Author.Rules.{rules}
use mathlib.Core.Path.{◌≡◌}
use mathlib.Core.List.{List}
use Prim.Native.Nat.{ℕ, ◌/◌, ◌<◌}
use lib.ListN.{length}
use Rattle.std.specs.Prelude.{IfSome}
use Rattle.inode.proofs.Laws.{SearchedIn, first-in-block}
use Rattle.inode.proofs.find_in_block.Goals as goal

pub returns : goal.returns
returns c =
    let w = c.on_whole.ensures in
    let x = w.0.now in
    let s : (records : List (List ℕ)) × SearchedIn x records c.args.key c.on_whole.result × (length records ≡ length x / 32) × IfSome c.on_whole.result (λ k. k < length records) = search rules in
    first-in-block c.args.table.now x s.0 _ _ w.2 (λ i. search rules) s.1 (s.2, s.3)
