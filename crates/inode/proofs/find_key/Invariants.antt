use Rattle.std.proofs.Common.{◌≡◌, List, ℕ, ◌*◌}
use Rattle.transaction.specs.Volumes.{working}
use Rattle.block.specs.Keys.{key_of, Name}
use Rattle.inode.specs.Records.{lowest_to}
use Rattle.inode.proofs.Laws.{named_at}
use Rattle.inode.proofs.find_key.Given as goal

abbrev pub invariant-loop-block : goal.invariant-loop-block
invariant-loop-block l = (name : List ℕ) → Name name → l.key ≡ key_of name
    → lowest_to 128 (named_at (working l.copy) name) 0 ≡ lowest_to 128 (named_at (working l.copy) name) (16 * l.block)
