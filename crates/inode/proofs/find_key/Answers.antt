use mathlib.Core.Path.{◌≡◌, sym, ap, ◌∙◌}
use Prim.Native.Nat.{◌+◌, ◌*◌}
use native.Mathlib.Omega.{arith}
use Rattle.transaction.specs.Volumes.{working}
use Rattle.inode.specs.Records.{lowest_to}
use Rattle.inode.proofs.Laws.{named_at, find-all, find-hit, find-miss, lowest-none}
use Rattle.inode.proofs.find_key.Goals as goal

pub returns-in-Some : goal.returns-in-Some
returns-in-Some c = let a = c.args in
    λ name n e.
    sym (find-all (working a.copy.now) name ∙ c.loop-block.invariant name n e
    ∙ find-hit _ _ name _ (omega arith) (omega arith) c.inode_block-table.ensures.0 _ (c.in-Some.ensures.0 name n e))

pub loop-block-preserved : goal.loop-block-preserved
loop-block-preserved c = let a = c.args in
    λ name n e.
    let z : 16 * c.loop-block.block + 16 ≡ 16 * (c.loop-block.block + 1) = omega arith in
    c.loop-block.invariant name n e
    ∙ find-miss _ _ name _ (omega arith) (omega arith) c.inode_block-table.ensures.0 (c.in_default.ensures.0 name n e)
    ∙ ap (lowest_to 128 (named_at (working a.copy.now) name)) z

pub returns : goal.returns
returns c = let a = c.args in
    λ name n e. sym (find-all (working a.copy.now) name ∙ c.loop-block.invariant name n e ∙ lowest-none _ _ _ (omega arith))
