-- Demand 3, the cut rule, of the store that `step` is, over what it asks of files (proofs/Theorem.antt). Here: the bounds of N.
use Rattle.std.specs.Prelude.{ℕ, ◌*◌, ◌/◌, ◌%◌, ◌≤◌, ◌≡◌, true, ◌&&◌, eqb, leb}
use Rattle.std.proofs.Common.{arith, leb-true}
use Rattle.spec.specs.Layout.{block_size, fewest_blocks, most_blocks}
use Rattle.spec.specs.Disk.{is_allowed}
use Rattle.lists.specs.Tests.{both_true}

pub bounds : (N size : ℕ) → is_allowed size ≡ true → size ≡ block_size * N → (fewest_blocks ≤ N) × (N ≤ most_blocks)
unfolding is_allowed
bounds N size fits blocks =
    let a = both_true (eqb (size % block_size) 0 && leb fewest_blocks (size / block_size)) (leb (size / block_size) most_blocks) fits in
    let b = both_true (eqb (size % block_size) 0) (leb fewest_blocks (size / block_size)) a.0 in
    let lo = leb-true fewest_blocks (size / block_size) b.1 in
    let hi = leb-true (size / block_size) most_blocks a.1 in
    (omega (arith, blocks, lo), omega (arith, blocks, hi))
