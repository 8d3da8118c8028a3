use Prim.Native.Nat.{ℕ, ◌+◌, ◌*◌, ◌-◌, ◌<◌, ◌≤◌, min, max}
use mathlib.Core.Path.{◌≡◌}
use lib.ListN.{length, take, drop}
use Rattle.transaction.specs.Volumes.{working}
use Rattle.file.specs.Bytes.{run_bytes}
use Rattle.file.proofs.Laws.{landed}
use Rattle.file.proofs.copy_blocks.Given as goal

-- the bytes before block k have landed, and the next is byte `off` of it, which is its first but for the first block
abbrev pub invariant-loop-k : goal.invariant-loop-k
invariant-loop-k l =
    (length l.to ≡ length l.initial.to) × (l.first < 131072) × (l.end ≡ l.skip + length l.initial.to) × (l.end ≤ 33554432)
    × ((count : ℕ) → l.end ≤ 512 * count → l.to ≡ landed (take (length l.initial.to) (drop l.skip (run_bytes (working l.copy) l.first count))) l.done l.initial.to)
    × (l.done ≡ min l.end (512 * l.k) - l.skip) × (l.off ≡ max l.skip (512 * l.k) - 512 * l.k)
