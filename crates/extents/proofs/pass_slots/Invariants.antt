use Prim.Native.Nat.{ℕ}
use mathlib.Core.Path.{◌≡◌}
use Rattle.spec.specs.Bytes.{exactly}
use Rattle.spec.specs.Disk.{Disk}
use Rattle.inode.specs.Walk.{behind}
use Rattle.extents.specs.Stretches.{Passes}
use Rattle.extents.proofs.pass_slots.Given as goal

abbrev pub invariant-loop-bytes : goal.invariant-loop-bytes
invariant-loop-bytes l = record {
  each : l.passed ≡ l.bytes-index;
  passes : (v : Disk) (tb : ℕ) → exactly 512 l.block.bytes.now ≡ v l.scan.at.block → Passes v tb l.scan (record { at = behind l.from l.passed; skip = l.skip; room = l.scan.room });
}
