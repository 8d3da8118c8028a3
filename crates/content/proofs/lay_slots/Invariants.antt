use Prim.Native.Nat.{◌*◌, ◌≤◌}
use mathlib.Core.Path.{◌≡◌}
use mathlib.Core.List.{◌++◌}
use lib.ListN.{length, take, drop}
use Rattle.spec.specs.Inode.{bytes_of_slots}
use Rattle.content.proofs.lay_slots.Given as goal

abbrev pub invariant-loop-k : goal.invariant-loop-k
invariant-loop-k l = record {
  within : l.k ≤ length l.slots;
  full : length l.out ≡ length l.initial.out;
  laid : l.out ≡ bytes_of_slots (take l.k l.slots) ++ drop (4 * l.k) l.initial.out;
}
