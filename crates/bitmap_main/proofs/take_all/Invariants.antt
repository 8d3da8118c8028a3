use Prim.Native.Nat.{◌+◌, ◌*◌}
use mathlib.Core.Path.{◌≡◌}
use lib.ListN.{take}
use Rattle.spec.specs.Bitmap.{bits_of, free_bits}
use Rattle.bitmap_main.proofs.take_all.Given as goal

abbrev pub invariant-loop-taken : goal.invariant-loop-taken
invariant-loop-taken l =
    (free_bits (take (64 * l.from) (bits_of l.t.bytes)) ≡ 0) × (l.taken + free_bits (bits_of l.t.bytes) ≡ free_bits (bits_of l.initial.t.bytes))
