use Prim.Native.Nat.{◌*◌}
use mathlib.Core.Path.{◌≡◌}
use lib.ListN.{take}
use Rattle.spec.specs.Bitmap.{bits_of, free_bits}
use Rattle.bitmap.proofs.table.Bitmap.lowest_free_from.Given as goal

-- no bit before word `at` is 0
abbrev pub invariant-loop-at : goal.invariant-loop-at
invariant-loop-at l = free_bits (take (64 * l.at) (bits_of l.self.bytes)) ≡ 0
