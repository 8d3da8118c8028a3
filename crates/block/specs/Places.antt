-- A place that is looked up, for the contracts of this crate and of those above it.
use Rattle.std.specs.Prelude.{ℕ, Option, Some, None}
use Rattle.std.proofs.Math.Option as math
use Rattle.std.proofs.Math.Option.{none, some}

-- a place as the code tells it
abbrev pub found_at : math.Option ℕ → Option ℕ
found_at none = None
found_at (some i) = Some i
