use mathlib.Core.Path.{refl}
use native.Mathlib.Omega.{arith}
use Rattle.extents.proofs.Laws.{stretch-start}
use Rattle.extents.proofs.scan_of.Goals as goal

pub returns : goal.returns
returns c = λ v e. stretch-start _ _ _ _ _ (c.start_at-at.ensures v e) refl (omega (arith, c.min-room.ensures, c.saturating_sub.ensures))
