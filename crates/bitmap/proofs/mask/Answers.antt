use native.Mathlib.Omega.{arith}
use Rattle.bitmap.proofs.Runs.{mask-shift}
use Rattle.bitmap.proofs.mask.Goals as goal

pub returns : goal.returns
returns c = mask-shift _ _ (omega (arith, c.requires)) (omega arith)
