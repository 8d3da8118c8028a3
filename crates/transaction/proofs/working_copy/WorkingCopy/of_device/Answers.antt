use mathlib.Core.Path.{refl}
use Rattle.transaction.specs.Places.{view_in}
use Rattle.transaction.proofs.working_copy.WorkingCopy.of_device.Goals as goal

pub returns : goal.returns
unfolding view_in
returns c = refl
