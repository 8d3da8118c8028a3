use mathlib.Core.Path.{refl}
use native.Mathlib.Omega.{arith}
use Rattle.change.proofs.Images.{ready-loaded}
use Rattle.change.proofs.ready_image.Goals as goal

pub returns-clause-bytes : goal.returns-clause-bytes
returns-clause-bytes c = λ i d e.
    ready-loaded _ _ _ _ _ _ refl (omega (arith, c.args.image.now.inside, c.load.new.self.images.now.whole)) c.load.ensures.bytes
