use Rattle.std.proofs.Common.{arith}
use Rattle.promises.specs.Images.{image-stored}
use Rattle.loader.proofs.put_back.Goals as goal

pub returns : goal.returns
returns c = let a = c.args in image-stored a.image.now _ a.work.now c.copy.ensures (omega arith) (omega arith)
