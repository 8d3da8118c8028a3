use borrow.Author.Tests.{leb-true}
use native.Mathlib.Omega.{arith}
use Rattle.change.proofs.Contents.{anew-bitmap, anew-node, anew-data}
use Rattle.change.proofs.is_made_anew.Goals as goal

pub returns-in-Bitmap : goal.returns-in-Bitmap
returns-in-Bitmap c = λ t i d y z e. rw c.in-Bitmap.is (anew-bitmap i d y z)

pub returns-in-Node : goal.returns-in-Node
returns-in-Node c = λ t i d y z e. rw c.in-Node.is (anew-node i d y z _)

pub returns-in-Data : goal.returns-in-Data
returns-in-Data c = λ t i d y z e. let h = leb-true c.args.held c.in-Data.p.0 t in rw c.in-Data.is (anew-data i d y z c.in-Data.p (omega arith))
