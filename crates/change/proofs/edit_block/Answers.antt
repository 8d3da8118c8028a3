use mathlib.Core.Path.{refl}
use Rattle.change.specs.Contents.{change_of}
use Rattle.change.proofs.Contents.{made-bitmap, made-record, made-node, made-data}
use Rattle.change.proofs.edit_block.Goals as goal

pub returns-in-Bitmap : goal.returns-in-Bitmap
returns-in-Bitmap c = rw c.in-Bitmap.is (made-bitmap c.args.plan.now.number.n (change_of c.args.plan.now) _ _ c.copy.ensures)

pub returns-in-Record : goal.returns-in-Record
returns-in-Record c = rw c.in-Record.is (made-record c.args.plan.now.number.n (change_of c.args.plan.now) _ _ c.lay_record.ensures)

pub returns-in-Node : goal.returns-in-Node
returns-in-Node c =
    rw c.in-Node.is (made-node c.args.plan.now.number.n (change_of c.args.plan.now) _ _ c.in-Node.j c.node_content.ensures)

pub returns-in-Data : goal.returns-in-Data
returns-in-Data c = rw c.in-Data.is (made-data c.args.plan.now.number.n (change_of c.args.plan.now) _ _ c.in-Data.p c.lay.ensures)
