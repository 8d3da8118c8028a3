use Rattle.transaction.specs.Volumes.{working}
use Rattle.std.specs.Prelude.{Ok, Err}
use Rattle.spec.specs.Inode.{block_of_inode}
use Rattle.change.specs.Contents.{change_of, content_by}
use Rattle.change.proofs.Contents.{bitmap-told, record-told}
use Rattle.change.proofs.Steps.{told-err, record-lists, change-lists, over-data, over-nodes, over-record}
use Rattle.change.proofs.plan.Plan.add_all.Goals as goal

pub returns-in_err-add_data : goal.returns-in_err-add_data
returns-in_err-add_data c =
    let v = working c.args.copy.now in
    let p = c.args.self.now in
    λ l. let e = c.in_err-add_data.ensures v l in
    told-err _ _ _ _ _ c.from_residual.ensures.1 e.0 (over-data v c.args.self.now.number.n (change_of p) e.1)

pub returns-in_err-add_nodes : goal.returns-in_err-add_nodes
returns-in_err-add_nodes c =
    let v = working c.args.copy.now in
    let p = c.args.self.now in
    λ l. let e = c.in_err-add_nodes.ensures (c.in_ok-add_data.ensures v l) in
    told-err _ _ _ _ _ c.from_residual-in_err-add_nodes.ensures.1 e.0 (over-nodes v c.args.self.now.number.n (change_of p) e.1)

pub returns-in_err-add_record : goal.returns-in_err-add_record
returns-in_err-add_record c =
    let v = working c.args.copy.now in
    let p = c.args.self.now in
    let d = change_of p in
    λ l. let n = c.in_ok-add_nodes.ensures (c.in_ok-add_data.ensures v l) in
    let e = c.in_err-add_record.ensures (content_by v p) _ (record-told v c.args.self.now.number.n d (block_of_inode c.args.self.now.number.n)) n in
    let h = record-lists v c.args.self.now.number.n d (Err c.in_err-add_record.field-0.0) c.add_record.new.agenda e in
    told-err _ _ _ _ _ c.from_residual-in_err-add_record.ensures.1 h.0 (over-record v c.args.self.now.number.n d h.1)

pub returns : goal.returns
returns c =
    let v = working c.args.copy.now in
    let p = c.args.self.now in
    let d = change_of p in
    λ l. let n = c.in_ok-add_nodes.ensures (c.in_ok-add_data.ensures v l) in
    let e = c.in_ok-add_record.ensures (content_by v p) _ (record-told v c.args.self.now.number.n d (block_of_inode c.args.self.now.number.n)) n in
    let h = record-lists v c.args.self.now.number.n d (Ok tt) c.add_record.new.agenda e in
    change-lists v c.args.self.now.number.n d c.add_block.result _ (c.add_block.ensures (content_by v p) _ (bitmap-told v c.args.self.now.number.n d) h)
