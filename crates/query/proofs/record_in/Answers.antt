use borrow.Author.Rules.{rules}
use mathlib.Core.Path.{◌≡◌, ap, ◌∙◌}
use native.Mathlib.Omega.{arith}
use Rattle.spec.specs.Bytes.{exactly}
use Rattle.block.proofs.Laws.{exactly-all, length-exactly}
use Rattle.query.specs.Records.{record_told}
use Rattle.query.proofs.Laws.{block_of, record-past, record-fine}
use Rattle.query.proofs.record_in.Goals as goal

pub returns-in_default : goal.returns-in_default
returns-in_default c =
    let a = c.args in
    λ s q. record-past s a.i (c.in_ok-ready.ensures s q.head) c.in_default.ensures

pub returns : goal.returns
returns c =
    let a = c.args in
    let t = c.of-inode in
    let n = c.in-Some.number in
    let w = c.on_whole.ensures in
    let told : c.on_whole.result ≡ record_told w.0.now a.i = search rules in
    λ s q.
    let h = rw c.in-Some.ensures at (ap (exactly 512) w.2 ∙ exactly-all 512 (exactly 512 t.result.table.now) (length-exactly 512 t.result.table.now) ∙ block_of a.volume.now s t.result.table.now _ q t.ensures.1) in
    rw told (record-fine s a.i w.0.now (c.in_ok-ready.ensures s q.head) (omega (arith, n.low, c.in-Some.ensures)) h)
