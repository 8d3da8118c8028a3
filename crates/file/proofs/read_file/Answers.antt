use mathlib.Core.Path.{◌≡◌}
use Prim.Native.Nat.{◌-◌}
use native.Mathlib.Omega.{arith}
use lib.ListN.{length, drop}
use Rattle.transaction.specs.Volumes.{working}
use Rattle.inode.proofs.Laws.{size-told}
use Rattle.file.specs.Bytes.{block_bytes}
use Rattle.file.proofs.Reading.{past-size, within-size, front-filled}
use Rattle.file.proofs.read_file.Goals as goal

pub returns-then-size-from : goal.returns-then-size-from
returns-then-size-from c =
    let a = c.args in
    let v = working a.copy.now in
    past-size v a.i.n a.x.0 c.size-size.result a.buffer.now (size-told v _ _ a.i.n _ c.of-inode.ensures.0 c.of-inode.ensures.1 c.size-size.ensures) (omega arith)

pub returns : goal.returns
returns c =
    let a = c.args in
    let v = working a.copy.now in
    let len = c.min-len.result in
    let size = size-told v _ _ a.i.n _ c.of-inode.ensures.0 c.of-inode.ensures.1 c.size-size.ensures in
    let k : len - 0 ≡ len = omega arith in
    front-filled (drop a.x.0 (block_bytes v a.i.n)) _ a.buffer.now _ len _ (len - 0)
    (within-size v a.i.n a.x.0 c.size-size.result (length a.buffer.now) len size (omega arith) c.min-len.ensures)
    (omega (arith, c.min-len.ensures)) k c.read_blocks.ensures
