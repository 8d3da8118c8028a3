use Prim.Native.Nat.{◌+◌, ◌*◌, ◌-◌}
use mathlib.Core.Path.{◌≡◌}
use Rattle.spec.specs.Bytes.{exactly}
use Rattle.spec.specs.Disk.{Disk}
use Rattle.spec.specs.Inode.{block_of_inode}
use Rattle.alloc.specs.Parts.{nodes_at}
use Rattle.alloc.proofs.Laws.{Gathering}
use Rattle.alloc.proofs.held_nodes.Given as goal

abbrev pub invariant-loop-k : goal.invariant-loop-k
invariant-loop-k l =
    (v : Disk) → exactly 512 l.table.bytes.now ≡ v (block_of_inode l.fn.i.n)
    → Gathering v (block_of_inode l.fn.i.n) (nodes_at v l.fn.i.n) (l.cur.top + 4 * l.k) (l.cur.tops - l.k) l.nodes
