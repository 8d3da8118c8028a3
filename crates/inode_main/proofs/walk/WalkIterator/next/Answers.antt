use Rattle.std.proofs.Common.{ℕ, ◌<◌}
use Rattle.std.specs.Prelude.{Some}
use Rattle.spec.specs.Disk.{Disk}
use Rattle.inode.specs.declared.Cursor.{Cursor}
use Rattle.inode.specs.declared.Step.{Step}
use Rattle.inode.specs.declared.Step.TheVariants.{Leaf, Node}
use Rattle.inode.specs.Walk.{weight, Steps}
use Rattle.inode_main.proofs.walk.WalkIterator.next.Goals as goal

-- each step leaves fewer
fewer : (v : Disk) (tb : ℕ) (c d : Cursor) (s : Step) → Steps v tb c (Some (s, d)) → weight d < weight c
fewer v tb c d (Leaf e) o = o.less
fewer v tb c d (Node b) o = o.less

pub returns-clause-goes : goal.returns-clause-goes
returns-clause-goes c = record { on = λ _. (tt, tt, fewer _ _ _ _ _ c.in_ok-step.ensures); keeps = tt; rests = λ _. tt }
