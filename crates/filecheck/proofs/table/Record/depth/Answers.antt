use Rattle.std.proofs.Common.{rules}
use mathlib.Core.Path.{ap, ◌∙◌}
use Rattle.inode.proofs.Laws.{inode-at}
use Rattle.marks.specs.Device.{disk_of}
use Rattle.filecheck.specs.File.{Stands}
use Rattle.filecheck.proofs.table.Record.depth.Goals as goal

pub returns : goal.returns
returns c = let x = c.args.self.now in let h : Stands x = search rules in rw (← c.inode.ensures.0, ← c.inode.ensures.1) c.depth.ensures.0 ∙ ap (λ n. n.depth) (inode-at (disk_of x.device) x.table.now x.i.n h)
