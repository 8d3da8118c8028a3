use mathlib.Core.Path.{◌∙◌}
use Rattle.inode.proofs.Laws.{name-bytes}
use Rattle.inode.proofs.inode.Inode.name.Goals as goal

pub returns : goal.returns
returns c = c.bytes_at.ensures ∙ name-bytes c.args.self.now.table.now c.args.self.now.i _ c.place_in_block.ensures.0
