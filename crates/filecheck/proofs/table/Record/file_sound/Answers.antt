use Rattle.filecheck.proofs.Shape.{file-off, file-on, limits-in}
use Rattle.filecheck.proofs.table.Record.file_sound.Goals as goal

pub returns-then-not-limits_hold : goal.returns-then-not-limits_hold
returns-then-not-limits_hold c = file-off _ _ _ _ c.limits_hold.ensures _ _ c.if-not-limits_hold.true

pub tree_sound-requires : goal.tree_sound-requires
tree_sound-requires c = limits-in c.args.self.now.device.blocks _ _ _ c.limits_hold.ensures c.if-not-limits_hold.false

pub returns : goal.returns
returns c = file-on _ _ _ _ c.limits_hold.ensures _ _ _ _ c.if-not-limits_hold.false c.tree_sound.ensures
