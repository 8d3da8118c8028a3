use Rattle.inode.proofs.Walk.{start-flat, start-deep}
use Rattle.inode.proofs.start_at.Goals as goal

pub returns-then-depth-eq0 : goal.returns-then-depth-eq0
returns-then-depth-eq0 c = λ v e. start-flat v _ _ _ _ _ c.table_block-tb.ensures c.place_in_block-slots.ensures.0 e c.depth.ensures.0 c.if-depth-eq0.true

pub returns-else-depth-eq0 : goal.returns-else-depth-eq0
returns-else-depth-eq0 c = λ v e. start-deep v _ _ _ _ _ c.table_block-tb.ensures c.place_in_block-slots.ensures.0 e c.depth.ensures.0 c.if-depth-eq0.false
