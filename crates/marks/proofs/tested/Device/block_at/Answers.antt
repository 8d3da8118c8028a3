use mathlib.Core.Path.{ap, sym, ◌∙◌}
use Rattle.spec.specs.Bytes.{exactly}
use Rattle.block.proofs.Laws.{block-is}
use Rattle.marks.proofs.tested.Device.block_at.Goals as goal

pub returns : goal.returns
returns c = ap (exactly 512) c.block_in.ensures ∙ sym (block-is _ _)
