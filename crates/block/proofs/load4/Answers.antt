use Rattle.std.specs.Int.{w32, from_le_bytes}
use mathlib.Core.Path.{◌∙◌, ap}
use Rattle.block.proofs.Steps.{four-at}
use Rattle.block.proofs.load4.Goals as goal

pub returns : goal.returns
returns c = four-at c.args.at c.args.bytes.now _ (c.from_le_bytes.ensures ∙ ap (from_le_bytes w32) c.bytes_at.ensures)
