use Rattle.std.proofs.Common.{◌∙◌}
use Rattle.text.proofs.Laws.{put_as, number-are}
use Rattle.text.proofs.Writer.put_number.Goals as goal

pub returns : goal.returns
returns c = put_as _ _ _ _ c.put_bytes.ensures (c.as_bytes.ensures.value ∙ (c.format.ensures.text ∙ number-are c.args.n c.ranges.n.fits))
