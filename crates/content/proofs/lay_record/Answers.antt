use Rattle.content.proofs.Laws.{record-laid}
use Rattle.content.proofs.lay_record.Goals as goal

pub returns : goal.returns
returns c = record-laid c.args.i c.place_in_block-at.result _ c.args.new.bytes.now c.args.block.now c.place_in_block-at.ensures.0 c.copy.ensures
