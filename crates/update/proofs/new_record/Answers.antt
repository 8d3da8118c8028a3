use Rattle.update.proofs.Records.{name-laid}
use Rattle.update.proofs.new_record.Goals as goal

pub returns : goal.returns
returns c = name-laid c.args.name.now _ c.requires c.copy_from_slice.ensures.after
