use mathlib.Core.Path.{ap, ◌∙◌}
use lib.ListN.{length}
use Rattle.spec.specs.Disk.{blocks_of}
use Rattle.header.proofs.Loops.{head-targets}
use Rattle.text.proofs.Laws.{put_as}
use Rattle.listing.proofs.Laws.{recover-is}
use Rattle.listing.proofs.put_recover.Goals as goal

pub returns : goal.returns
returns c = put_as _ _ _ _ c.put_told.ensures (recover-is (blocks_of c.args.image.now) _ (c.len.ensures.0 ∙ ap length (c.targets_in-t.ensures ∙ head-targets c.args.image.now _ c.block_in.ensures)))
