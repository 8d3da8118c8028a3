use Rattle.text.proofs.Laws.{put_then, put_as}
use Rattle.listing.proofs.Laws.{span-is}
use Rattle.listing.proofs.put_extent.Goals as goal

pub returns : goal.returns
returns c = put_as _ _ _ _ (put_then _ _ _ c.put_number.ensures _ _ (put_then _ _ _ c.put.ensures _ _ c.put_number-2.ensures)) (span-is c.args.e)
