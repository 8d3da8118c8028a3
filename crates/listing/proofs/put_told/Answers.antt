use Rattle.text.proofs.Laws.{put_then, put_as}
use Rattle.listing.proofs.Laws.{told_is}
use Rattle.listing.proofs.put_told.Goals as goal

pub returns : goal.returns
returns c = put_as _ _ _ _ (put_then _ _ _ c.put_bytes.ensures _ _ (put_then _ _ _ c.put_number.ensures _ _ c.put.ensures)) (told_is c.args.word.now c.args.n)
