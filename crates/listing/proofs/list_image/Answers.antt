use Rattle.std.proofs.Common.{rules}
use Rattle.text.proofs.Laws.{lent-written}
use Rattle.listing.proofs.Laws.{text-long, short-text, listed}
use Rattle.listing.proofs.list_image.Goals as goal

pub returns-then-image-gt-LONGEST_IMAGE : goal.returns-then-image-gt-LONGEST_IMAGE
returns-then-image-gt-LONGEST_IMAGE c =
    listed c.args.image.now _ _ _ _ (lent-written _ _ _ _ _ c.new-w.ensures.bytes c.new-w.ensures.place c.put_refused.ensures (search rules)) (text-long c.args.image.now c.if-image-gt-LONGEST_IMAGE.true)

pub returns : goal.returns
returns c = listed c.args.image.now _ _ _ _ c.list_device.ensures (short-text c.args.image.now c.if-image-gt-LONGEST_IMAGE.false)
