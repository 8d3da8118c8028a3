use Rattle.std.proofs.Common.{rules}
use Rattle.text.specs.Written.{Put}
use Rattle.text.proofs.Laws.{put_as, lent-written}
use Rattle.listing.specs.Steps.{device_text}
use Rattle.listing.proofs.Laws.{text-refused, text-done}
use Rattle.listing.proofs.list_device.Goals as goal
use Rattle.listing.proofs.list_device.Goals.{in-Err, in-Ok}

pub returns : goal.returns
returns c =
    let d = c.args.image.now in
    let o = c.open_store-opened in
    let n = c.never_opened.ensures in
    let h : Put c.new-w.result c.match-opened.w (device_text d) = elim c.match-opened.branch [
      | in-Err v ↦ rw v.w-is (put_as _ _ _ _ v.put_refused.ensures (text-refused d _ _ _ o.ensures n _ v.in-Err.is))
      | in-Ok v ↦ rw v.w-is (put_as _ _ _ _ v.put_opened.ensures (text-done d _ _ _ o.ensures n v.in-Ok.is))
    ] in
    lent-written _ _ _ _ _ c.new-w.ensures.bytes c.new-w.ensures.place h (search rules)
