use mathlib.Core.Path.{refl}
use Rattle.text.proofs.Laws.{put_as}
use Rattle.converter.proofs.Writes.{found-none, found-more, found-all}
use Rattle.converter.proofs.put_padded.Goals as goal

pub loop-k-init : goal.loop-k-init
loop-k-init c = found-none _ _ _ refl

pub loop-k-preserved : goal.loop-k-preserved
loop-k-preserved c = found-more _ _ _ _ _ c.loop-k.invariant c.requires c.loop-k-test.true c.loop-k.auto.k

pub returns : goal.returns
returns c = put_as _ _ _ _ c.put_bytes.ensures (found-all _ _ _ _ _ c.loop-k.invariant c.loop-k-test.false)
