use mathlib.Core.Path.{ap}
use native.Mathlib.Omega.{arith}
use Rattle.spec.specs.Listing.{hexadecimal}
use Rattle.std.proofs.lemmas.List.{drop_more, drop_all}
use Rattle.text.proofs.Laws.{left_step, left_end}
use Rattle.text.proofs.Writer.put_hex.Goals as goal

pub loop-x-preserved : goal.loop-x-preserved
loop-x-preserved c = left_step _ _ _ _ c.loop-x.invariant _ _ _ (ap hexadecimal (drop_more c.args.bytes.now c.loop-x.x-index 0 (omega arith))) c.put_hex_byte.ensures

pub returns : goal.returns
returns c = left_end _ _ _ _ c.loop-x.invariant (ap hexadecimal (drop_all c.loop-x.x-index c.args.bytes.now (omega arith)))
