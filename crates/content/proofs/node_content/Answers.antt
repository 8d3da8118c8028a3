use Prim.Native.Nat.{◌*◌}
use mathlib.Core.Path.{ap}
use native.Mathlib.Omega.{arith}
use lib.ListN.{length, drop, length-take}
use Rattle.content.proofs.Laws.{node-laid}
use Rattle.content.proofs.node_content.Goals as goal

pub lay_slots-requires : goal.lay_slots-requires
lay_slots-requires c = omega (arith, ap length c.extents_of.ensures, length-take 128 (drop (128 * c.args.j) c.args.extents.now))

pub returns : goal.returns
returns c = node-laid _ _ _ _ c.extents_of.ensures c.lay_slots.ensures
