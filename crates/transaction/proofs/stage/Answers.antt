use mathlib.Core.Path.{ap, ◌∙◌}
use native.Mathlib.Omega.{arith}
use borrow.Author.Rules.{rules}
use Rattle.spec.specs.Disk.{slice_of}
use Rattle.transaction.proofs.Laws.{spot-staged, stage-leaves}
use Rattle.transaction.proofs.stage.Goals as goal

-- `at` is the place that the block has or gets, among all that are staged.

pub overflow_cast-place : goal.overflow_cast-place
overflow_cast-place c = record { fits = omega (arith, spot-staged c.args.s _ c.args.b.0 _ c.spot-place.ensures c.of.ensures, c.requires) }

pub store_block-requires : goal.store_block-requires
store_block-requires c = omega (arith, spot-staged c.args.s _ c.args.b.0 _ c.spot-place.ensures c.of.ensures, c.requires)

pub add-requires : goal.add-requires
add-requires c =
    let at = spot-staged c.args.s _ c.args.b.0 _ c.spot-place.ensures c.of.ensures in
    (at, omega (arith, at, c.requires))

pub returns : goal.returns
returns c = λ device.
    let at = spot-staged c.args.s _ c.args.b.0 _ c.spot-place.ensures c.of.ensures in
    let p = c.add.ensures.parts in
    stage-leaves c.args.s _ device _ _ _ _ _ at (ap slice_of (search rules) ∙ c.store_block.ensures) (search rules)
