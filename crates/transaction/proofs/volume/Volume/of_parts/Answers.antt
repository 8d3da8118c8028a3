use mathlib.Core.Path.{refl, sym, ◌∙◌}
use Rattle.transaction.proofs.Laws.{staged-parts}
use Rattle.transaction.proofs.volume.Volume.of_parts.Goals as goal

pub returns : goal.returns
returns c = let a = c.args in
    record { head = record { size = refl; at-phase = refl; device = refl; work = refl }; numbers = staged-parts a.cells.now a.count a.blocks a.phase ∙ sym c.of.ensures }
