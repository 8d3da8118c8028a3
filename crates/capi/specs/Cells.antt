-- The parts of a session, for the contracts of this crate.
use Rattle.std.specs.Prelude.{ℕ, List}
use Rattle.mirror.specs.declared.Head.{Head}
use Rattle.mirror.specs.Mirror.{phase_of, head_in}
use Rattle.capi.specs.declared.Parts.{Parts}

-- the session that numbers stand for, but for its cells
abbrev pub parts_of : Head → Parts
parts_of h = record { blocks = h.blocks; phase = phase_of h.phase h.place; count = h.count }

abbrev pub parts_in : List ℕ → Parts
parts_in ns = parts_of (head_in ns)
