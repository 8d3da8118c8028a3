-- What is left of the runs of a stretch.
use Rattle.std.specs.Prelude.{List, ◌++◌}
use Rattle.spec.specs.declared.Extent.{Extent}
use Rattle.spec.specs.Inode.{blocks_in, runs}
use Rattle.extents.specs.Stretches.{held_blocks}
use Rattle.extents.specs.Pieces.{pieces_left}
use Rattle.extents.specs.declared.Runs.{Runs}

-- of the blocks of the run that is held, and those behind it
abbrev pub runs_left : Runs → List Extent
runs_left r = runs (held_blocks r.run ++ blocks_in (pieces_left r.pieces))
