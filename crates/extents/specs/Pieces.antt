-- What is left of the pieces of a stretch, and what a step over them gives.
use Rattle.std.specs.Prelude.{◌+◌, ◌<◌, ◌≡◌, List, [], ◌∷◌}
use Rattle.std.specs.Prelude.{Option as Returned, MatchOption}
use Rattle.spec.specs.declared.Extent.{Extent}
use Rattle.transaction.specs.Volumes.{working}
use Rattle.extents.specs.Stretches.{left_at}
use Rattle.extents.specs.declared.piece.Piece.{Piece}
use Rattle.extents.specs.declared.pieces.Pieces.{Pieces}

-- the pieces that are left; their blocks, one after the other, are those that are left of the stretch
abbrev pub pieces_left : Pieces → List Extent
pieces_left p = left_at (working p.copy) p.record_block.0 p.scan

-- e came first, and the others are left at q, of the same tree
pub record FirstPiece (p : Pieces) (e : Extent) (q : Pieces) : Type 0 where
  pub rest : pieces_left p ≡ e ∷ pieces_left q
  pub some : 0 < e.count
  pub room : e.count + q.scan.room ≡ p.scan.room
  pub copy : q.copy ≡ p.copy
  pub tree : q.record_block ≡ p.record_block

-- a call gave the first piece that was left, or nothing where none was
abbrev pub YieldsPiece : Pieces → Returned Piece → Pieces → Type 0
YieldsPiece p r q = MatchOption r ((pieces_left p ≡ []) × (pieces_left q ≡ [])) (λ e. FirstPiece p e.extent q)
