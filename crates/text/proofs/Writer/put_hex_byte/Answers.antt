use mathlib.Core.Path.{ap₂}
use mathlib.Core.List.{[], ◌∷◌}
use Prim.Native.Nat.{ℕ}
use Rattle.text.proofs.Laws.{put_then, put_as}
use Rattle.text.proofs.Writer.put_hex_byte.Goals as goal

pub returns : goal.returns
returns c = put_as _ _ _ _ (put_then _ _ _ c.put.ensures _ _ c.put-2.ensures) (ap₂ (λ (x y : ℕ). x ∷ y ∷ []) c.hex_digit.ensures c.hex_digit-2.ensures)
