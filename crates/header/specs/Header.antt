-- What a header lists, as the code holds it.
use Rattle.std.specs.Prelude.{ℕ, Bool, true, ◌&&◌, List, [], ◌∷◌, ltb}
use Rattle.spec.specs.Layout.{log_length}
use Rattle.spec.specs.Journal.{targets_before}

-- the targets of all records
unfoldable pub record_targets : List ℕ → List ℕ
record_targets xs = targets_before xs log_length

-- whether each entry is lower than the next
unfoldable pub ascends : List ℕ → Bool
ascends [] = true
ascends (x ∷ []) = true
ascends (x ∷ y ∷ ys) = ltb x y && ascends (y ∷ ys)
