-- Names as numbers, for the contracts of this crate.
use Rattle.std.specs.Prelude.{ℕ, ◌+◌, ◌*◌, ◌<◌, ◌≡◌, List, [], ◌∷◌, length, get_or}

-- bytes as one number, the first the lowest
unfoldable pub key_of : List ℕ → ℕ
key_of [] = 0
key_of (x ∷ xs) = x + 256 * key_of xs

-- eight bytes
pub record Name (xs : List ℕ) : Type 0 where
  pub long : length xs ≡ 8
  pub small : (i : ℕ) → get_or xs i 0 < 256
