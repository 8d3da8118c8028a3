-- The bitmap while it is cleared.
use Rattle.std.specs.Prelude.{ℕ, ◌<◌, ◌≤◌, ◌≡◌, List, length, get_or}
use Rattle.spec.specs.Bitmap.{bits_of}

-- zeros from 42 to b - 1, ones elsewhere
pub record Cleared (t : List ℕ) (b : ℕ) : Type 0 where
  pub full : length t ≡ 512
  pub low : (x : ℕ) → x < 42 → get_or (bits_of t) x 0 ≡ 1
  pub zero_bit : (x : ℕ) → 42 ≤ x → x < b → get_or (bits_of t) x 0 ≡ 0
  pub high : (x : ℕ) → 42 ≤ x → b ≤ x → x < 4096 → get_or (bits_of t) x 0 ≡ 1
