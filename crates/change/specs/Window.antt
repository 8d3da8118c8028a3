-- Places of a file's blocks at which nothing is staged.
use Rattle.std.specs.Prelude.{ℕ, ◌≤◌, ◌<◌, ◌≡◌, false, List}
use Rattle.spec.specs.Plan.{is_staged}
pub use Rattle.change.specs.declared.Window.{Window}

pub record Outside (held old size x : ℕ) (bytes : List ℕ) (w : Window) : Type 0 where
  pub below : (p : ℕ) → p < w.low.0 → is_staged held old size x bytes p ≡ false
  pub between : (p : ℕ) → w.high.0 ≤ p → p < held → is_staged held old size x bytes p ≡ false
