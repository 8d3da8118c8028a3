-- Laws of the places at which nothing is staged. Assumes nothing.
use Prim.Native.Nat.{ℕ, ◌+◌, ◌*◌, ◌/◌, ◌%◌, ◌<◌, ◌≤◌}
use mathlib.Core.Path.{◌≡◌, refl}
use mathlib.Core.Bool.{Bool, true, false, not, ◌&&◌, ◌||◌, true≢false}
use mathlib.Core.List.{List}
use mathlib.Core.Logic.{◌⊎◌, inl, inr}
use native.Mathlib.Omega.{arith}
use borrow.Author.Tests.{lt-leb, le-ltb, lt-ltb, ne_eqb}
use lib.Dec.{eqb, ltb}
use lib.ListN.{length}
use Rattle.spec.specs.declared.FileBlock.{FileBlock}
use Rattle.spec.specs.Plan.{is_staged, holds_data, is_last_kept}
use Rattle.block.proofs.Laws.{lt-or-le}
use Rattle.change.specs.Window.{Window, Outside}

module _ (held old size x : ℕ) (bytes : List ℕ) (p : ℕ) where
  -- no byte of the data
  no-data : ((0 < length bytes) → (512 * (p + 1) ≤ x) ⊎ (x + length bytes ≤ 512 * p)) → holds_data x bytes p ≡ false
  no-data h = go (lt-or-le 0 (length bytes))
    where
      side : (512 * (p + 1) ≤ x) ⊎ (x + length bytes ≤ 512 * p) → ltb x (512 * (p + 1)) && ltb (512 * p) (x + length bytes) ≡ false
      side (inl l) = rw (le-ltb x (512 * (p + 1)) l)
      side (inr l) = go₂ (ltb x (512 * (p + 1)))
        where
          go₂ : (b : Bool) → b && ltb (512 * p) (x + length bytes) ≡ false
          go₂ true = le-ltb (512 * p) (x + length bytes) l
          go₂ false = refl

      go : (0 < length bytes) ⊎ (length bytes ≤ 0) → holds_data x bytes p ≡ false
      go (inl l) = rw (lt-ltb 0 (length bytes) l) (side (h l))
      go (inr l) = rw (le-ltb 0 (length bytes) l)

  -- not the last kept block
  not-kept : (size < old → p ≡ size / 512 → ⊥) → is_last_kept old size p ≡ false
  not-kept h = go (lt-or-le size old)
    where
      last : (b : Bool) → eqb p (size / 512) ≡ false → b && eqb p (size / 512) ≡ false
      last true e = e
      last false e = refl

      go : (size < old) ⊎ (old ≤ size) → is_last_kept old size p ≡ false
      go (inl l) = rw (lt-ltb size old l) (last (not (eqb (size % 512) 0)) (ne_eqb p (size / 512) (h l)))
      go (inr l) = rw (le-ltb size old l)

  not-staged : p < held → ((0 < length bytes) → (512 * (p + 1) ≤ x) ⊎ (x + length bytes ≤ 512 * p)) → is_last_kept old size p ≡ false
      → is_staged held old size x bytes p ≡ false
  not-staged h d k = rw (lt-leb held p h, no-data d, k)

-- what the numbers of a window tell
module _ (held old size x : ℕ) (bytes : List ℕ) (low high : FileBlock) (lh : low.0 ≤ held) (ld : 0 < length bytes → low.0 ≤ x / 512) (hd : x + length bytes ≤ 512 * high.0) where
  pub outside-none : ((p : ℕ) → is_last_kept old size p ≡ false) → Outside held old size x bytes (record { low = low; high = high })
  outside-none k =
      record {
        below = λ p h. not-staged held old size x bytes p (omega arith) (λ l. let z = ld l in inl (omega arith)) (k p);
        between = λ p h m. not-staged held old size x bytes p m (λ l. inr (omega arith)) (k p);
      }

  pub outside_kept : low.0 ≤ size / 512 → size / 512 < high.0 → Outside held old size x bytes (record { low = low; high = high })
  outside_kept lk hk =
      record {
        below = λ p h. not-staged held old size x bytes p (omega arith) (λ l. let z = ld l in inl (omega arith)) (not-kept held old size x bytes p (λ l e. omega arith));
        between = λ p h m. not-staged held old size x bytes p m (λ l. inr (omega arith)) (not-kept held old size x bytes p (λ l e. omega arith));
      }

-- ---- what the code's tests tell

pub run-clear : (low high held at behind : ℕ) → (ltb low behind && (ltb at high || ltb held behind)) ≡ false → (behind ≤ low) ⊎ ((high ≤ at) × (behind ≤ held))
run-clear low high held at behind h = go (lt-or-le low behind) (lt-or-le at high) (lt-or-le held behind)
  where
    go : (low < behind) ⊎ (behind ≤ low) → (at < high) ⊎ (high ≤ at) → (held < behind) ⊎ (behind ≤ held) → (behind ≤ low) ⊎ ((high ≤ at) × (behind ≤ held))
    go (inr l) a b = inl l
    go (inl l) (inl a) b = let z : true ≡ false = rw (lt-ltb low behind l, lt-ltb at high a) at h in absurd (true≢false z)
    go (inl l) (inr a) (inl b) = let z : true ≡ false = rw (lt-ltb low behind l, le-ltb at high a, lt-ltb held behind b) at h in absurd (true≢false z)
    go (inl l) (inr a) (inr b) = inr (a, b)

-- a run at which nothing is staged
pub clear-run : (held old size x : ℕ) (bytes : List ℕ) (w : Window) (at behind : ℕ) → Outside held old size x bytes w
    → (ltb w.low.0 behind && (ltb at w.high.0 || ltb held behind)) ≡ false → (p : ℕ) → at ≤ p → p < behind → is_staged held old size x bytes p ≡ false
clear-run held old size x bytes w at behind o h p a b = go (run-clear w.low.0 w.high.0 held at behind h)
  where
    go : (behind ≤ w.low.0) ⊎ ((w.high.0 ≤ at) × (behind ≤ held)) → is_staged held old size x bytes p ≡ false
    go (inl l) = o.below p (omega arith)
    go (inr (k, l)) = o.between p (omega arith) (omega arith)
