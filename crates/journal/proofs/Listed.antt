-- What a log may list: laws of `are_targets`. Assumes nothing.
use Prim.Native.Nat.{ℕ, ◌<◌, ◌≤◌}
use mathlib.Core.Path.{◌≡◌}
use mathlib.Core.Bool.{true, not, ◌&&◌}
use mathlib.Core.List.{List}
use native.Mathlib.Omega.{arith}
use borrow.Author.Tests.{eqb-false, not-true}
use lib.Dec.{eqb}
use lib.ListN.{length, get_or}
use Rattle.spec.specs.Bytes.{all, distinct}
use Rattle.spec.specs.Disk.{is_target}
use Rattle.spec.specs.Journal.{are_targets}
use Rattle.lists.specs.Tests.{both_true}
use Rattle.transaction.proofs.Laws.{Listed}
use Rattle.header.proofs.Every.{Every, every-at, all-every}
use Rattle.header.proofs.Ends.{target-within}

module _ (N : ℕ) (ts : List ℕ) (l : Listed N ts) where
  pub listed-every : Every (λ t. is_target N t ≡ true) ts
  listed-every = all-every (is_target N) ts l.targets

  pub listed_at : (i : ℕ) → i < length ts → (33 ≤ get_or ts i 0) × (get_or ts i 0 < N)
  listed_at i k = target-within N (get_or ts i 0) (every-at (λ (t : ℕ). is_target N t ≡ true) ts i 0 listed-every k)

-- ---- the test apart

module _ (N : ℕ) (ts : List ℕ) where
  parts : are_targets N ts ≡ true → (not (eqb (length ts) 0) ≡ true) × Listed N ts
  unfolding are_targets
  parts h =
      let p = both_true (not (eqb (length ts) 0) && all (is_target N) ts) (distinct ts) h in
      let q = both_true (not (eqb (length ts) 0)) (all (is_target N) ts) p.0 in
      (q.0, record { targets = q.1; differ = p.1 })

  pub targets-listed : are_targets N ts ≡ true → Listed N ts
  targets-listed h = (parts h).1

  pub targets-some : are_targets N ts ≡ true → 0 < length ts
  targets-some h = omega (arith, eqb-false (length ts) 0 (not-true (eqb (length ts) 0) (parts h).0))
