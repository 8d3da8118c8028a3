-- Stores to the log alone leave a settled disk settled.
use Rattle.std.specs.Prelude.{ℕ, ◌≤◌, ◌≡◌, refl, ◌⊎◌, List, [], ◌∷◌}
use Rattle.std.proofs.Common.{◌∙◌, inl, inr, arith}
use Rattle.spec.specs.Disk.{Disk}
use Rattle.spec.specs.Map.{Files}
use Rattle.spec.specs.Transaction.{BlockStore}
use Rattle.logs.specs.Stores.{Long, applied, applied-whole, applied-off, Avoids}
use Rattle.crash.specs.Interface.{FilesOn}
use Rattle.crash.specs.Invariant.{InLog, Settled as SettledOn, local}

log-avoids : (n : ℕ) (s : List BlockStore) → (n ≡ 0) ⊎ (33 ≤ n) → InLog s → Avoids n s
log-avoids n [] h g = tt
log-avoids n (e ∷ s) (inl h) g = ((λ q. omega (arith, g.0)), log-avoids n s (inl h) g.2)
log-avoids n (e ∷ s) (inr h) g = ((λ q. omega (arith, g.1)), log-avoids n s (inr h) g.2)

module _ {N : ℕ} (F : FilesOn N) where
  -- `Settled` of specs/, on this F
  abbrev Settled : Disk → Files → Type 0
  Settled v c = SettledOn F v c

  -- any stores to blocks 1 to 32 leave a settled disk settled
  pub settled-log : (s : List BlockStore) (v : Disk) (c : Files) → InLog s → Long s → Settled v c → Settled (applied s v) c
  settled-log s v c i g z =
      record {
        clear = applied-off 0 s v (log-avoids 0 s (inl refl) i) ∙ z.clear;
        whole = applied-whole s v g z.whole;
        means = local F v (applied s v) c z.whole (applied-whole s v g z.whole) (λ b h. applied-off b s v (log-avoids b s (inr h) i)) z.means;
      }
