-- Numbers that occur at most once: targets, places, and stores to them. Assumes nothing.
use Rattle.std.specs.Prelude.{ℕ, zero, suc, ◌≤◌, ◌<◌, ◌≡◌, refl, Bool, true, false, List, [], ◌∷◌, ◌++◌, eqb, length, get_or}
use Rattle.std.proofs.Common.{sym, ap, ◌∙◌, not-suc-le-zero, arith, eq-eqb}
use Rattle.std.proofs.lemmas.Bool.{eqb-false}
use Rattle.spec.specs.Bytes.{occurs}
use Rattle.spec.specs.Disk.{Disk}
use Rattle.spec.specs.Transaction.{BlockStore}
use Rattle.lists.specs.Counts.{occurs-head, occurs-at}
use Rattle.logs.specs.Targets.{Fresh, Targets}
use Rattle.logs.specs.Stores.{upd_other, upd-agree, over, targets_of, Long}
use Rattle.laws.specs.Soundness.{Inside}

pub fresh-none : (b : ℕ) (xs : List ℕ) → occurs b xs ≡ 0 → Fresh b xs
fresh-none b [] h = tt
fresh-none b (x ∷ xs) h = go (eqb x b) refl (fresh-none b xs)
  where
    go : (t : Bool) → eqb x b ≡ t → (occurs b xs ≡ 0 → Fresh b xs) → Fresh b (x ∷ xs)
    go true e ih = absurd (let z = rw e at h in omega arith)
    go false e ih = ((λ q. eqb-false x b e (sym q)), ih (let z = rw e at h in omega arith))

-- the head of a list without repeats occurs in it no more
pub head-once : (x : ℕ) (xs : List ℕ) → occurs x (x ∷ xs) ≤ 1 → occurs x xs ≡ 0
head-once x xs h = let z = rw (eq-eqb x x refl) at h in omega arith

pub targets_by : (N : ℕ) (xs : List ℕ) → ((b : ℕ) → occurs b xs ≤ 1) → ((b : ℕ) → 1 ≤ occurs b xs → Inside N b) → Targets N xs
targets_by N [] o h = tt
targets_by N (x ∷ xs) o h =
    let i = h x (occurs-head x xs) in (
      omega (arith, i.low),
      i.high,
      fresh-none x xs (head-once x xs (o x)),
      targets_by N xs (λ b. let z = o b in omega arith) (λ b p. h b (omega arith)),
    )

-- different places hold different numbers
pub places-differ : (xs : List ℕ) (i j : ℕ) → ((b : ℕ) → occurs b xs ≤ 1) → i < length xs → j < length xs → get_or xs i 0 ≡ get_or xs j 0 → i ≡ j
places-differ [] i j o h k q = absurd (not-suc-le-zero h)
places-differ (x ∷ xs) zero zero o h k q = refl
places-differ (x ∷ xs) zero (suc j) o h k q =
    absurd (let z = head-once x xs (o x) in let y = ap (λ b. occurs b xs) q in omega (arith, occurs-at xs j (omega arith)))
places-differ (x ∷ xs) (suc i) zero o h k q =
    absurd (let z = head-once x xs (o x) in let y = ap (λ b. occurs b xs) q in omega (arith, occurs-at xs i (omega arith)))
places-differ (x ∷ xs) (suc i) (suc j) o h k q = ap suc (places-differ xs i j (λ b. let z = o b in omega arith) (omega arith) (omega arith) q)

-- ---- stores in two parts

module _ (v : Disk) (b : ℕ) where
  pub over-left : (xs ys : List BlockStore) → Fresh b (targets_of ys) → over (xs ++ ys) v b ≡ over xs v b
  over-left [] [] h = refl
  over-left [] (y ∷ ys) h = upd_other y (over ys v) b h.0 ∙ over-left [] ys h.1
  over-left (x ∷ xs) ys h = upd-agree x (over (xs ++ ys) v) (over xs v) b (over-left xs ys h)

  pub over-right : (xs ys : List BlockStore) → Fresh b (targets_of xs) → over (xs ++ ys) v b ≡ over ys v b
  over-right [] ys h = refl
  over-right (x ∷ xs) ys h = upd_other x (over (xs ++ ys) v) b h.0 ∙ over-right xs ys h.1

pub long-append : (xs ys : List BlockStore) → Long xs → Long ys → Long (xs ++ ys)
long-append [] ys g h = h
long-append (x ∷ xs) ys g h = (g.0, long-append xs ys g.1 h)
