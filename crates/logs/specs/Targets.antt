-- Log targets: each from 33 to N - 1, all different; as tests and as propositions. Assumes nothing.
use Rattle.std.specs.Prelude.{ℕ, zero, suc, ◌≤◌, ◌<◌, ◌≡◌, refl, Bool, true, false, cond, not, ◌&&◌, List, [], ◌∷◌, T, eqb, ltb, length, get_or}
use Rattle.std.proofs.Common.{sym, le_of_suc-le-suc, not-suc-le-zero, arith, ltb-true, ltb-false, ne_eqb, lt-ltb, le-ltb}
use Rattle.std.proofs.lemmas.Bool.{false≢true, eqb-false}
use Rattle.spec.specs.Bytes.{all, member, distinct}
use Rattle.spec.specs.Disk.{area_of, is_target_area, is_target}
use Rattle.spec.specs.declared.Area.TheVariants.{Header, Log, Bitmap, Inodes, Data}
use Rattle.spec.specs.Journal.{are_targets}
use Rattle.lists.specs.Tests.{both_true}
use Rattle.transaction.proofs.Laws.{Listed}

-- ---- tests

pub holds : (b : Bool) → T b → b ≡ true
holds true h = refl
holds false h = absurd h

pub truth : (b : Bool) → b ≡ true → T b
truth true h = tt
truth false h = absurd (false≢true h)

-- ---- one target

pub target-range : (N t : ℕ) → is_target N t ≡ true → (33 ≤ t) × (t < N)
unfolding is_target area_of
target-range N t h = go (ltb t 1) (ltb t 33) (ltb t 34) (ltb t 42) (ltb t N) refl refl h
  where
    go : (a b c d e : Bool) → ltb t 33 ≡ b → ltb t N ≡ e
        → is_target_area (cond a Header (cond b Log (cond c Bitmap (cond d Inodes Data)))) && e ≡ true → (33 ≤ t) × (t < N)
    go true b c d e p q h = absurd (false≢true h)
    go false true c d e p q h = absurd (false≢true h)
    go false false c d true p q h = (ltb-false t 33 p, ltb-true t N q)
    go false false true d false p q h = absurd (false≢true h)
    go false false false true false p q h = absurd (false≢true h)
    go false false false false false p q h = absurd (false≢true h)

pub range-target : (N t : ℕ) → 33 ≤ t → t < N → is_target N t ≡ true
unfolding is_target area_of
range-target N t h k = rw (le-ltb t 1 (omega arith), le-ltb t 33 h, lt-ltb t N k) (go (ltb t 34) (ltb t 42))
  where
    go : (a b : Bool) → is_target_area (cond a Bitmap (cond b Inodes Data)) && true ≡ true
    go true b = refl
    go false true = refl
    go false false = refl

-- ---- a list of them

abbrev pub Fresh : ℕ → List ℕ → Type 0
Fresh b [] = Unit {0}
Fresh b (x ∷ xs) = (b ≡ x → ⊥) × Fresh b xs

abbrev pub Targets : ℕ → List ℕ → Type 0
Targets N [] = Unit {0}
Targets N (t ∷ ts) = (33 ≤ t) × (t < N) × Fresh t ts × Targets N ts

fresh-test : (b : ℕ) (xs : List ℕ) → Fresh b xs → all (λ x. not (eqb x b)) xs ≡ true
fresh-test b [] g = refl
fresh-test b (x ∷ xs) g = rw (ne_eqb x b (λ q. g.0 (sym q))) (fresh-test b xs g.1)

test-fresh : (b : ℕ) (xs : List ℕ) → all (λ x. not (eqb x b)) xs ≡ true → Fresh b xs
test-fresh b [] h = tt
test-fresh b (x ∷ xs) h = go (eqb x b) refl (test-fresh b xs)
  where
    go : (t : Bool) → eqb x b ≡ t → (all (λ x. not (eqb x b)) xs ≡ true → Fresh b xs) → Fresh b (x ∷ xs)
    go true q ih = absurd (false≢true (rw q at h))
    go false q ih = ((λ e. eqb-false x b q (sym e)), ih (rw q at h))

pub fresh_at : (b i : ℕ) (xs : List ℕ) → Fresh b xs → i < length xs → b ≡ get_or xs i 0 → ⊥
fresh_at b i [] g h = absurd (not-suc-le-zero h)
fresh_at b zero (x ∷ xs) g h = g.0
fresh_at b (suc i) (x ∷ xs) g h = fresh_at b i xs g.1 (le_of_suc-le-suc h)

pub targets_of_lem : (N : ℕ) (ts : List ℕ) → all (is_target N) ts ≡ true → distinct ts ≡ true → Targets N ts
targets_of_lem N [] h k = tt
targets_of_lem N (t ∷ ts) h k =
    let a = both_true (is_target N t) (all (is_target N) ts) h in
    let d = both_true (not (member t ts)) (distinct ts) k in
    let r = target-range N t a.0 in
    (r.0, r.1, test-fresh t ts (unnot (all (λ x. not (eqb x t)) ts) d.0), targets_of_lem N ts a.1 d.1)
  where
    unnot : (b : Bool) → not (not b) ≡ true → b ≡ true
    unnot true q = refl
    unnot false q = absurd (false≢true q)

pub targets-listed : (N : ℕ) (ts : List ℕ) → Targets N ts → Listed N ts
targets-listed N [] g = record { targets = refl; differ = refl }
targets-listed N (t ∷ ts) g =
    let r = targets-listed N ts g.3 in
    record { targets = rw (range-target N t g.0 g.1) r.targets; differ = rw (fresh-test t ts g.2) r.differ }

pub are-targets : (N : ℕ) (ts : List ℕ) → 0 < length ts → Listed N ts → are_targets N ts ≡ true
unfolding are_targets
are-targets N ts h l = rw (ne_eqb (length ts) 0 (λ q. omega arith), l.targets, l.differ)
