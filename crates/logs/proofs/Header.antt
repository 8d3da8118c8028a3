-- The header read back: its targets are those written, and no record of it is wrong. Assumes nothing.
use Rattle.std.specs.Prelude.{ℕ, zero, suc, ◌+◌, ◌*◌, ◌/◌, ◌%◌, ◌≤◌, ◌<◌, ◌≡◌, Bool, ◌&&◌, ◌||◌, ◌⊎◌, eqb, ltb, take, drop}
use Rattle.std.proofs.Math.Path.{refl, ap, ap₂}
use Rattle.std.proofs.Common.{◌∙◌, inl, inr, get_or-append-add, get_or-drop, le_of_suc-le-suc, not-suc-le-zero, arith, ne_eqb, eq-eqb, ltb-true, ltb-false}
use Rattle.std.proofs.Math.Bool.{true, false, not}
use mathlib.Core.List.{List, [], ◌∷◌, ◌++◌, map}
use Rattle.std.proofs.Math.Option.{none}
use Rattle.std.proofs.Math.ListN.{length, get_or, get_or-append, get_or-eq_default, get_or-replicate}
use Rattle.spec.specs.Layout.{block_size, log_length}
use Rattle.spec.specs.Bytes.{exactly, zeros, part, bytes2, all_zero, all, leading, concat, up_from, lowest}
use Rattle.spec.specs.Disk.{is_target}
use Rattle.spec.specs.Journal.{header_of, target_at, targets_before, targets_in, is_record_wrong, header_fault}
use Rattle.block.proofs.Laws.{get_or-exactly}
use Rattle.logs.specs.Targets.{Targets, fresh_at, range-target}
use Rattle.logs.specs.Header.{map-up, record_of, records, records-are, length-record, small, clear-header}

-- ---- lists

map-agree : (f g : ℕ → ℕ) (a n : ℕ) → ((i : ℕ) → i < a + n → f i ≡ g i) → map f (up_from a n) ≡ map g (up_from a n)
map-agree f g a zero h = refl
map-agree f g a (suc n) h =
    ap₂ {C = List ℕ} (λ x xs. x ∷ xs) (h a (omega arith)) (map-agree f g (suc a) n (λ i k. h i (omega arith)))

up-exactly : (n : ℕ) (xs : List ℕ) → map (λ i. get_or xs i 0) (up_from 0 n) ≡ exactly n xs
up-exactly zero xs = refl
up-exactly (suc n) [] = ap {B = List ℕ} (λ xs. 0 ∷ xs) (map-up (λ i. get_or [] i 0) 0 n ∙ up-exactly n [])
up-exactly (suc n) (x ∷ xs) = ap {B = List ℕ} (λ ys. x ∷ ys) (map-up (λ i. get_or (x ∷ xs) i 0) 0 n ∙ up-exactly n xs)

all_zero-take : (n : ℕ) (ys : List ℕ) → ((j : ℕ) → j < n → get_or ys j 0 ≡ 0) → all_zero (take n ys) ≡ true
all_zero-take zero ys h = refl
all_zero-take (suc n) [] h = refl
all_zero-take (suc n) (y ∷ ys) h = rw (eq-eqb y 0 (h 0 (omega arith))) (all_zero-take n ys (λ j k. h (suc j) (omega arith)))

lowest-none : (a n : ℕ) (f : ℕ → Bool) → ((i : ℕ) → i < a + n → f i ≡ false) → lowest a n f ≡ none
lowest-none a zero f h = refl
lowest-none a (suc n) f h = rw (h a (omega arith)) (lowest-none (suc a) n f (λ i k. h i (omega arith)))

-- ---- the records of the header, before it is filled up

shift : (t : ℕ) (ts : List ℕ) (i k : ℕ) → get_or (records (t ∷ ts)) (16 * suc i + k) 0 ≡ get_or (records ts) (16 * i + k) 0
unfolding records
shift t ts i k =
    let e : 16 * suc i + k ≡ length (record_of t) + (16 * i + k) = omega (arith, length-record t) in
    rw e (get_or-append-add (record_of t) (records ts) (16 * i + k) 0)

low : (ts : List ℕ) (i : ℕ) → get_or (records ts) (16 * i + 0) 0 ≡ get_or ts i 0 % 256
low [] i = unfold records in refl
low (t ∷ ts) zero = unfold records record_of in refl
low (t ∷ ts) (suc i) = shift t ts i 0 ∙ low ts i

high : (ts : List ℕ) (i : ℕ) → get_or (records ts) (16 * i + 1) 0 ≡ get_or ts i 0 / 256 % 256
high [] i = unfold records in refl
high (t ∷ ts) zero = unfold records record_of in refl
high (t ∷ ts) (suc i) = shift t ts i 1 ∙ high ts i

others : (ts : List ℕ) (i j : ℕ) → j < 14 → get_or (records ts) (16 * i + (2 + j)) 0 ≡ 0
others [] i j h = unfold records in refl
others (t ∷ ts) zero j h = first (omega arith)
  where
    first : 16 * 0 + (2 + j) ≡ suc (suc j) → get_or (records (t ∷ ts)) (16 * 0 + (2 + j)) 0 ≡ 0
    first e = rw e (unfold records record_of zeros in (get_or-append (zeros 14) (records ts) 0 j h ∙ get_or-replicate 14 j 0 0 h))
others (t ∷ ts) (suc i) j h = shift t ts i (2 + j) ∙ others ts i j h

-- ---- targets by place

range_at : (N : ℕ) (ts : List ℕ) (i : ℕ) → i < length ts → Targets N ts → (33 ≤ get_or ts i 0) × (get_or ts i 0 < N)
range_at N [] i h g = absurd (not-suc-le-zero h)
range_at N (t ∷ ts) zero h g = (g.0, g.1)
range_at N (t ∷ ts) (suc i) h g = range_at N ts i (le_of_suc-le-suc h) g.3

-- none stands before its place, and none is 0
differ : (N : ℕ) (ts : List ℕ) (i : ℕ) → i < length ts → Targets N ts → all (λ x. not (eqb x (get_or ts i 0))) (exactly i ts) ≡ true
differ N [] i h g = absurd (not-suc-le-zero h)
differ N (t ∷ ts) zero h g = refl
differ N (t ∷ ts) (suc i) h g =
    rw (ne_eqb t (get_or ts i 0) (fresh_at t i ts g.2 (le_of_suc-le-suc h))) (differ N ts i (le_of_suc-le-suc h) g.3)

used : (N : ℕ) (ts : List ℕ) (i : ℕ) → i < length ts → Targets N ts → all (λ x. not (eqb x 0)) (exactly i ts) ≡ true
used N [] i h g = absurd (not-suc-le-zero h)
used N (t ∷ ts) zero h g = refl
used N (t ∷ ts) (suc i) h g = rw (ne_eqb t 0 (λ q. omega arith)) (used N ts i (le_of_suc-le-suc h) g.3)

leading-all : (N n : ℕ) (ts : List ℕ) → length ts ≤ n → Targets N ts → leading (λ t. not (eqb t 0)) (exactly n ts) ≡ ts
leading-all N zero [] h g = refl
leading-all N zero (t ∷ ts) h g = absurd (not-suc-le-zero h)
leading-all N (suc n) [] h g = refl
leading-all N (suc n) (t ∷ ts) h g =
    rw (ne_eqb t 0 (λ q. omega arith)) (ap {B = List ℕ} (λ xs. t ∷ xs) (leading-all N n ts (le_of_suc-le-suc h) g.3))

-- ---- what is read

-- a record by what it tells: its target, the targets before it, whether its other bytes are zero
wrong : ℕ → ℕ → List ℕ → Bool → Bool
wrong N t before z = not (eqb t 0) && (not (is_target N t) || not (all (λ x. not (eqb x t)) before) || not (all (λ x. not (eqb x 0)) before)) || not z

lt-or-le : (i n : ℕ) → (i < n) ⊎ (n ≤ i)
lt-or-le i n = go (ltb i n) refl
  where
    go : (t : Bool) → ltb i n ≡ t → (i < n) ⊎ (n ≤ i)
    go true q = inl (ltb-true i n q)
    go false q = inr (ltb-false i n q)

module _ (N : ℕ) (b : N ≤ 65536) (ts : List ℕ) (g : Targets N ts) (few : length ts ≤ log_length) where
  byte : (k : ℕ) → k < 512 → get_or (header_of ts) k 0 ≡ get_or (records ts) k 0
  unfolding header_of
  byte k h = get_or-exactly 512 (concat (map (λ t. bytes2 t ++ zeros 14) ts)) k h ∙ ap (λ (xs : List ℕ). get_or xs k 0) (records-are ts)

  target_is : (i : ℕ) → i < 32 → target_at (header_of ts) i ≡ get_or ts i 0
  target_is i h =
      let s : get_or ts i 0 < 65536 = small N ts i b g in
      let z : 16 * i ≡ 16 * i + 0 = omega arith in
      let p : get_or (header_of ts) (16 * i) 0 ≡ get_or ts i 0 % 256 = byte (16 * i) (omega arith) ∙ ap (λ k. get_or (records ts) k 0) z ∙ low ts i in
      let q : get_or (header_of ts) (16 * i + 1) 0 ≡ get_or ts i 0 / 256 % 256 = byte (16 * i + 1) (omega arith) ∙ high ts i in
      rw (p, q) (omega arith)

  before-is : (i : ℕ) → i ≤ 32 → targets_before (header_of ts) i ≡ exactly i ts
  before-is i h = map-agree (target_at (header_of ts)) (λ j. get_or ts j 0) 0 i (λ j k. target_is j (omega arith)) ∙ up-exactly i ts

  rest-is : (i : ℕ) → i < 32 → all_zero (part (16 * i + 2) 14 (header_of ts)) ≡ true
  rest-is i h =
      all_zero-take 14 (drop (16 * i + 2) (header_of ts))
      (λ j k. get_or-drop (16 * i + 2) (header_of ts) j 0 ∙ byte (16 * i + 2 + j) (omega arith) ∙ place j (omega arith) ∙ others ts i j k)
    where
      place : (j : ℕ) → 16 * i + 2 + j ≡ 16 * i + (2 + j) → get_or (records ts) (16 * i + 2 + j) 0 ≡ get_or (records ts) (16 * i + (2 + j)) 0
      place j e = ap (λ k. get_or (records ts) k 0) e

  not-wrong : (i : ℕ) → wrong N (get_or ts i 0) (exactly i ts) true ≡ false
  unfolding wrong
  not-wrong i = go (lt-or-le i (length ts))
    where
      go : (i < length ts) ⊎ (length ts ≤ i) → wrong N (get_or ts i 0) (exactly i ts) true ≡ false
      go (inl h) =
          let r = range_at N ts i h g in
          rw (ne_eqb (get_or ts i 0) 0 (λ q. omega (arith, r.0)), range-target N (get_or ts i 0) r.0 r.1, differ N ts i h g, used N ts i h g)
      go (inr h) = rw (get_or-eq_default ts 0 h)

  record-right : (i : ℕ) → i < 32 → is_record_wrong N (header_of ts) i ≡ false
  unfolding wrong
  record-right i h =
      ap (λ z. wrong N (target_at (header_of ts) i) (targets_before (header_of ts) i) z) (rest-is i h)
      ∙ ap₂ (λ t xs. wrong N t xs true) (target_is i h) (before-is i (omega arith)) ∙ not-wrong i

  pub header-targets : targets_in (header_of ts) ≡ ts
  unfolding targets_in
  header-targets = ap (leading (λ t. not (eqb t 0))) (before-is 32 (omega arith)) ∙ leading-all N 32 ts few g

  pub header-right : header_fault N (header_of ts) ≡ none
  unfolding header_fault
  header-right = lowest-none 0 32 (is_record_wrong N (header_of ts)) (λ i h. record-right i (omega arith))

-- ---- the header cleared

pub clear-targets : targets_in (zeros block_size) ≡ []
clear-targets = ap targets_in clear-header ∙ header-targets 64 (omega arith) [] tt (omega arith)

pub clear-right : (N : ℕ) → N ≤ 65536 → header_fault N (zeros block_size) ≡ none
clear-right N b = ap (header_fault N) clear-header ∙ header-right N b [] tt (omega arith)
