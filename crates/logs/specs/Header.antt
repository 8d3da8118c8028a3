-- The header read back: its targets are those written, and no record of it is wrong (proofs/Header.antt). Here: its records before it is filled up, and the header cleared. Assumes nothing.
use Rattle.std.specs.Prelude.{ℕ, zero, suc, ◌≤◌, ◌<◌, ◌≡◌, Bool, eqb, replicate}
use Rattle.std.proofs.Math.Path.{refl, ap, ap₂}
use Rattle.std.proofs.Common.{sym, ◌∙◌, arith, eqb-true}
use Rattle.std.proofs.Math.Bool.{true, false}
use Rattle.std.proofs.lemmas.Bool.{false≢true}
use mathlib.Core.List.{List, [], ◌∷◌, ◌++◌, map}
use Rattle.std.proofs.Math.ListN.{length, get_or}
use Rattle.spec.specs.Layout.{block_size}
use Rattle.spec.specs.Bytes.{zeros, bytes2, all_zero, concat, up_from}
use Rattle.spec.specs.Journal.{header_of}
use Rattle.block.proofs.Laws.{length-exactly, exactly-nil}
use Rattle.logs.specs.Targets.{Targets}

-- ---- lists

module _ {A : Type 0} where
  -- numbers counted from a + 1
  pub map-up : (f : ℕ → A) (a n : ℕ) → map f (up_from (suc a) n) ≡ map (λ i. f (suc i)) (up_from a n)
  map-up f a zero = refl
  map-up f a (suc n) = ap {B = List A} (λ xs. f (suc a) ∷ xs) (map-up f (suc a) n)

-- ---- the records of the header, before it is filled up

unfoldable pub record_of : ℕ → List ℕ
record_of t = bytes2 t ++ zeros 14

unfoldable pub records : List ℕ → List ℕ
records [] = []
records (t ∷ ts) = record_of t ++ records ts

pub records-are : (ts : List ℕ) → concat (map (λ t. bytes2 t ++ zeros 14) ts) ≡ records ts
unfolding records record_of
records-are [] = refl
records-are (t ∷ ts) = ap {B = List ℕ} (λ xs. record_of t ++ xs) (records-are ts)

pub length-record : (t : ℕ) → length (record_of t) ≡ 16
unfolding record_of zeros
length-record t = refl

-- ---- targets by place

pub small : (N : ℕ) (ts : List ℕ) (i : ℕ) → N ≤ 65536 → Targets N ts → get_or ts i 0 < 65536
small N [] i b g = omega arith
small N (t ∷ ts) zero b g = omega arith
small N (t ∷ ts) (suc i) b g = small N ts i b g.3

pub length-header : (ts : List ℕ) → length (header_of ts) ≡ block_size
unfolding header_of
length-header ts = length-exactly 512 (concat (map (λ t. bytes2 t ++ zeros 14) ts))

-- ---- the header cleared

pub clear-header : zeros block_size ≡ header_of []
unfolding zeros header_of
clear-header = sym (exactly-nil 512)

pub length-clear : length (zeros block_size) ≡ block_size
length-clear = ap length clear-header ∙ length-header []

zero-block : (xs : List ℕ) → all_zero xs ≡ true → xs ≡ replicate (length xs) 0
zero-block [] h = refl
zero-block (x ∷ xs) h = go (eqb x 0) refl (zero-block xs)
  where
    go : (t : Bool) → eqb x 0 ≡ t → (all_zero xs ≡ true → xs ≡ replicate (length xs) 0) → x ∷ xs ≡ 0 ∷ replicate (length xs) 0
    go true q ih = ap₂ {C = List ℕ} (λ y ys. y ∷ ys) (eqb-true x 0 q) (ih (rw q at h))
    go false q ih = absurd (false≢true (rw q at h))

-- a whole block that is all zero is the cleared one
pub clear-block : (xs : List ℕ) → length xs ≡ block_size → all_zero xs ≡ true → xs ≡ zeros block_size
unfolding zeros
clear-block xs n h = zero-block xs h ∙ ap (λ k. replicate k 0) n

all_zero-zeros : (n : ℕ) → all_zero (replicate n 0) ≡ true
all_zero-zeros zero = refl
all_zero-zeros (suc n) = all_zero-zeros n

pub clear_zero : all_zero (zeros block_size) ≡ true
unfolding zeros
clear_zero = all_zero-zeros 512
