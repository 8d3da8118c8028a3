-- Laws of an empty store. Assumes nothing.
use Prim.Native.Nat.{ℕ, zero, suc, ◌+◌, ◌*◌, ◌-◌, ◌<◌, ◌≤◌}
use mathlib.Core.Path.{◌≡◌, refl, sym, ap, ap₂, ◌∙◌, fun_ext}
use mathlib.Core.List.{List, [], ◌∷◌, ◌++◌}
use native.Mathlib.Omega.{arith}
use native.Mathlib.Nat.{sub-zero, zero-sub, suc-sub-suc}
use lib.ListN.{length, drop, get_or, replicate, length-replicate, replicate-append-replicate, get_or-replicate, get_or-append}
use lib.Seq.{get_or-append-add}
use Rattle.spec.specs.Bytes.{zeros, exactly, up_from}
use Rattle.spec.specs.Disk.{Disk, blocks_of, slice_of, with_block}
use Rattle.spec.specs.Bitmap.{bits_of, bytes_of, mark}
use Rattle.spec.specs.Calls.{empty_bits, empty_disk}
use Rattle.bitmap.specs.Words.{Table}
use Rattle.bitmap.proofs.Laws.{bytes_bits}
use Rattle.bitmap.proofs.Runs.{mark-behind}
use Rattle.block.specs.Stores.{stored_in}
use Rattle.mkfs.specs.Table.{Cleared}

-- ---- zeros

drop-zeros : (k n : ℕ) → drop {A = ℕ} k (replicate n 0) ≡ replicate (n - k) 0
drop-zeros zero n = rw (sub-zero n)
drop-zeros (suc k) zero = rw (zero-sub (suc k))
drop-zeros (suc k) (suc n) = drop-zeros k n ∙ rw (suc-sub-suc n k)

exactly-zeros : (n m : ℕ) → exactly n (replicate m 0) ≡ zeros n
unfolding zeros
exactly-zeros zero m = refl
exactly-zeros (suc n) zero = ap (λ (l : List ℕ). 0 ∷ l) (exactly-zeros n zero)
exactly-zeros (suc n) (suc m) = ap (λ (l : List ℕ). 0 ∷ l) (exactly-zeros n m)

-- each block of zeros is a block of zeros
blank-blocks : (n : ℕ) → blocks_of (replicate n 0) ≡ (λ b. zeros 512)
unfolding blocks_of
blank-blocks n = fun_ext (λ b. ap (exactly 512) (drop-zeros (512 * b) n) ∙ exactly-zeros 512 (n - 512 * b))

-- ---- the bitmap

-- a table of ones
pub ones : (n : ℕ) → bits_of (replicate n 255) ≡ replicate (8 * n) 1
unfolding bits_of
ones zero = refl
ones (suc n) =
    let e : 8 + 8 * n ≡ 8 * suc n = omega arith in
    ap (λ (l : List ℕ). replicate 8 1 ++ l) (ones n) ∙ replicate-append-replicate 8 (8 * n) 1 ∙ ap (λ (k : ℕ). some k) e
  where
    some : ℕ → List ℕ
    some k = replicate k 1

pub ones-table : Table (replicate 512 255)
ones-table = record { full = length-replicate {A = ℕ} 512 255; bytes = below 512 }
  where
    below : (k i : ℕ) → get_or (replicate k 255) i 0 < 256
    below zero i = omega arith
    below (suc k) zero = omega arith
    below (suc k) (suc i) = below k i

-- bits from a on cleared, m of them
mark-first : (m : ℕ) (ys : List ℕ) → mark 0 (up_from 0 m) (replicate m 1 ++ ys) ≡ replicate m 0 ++ ys
unfolding mark
mark-first zero ys = refl
mark-first (suc m) ys = mark-behind 0 (0 ∷ []) (replicate m 1 ++ ys) 1 0 m refl ∙ ap (λ (l : List ℕ). 0 ∷ l) (mark-first m ys)

cleared-run : (a m k : ℕ) → mark 0 (up_from a m) (replicate (a + (m + k)) 1) ≡ replicate a 1 ++ (replicate m 0 ++ replicate k 1)
cleared-run a m k =
    ap (mark 0 (up_from a m)) (sym (ap (λ (l : List ℕ). replicate a 1 ++ l) (replicate-append-replicate m k 1) ∙ replicate-append-replicate a (m + k) 1))
    ∙ mark-behind 0 (replicate a 1) (replicate m 1 ++ replicate k 1) a 0 m (omega (arith, length-replicate {A = ℕ} a 1))
    ∙ ap (λ (l : List ℕ). replicate a 1 ++ l) (mark-first m (replicate k 1))

-- the bits of an empty store, one by one
module _ (n : ℕ) (l : 42 ≤ n) (h : n ≤ 4096) where
  abbrev ones-first : List ℕ
  ones-first = replicate 42 1

  abbrev rest : List ℕ
  rest = replicate (n - 42) 0 ++ replicate (4096 - n) 1

  rest_at : (x : ℕ) → 42 ≤ x → get_or (empty_bits n) x 0 ≡ get_or rest (x - 42) 0
  unfolding empty_bits
  rest_at x k = let e : x ≡ 42 + (x - 42) = omega arith in ap (λ (y : ℕ). get_or (ones-first ++ rest) y 0) e ∙ get_or-append-add ones-first rest (x - 42) 0

  empty-low : (x : ℕ) → x < 42 → get_or (empty_bits n) x 0 ≡ 1
  unfolding empty_bits
  empty-low x k = get_or-append ones-first rest 0 x k ∙ get_or-replicate 42 x 1 0 k

  empty-zero : (x : ℕ) → 42 ≤ x → x < n → get_or (empty_bits n) x 0 ≡ 0
  empty-zero x k m =
      let q : x - 42 < n - 42 = omega arith in
      rest_at x k ∙ get_or-append (replicate (n - 42) 0) (replicate (4096 - n) 1) 0 (x - 42) (omega (arith, length-replicate {A = ℕ} (n - 42) 0)) ∙ get_or-replicate (n - 42) (x - 42) 0 0 q

  empty-high : (x : ℕ) → n ≤ x → x < 4096 → get_or (empty_bits n) x 0 ≡ 1
  empty-high x k m =
      let e : x - 42 ≡ length (replicate {A = ℕ} (n - 42) 0) + (x - n) = omega (arith, length-replicate {A = ℕ} (n - 42) 0) in
      rest_at x (omega arith) ∙ ap (λ (y : ℕ). get_or rest y 0) e ∙ get_or-append-add (replicate (n - 42) 0) (replicate (4096 - n) 1) (x - n) 0
      ∙ get_or-replicate (4096 - n) (x - n) 1 0 (omega arith)

  -- a table of ones, cleared
  module _ (t : List ℕ) (g : Table t) (e : bits_of t ≡ mark 0 (up_from 42 (n - 42)) (bits_of (replicate 512 255))) where
    are-empty : bits_of t ≡ empty_bits n
    unfolding empty_bits
    are-empty =
        let q : 8 * 512 ≡ 42 + ((n - 42) + (4096 - n)) = omega arith in
        e ∙ ap (mark 0 (up_from 42 (n - 42))) (ones 512 ∙ ap (λ (k : ℕ). replicate k 1) q) ∙ cleared-run 42 (n - 42) (4096 - n)

    pub is-empty : t ≡ bytes_of (empty_bits n)
    is-empty = sym (bytes_bits t g) ∙ ap bytes_of are-empty

    read : (x : ℕ) → get_or (bits_of t) x 0 ≡ get_or (empty_bits n) x 0
    read x = ap (λ (l : List ℕ). get_or l x 0) are-empty

    pub is-cleared : Cleared t n
    is-cleared = record {
      full = g.full;
      low = λ x k. read x ∙ empty-low x k;
      zero_bit = λ x k m. read x ∙ empty-zero x k m;
      high = λ x k m o. read x ∙ empty-high x m o;
    }

-- ---- the device

pub made : (xs left table : List ℕ) (size n : ℕ) → xs ≡ replicate size 0 → table ≡ bytes_of (empty_bits n) → slice_of left ≡ stored_in (slice_of xs) 33 table
    → slice_of left ≡ record { size = size; block = empty_disk n }
unfolding empty_disk
made xs left table size n e f g =
    g ∙ ap (λ (l : List ℕ). stored_in (slice_of l) 33 table) e ∙ ap (λ (t : List ℕ). stored_in (slice_of (replicate size 0)) 33 t) f
    ∙ ap₂ (λ (k : ℕ) (d : Disk). record { size = k; block = with_block 33 (bytes_of (empty_bits n)) d }) (length-replicate {A = ℕ} size 0) (blank-blocks size)
