-- "Free blocks are N - 42 less the data and extent blocks of all files": on a sound volume they are the zero bits. Assumes nothing.
use Rattle.std.specs.Prelude.{ℕ, zero, suc, ◌+◌, ◌-◌, ◌≤◌, ◌<◌, ◌≡◌, refl, Bool, true, false, cond, ◌⊎◌, List, [], ◌∷◌, eqb, length, get_or}
use Rattle.std.proofs.Common.{sym, ap₂, ◌∙◌, inl, inr, eq-or-lt_of_le, add-zero, zero-add, arith, eqb-true, eq-eqb, ne_eqb}
use Rattle.std.proofs.Math.Path.{ap}
use Rattle.std.proofs.lemmas.Bool.{eqb-false}
use Rattle.spec.specs.Layout.{bitmap_block, data_start, most_blocks}
use Rattle.spec.specs.Bytes.{occurs, sum}
use Rattle.spec.specs.Disk.{Disk, in_data}
use Rattle.spec.specs.Bitmap.{bits_of, free_bits}
use Rattle.spec.specs.Inode.{reached}
use Rattle.spec.specs.Sound.{free_blocks}
use Rattle.lists.specs.Counts.{occurs-head}
use Rattle.logs.specs.Stores.{Whole}
use Rattle.bitmap.specs.Words.{Below}
use Rattle.bitmap.proofs.Laws.{bits-binary}
use Rattle.laws.specs.Soundness.{Inside, inside_of, inside-test, outside_of, outside-test}
use Rattle.laws.specs.Volume.{bit, bit_count, VolumeSound}
use Rattle.laws.specs.Reached.{bit-count, all-inside}

-- ---- sums

-- the sum of f over n numbers from a on
unfoldable total : (ℕ → ℕ) → ℕ → ℕ → ℕ
total f a zero = 0
total f a (suc n) = f a + total f (suc a) n

total-same : (f g : ℕ → ℕ) (a n : ℕ) → ((b : ℕ) → a ≤ b → b < a + n → f b ≡ g b) → total f a n ≡ total g a n
unfolding total
total-same f g a zero h = refl
total-same f g a (suc n) h =
    ap₂ (λ (x y : ℕ). x + y) (h a (omega arith) (omega arith)) (total-same f g (suc a) n (λ b lo up. h b (omega arith) (omega arith)))

total-one : (a n : ℕ) → total (λ b. 1) a n ≡ n
unfolding total
total-one a zero = refl
total-one a (suc n) = omega (arith, total-one (suc a) n)

total-zero : (a n : ℕ) → total (λ b. 0) a n ≡ 0
unfolding total
total-zero a zero = refl
total-zero a (suc n) = omega (arith, total-zero (suc a) n)

total-add : (f : ℕ → ℕ) (a n m : ℕ) → total f a (n + m) ≡ total f a n + total f (a + n) m
unfolding total
total-add f a zero m = rw (zero-add m, add-zero a) (omega arith)
total-add f a (suc n) m =
    let e : suc n + m ≡ suc (n + m) = omega arith in
    let d : suc a + n ≡ a + suc n = omega arith in
    rw e (let z = total-add f (suc a) n m in let y = ap (λ k. total f k m) d in omega arith)

total-sum : (f g : ℕ → ℕ) (a n : ℕ) → total (λ b. f b + g b) a n ≡ total f a n + total g a n
unfolding total
total-sum f g a zero = refl
total-sum f g a (suc n) = let z = total-sum f g (suc a) n in omega arith

total-hit : (x a n : ℕ) → a ≤ x → x < a + n → total (λ b. cond (eqb x b) 1 0) a n ≡ 1
unfolding total
total-hit x a zero lo up = absurd (omega arith)
total-hit x a (suc n) lo up = go (eq-or-lt_of_le lo) (total-hit x (suc a) n)
  where
    go : (a ≡ x) ⊎ (a < x) → (suc a ≤ x → x < suc a + n → total (λ b. cond (eqb x b) 1 0) (suc a) n ≡ 1)
        → cond (eqb x a) 1 0 + total (λ b. cond (eqb x b) 1 0) (suc a) n ≡ 1
    go (inl e) ih =
        let z = total-same (λ b. cond (eqb x b) 1 0) (λ b. 0) (suc a) n (λ b l u. rw (ne_eqb x b (λ q. omega arith))) ∙ total-zero (suc a) n in
        rw (eq-eqb x a (sym e)) (omega arith)
    go (inr l) ih = let z = ih l (omega arith) in rw (ne_eqb x a (λ q. omega arith)) (omega arith)

-- a list is as long as its numbers occur
total-occurs : (xs : List ℕ) (a n : ℕ) → ((b : ℕ) → 1 ≤ occurs b xs → (a ≤ b) × (b < a + n)) → total (λ b. occurs b xs) a n ≡ length xs
total-occurs [] a n h = total-zero a n
total-occurs (x ∷ xs) a n h =
    let r = h x (occurs-head x xs) in
    let p = total-sum (λ b. cond (eqb x b) 1 0) (λ b. occurs b xs) a n in
    let q = total-hit x a n r.0 r.1 in
    let z = total-occurs xs a n (λ b o. h b (omega arith)) in
    p ∙ (let e : total (λ b. cond (eqb x b) 1 0) a n + total (λ b. occurs b xs) a n ≡ suc (length xs) = omega arith in e)

-- ---- zeros and ones

zeros-and-ones : (xs : List ℕ) → Below 2 xs → occurs 0 xs + sum xs ≡ length xs
zeros-and-ones [] s = refl
zeros-and-ones (x ∷ xs) s = go (eqb x 0) refl (zeros-and-ones xs (λ i. s (suc i)))
  where
    go : (t : Bool) → eqb x 0 ≡ t → occurs 0 xs + sum xs ≡ length xs → occurs 0 (x ∷ xs) + sum (x ∷ xs) ≡ suc (length xs)
    go true e ih = let z = eqb-true x 0 e in rw e (omega arith)
    go false e ih = let ne = eqb-false x 0 e in let l : x < 2 = s 0 in rw e (omega arith)

sum-total : (f : ℕ → ℕ) (xs : List ℕ) (a : ℕ) → ((k : ℕ) → k < length xs → get_or xs k 0 ≡ f (a + k)) → sum xs ≡ total f a (length xs)
unfolding total
sum-total f [] a h = refl
sum-total f (x ∷ xs) a h =
    ap₂ (λ (y z : ℕ). y + z) (h 0 (omega arith) ∙ ap f (add-zero a))
    (sum-total f xs (suc a) (λ k u. let e : a + suc k ≡ suc a + k = omega arith in h (suc k) (omega arith) ∙ ap f e))

-- ---- free blocks

module _ (N : ℕ) (v : Disk) (low : data_start ≤ N) (small : N ≤ most_blocks) (whole : Whole v) (s : VolumeSound N v) where
  -- what S1 and S7 ask of a bit
  abbrev due : ℕ → ℕ
  due b = cond (in_data N b) (occurs b (reached v)) 1

  bit-due : (b : ℕ) → b < bit_count v → bit v b ≡ due b
  bit-due b up = go (in_data N b) refl
    where
      go : (t : Bool) → in_data N b ≡ t → bit v b ≡ cond t (occurs b (reached v)) 1
      go true e = sym (s.counted b up (inside_of N b e))
      go false e = s.outside b up (outside_of N b e)

  sum-due : sum (bits_of (v bitmap_block)) ≡ total due 0 most_blocks
  unfolding bit bit_count
  sum-due =
      sum-total due (bits_of (v bitmap_block)) 0 (λ k u. bit-due k u ∙ ap due (sym (zero-add k))) ∙ ap (total due 0) (bit-count v whole)

  ones-due : (a n : ℕ) → ((b : ℕ) → a ≤ b → b < a + n → Inside N b → ⊥) → total due a n ≡ n
  ones-due a n h = total-same due (λ b. 1) a n (λ b lo up. rw (outside-test N b (h b lo up))) ∙ total-one a n

  inside-due : total due data_start (N - data_start) ≡ length (reached v)
  inside-due =
      total-same due (λ b. occurs b (reached v)) data_start (N - data_start) (λ b lo up. rw (inside-test N b (record { low = lo; high = omega arith })))
      ∙ total-occurs (reached v) data_start (N - data_start) (λ b o. let i = all-inside N v s b o in (i.low, omega arith))

  parts : total due 0 most_blocks ≡ data_start + (length (reached v) + (most_blocks - N))
  parts =
      let e : most_blocks ≡ data_start + ((N - data_start) + (most_blocks - N)) = omega arith in
      let d : data_start + (N - data_start) ≡ N = omega arith in
      ap (total due 0) e
      ∙ total-add due 0 data_start ((N - data_start) + (most_blocks - N))
      ∙ ap₂ (λ (x y : ℕ). x + y) (ones-due 0 data_start (λ b lo up i. omega arith))
      (total-add due data_start (N - data_start) (most_blocks - N)
      ∙ ap₂ (λ (x y : ℕ). x + y) inside-due (ap (λ k. total due k (most_blocks - N)) d ∙ ones-due N (most_blocks - N) (λ b lo up i. omega arith)))

  -- zero bits, blocks reached and the bits that S1 fixes are all the bits
  all-bits : free_bits (bits_of (v bitmap_block)) + (data_start + (length (reached v) + (most_blocks - N))) ≡ most_blocks
  unfolding bit_count
  all-bits = omega (arith, zeros-and-ones (bits_of (v bitmap_block)) (bits-binary (v bitmap_block)), sum-due, parts, bit-count v whole)

  pub free-count : free_bits (bits_of (v bitmap_block)) ≡ free_blocks N v
  free-count = omega (arith, all-bits)

  pub reached-few : length (reached v) ≤ N - data_start
  reached-few = omega (arith, all-bits)
