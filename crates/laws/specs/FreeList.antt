-- On a sound volume the zero bits are the blocks that no file reaches: picks are the first of the free list. Assumes nothing.
use Rattle.std.specs.Prelude.{ℕ, zero, suc, ◌+◌, ◌-◌, ◌≤◌, ◌<◌, ◌≡◌, refl, Bool, true, false, cond, not, List, [], ◌∷◌, ◌++◌, length, take, drop, get_or}
use Rattle.std.proofs.Common.{sym, ap₂, ◌∙◌, append-nil, take-add, add-zero, zero-add, eq-eqb, ne_eqb}
use Rattle.std.proofs.Math.Path.{ap}
use Rattle.std.proofs.Math.Dec.{eqb}
use Rattle.std.proofs.Math.Seq.{drop-append_seam}
use native.Mathlib.Omega.{arith}
use Rattle.spec.specs.Layout.{bitmap_block, data_start, most_blocks}
use Rattle.spec.specs.Bytes.{occurs, member, keep, up_from}
use Rattle.spec.specs.Disk.{Disk}
use Rattle.spec.specs.Bitmap.{bits_of, free_bits, mark, picks}
use Rattle.spec.specs.Inode.{reached}
use Rattle.spec.specs.Sentences.{free_list}
use Rattle.lists.specs.Members.{member-occurs, absent-occurs}
use Rattle.logs.specs.Stores.{Whole}
use Rattle.laws.specs.Soundness.{Inside}
use Rattle.laws.specs.Volume.{bit, bit_count, VolumeSound}
use Rattle.laws.specs.Reached.{bit-count}
use Rattle.laws.specs.Picks.{picks-append, zeros_from, length-zeros, picks-zeros}

-- ---- what is kept

keep_append : (f : ℕ → Bool) (xs ys : List ℕ) → keep f (xs ++ ys) ≡ keep f xs ++ keep f ys
keep_append f [] ys = refl
keep_append f (x ∷ xs) ys = go (f x) (keep_append f xs ys)
  where
    go : (t : Bool) → keep f (xs ++ ys) ≡ keep f xs ++ keep f ys → cond t (x ∷ keep f (xs ++ ys)) (keep f (xs ++ ys)) ≡ cond t (x ∷ keep f xs) (keep f xs) ++ keep f ys
    go true ih = ap (λ (l : List ℕ). x ∷ l) ih
    go false ih = ih

up_from-append : (a n m : ℕ) → up_from a (n + m) ≡ up_from a n ++ up_from (a + n) m
up_from-append a zero m = rw (zero-add m, add-zero a)
up_from-append a (suc n) m =
    let e : suc n + m ≡ suc (n + m) = omega arith in
    let d : suc a + n ≡ a + suc n = omega arith in
    rw e (ap (λ (l : List ℕ). a ∷ l) (up_from-append (suc a) n m ∙ ap (λ k. up_from (suc a) n ++ up_from k m) d))

keep-none : (f : ℕ → Bool) (a n : ℕ) → ((b : ℕ) → a ≤ b → b < a + n → f b ≡ false) → keep f (up_from a n) ≡ []
keep-none f a zero h = refl
keep-none f a (suc n) h = rw (h a (omega arith) (omega arith)) (keep-none f (suc a) n (λ b lo up. h b (omega arith) (omega arith)))

keep_same : (f g : ℕ → Bool) (a n : ℕ) → ((b : ℕ) → a ≤ b → b < a + n → f b ≡ g b) → keep f (up_from a n) ≡ keep g (up_from a n)
keep_same f g a zero h = refl
keep_same f g a (suc n) h =
    ap₂ (λ (t : Bool) (l : List ℕ). cond t (a ∷ l) l) (h a (omega arith) (omega arith)) (keep_same f g (suc a) n (λ b lo up. h b (omega arith) (omega arith)))

zeros-keep : (f : ℕ → Bool) (a : ℕ) (xs : List ℕ) → ((k b : ℕ) → a + k ≡ b → k < length xs → f b ≡ eqb (get_or xs k 0) 0) → zeros_from a xs ≡ keep f (up_from a (length xs))
unfolding zeros_from
zeros-keep f a [] h = refl
zeros-keep f a (x ∷ xs) h =
    ap₂ (λ (t : Bool) (l : List ℕ). cond t (a ∷ l) l) (sym (h 0 a (omega arith) (omega arith)))
    (zeros-keep f (suc a) xs (λ k b e l. h (suc k) b (omega arith) (omega arith)))

append_right : (xs ys zs : List ℕ) → xs ++ ys ≡ xs ++ zs → ys ≡ zs
append_right xs ys zs h = sym (drop-append_seam xs ys) ∙ ap (drop (length xs)) h ∙ drop-append_seam xs zs

-- ---- the free list

module _ (N : ℕ) (v : Disk) (low : data_start ≤ N) (most : N ≤ most_blocks) (whole : Whole v) (s : VolumeSound N v) where
  abbrev is_free : ℕ → Bool
  is_free b = eqb (bit v b) 0

  outside-taken : (b : ℕ) → b < most_blocks → (Inside N b → ⊥) → is_free b ≡ false
  outside-taken b up out = ne_eqb (bit v b) 0 (λ q. omega (arith, s.outside b (omega (arith, bit-count v whole)) out))

  inside-free : (b : ℕ) → Inside N b → is_free b ≡ not (member b (reached v))
  inside-free b inn = go (member b (reached v)) refl
    where
      c : occurs b (reached v) ≡ bit v b
      c = s.counted b (omega (arith, bit-count v whole)) inn

      go : (t : Bool) → member b (reached v) ≡ t → is_free b ≡ not t
      go true e = ne_eqb (bit v b) 0 (λ q. omega (arith, c, member-occurs b (reached v) e))
      go false e = eq-eqb (bit v b) 0 (sym c ∙ absent-occurs b (reached v) e)

  zeros-are : zeros_from 0 (bits_of (v bitmap_block)) ≡ keep is_free (up_from 0 most_blocks)
  unfolding bit bit_count
  zeros-are =
      zeros-keep is_free 0 (bits_of (v bitmap_block)) (λ k b e l. let q : b ≡ k = omega arith in ap (λ m. eqb (get_or (bits_of (v bitmap_block)) m 0) 0) q)
      ∙ ap (λ n. keep is_free (up_from 0 n)) (bit-count v whole)

  pub free-zeros : zeros_from 0 (bits_of (v bitmap_block)) ≡ free_list N v
  free-zeros =
      let e : most_blocks ≡ data_start + ((N - data_start) + (most_blocks - N)) = omega arith in
      let d : data_start + (N - data_start) ≡ N = omega arith in
      let mid = up_from data_start (N - data_start) in
      let top = up_from N (most_blocks - N) in
      zeros-are ∙ ap (λ n. keep is_free (up_from 0 n)) e
      ∙ ap (keep is_free) (up_from-append 0 data_start ((N - data_start) + (most_blocks - N)) ∙ ap (λ (l : List ℕ). up_from 0 data_start ++ l)
      (up_from-append data_start (N - data_start) (most_blocks - N) ∙ ap (λ k. mid ++ up_from k (most_blocks - N)) d))
      ∙ keep_append is_free (up_from 0 data_start) (mid ++ top)
      ∙ ap₂ (λ (x y : List ℕ). x ++ y) (keep-none is_free 0 data_start (λ b l u. outside-taken b (omega arith) (λ i. omega arith)))
      (keep_append is_free mid top
      ∙ ap₂ (λ (x y : List ℕ). x ++ y) (keep_same is_free (λ b. not (member b (reached v))) data_start (N - data_start) (λ b l u. inside-free b (record { low = l; high = omega arith })))
      (keep-none is_free N (most_blocks - N) (λ b l u. outside-taken b (omega arith) (λ i. omega arith)))
      ∙ append-nil (free_list N v))

  pub free-length : length (free_list N v) ≡ free_bits (bits_of (v bitmap_block))
  free-length = ap length (sym free-zeros) ∙ length-zeros 0 (bits_of (v bitmap_block))

  pub picks-free : (n : ℕ) → n ≤ free_bits (bits_of (v bitmap_block)) → picks (bits_of (v bitmap_block)) n ≡ take n (free_list N v)
  picks-free n h = picks-zeros (bits_of (v bitmap_block)) n h ∙ ap (take n) free-zeros

  -- "then extent blocks likewise": behind those taken for data
  pub picks-behind : (n m : ℕ) → n + m ≤ free_bits (bits_of (v bitmap_block))
      → picks (mark 1 (picks (bits_of (v bitmap_block)) n) (bits_of (v bitmap_block))) m ≡ take m (drop n (free_list N v))
  picks-behind n m h =
      append_right (picks (bits_of (v bitmap_block)) n) (picks (mark 1 (picks (bits_of (v bitmap_block)) n) (bits_of (v bitmap_block))) m) (take m (drop n (free_list N v)))
      (sym (picks-append (bits_of (v bitmap_block)) n m) ∙ picks-free (n + m) h ∙ take-add n m (free_list N v) ∙ ap (λ (l : List ℕ). l ++ take m (drop n (free_list N v))) (sym (picks-free n (omega arith))))
