-- Laws of marking. Assumes nothing.
use Prim.Native.Nat.{ℕ, zero, suc, ◌+◌, ◌*◌, ◌-◌, ◌/◌, ◌%◌, ◌^◌, ◌<◌, ◌≤◌, min, max}
use mathlib.Core.Path.{◌≡◌, refl, sym, ap, ap₂, ◌∙◌}
use mathlib.Core.Bool.{Bool, true, false, cond, not, ◌&&◌, ◌||◌, beq, true≢false}
use mathlib.Core.Logic.{⊎_elim}
use mathlib.Core.List.{List, [], ◌∷◌, ◌++◌, map}
use mathlib.Core.Option.{none}
use native.Mathlib.Nat.{zero-div, eq-or-lt_of_le}
use native.Mathlib.Numerals.{add-one}
use native.Mathlib.Omega.{arith}
use borrow.Author.Tests.{le-leb, lt-leb, eqb-true, eq-eqb, ne_eqb, ltb-true, ltb-false, lt-ltb, le-ltb, not-true}
use lib.Dec.{eqb, leb, ltb}
use lib.Bits.{bit_and, bit_or, and_step, or_step, and_shr, or_shr}
use lib.ListN.{length, get_or, set, replicate, length-replicate, length-set, get_or-eq_default}
use lib.Seq.{get_or-set_same, get_or-set_other}
use Rattle.spec.specs.Bytes.{exactly, same, all, all_zero, occurs, up_from, concat, lowest}
use Rattle.spec.specs.Bitmap.{bits_of, mark}
use Rattle.bitmap.specs.Words.{mask_of}
use Rattle.spec.specs.Disk.{Disk, is_data_area, area_of, in_data}
use Rattle.spec.specs.declared.Area.{Area}
use Rattle.spec.specs.declared.Area.TheVariants.{Header, Log, Bitmap, Inodes, Data}
use Rattle.spec.specs.Inode.{reached_from, reached}
use Rattle.spec.specs.Sound.{block_sound, bit_fault, block_fault}
use Rattle.lists.specs.Counts.{up_from-occurs}
use Rattle.lists.specs.All.{all-at}
use Rattle.lists.specs.Tests.{both_true}
use Rattle.bitmap.proofs.Laws.{length-bits, bit_at, bits-binary, occurs-append}
use Rattle.block.proofs.Laws.{lt-or-le, length-exactly}
use Rattle.block.proofs.Lists.{up_from-append, concat-map-append}
use Rattle.std.specs.Prelude.{Option, Some, None}
use Rattle.std.specs.Option.{MatchOption}
use Rattle.inode.specs.Records.{found_of, lowest_to}
use Rattle.inode.proofs.Laws.{lowest-agree, lowest-hit, lowest-miss, lowest-none}
use Rattle.mkfs.specs.Table.{Cleared}
use Rattle.zeros.proofs.Laws.{zero-at}
use Rattle.marks.specs.declared.Marks.{Marks}
use Rattle.marks.specs.Marks.{bit, counted, Kept, reach_to, wrong}

-- ---- within 42 to N-1

data-area : (a b c d : Bool) → is_data_area (cond a Header (cond b Log (cond c Bitmap (cond d Inodes Data)))) ≡ true → d ≡ false
data-area true b c d h = absurd (true≢false (sym h))
data-area false true c d h = absurd (true≢false (sym h))
data-area false false true d h = absurd (true≢false (sym h))
data-area false false false true h = absurd (true≢false (sym h))
data-area false false false false h = refl

pub data-low : (N x : ℕ) → in_data N x ≡ true → (42 ≤ x) × (x < N)
unfolding in_data area_of
data-low N x h =
    let p = both_true (is_data_area (area_of x)) (ltb x N) h in
    (ltb-false x 42 (data-area (ltb x 1) (ltb x 33) (ltb x 34) (ltb x 42) p.0), ltb-true x N p.1)

data-in : (N x : ℕ) → 42 ≤ x → x < N → in_data N x ≡ true
unfolding in_data area_of
data-in N x l h = rw (le-ltb x 1 (omega arith), le-ltb x 33 (omega arith), le-ltb x 34 (omega arith), le-ltb x 42 l, lt-ltb x N h)

-- a block as `data_from` takes it, by its area
data-low-area : (b : ℕ) → b < 42 → is_data_area (area_of b) ≡ false
unfolding area_of
data-low-area b l = go (ltb b 1) (ltb b 33) (ltb b 34)
  where
    go : (p q r : Bool) → is_data_area (cond p Header (cond q Log (cond r Bitmap (cond (ltb b 42) Inodes Data)))) ≡ false
    go true q r = refl
    go false true r = refl
    go false false true = refl
    go false false false = rw (lt-ltb b 42 l) refl

data-high-area : (b : ℕ) → 42 ≤ b → is_data_area (area_of b) ≡ true
unfolding area_of
data-high-area b l = rw (le-ltb b 1 (omega arith), le-ltb b 33 (omega arith), le-ltb b 34 (omega arith), le-ltb b 42 l) refl

module _ (b : ℕ) (x : Area) (e : x ≡ area_of b) where
  pub area-data : is_data_area x ≡ true → b ≡ max 42 b
  area-data h = ⊎_elim (λ l. absurd (true≢false (sym h ∙ ap is_data_area e ∙ data-low-area b l))) (λ l. omega arith) (lt-or-le b 42)

  pub area-low : is_data_area x ≡ false → 42 ≡ max 42 b
  area-low h = ⊎_elim (λ l. omega arith) (λ l. absurd (true≢false (sym (data-high-area b l) ∙ ap is_data_area (sym e) ∙ h))) (lt-or-le b 42)

-- ---- bits

bit-lt : (t : List ℕ) (x : ℕ) → bit t x < 2
unfolding bit
bit-lt t x = bits-binary t x

bit_past : (t : List ℕ) (x : ℕ) → length t ≡ 512 → 4096 ≤ x → bit t x ≡ 0
unfolding bit
bit_past t x l h = get_or-eq_default (bits_of t) 0 (omega (arith, length-bits t))

-- a bit as the code reads it
pub bit-read : (t : List ℕ) (b : ℕ) → length t ≡ 512 → get_or t (b / 8) 0 / 2 ^ (b % 8) % 2 ≡ bit t b
unfolding bit
bit-read t b l = ⊎_elim
    (λ h. sym (bit_at t b 0 (omega arith)))
    (λ h. ap (λ (x : ℕ). x / 2 ^ (b % 8) % 2) (get_or-eq_default t 0 (omega arith)) ∙ ap (λ (x : ℕ). x % 2) (zero-div (2 ^ (b % 8))) ∙ sym (bit_past t b l h))
    (lt-or-le b 4096)

bit-same : (t u : List ℕ) (b : ℕ) → length t ≡ 512 → length u ≡ 512 → b < 4096 → get_or t (b / 8) 0 ≡ get_or u (b / 8) 0 → bit t b ≡ bit u b
unfolding bit
bit-same t u b l m h e = bit_at t b 0 (omega arith) ∙ ap (λ (x : ℕ). x / 2 ^ (b % 8) % 2) e ∙ sym (bit_at u b 0 (omega arith))

bit-zero : (t : List ℕ) (b : ℕ) → length t ≡ 512 → b < 4096 → get_or t (b / 8) 0 ≡ 0 → bit t b ≡ 0
unfolding bit
bit-zero t b l h e = bit_at t b 0 (omega arith) ∙ ap (λ (x : ℕ). x / 2 ^ (b % 8) % 2) e ∙ ap (λ (x : ℕ). x % 2) (zero-div (2 ^ (b % 8)))

-- bits of the or and the and of two numbers
odd : (z d : ℕ) → d < 2 → (z * 2 + d) % 2 ≡ d
odd z d h = omega arith

or-bit : (x y k : ℕ) → bit_or x y / 2 ^ k % 2 ≡ max (x / 2 ^ k % 2) (y / 2 ^ k % 2)
or-bit x y k = ap (λ (n : ℕ). n % 2) (or_shr x y k ∙ or_step (x / 2 ^ k) (y / 2 ^ k)) ∙ odd _ (max (x / 2 ^ k % 2) (y / 2 ^ k % 2)) (omega arith)

and-bit : (x y k : ℕ) → bit_and x y / 2 ^ k % 2 ≡ min (x / 2 ^ k % 2) (y / 2 ^ k % 2)
and-bit x y k = ap (λ (n : ℕ). n % 2) (and_shr x y k ∙ and_step (x / 2 ^ k) (y / 2 ^ k)) ∙ odd _ (min (x / 2 ^ k % 2) (y / 2 ^ k % 2)) (omega arith)

-- the bits of a mask
mask-right : ℕ → ℕ → ℕ → Bool
mask-right n s k = eqb (mask_of n s / 2 ^ k % 2) (cond (leb s k && ltb k (s + n)) 1 0)

masks-right : all (λ n. all (λ s. all (mask-right n s) (up_from 0 8)) (up_from 0 8)) (up_from 0 9) ≡ true
unfolding mask-right mask_of mark
masks-right = refl

mask-bit : (n s k : ℕ) → n ≤ 8 → s < 8 → k < 8 → mask_of n s / 2 ^ k % 2 ≡ cond (leb s k && ltb k (s + n)) 1 0
unfolding mask-right
mask-bit n s k hn hs hk =
    let p = all-at (λ m. all (λ r. all (mask-right m r) (up_from 0 8)) (up_from 0 8)) (up_from 0 9) n masks-right (up_from-occurs n 0 9 (omega arith) (omega arith)) in
    let q = all-at (λ r. all (mask-right n r) (up_from 0 8)) (up_from 0 8) s p (up_from-occurs s 0 8 (omega arith) (omega arith)) in
    let r = all-at (mask-right n s) (up_from 0 8) k q (up_from-occurs k 0 8 (omega arith) (omega arith)) in
    eqb-true (mask_of n s / 2 ^ k % 2) (cond (leb s k && ltb k (s + n)) 1 0) r

mask_low : (n s k : ℕ) → n ≤ 8 → s < 8 → k < s → mask_of n s / 2 ^ k % 2 ≡ 0
mask_low n s k hn hs h = mask-bit n s k hn hs (omega arith) ∙ rw (lt-leb s k h)

mask-in : (n s k : ℕ) → n ≤ 8 → s < 8 → s ≤ k → k < s + n → k < 8 → mask_of n s / 2 ^ k % 2 ≡ 1
mask-in n s k hn hs h m l = mask-bit n s k hn hs l ∙ rw (le-leb s k h, lt-ltb k (s + n) m)

mask-high : (n s k : ℕ) → n ≤ 8 → s < 8 → s + n ≤ k → k < 8 → mask_of n s / 2 ^ k % 2 ≡ 0
mask-high n s k hn hs h l = mask-bit n s k hn hs l ∙ rw (le-leb s k (omega arith), le-ltb k (s + n) h)

-- ---- a run of blocks, counted

run-below : (x a m : ℕ) → x < a → occurs x (up_from a m) ≡ 0
run-below x a zero h = refl
run-below x a (suc m) h = rw (ne_eqb a x (λ z. omega arith)) (ap (λ (k : ℕ). 0 + k) (run-below x (suc a) m (omega arith)))

run-within : (x a m : ℕ) → a ≤ x → x < a + m → occurs x (up_from a m) ≡ 1
run-within x a zero l h = absurd (omega arith)
run-within x a (suc m) l h = ⊎_elim
    (λ e. rw (eq-eqb a x e) (ap (λ (k : ℕ). 1 + k) (run-below x (suc a) m (omega arith))))
    (λ e. rw (ne_eqb a x (λ z. omega arith)) (ap (λ (k : ℕ). 0 + k) (run-within x (suc a) m e (omega arith))))
    (eq-or-lt_of_le l)

run-above : (x a m : ℕ) → a + m ≤ x → occurs x (up_from a m) ≡ 0
run-above x a zero h = refl
run-above x a (suc m) h = rw (ne_eqb a x (λ z. omega arith)) (ap (λ (k : ℕ). 0 + k) (run-above x (suc a) m (omega arith)))

-- ---- one block marked

no-count : (t : Bool) → ◌≡◌ {A = ℕ} (cond t 0 0) 0
no-count true = refl
no-count false = refl

counted-nil : (N x : ℕ) → counted N x [] ≡ 0
unfolding counted
counted-nil N x = no-count (in_data N x)

counted-out : (N x : ℕ) (bs : List ℕ) → in_data N x ≡ false → counted N x bs ≡ 0
unfolding counted
counted-out N x bs h = rw h

counted_none : (N x : ℕ) (bs : List ℕ) → occurs x bs ≡ 0 → counted N x bs ≡ 0
unfolding counted
counted_none N x bs h = rw h (no-count (in_data N x))

counted-in : (N x : ℕ) (bs : List ℕ) → in_data N x ≡ true → counted N x bs ≡ occurs x bs
unfolding counted
counted-in N x bs h = rw h

-- a block that does not count
pub mark-out : (N b : ℕ) (m : Marks) (r : Bool) → r ≡ in_data N b → not r ≡ true → Kept N m [] m (b ∷ [])
mark-out N b m r e h = record { once = λ x. omega (arith, counted-nil N x, none_of x); twice = λ x. omega (arith, counted-nil N x, none_of x) }
  where
    none_of : (x : ℕ) → counted N x (b ∷ []) ≡ 0
    none_of x = go (eqb b x) refl
      where
        go : (p : Bool) → eqb b x ≡ p → counted N x (b ∷ []) ≡ 0
        go true q = counted-out N x (b ∷ []) (sym (ap (in_data N) (eqb-true b x q)) ∙ sym e ∙ not-true r h)
        go false q = counted_none N x (b ∷ []) (rw q)

-- blocks marked whose bits lie in one byte
module _ (s : Marks) (b n : ℕ) (lo : length s.once ≡ 512) (lt : length s.twice ≡ 512) (low : 42 ≤ b) (some : 0 < n) (few : b % 8 + n ≤ 8) (less : b < 4096) where
  abbrev o : List ℕ
  o = s.once

  abbrev t : List ℕ
  t = s.twice

  abbrev m : ℕ
  m = mask_of n (b % 8)

  -- the tables with byte b / 8 changed
  abbrev o' : List ℕ
  o' = set o (b / 8) (bit_or (get_or o (b / 8) 0) m)

  abbrev t' : List ℕ
  t' = set t (b / 8) (bit_or (get_or t (b / 8) 0) (bit_and (get_or o (b / 8) 0) m))

  changed : (u : List ℕ) (y x : ℕ) → length u ≡ 512 → x / 8 ≡ b / 8 → bit (set u (b / 8) y) x ≡ y / 2 ^ (x % 8) % 2
  unfolding bit
  changed u y x l e =
      bit_at (set u (b / 8) y) x 0 (simp length-set (omega arith)) ∙ ap (λ (j : ℕ). get_or (set u (b / 8) y) j 0 / 2 ^ (x % 8) % 2) e
      ∙ ap (λ (k : ℕ). k / 2 ^ (x % 8) % 2) (get_or-set_same u (b / 8) y 0 (omega arith))

  unchanged : (u : List ℕ) (y x : ℕ) → length u ≡ 512 → x < 4096 → (x / 8 ≡ b / 8 → ⊥) → bit (set u (b / 8) y) x ≡ bit u x
  unfolding bit
  unchanged u y x l h ne =
      bit_at (set u (b / 8) y) x 0 (simp length-set (omega arith)) ∙ ap (λ (k : ℕ). k / 2 ^ (x % 8) % 2) (get_or-set_other u (b / 8) (x / 8) y 0 ne)
      ∙ sym (bit_at u x 0 (omega arith))

  same_bit : (u : List ℕ) (y x : ℕ) → length u ≡ 512 → (x / 8 ≡ b / 8 → ⊥) → bit (set u (b / 8) y) x ≡ bit u x
  same_bit u y x l ne = ⊎_elim (λ h. unchanged u y x l h ne) (λ h. bit_past (set u (b / 8) y) x (simp length-set l) h ∙ sym (bit_past u x l h)) (lt-or-le x 4096)

  old_bit : (u : List ℕ) (x : ℕ) → length u ≡ 512 → x / 8 ≡ b / 8 → get_or u (b / 8) 0 / 2 ^ (x % 8) % 2 ≡ bit u x
  unfolding bit
  old_bit u x l e = sym (bit_at u x 0 (omega arith) ∙ ap (λ (j : ℕ). get_or u j 0 / 2 ^ (x % 8) % 2) e)

  once-bit : (x : ℕ) → x / 8 ≡ b / 8 → bit o' x ≡ max (bit o x) (m / 2 ^ (x % 8) % 2)
  once-bit x e = changed o (bit_or (get_or o (b / 8) 0) m) x lo e ∙ or-bit (get_or o (b / 8) 0) m (x % 8) ∙ ap (λ (k : ℕ). max k (m / 2 ^ (x % 8) % 2)) (old_bit o x lo e)

  twice-bit : (x : ℕ) → x / 8 ≡ b / 8 → bit t' x ≡ max (bit t x) (min (bit o x) (m / 2 ^ (x % 8) % 2))
  twice-bit x e =
      changed t (bit_or (get_or t (b / 8) 0) (bit_and (get_or o (b / 8) 0) m)) x lt e
      ∙ or-bit (get_or t (b / 8) 0) (bit_and (get_or o (b / 8) 0) m) (x % 8)
      ∙ ap₂ max (old_bit t x lt e) (and-bit (get_or o (b / 8) 0) m (x % 8) ∙ ap (λ (k : ℕ). min k (m / 2 ^ (x % 8) % 2)) (old_bit o x lo e))

  -- what the marks of a block come to
  abbrev Comes : ℕ → ℕ → Type 0
  Comes N x = (min 1 (bit o' x + counted N x []) ≡ min 1 (bit o x + counted N x (up_from b n)))
      × (min 2 (bit o' x + bit t' x + counted N x []) ≡ min 2 (bit o x + bit t x + counted N x (up_from b n)))

  comes : (N x k : ℕ) → x / 8 ≡ b / 8 → m / 2 ^ (x % 8) % 2 ≡ k → counted N x (up_from b n) ≡ k → Comes N x
  comes N x k e em ec =
      let p = once-bit x e in let q = twice-bit x e in let z = counted-nil N x in let u = bit-lt o x in let v = bit-lt t x in
      (omega arith, omega arith)

  stays : (N x : ℕ) → (x / 8 ≡ b / 8 → ⊥) → counted N x (up_from b n) ≡ 0 → Comes N x
  stays N x ne ec =
      let p = same_bit o (bit_or (get_or o (b / 8) 0) m) x lo ne in let q = same_bit t (bit_or (get_or t (b / 8) 0) (bit_and (get_or o (b / 8) 0) m)) x lt ne in let z = counted-nil N x in
      (omega arith, omega arith)

  module _ (N : ℕ) (inside : b + n ≤ N) where
    below-run : (x : ℕ) → x < b → Comes N x
    below-run x h =
        let z = counted_none N x (up_from b n) (run-below x b n h) in
        ⊎_elim (λ e. stays N x (λ q. omega arith) z) (λ e. comes N x 0 (omega arith) (mask_low n (b % 8) (x % 8) (omega arith) (omega arith) (omega arith)) z) (lt-or-le (x / 8) (b / 8))

    above-run : (x : ℕ) → b + n ≤ x → Comes N x
    above-run x h =
        let z = counted_none N x (up_from b n) (run-above x b n h) in
        ⊎_elim (λ e. stays N x (λ q. omega arith) z) (λ e. comes N x 0 (omega arith) (mask-high n (b % 8) (x % 8) (omega arith) (omega arith) (omega arith) (omega arith)) z) (lt-or-le (b / 8) (x / 8))

    in-run : (x : ℕ) → b ≤ x → x < b + n → Comes N x
    in-run x h k =
        let z = counted-in N x (up_from b n) (data-in N x (omega arith) (omega arith)) ∙ run-within x b n h k in
        comes N x 1 (omega arith) (mask-in n (b % 8) (x % 8) (omega arith) (omega arith) (omega arith) (omega arith) (omega arith)) z

    each : (x : ℕ) → Comes N x
    each x = ⊎_elim (below-run x) (λ h. ⊎_elim (in-run x h) (above-run x) (lt-or-le x (b + n))) (lt-or-le x b)

    pub byte-marked : (y z : ℕ) → y ≡ bit_or (get_or o (b / 8) 0) m → z ≡ bit_or (get_or t (b / 8) 0) (bit_and (get_or o (b / 8) 0) m)
        → Kept N (record { once = set o (b / 8) y; twice = set t (b / 8) z }) [] s (up_from b n)
    byte-marked y z ey ez = rw (ey, ez) (record { once = λ x. (each x).0; twice = λ x. (each x).1 })

-- ---- some of the blocks that are left marked

pub kept-start : (N : ℕ) (m : Marks) (bs cs : List ℕ) → bs ≡ cs → Kept N m bs m cs
kept-start N m bs cs e = record { once = λ x. rw e; twice = λ x. rw e }

-- blocks L are bs and those of M
abbrev pub Split : List ℕ → List ℕ → List ℕ → Type 0
Split L bs M = (x : ℕ) → occurs x L ≡ occurs x bs + occurs x M

counted-split : (N : ℕ) (L bs M : List ℕ) → Split L bs M → (x : ℕ) → counted N x L ≡ counted N x bs + counted N x M
unfolding counted
counted-split N L bs M s x = go (in_data N x)
  where
    go : (t : Bool) → cond t (occurs x L) 0 ≡ cond t (occurs x bs) 0 + cond t (occurs x M) 0
    go true = s x
    go false = refl

module _ (N : ℕ) (m : Marks) (L : List ℕ) (m₀ : Marks) (L₀ : List ℕ) (k : Kept N m L m₀ L₀) where
  pub kept_on : (m₁ : Marks) (bs M : List ℕ) → Split L bs M → Kept N m₁ [] m bs → Kept N m₁ M m₀ L₀
  kept_on m₁ bs M s g = record {
    once = λ x. let a = k.once x in let b = g.once x in let n = counted-nil N x in let c = counted-split N L bs M s x in omega (arith, a, b, n, c);
    twice = λ x. let a = k.twice x in let b = g.twice x in let n = counted-nil N x in let c = counted-split N L bs M s x in omega (arith, a, b, n, c);
  }

  -- none is left, and those marked are the blocks cs
  pub kept-end : (cs : List ℕ) → L ≡ [] → L₀ ≡ cs → Kept N m [] m₀ cs
  kept-end cs e f = record { once = λ x. rw (← e, ← f) (k.once x); twice = λ x. rw (← e, ← f) (k.twice x) }

-- ---- a run of blocks

-- those within 42 to N-1 alone count
pub run-start : (N a m b e : ℕ) (s : Marks) → b ≡ max 42 a → e ≡ min (a + m) N → Kept N s (up_from b (e - b)) s (up_from a m)
run-start N a m b e s eb ee = record { once = λ x. rw (same x); twice = λ x. rw (same x) }
  where
    inner : (x : ℕ) → in_data N x ≡ true → occurs x (up_from b (e - b)) ≡ occurs x (up_from a m)
    inner x d =
        let l = data-low N x d in
        ⊎_elim (λ h. run-below x b (e - b) (omega arith) ∙ sym (run-below x a m h))
        (λ h. ⊎_elim (λ k. run-within x b (e - b) (omega arith) (omega arith) ∙ sym (run-within x a m h k)) (λ k. run-above x b (e - b) (omega arith) ∙ sym (run-above x a m k)) (lt-or-le x (a + m)))
        (lt-or-le x a)

    same : (x : ℕ) → counted N x (up_from b (e - b)) ≡ counted N x (up_from a m)
    same x = go (in_data N x) refl
      where
        go : (p : Bool) → in_data N x ≡ p → counted N x (up_from b (e - b)) ≡ counted N x (up_from a m)
        go true q = counted-in N x _ q ∙ inner x q ∙ sym (counted-in N x _ q)
        go false q = counted-out N x _ q ∙ sym (counted-out N x _ q)

pub run_more : (a b e n p : ℕ) → a ≡ b → b + n ≡ p → p ≤ e → Split (up_from a (e - a)) (up_from b n) (up_from p (e - p))
run_more a b e n p f q h x =
    let z : e - b ≡ n + (e - p) = omega arith in
    rw f (ap (λ (k : ℕ). occurs x (up_from b k)) z ∙ ap (occurs x) (up_from-append b n (e - p)) ∙ occurs-append x (up_from b n) (up_from (b + n) (e - p))
    ∙ ap (λ (k : ℕ). occurs x (up_from b n) + occurs x (up_from k (e - p))) q)

pub run_end : (b e : ℕ) → e ≤ b → up_from b (e - b) ≡ []
run_end b e h = let z : e - b ≡ 0 = omega arith in rw z

-- ---- the records

pub reach-start : (v : Disk) → reach_to v 128 0 ≡ reached v
unfolding reach_to reached
reach-start v = let z : 128 - 0 ≡ 128 = omega arith in ap (λ (k : ℕ). concat (map (reached_from v) (up_from 0 k))) z

pub reach-more : (v : Disk) (e i : ℕ) → i < e → Split (reach_to v e i) (reached_from v i) (reach_to v e (i + 1))
unfolding reach_to
reach-more v e i h x =
    let z : e - i ≡ suc (e - (i + 1)) = omega arith in
    rw (z, add-one i) (occurs-append x (reached_from v i) (concat (map (reached_from v) (up_from (suc i) (e - suc i)))))

pub reach-on : (v : Disk) (e m i : ℕ) → i ≤ m → m ≤ e → Split (reach_to v e i) (reach_to v m i) (reach_to v e m)
unfolding reach_to
reach-on v e m i h k x =
    let z : e - i ≡ (m - i) + (e - m) = omega arith in
    let y : i + (m - i) ≡ m = omega arith in
    ap (λ (n : ℕ). occurs x (concat (map (reached_from v) (up_from i n)))) z
    ∙ ap (λ (l : List ℕ). occurs x (concat (map (reached_from v) l))) (up_from-append i (m - i) (e - m) ∙ ap (λ (n : ℕ). up_from i (m - i) ++ up_from n (e - m)) y)
    ∙ ap (occurs x) (concat-map-append (reached_from v) (up_from i (m - i)) (up_from m (e - m)))
    ∙ occurs-append x (concat (map (reached_from v) (up_from i (m - i)))) (concat (map (reached_from v) (up_from m (e - m))))

pub reach-end : (v : Disk) (e i : ℕ) → e ≤ i → reach_to v e i ≡ []
unfolding reach_to
reach-end v e i h = let z : e - i ≡ 0 = omega arith in rw z

-- records that reach no block
pub reach-none : (v : Disk) (e i : ℕ) → ((j : ℕ) → i ≤ j → j < e → reached_from v j ≡ []) → reach_to v e i ≡ []
unfolding reach_to
reach-none v e i h = go (e - i) i (λ j a b. h j a (omega arith))
  where
    go : (n i : ℕ) → ((j : ℕ) → i ≤ j → j < i + n → reached_from v j ≡ []) → concat (map (reached_from v) (up_from i n)) ≡ []
    go zero i h = refl
    go (suc n) i h = rw (h i (omega arith) (omega arith)) (go n (suc i) (λ j a b. h j (omega arith) (omega arith)))

-- ---- the bits compared

beq_same : (a : Bool) → beq a a ≡ true
beq_same true = refl
beq_same false = refl

beq-true : (a : Bool) → not (beq true a) ≡ not a
beq-true true = refl
beq-true false = refl

-- no number passes
lowest-off : (a n : ℕ) → lowest a n (λ k. false) ≡ none
lowest-off a zero = refl
lowest-off a (suc n) = lowest-off (suc a) n

found-off : (m i : ℕ) → lowest_to m (λ k. false) i ≡ None
unfolding lowest_to
found-off m i = ap found_of (lowest-off i (m - i))

-- the lowest number that passes, as `find` tells it
module _ (n : ℕ) (f : ℕ → Bool) where
  passed : (i : ℕ) → i ≤ n → ((k : ℕ) → 0 ≤ k → k < i → f k ≡ false) → lowest_to n f 0 ≡ lowest_to n f i
  passed zero h below = refl
  passed (suc i) h below =
      passed i (omega arith) (λ k a l. below k a (omega arith)) ∙ lowest-miss n f i (omega arith) (below i (omega arith) (omega arith)) ∙ ap (lowest_to n f) (add-one i)

  pub first-passing : (r : Option ℕ) → MatchOption r ((k : ℕ) → 0 ≤ k → k < n → f k ≡ false)
      (λ i. (0 ≤ i) × (i < n) × (f i ≡ true) × ((k : ℕ) → 0 ≤ k → k < i → f k ≡ false)) → r ≡ lowest_to n f 0
  first-passing None h = sym (passed n (omega arith) h ∙ lowest-none n f n (omega arith))
  first-passing (Some i) h = sym (passed i (omega (arith, h.1)) h.3 ∙ lowest-hit n f i h.1 h.2)

-- whole tables compared
same-says : (xs ys : List ℕ) (k : ℕ) → same xs ys ≡ true → get_or xs k 0 ≡ get_or ys k 0
same-says [] [] k h = refl
same-says [] (y ∷ ys) k h = absurd (true≢false (sym h))
same-says (x ∷ xs) [] k h = absurd (true≢false (sym h))
same-says (x ∷ xs) (y ∷ ys) zero h = eqb-true x y (both_true (eqb x y) (same xs ys) h).0
same-says (x ∷ xs) (y ∷ ys) (suc k) h = same-says xs ys k (both_true (eqb x y) (same xs ys) h).1

module _ (m : Marks) (bits : List ℕ) where
  module _ (lo : length m.once ≡ 512) (lt : length m.twice ≡ 512) (lb : length bits ≡ 512) where
    right-bit : same m.once bits && all_zero m.twice ≡ true → (b : ℕ) → b < 4096 → wrong m bits b ≡ false
    unfolding wrong
    right-bit h b l =
        let p = both_true (same m.once bits) (all_zero m.twice) h in
        rw (bit-same m.once bits b lo lb l (same-says m.once bits (b / 8) p.0), bit-zero m.twice b lt l (zero-at m.twice (b / 8) p.1), beq_same (eqb (bit bits b) 1))

    pub all_right : same m.once bits && all_zero m.twice ≡ true → lowest_to 4096 (wrong m bits) 0 ≡ None
    all_right h = lowest-agree 4096 (wrong m bits) (λ k. false) 0 (λ k a l. right-bit h k l) ∙ found-off 4096 0

-- ---- the marks of all records and the bitmap

cond-not : {A : Type 0} (t : Bool) (x y : A) → cond t x y ≡ cond (not t) y x
cond-not true x y = refl
cond-not false x y = refl

-- the bits by their places
bits-lowest : (N : ℕ) (reach : List ℕ) (f : ℕ → ℕ) (bits : List ℕ) (b : ℕ) → ((j : ℕ) → j < length bits → get_or bits j 0 ≡ f (b + j))
    → bit_fault N reach b bits ≡ lowest b (length bits) (λ k. not (block_sound N reach k (f k)))
bits-lowest N reach f [] b h = refl
bits-lowest N reach f (x ∷ xs) b h =
    let z : b + 0 ≡ b = omega arith in
    let e : x ≡ f b = h 0 (omega arith) ∙ ap f z in
    let ih = bits-lowest N reach f xs (suc b) (λ j l. h (suc j) (omega arith) ∙ ap f (let y : b + suc j ≡ suc b + j = omega arith in y)) in
    rw (e, ih) (cond-not (block_sound N reach b (f b)) _ _)

-- what two marks a and c of a block that n references reach say of its bit r
marks-say : (a c r n : ℕ) → a < 2 → c < 2 → r < 2 → min 1 a ≡ min 1 n → min 2 (a + c) ≡ min 2 n
    → (eqb c 1 || not (beq (eqb a 1) (eqb r 1))) ≡ not (eqb n r)
marks-say zero zero zero zero p q s e f = refl
marks-say zero zero (suc zero) zero p q s e f = refl
marks-say zero zero r (suc n) p q s e f = absurd (omega arith)
marks-say zero (suc c) r n p q s e f = absurd (omega arith)
marks-say (suc zero) zero r zero p q s e f = absurd (omega arith)
marks-say (suc zero) zero zero (suc zero) p q s e f = refl
marks-say (suc zero) zero (suc zero) (suc zero) p q s e f = refl
marks-say (suc zero) zero r (suc (suc n)) p q s e f = absurd (omega arith)
marks-say (suc zero) (suc zero) r n p q s e f = rw (ne_eqb n r (λ z. omega arith))
marks-say (suc zero) (suc (suc c)) r n p q s e f = absurd (omega arith)
marks-say (suc (suc a)) c r n p q s e f = absurd (omega arith)
marks-say zero zero (suc (suc r)) zero p q s e f = absurd (omega arith)
marks-say (suc zero) zero (suc (suc r)) (suc zero) p q s e f = absurd (omega arith)

-- `once` begins with zeros from 42 to N-1 and ones elsewhere, `twice` with zeros
module _ (N : ℕ) (s m : Marks) (reach bm : List ℕ) (start : Cleared s.once (max 42 N)) (blank : s.twice ≡ replicate 512 0) (full : length bm ≡ 512) (k : Kept N m [] s reach) where
  blank-bit : (b : ℕ) → b < 4096 → bit s.twice b ≡ 0
  blank-bit b h = bit-zero s.twice b (ap length blank ∙ length-replicate {A = ℕ} 512 0) h (ap (λ (l : List ℕ). get_or l (b / 8) 0) blank ∙ zero-at (replicate 512 0) (b / 8) refl)

  start-in : (b : ℕ) → in_data N b ≡ true → bit s.once b ≡ 0
  unfolding bit
  start-in b q = let l = data-low N b q in start.zero_bit b l.0 (omega arith)

  start-out : (b : ℕ) → b < 4096 → in_data N b ≡ false → bit s.once b ≡ 1
  unfolding bit
  start-out b h q =
      ⊎_elim (start.low b) (λ l. start.high b l (⊎_elim (λ m. absurd (true≢false (sym (data-in N b l m) ∙ q))) (λ m. omega arith) (lt-or-le b N)) h) (lt-or-le b 42)

  wrong-is : (b : ℕ) → b < 4096 → wrong m bm b ≡ not (block_sound N reach b (bit bm b))
  unfolding wrong counted
  wrong-is b h = go (in_data N b) refl
    where
      go : (p : Bool) → in_data N b ≡ p → wrong m bm b ≡ not (block_sound N reach b (bit bm b))
      go true q =
          let e = rw (q, start-in b q) at (k.once b) in
          let f = rw (q, start-in b q, blank-bit b h) at (k.twice b) in
          rw q (marks-say (bit m.once b) (bit m.twice b) (bit bm b) (occurs b reach) (bit-lt m.once b) (bit-lt m.twice b) (bit-lt bm b) (omega arith) (omega arith))
      go false q =
          let e = rw (q, start-out b h q) at (k.once b) in
          let f = rw (q, start-out b h q, blank-bit b h) at (k.twice b) in
          let a : bit m.once b ≡ 1 = let l = bit-lt m.once b in omega arith in
          let c : bit m.twice b ≡ 0 = omega arith in
          rw (q, a, c) (beq-true (eqb (bit bm b) 1))

  pub fault-is : (r : Option ℕ) → r ≡ lowest_to 4096 (wrong m bm) 0 → r ≡ found_of (bit_fault N reach 0 (bits_of bm))
  unfolding lowest_to bit
  fault-is r e =
      let l : length (bits_of bm) ≡ 4096 = omega (arith, length-bits bm) in
      e ∙ lowest-agree 4096 (wrong m bm) (λ b. not (block_sound N reach b (bit bm b))) 0 (λ b p h. wrong-is b h)
      ∙ ap (λ (i : ℕ). found_of (lowest 0 i (λ b. not (block_sound N reach b (bit bm b))))) (sym l)
      ∙ sym (ap found_of (bits-lowest N reach (bit bm) (bits_of bm) 0 (λ j h. ap (bit bm) (let y : j ≡ 0 + j = omega arith in y))))

-- the whole test of a disk, with its bitmap lent
pub disk-fault : (N : ℕ) (v : Disk) (s m : Marks) (bm lent : List ℕ) (r : Option ℕ) → Cleared s.once (max 42 N) → s.twice ≡ replicate 512 0 → Kept N m [] s (reached v)
    → exactly 512 lent ≡ v 33 → bm ≡ exactly 512 lent → r ≡ lowest_to 4096 (wrong m bm) 0 → r ≡ found_of (block_fault N v)
unfolding block_fault
disk-fault N v s m bm lent r start blank k l e h =
    fault-is N s m (reached v) bm start blank (ap length e ∙ length-exactly 512 lent) k r h
    ∙ ap (λ (x : List ℕ). found_of (bit_fault N (reached v) 0 (bits_of x))) (e ∙ l)
