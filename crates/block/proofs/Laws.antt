-- Laws of lent slices, their blocks and the numbers in them. Assumes nothing.
use Prim.Native.Nat.{ℕ, zero, suc, ◌+◌, ◌*◌, ◌-◌, ◌/◌, ◌%◌, ◌<◌, ◌≤◌}
use mathlib.Core.Path.{◌≡◌, refl, sym, ap, ◌∙◌, fun_ext}
use mathlib.Core.Bool.{Bool, true, false, cond, ◌&&◌, true≢false}
use mathlib.Core.List.{List, [], ◌∷◌, ◌++◌}
use mathlib.Core.Logic.{⊎_elim}
use native.Mathlib.Omega.{arith}
use borrow.Author.Tests.{eqb-true, eqb-false, eq-eqb, ne_eqb, leb-true}
use lib.Dec.{eqb, leb}
use lib.ListN.{length, take, drop, get_or, length-append, length-take, length-drop, get_or-append, get_or-eq_default}
use lib.Seq.{ext_get_or, take-nil, get_or-take, get_or-drop, get_or-append-add}
pub use Rattle.std.proofs.lemmas.Bool.{cases_lt as lt-or-le}
use Rattle.spec.specs.Bytes.{zeros, exactly, patch, number2, number4, bytes2, bytes4, same}
use Rattle.spec.specs.Disk.{Disk, Slice, blocks_of, with_block, slice_of, is_allowed}

-- ---- lists of a length

pub length-exactly : (n : ℕ) (xs : List ℕ) → length (exactly n xs) ≡ n
length-exactly zero xs = refl
length-exactly (suc n) [] = ap suc (length-exactly n [])
length-exactly (suc n) (x ∷ xs) = ap suc (length-exactly n xs)

-- at any place: past the end both are 0
pub exactly-byte : (n : ℕ) (xs : List ℕ) (i : ℕ) → get_or (exactly n xs) i 0 ≡ get_or (take n xs) i 0
exactly-byte zero xs i = refl
exactly-byte (suc n) [] zero = refl
exactly-byte (suc n) [] (suc i) = exactly-byte n [] i ∙ rw (take-nil {A = ℕ} n)
exactly-byte (suc n) (x ∷ xs) zero = refl
exactly-byte (suc n) (x ∷ xs) (suc i) = exactly-byte n xs i

pub get_or-exactly : (n : ℕ) (xs : List ℕ) (i : ℕ) → i < n → get_or (exactly n xs) i 0 ≡ get_or xs i 0
get_or-exactly n xs i h = exactly-byte n xs i ∙ get_or-take n xs i 0 h

-- a list is determined by its length and its bytes
exactly-is : (n : ℕ) (xs ys : List ℕ) → length ys ≡ n → ((i : ℕ) → i < n → get_or xs i 0 ≡ get_or ys i 0) → exactly n xs ≡ ys
exactly-is n xs ys l h =
    ext_get_or 0 (exactly n xs) ys (length-exactly n xs ∙ sym l)
    (λ i k. let j : i < n = rw (length-exactly n xs) at k in get_or-exactly n xs i j ∙ h i j)

pub exactly-all : (n : ℕ) (xs : List ℕ) → length xs ≡ n → exactly n xs ≡ xs
exactly-all n xs l = exactly-is n xs xs l (λ i h. refl)

-- the first n of enough
pub exactly-first : (n : ℕ) (xs ys : List ℕ) → n ≤ length xs → ys ≡ take n xs → ys ≡ exactly n xs
exactly-first n xs ys h e =
    e ∙ sym (exactly-is n xs (take n xs) (length-take n xs ∙ omega arith) (λ i k. sym (get_or-take n xs i 0 k)))

pub exactly-take : (n m : ℕ) (xs : List ℕ) → n ≤ m → exactly n (take m xs) ≡ exactly n xs
exactly-take n m xs h =
    exactly-is n (take m xs) (exactly n xs) (length-exactly n xs)
    (λ i k. get_or-take m xs i 0 (omega arith) ∙ sym (get_or-exactly n xs i k))

pub exactly-small : (n m : ℕ) (xs : List ℕ) → 0 < m → ((i : ℕ) → get_or xs i 0 < m) → (i : ℕ) → get_or (exactly n xs) i 0 < m
exactly-small n m xs p h i =
    ⊎_elim (λ (l : i < n). rw (get_or-exactly n xs i l) (h i))
    (λ (g : n ≤ i). rw (get_or-eq_default (exactly n xs) 0 {n = i} (rw (length-exactly n xs) g)) p)
    (lt-or-le i n)

pub exactly-nil : (n : ℕ) → exactly n [] ≡ zeros n
unfolding zeros
exactly-nil zero = refl
exactly-nil (suc n) = ap (λ (l : List ℕ). 0 ∷ l) (exactly-nil n)

-- ---- blocks

pub block-is : (xs : List ℕ) (b : ℕ) → blocks_of xs b ≡ exactly 512 (take 512 (drop (512 * b) xs))
unfolding blocks_of
block-is xs b = sym (exactly-take 512 512 (drop (512 * b) xs) (omega arith))

pub block-length : (xs : List ℕ) (b : ℕ) → length (blocks_of xs b) ≡ 512
unfolding blocks_of
block-length xs b = length-exactly 512 (drop (512 * b) xs)

pub block-byte : (xs : List ℕ) (b i : ℕ) → i < 512 → get_or (blocks_of xs b) i 0 ≡ get_or xs (512 * b + i) 0
unfolding blocks_of
block-byte xs b i h = get_or-exactly 512 (drop (512 * b) xs) i h ∙ get_or-drop (512 * b) xs i 0

pub block-small : (xs : List ℕ) (b : ℕ) → ((i : ℕ) → get_or xs i 0 < 256) → (i : ℕ) → get_or (blocks_of xs b) i 0 < 256
unfolding blocks_of
block-small xs b h = exactly-small 512 256 (drop (512 * b) xs) (omega arith) (λ i. rw (get_or-drop (512 * b) xs i 0) (h (512 * b + i)))

-- what copy_of makes of what block_in lends
pub block_read : (xs ys zs : List ℕ) (b : ℕ) → ys ≡ take 512 (drop (512 * b) xs) → zs ≡ exactly 512 ys → zs ≡ blocks_of xs b
block_read xs ys zs b p e = e ∙ ap (exactly 512) p ∙ sym (block-is xs b)

-- numbers of what block_in lends are those of the block, at any place
pub part-byte : (xs ys : List ℕ) (b i : ℕ) → ys ≡ take 512 (drop (512 * b) xs) → get_or ys i 0 ≡ get_or (blocks_of xs b) i 0
unfolding blocks_of
part-byte xs ys b i p = rw p (sym (exactly-byte 512 (drop (512 * b) xs) i))

pub part-number2 : (xs ys : List ℕ) (b at : ℕ) → ys ≡ take 512 (drop (512 * b) xs) → number2 at ys ≡ number2 at (blocks_of xs b)
part-number2 xs ys b at p = rw (part-byte xs ys b at p, part-byte xs ys b (at + 1) p)

-- the equation of two slices tells each byte
pub slice-bytes : (xs ys : List ℕ) → slice_of xs ≡ slice_of ys → xs ≡ ys
slice-bytes xs ys e =
    ext_get_or 0 xs ys (ap (λ (s : Slice). s.size) e)
    (λ i h.
    let p : i ≡ 512 * (i / 512) + i % 512 = omega arith in
    let l : i % 512 < 512 = omega arith in
    ap (λ (j : ℕ). get_or xs j 0) p
    ∙ sym (block-byte xs (i / 512) (i % 512) l)
    ∙ ap (λ (s : Slice). get_or (s.block (i / 512)) (i % 512) 0) e
    ∙ block-byte ys (i / 512) (i % 512) l
    ∙ sym (ap (λ (j : ℕ). get_or ys j 0) p))

-- ---- patches

module _ (at : ℕ) (x w : List ℕ) (fits : at + length x ≤ length w) where
  left : length (take at w) ≡ at
  left = simp length-take (omega arith)

  pub length-patch : length (patch at x w) ≡ length w
  length-patch = simp (length-append, length-take, length-drop) (omega arith)

  pub patch-before : (i : ℕ) → i < at → get_or (patch at x w) i 0 ≡ get_or w i 0
  patch-before i h =
      get_or-append (take at w) (x ++ drop (at + length x) w) 0 i (rw left h) ∙ get_or-take at w i 0 h

  from : (i : ℕ) → get_or (patch at x w) (at + i) 0 ≡ get_or (x ++ drop (at + length x) w) i 0
  from i =
      ap (λ (m : ℕ). get_or (patch at x w) (m + i) 0) (sym left)
      ∙ get_or-append-add (take at w) (x ++ drop (at + length x) w) i 0

  pub patch-in : (i : ℕ) → i < length x → get_or (patch at x w) (at + i) 0 ≡ get_or x i 0
  patch-in i h = from i ∙ get_or-append x (drop (at + length x) w) 0 i h

  pub patch-after : (i : ℕ) → at + length x ≤ i → get_or (patch at x w) i 0 ≡ get_or w i 0
  patch-after i h =
      let k : ℕ = i - (at + length x) in
      let p : i ≡ at + (length x + k) = omega arith in
      let q : at + length x + k ≡ i = omega arith in
      ap (λ (m : ℕ). get_or (patch at x w) m 0) p
      ∙ from (length x + k)
      ∙ get_or-append-add x (drop (at + length x) w) k 0
      ∙ get_or-drop (at + length x) w k 0
      ∙ ap (λ (m : ℕ). get_or w m 0) q

-- a block laid over
pub blocks-patch : (b : ℕ) (x w : List ℕ) → length x ≡ 512 → 512 * b + 512 ≤ length w → blocks_of (patch (512 * b) x w) ≡ with_block b x (blocks_of w)
blocks-patch b x w full fits = fun_ext (λ c. go c (eqb c b) refl)
  where
    p : List ℕ
    p = patch (512 * b) x w

    f : 512 * b + length x ≤ length w
    f = omega arith

    go : (c : ℕ) (t : Bool) → eqb c b ≡ t → blocks_of p c ≡ cond (eqb c b) x (blocks_of w c)
    go c true q =
        rw q (ext_get_or 0 (blocks_of p c) x (block-length p c ∙ sym full)
        (λ i h. let l : i < 512 = rw (block-length p c) at h in block-byte p c i l ∙ rw (eqb-true c b q) (patch-in (512 * b) x w f i (omega arith))))
    go c false q =
        let ne = eqb-false c b q in
        rw q (ext_get_or 0 (blocks_of p c) (blocks_of w c) (block-length p c ∙ sym (block-length w c))
        (λ i h.
        let l : i < 512 = rw (block-length p c) at h in
        block-byte p c i l
        ∙ ⊎_elim (λ (k : c < b). patch-before (512 * b) x w f (512 * c + i) (omega arith)) (λ (k : b ≤ c). patch-after (512 * b) x w f (512 * c + i) (omega arith)) (lt-or-le c b)
        ∙ sym (block-byte w c i l)))

-- one block of a disk stored: it, and any other
pub with-same : (b : ℕ) (x : List ℕ) (d : Disk) → with_block b x d b ≡ x
with-same b x d = rw (eq-eqb b b refl)

pub with-other : (b c : ℕ) (x : List ℕ) (d : Disk) → (c ≡ b → ⊥) → with_block b x d c ≡ d c
with-other b c x d h = rw (ne_eqb c b h)

-- ---- numbers read back

pub number2-bytes2 : (n : ℕ) → n < 65536 → number2 0 (bytes2 n) ≡ n
number2-bytes2 n h = omega arith

pub number4-bytes4 : (n : ℕ) → n < 4294967296 → number4 0 (bytes4 n) ≡ n
number4-bytes4 n h = let a = number2-bytes2 (n % 65536) (omega arith) in let b = number2-bytes2 (n / 65536) (omega arith) in omega arith

-- ---- equal lists

pub same_self : (xs : List ℕ) → same xs xs ≡ true
same_self [] = refl
same_self (x ∷ xs) = rw (eq-eqb x x refl) (same_self xs)

pub same_true : (xs ys : List ℕ) → same xs ys ≡ true → xs ≡ ys
same_true [] [] h = refl
same_true [] (y ∷ ys) h = cc
same_true (x ∷ xs) [] h = cc
same_true (x ∷ xs) (y ∷ ys) h = go (eqb x y) refl (same_true xs ys)
  where
    go : (t : Bool) → eqb x y ≡ t → (same xs ys ≡ true → xs ≡ ys) → x ∷ xs ≡ y ∷ ys
    go true q ih = rw (eqb-true x y q, ih (rw q at h))
    go false q ih = let z : false ≡ true = rw q at h in cc

-- ---- the length of a device

-- "512 times an allowed N", N from 64 to 4,096
pub record Allowed (size : ℕ) : Type 0 where
  pub whole : size % 512 ≡ 0
  pub low : 64 ≤ size / 512
  pub high : size / 512 ≤ 4096

pub allowed-says : (size : ℕ) → is_allowed size ≡ true → Allowed size
unfolding is_allowed
allowed-says size h = go (eqb (size % 512) 0) refl (leb 64 (size / 512)) refl (leb (size / 512) 4096) refl h
  where
    go : (a : Bool) → eqb (size % 512) 0 ≡ a → (b : Bool) → leb 64 (size / 512) ≡ b → (c : Bool) → leb (size / 512) 4096 ≡ c
        → (a && b && c) ≡ true → Allowed size
    go true p true q true r e = record { whole = eqb-true (size % 512) 0 p; low = leb-true 64 (size / 512) q; high = leb-true (size / 512) 4096 r }
    go true p true q false r e = absurd (true≢false (sym e))
    go true p false q c r e = absurd (true≢false (sym e))
    go false p b q c r e = absurd (true≢false (sym (shut b c e)))
      where
        shut : (b c : Bool) → (false && b && c) ≡ true → false ≡ true
        shut b c e = e
