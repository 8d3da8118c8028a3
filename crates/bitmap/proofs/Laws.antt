-- Laws of the bitmap: bytes and bits, the count of zero bits, the lowest one, one bit changed.
use Prim.Native.Nat.{ℕ, zero, suc, ◌+◌, ◌-◌, ◌*◌, ◌/◌, ◌%◌, ◌^◌, ◌≤◌, ◌<◌}
use mathlib.Core.Path.{◌≡◌, refl, sym, ap, ap₂, ◌∙◌}
use mathlib.Core.Bool.{Bool, true, false, cond}
use mathlib.Core.List.{List, [], ◌∷◌, ◌++◌, map, append-nil}
use mathlib.Core.Option.{Option, none, some}
use native.Mathlib.Nat.{add-zero}
use native.Mathlib.Omega.{arith}
use native.Mathlib.Decide.{dec_lt}
use borrow.Author.Tests.{eqb-true, eqb-false, eq-eqb}
use lib.Dec.{eqb}
use lib.ListN.{length, take, drop, get_or, set, replicate, length-append, length-take, length-drop, length-replicate, take-append-drop, get_or-append, get_or-eq_default}
use lib.Seq.{length-take-le, get_or-drop, take-set-le, take-take}
use Rattle.spec.specs.Bytes.{occurs, place, place_from, pieces}
use Rattle.spec.specs.declared.DiskBlock.{DiskBlock}
use Rattle.spec.specs.Disk.{disk_block}
use Rattle.spec.specs.Bitmap.{bits_of_byte, bits_of, byte_of, bytes_of, free_bits}
use Rattle.std.specs.Prelude.{Some, None}
use Rattle.bitmap.specs.Words.{Below, Table, found_of}
use Rattle.bitmap.proofs.Numbers.{low_bits, byte_low, low_bit, byte-of-low, low-byte-of}

-- ---- the bits of the table

pub length-bits : (t : List ℕ) → length (bits_of t) ≡ 8 * length t
unfolding bits_of
length-bits [] = refl
length-bits (x ∷ xs) = omega (arith, length-bits xs)

pub drop-byte : (x : ℕ) (xs : List ℕ) (i : ℕ) → drop (8 * suc i) (bits_of (x ∷ xs)) ≡ drop (8 * i) (bits_of xs)
unfolding bits_of
drop-byte x xs i =
    let e : 8 * suc i ≡ suc (suc (suc (suc (suc (suc (suc (suc (8 * i)))))))) = omega arith in
    rw e

-- byte i, and what follows it
pub byte-bits : (t : List ℕ) (i : ℕ) → i < length t → drop (8 * i) (bits_of t) ≡ bits_of_byte (get_or t i 0) ++ drop (8 * suc i) (bits_of t)
unfolding bits_of
byte-bits [] i h = absurd (omega arith)
byte-bits (x ∷ xs) zero h = refl
byte-bits (x ∷ xs) (suc i) h = rw (drop-byte x xs (suc i), drop-byte x xs i) (byte-bits xs i (omega arith))

-- "block b is bit b mod 8 (lowest first) of byte b div 8"
pub bit_at : (t : List ℕ) (b d : ℕ) → b < 8 * length t → get_or (bits_of t) b d ≡ get_or t (b / 8) 0 / 2 ^ (b % 8) % 2
bit_at t b d h =
    let x : ℕ = get_or t (b / 8) 0 in
    let e : b ≡ 8 * (b / 8) + b % 8 = omega arith in
    let r : b % 8 < 8 = omega arith in
    ap (λ (j : ℕ). get_or (bits_of t) j d) e ∙ sym (get_or-drop (8 * (b / 8)) (bits_of t) (b % 8) d)
    ∙ ap (λ (l : List ℕ). get_or l (b % 8) d) (byte-bits t (b / 8) (omega arith))
    ∙ get_or-append (bits_of_byte x) (drop (8 * suc (b / 8)) (bits_of t)) d (b % 8) r ∙ ap (λ (l : List ℕ). get_or l (b % 8) d) (byte_low x) ∙ low_bit 8 x (b % 8) d r

-- each bit is 0 or 1
pub bits-binary : (t : List ℕ) → Below 2 (bits_of t)
bits-binary t b = go (dec_lt b (8 * length t))
  where
    go : Dec (b < 8 * length t) → get_or (bits_of t) b 0 < 2
    go (yes h) = omega (arith, bit_at t b 0 h)
    go (no h) = omega (arith, get_or-eq_default (bits_of t) 0 {n = b} (omega (arith, length-bits t)))

-- ---- bytes and bits are inverse

bytes-pieces : (t : List ℕ) → Below 256 t → map byte_of (pieces (length t) 8 (bits_of t)) ≡ t
unfolding bits_of
bytes-pieces [] h = refl
bytes-pieces (x ∷ xs) h =
    ap₂ (λ (y : ℕ) (ys : List ℕ). y ∷ ys) (ap byte_of (byte_low x) ∙ byte-of-low 8 x (h 0)) (bytes-pieces xs (λ i. h (suc i)))

-- so the bits determine the bytes
pub bytes_bits : (t : List ℕ) → Table t → bytes_of (bits_of t) ≡ t
unfolding bytes_of
bytes_bits t table = ap (λ (n : ℕ). map byte_of (pieces n 8 (bits_of t))) (sym table.full) ∙ bytes-pieces t table.bytes

below-take : (k : ℕ) (xs : List ℕ) (n : ℕ) → Below n xs → Below n (take k xs)
below-take zero xs n h i = omega (arith, h (length xs))
below-take (suc k) [] n h i = h i
below-take (suc k) (x ∷ xs) n h zero = h 0
below-take (suc k) (x ∷ xs) n h (suc i) = below-take k xs n (λ j. h (suc j)) i

bits-pieces : (m : ℕ) (bits : List ℕ) → length bits ≡ 8 * m → Below 2 bits → bits_of (map byte_of (pieces m 8 bits)) ≡ bits
unfolding bits_of
bits-pieces zero [] l h = refl
bits-pieces zero (x ∷ xs) l h = absurd (omega arith)
bits-pieces (suc m) bits l h =
    let e : length (take 8 bits) ≡ 8 = length-take-le 8 bits (omega arith) in
    ap₂ (λ (a b : List ℕ). a ++ b)
    (byte_low (byte_of (take 8 bits)) ∙ ap (λ (n : ℕ). low_bits n (byte_of (take 8 bits))) (sym e) ∙ low-byte-of (take 8 bits) (below-take 8 bits 2 h))
    (bits-pieces m (drop 8 bits) (length-drop 8 bits ∙ omega arith) (λ i. rw get_or-drop (h (8 + i))))
    ∙ take-append-drop 8 bits

pub bits-bytes : (bits : List ℕ) → length bits ≡ 4096 → Below 2 bits → bits_of (bytes_of bits) ≡ bits
unfolding bytes_of
bits-bytes bits l h = bits-pieces 512 bits l h

-- ---- bytes of it cleared, as a fill leaves them

below-drop : (k n : ℕ) (xs : List ℕ) → Below n xs → Below n (drop k xs)
below-drop k n xs h i = rw get_or-drop (h (k + i))

below-append : (n : ℕ) (xs ys : List ℕ) → Below n xs → Below n ys → Below n (xs ++ ys)
below-append n [] ys h k i = k i
below-append n (x ∷ xs) ys h k zero = h 0
below-append n (x ∷ xs) ys h k (suc i) = below-append n xs ys (λ j. h (suc j)) k i

below-zeros : (k : ℕ) → Below 256 (replicate k 0)
below-zeros zero i = omega arith
below-zeros (suc k) zero = omega arith
below-zeros (suc k) (suc i) = below-zeros k i

pub table-filled : (t zs : List ℕ) (i e : ℕ) → Table t → i ≤ e → e ≤ 512 → zs ≡ replicate (length (take (e - i) (drop i t))) 0
    → Table (take i t ++ (zs ++ drop (e - i) (drop i t)))
table-filled t zs i e table l h z =
    let few = ap length z ∙ length-replicate {A = ℕ} _ 0 in
    let part = length-take (e - i) (drop i t) in
    let rest = length-drop i t in
    record {
      full = simp (length-append, length-take, length-drop) (omega (arith, few, part, rest, table.full));
      bytes = below-append 256 (take i t) _ (below-take i t 256 table.bytes)
          (below-append 256 zs _ (rw z (below-zeros _)) (below-drop (e - i) 256 (drop i t) (below-drop i 256 t table.bytes)));
    }

-- ---- the count of zero bits

pub occurs-append : (b : ℕ) (xs ys : List ℕ) → occurs b (xs ++ ys) ≡ occurs b xs + occurs b ys
occurs-append b [] ys = omega arith
occurs-append b (x ∷ xs) ys = omega (arith, occurs-append b xs ys)

pub free-le : (bits : List ℕ) → free_bits bits ≤ length bits
free-le [] = omega arith
free-le (x ∷ xs) = go (eqb x 0) (free-le xs)
  where
    go : (t : Bool) → free_bits xs ≤ length xs → cond t 1 0 + free_bits xs ≤ suc (length xs)
    go true h = omega arith
    go false h = omega arith

-- a zero bit set
pub free-set : (bits : List ℕ) (b : ℕ) → b < length bits → get_or bits b 0 ≡ 0 → free_bits (set bits b 1) + 1 ≡ free_bits bits
free-set [] b h z = absurd (omega arith)
free-set (x ∷ xs) zero h z = rw (eq-eqb x 0 z) (omega arith)
free-set (x ∷ xs) (suc b) h z = omega (arith, free-set xs b (omega arith) z)

-- ---- the lowest zero bit

-- past bits of which none is 0
pub place_after : (i : ℕ) (xs ys : List ℕ) → free_bits xs ≡ 0 → place_from i 0 (xs ++ ys) ≡ place_from (i + length xs) 0 ys
place_after i [] ys h = ap (λ (n : ℕ). place_from n 0 ys) (sym (add-zero i))
place_after i (x ∷ xs) ys h = go (eqb x 0) refl (place_after (suc i) xs ys)
  where
    go : (t : Bool) → eqb x 0 ≡ t → (free_bits xs ≡ 0 → place_from (suc i) 0 (xs ++ ys) ≡ place_from (suc i + length xs) 0 ys)
        → place_from i 0 (x ∷ xs ++ ys) ≡ place_from (i + suc (length xs)) 0 ys
    go true q rest = let z = rw q at h in absurd (omega arith)
    go false q rest = let z = rw q at h in rw q (rest (omega arith) ∙ ap (λ (n : ℕ). place_from n 0 ys) (omega arith))

-- no bit is 0 exactly if there is no lowest one
pub none-placed : (bits : List ℕ) → free_bits bits ≡ 0 → place 0 bits ≡ none
none-placed bits h = ap (place 0) (sym (append-nil bits)) ∙ place_after 0 bits [] h

free-none : (i : ℕ) (bits : List ℕ) → place_from i 0 bits ≡ none → free_bits bits ≡ 0
free-none i [] e = refl
free-none i (x ∷ xs) e = go (eqb x 0) refl (free-none (suc i) xs)
  where
    go : (t : Bool) → eqb x 0 ≡ t → (place_from (suc i) 0 xs ≡ none → free_bits xs ≡ 0) → free_bits (x ∷ xs) ≡ 0
    go true q rest = let f : some i ≡ none = rw q at e in cc
    go false q rest = let f = rw q at e in rw q (omega (arith, rest f))

pub none_free : (bits : List ℕ) → place 0 bits ≡ none → free_bits bits ≡ 0
none_free bits e = free-none 0 bits e

-- what the lowest place says
pub record Lowest (bits : List ℕ) (b : ℕ) : Type 0 where
  pub inside : b < length bits
  pub zero_bit : get_or bits b 0 ≡ 0
  pub lower : (j : ℕ) → j < b → get_or bits j 0 ≡ 0 → ⊥
  pub taken : free_bits (take b bits) ≡ 0

placed : (i : ℕ) (bits : List ℕ) (r : ℕ) → place_from i 0 bits ≡ some r → (b : ℕ) × (r ≡ i + b) × Lowest bits b
placed i [] r e = let z : ◌≡◌ {A = ℕ} 0 1 = cc in absurd (omega arith)
placed i (x ∷ xs) r e = go (eqb x 0) refl (placed (suc i) xs r)
  where
    Placed : Type 0
    Placed = (b : ℕ) × (r ≡ i + b) × Lowest (x ∷ xs) b

    go : (t : Bool) → eqb x 0 ≡ t → (place_from (suc i) 0 xs ≡ some r → (b : ℕ) × (r ≡ suc i + b) × Lowest xs b) → Placed
    go true q rest =
        let f : some i ≡ some r = rw q at e in
        let s : i ≡ r = cc in
        (0, omega arith, record { inside = omega arith; zero_bit = eqb-true x 0 q; lower = λ j l z. omega arith; taken = refl })
    go false q rest = let f = rw q at e in later (rest f)
      where
        later : (b : ℕ) × (r ≡ suc i + b) × Lowest xs b → Placed
        later p = let s = p.1 in (
          suc p.0,
          omega arith,
          record { inside = omega (arith, p.2.inside); zero_bit = p.2.zero_bit; lower = lower; taken = rw q (omega (arith, p.2.taken)) },
        )
          where
            lower : (j : ℕ) → j < suc p.0 → get_or (x ∷ xs) j 0 ≡ 0 → ⊥
            lower zero l z = eqb-false x 0 q z
            lower (suc j) l z = p.2.lower j (omega arith) z

pub lowest-says : (bits : List ℕ) (b : ℕ) → place 0 bits ≡ some b → Lowest bits b
lowest-says bits b e = let p = placed 0 bits b e in let s : p.0 ≡ b = omega (arith, p.1) in rw s at p.2

-- after the lowest zero bit is set, no bit below its word is 0
pub taken-below : (bits : List ℕ) (b : ℕ) → place 0 bits ≡ some b → free_bits (take (64 * (b / 64)) (set bits b 1)) ≡ 0
taken-below bits b e =
    let k : ℕ = 64 * (b / 64) in
    let l : k ≤ b = omega arith in
    rw (take-set-le k bits b 1 l, ← take-take k b bits l) (fewer k (take b bits) (lowest-says bits b e).taken)
  where
    fewer : (k : ℕ) (xs : List ℕ) → free_bits xs ≡ 0 → free_bits (take k xs) ≡ 0
    fewer k xs h = omega (arith, occurs-append 0 (take k xs) (drop k xs), ap free_bits (take-append-drop k xs))

-- the code's answer tells the place
pub found_at : (o : Option ℕ) (b : DiskBlock) → Some b ≡ found_of o → o ≡ some b.0
found_at none b e = cc
found_at (some a) b e = let q : disk_block a ≡ b = cc in ap (λ (x : DiskBlock). some x.0) q

pub found_nothing : (o : Option ℕ) → None ≡ found_of o → o ≡ none
found_nothing none e = refl
found_nothing (some a) e = cc

-- what a caller that is told the lowest zero bit, and sets it, knows
pub record Next (bits : List ℕ) (b : ℕ) : Type 0 where
  pub within : b < 4096
  pub is-place : place 0 bits ≡ some b
  pub fewer : free_bits (set bits b 1) + 1 ≡ free_bits bits
  pub below : free_bits (take (64 * (b / 64)) (set bits b 1)) ≡ 0

pub next-free : (t : List ℕ) (found : DiskBlock) → Table t → Some found ≡ found_of (place 0 (bits_of t)) → Next (bits_of t) found.0
next-free t found table e =
    let b = found.0 in
    let p = found_at (place 0 (bits_of t)) found e in
    let l = lowest-says (bits_of t) b p in
    record {
      within = omega (arith, l.inside, length-bits t, table.full);
      is-place = p;
      fewer = free-set (bits_of t) b l.inside l.zero_bit;
      below = taken-below (bits_of t) b p;
    }
