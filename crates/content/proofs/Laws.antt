-- Laws of the content of blocks after a change. Assumes nothing.
use Prim.Native.Nat.{ℕ, zero, suc, ◌+◌, ◌*◌, ◌-◌, ◌/◌, ◌%◌, ◌<◌, ◌≤◌, min}
use mathlib.Core.Path.{◌≡◌, refl, sym, ap, ◌∙◌}
use mathlib.Core.Bool.{Bool, true, false, cond, not, ◌&&◌, true≢false}
use mathlib.Core.Logic.{◌⊎◌, inl, inr}
use mathlib.Core.List.{List, [], ◌∷◌, ◌++◌, append_assoc, append-nil}
use native.Mathlib.Omega.{arith}
use native.Mathlib.Nat.{add-zero}
use native.Mathlib.Numerals.{add-one}
use borrow.Author.Tests.{eqb-true, leb-true, le-leb, lt-leb, lt-ltb, le-ltb}
use lib.Dec.{eqb, leb, ltb}
use lib.ListN.{length, take, drop, get_or, replicate, length-take, length-drop, take-append-drop, drop_of_length-le}
use lib.Seq.{take-suc, drop-cons, drop-drop, take-append_seam, drop-append_seam}
use Rattle.lists.specs.Tests.{both_true}
use Rattle.spec.specs.Bytes.{exactly, zeros, bytes2}
use Rattle.block.proofs.Laws.{lt-or-le, length-exactly, exactly-nil}
use Rattle.block.proofs.Steps.{filled}
use Rattle.spec.specs.declared.Extent.{Extent}
use Rattle.spec.specs.Inode.{extent, bytes_of_slots}
use Rattle.spec.specs.Plan.{overlay, clear_tail, is_last_kept}
use Rattle.spec.specs.declared.FileBlock.{FileBlock}
use Rattle.std.specs.Prelude.{Option, Some, None, MatchOption}
use Rattle.content.specs.Content.{with_record, node_content, laid_over, last_kept, kept_content, data_content}

-- ---- a record

-- the bytes of a record put in where the record stands
pub record-laid : (i at : ℕ) (q new old : List ℕ) → at ≡ 32 * (i % 16) → q ≡ new
    → take at old ++ (q ++ drop (at + length new - at) (drop at old)) ≡ with_record i new old
unfolding with_record
record-laid i at q new old ea eq =
    let z : at + length new - at ≡ length new = omega arith in
    rw (z, drop-drop (length new) at old, eq, ea)

-- ---- a node

bytes-append : (xs ys : List Extent) → bytes_of_slots (xs ++ ys) ≡ bytes_of_slots xs ++ bytes_of_slots ys
bytes-append [] ys = refl
bytes-append (x ∷ xs) ys = simp (bytes-append xs ys, append_assoc)

length-bytes : (es : List Extent) → length (bytes_of_slots es) ≡ 4 * length es
length-bytes [] = refl
length-bytes (e ∷ es) = let h = length-bytes es in omega arith

-- one more slot laid
pub slots-more : (out old q : List ℕ) (es : List Extent) (k : ℕ) → out ≡ bytes_of_slots (take k es) ++ drop (4 * k) old → k < length es
    → q ≡ bytes2 (get_or es k (extent 0 0)).first ++ bytes2 (get_or es k (extent 0 0)).count
    → take (4 * k) out ++ (q ++ drop (4 * k + 4 - 4 * k) (drop (4 * k) out)) ≡ bytes_of_slots (take (k + 1) es) ++ drop (4 * (k + 1)) old
slots-more out old q es k eo h eq =
    let xs = bytes_of_slots (take k es) in
    let e = get_or es k (extent 0 0) in
    let bs = bytes2 e.first ++ bytes2 e.count in
    let lk : length (take k es) ≡ k = simp length-take (omega arith) in
    let l : length xs ≡ 4 * k = omega (arith, length-bytes (take k es)) in
    let z : 4 * k + 4 - 4 * k ≡ 4 = omega arith in
    let y : 4 * (k + 1) ≡ 4 * k + 4 = omega arith in
    let t : take (4 * k) (xs ++ drop (4 * k) old) ≡ xs = ap (λ (n : ℕ). take n (xs ++ drop (4 * k) old)) (sym l) ∙ take-append_seam xs (drop (4 * k) old) in
    let d : drop (4 * k) (xs ++ drop (4 * k) old) ≡ drop (4 * k) old = ap (λ (n : ℕ). drop n (xs ++ drop (4 * k) old)) (sym l) ∙ drop-append_seam xs (drop (4 * k) old) in
    rw (eo, eq, z, t, d, drop-drop 4 (4 * k) old, y, add-one k, take-suc es k (extent 0 0) h, bytes-append (take k es) (e ∷ []))
    (sym (append_assoc xs bs (drop (4 * k + 4) old)))

pub node-laid : (es own : List Extent) (j : ℕ) (out : List ℕ) → own ≡ take 128 (drop (128 * j) es) → out ≡ bytes_of_slots own ++ drop (4 * length own) (replicate 512 0)
    → out ≡ node_content es j
unfolding node_content
node-laid es own j out eo e =
    let l : length own ≤ 128 = omega (arith, ap length eo, length-take 128 (drop (128 * j) es)) in
    let b = length-bytes own in
    e ∙ ap (λ (k : ℕ). bytes_of_slots own ++ drop k (replicate 512 0)) (sym b) ∙ filled 512 (bytes_of_slots own) (omega (arith, b, l))
    ∙ ap (λ (xs : List Extent). exactly 512 (bytes_of_slots xs)) eo

-- ---- a data block

-- the data does not reach the first k bytes
over_skip : (x : ℕ) (bytes : List ℕ) (k at : ℕ) (old : List ℕ) → k ≤ x - at → overlay x bytes at old ≡ take k old ++ overlay x bytes (at + k) (drop k old)
over_skip x bytes zero at old h = rw (add-zero at)
over_skip x bytes (suc k) at [] h = refl
over_skip x bytes (suc k) at (o ∷ old) h =
    let e : at + suc k ≡ suc at + k = omega arith in
    rw (lt-leb x at (omega arith), e) (ap (λ (l : List ℕ). o ∷ l) (over_skip x bytes k (suc at) old (omega arith)))

-- nor any behind its end
over-past : (x : ℕ) (bytes : List ℕ) (at : ℕ) (old : List ℕ) → x + length bytes ≤ at → overlay x bytes at old ≡ old
over-past x bytes at [] h = refl
over-past x bytes at (o ∷ old) h =
    rw (le-leb x at (omega arith), le-ltb at (x + length bytes) h) (ap (λ (l : List ℕ). o ∷ l) (over-past x bytes (suc at) old (omega arith)))

-- the data holds the first n bytes
over-in : (x : ℕ) (bytes : List ℕ) (n at : ℕ) (old : List ℕ) → x ≤ at → at + n ≤ x + length bytes → n ≤ length old
    → overlay x bytes at old ≡ take n (drop (at - x) bytes) ++ overlay x bytes (at + n) (drop n old)
over-in x bytes zero at old h m l = rw (add-zero at)
over-in x bytes (suc n) at [] h m l = absurd (omega arith)
over-in x bytes (suc n) at (o ∷ old) h m l =
    let e : at + suc n ≡ suc at + n = omega arith in
    let z : suc at - x ≡ suc (at - x) = omega arith in
    let ih : overlay x bytes (suc at) old ≡ take n (drop (suc (at - x)) bytes) ++ overlay x bytes (suc at + n) (drop n old) = rw z at (over-in x bytes n (suc at) old (omega arith) (omega arith) (omega arith)) in
    rw (le-leb x at h, lt-ltb at (x + length bytes) (omega arith), e, drop-cons bytes (at - x) 0 (omega arith)) (ap (λ (r : List ℕ). get_or bytes (at - x) 0 ∷ r) ih)

-- n bytes of data at x reach block p from one place to another
pub record Reach (x n p from end : ℕ) : Type 0 where
  pub skipped : from ≤ x - 512 * p
  pub low : x ≤ 512 * p + from
  pub ahead : from < end
  pub high : 512 * p + end ≤ x + n
  pub inside : end ≤ 512
  pub last : min 512 (x + n - 512 * p) ≤ end

pub reach : (x n p from end : ℕ) → from ≡ min 512 (x - 512 * p) → end ≡ min 512 (x + n - 512 * p) → from < end → Reach x n p from end
reach x n p from end a b h = record { skipped = omega arith; low = omega arith; ahead = h; high = omega arith; inside = omega arith; last = omega arith }

module _ (x : ℕ) (bytes : List ℕ) (p : ℕ) (old : List ℕ) (whole : length old ≡ 512) where
  -- from the end of the data on the block stays as it was
  over-rest : (k : ℕ) → min 512 (x + length bytes - 512 * p) ≤ k → overlay x bytes (512 * p + k) (drop k old) ≡ drop k old
  over-rest k h = go (lt-or-le k 512)
    where
      go : (k < 512) ⊎ (512 ≤ k) → overlay x bytes (512 * p + k) (drop k old) ≡ drop k old
      go (inl m) = over-past x bytes (512 * p + k) (drop k old) (omega arith)
      go (inr m) = rw (drop_of_length-le old {i = k} (omega arith))

  -- no byte of the data lies in the block
  pub over_none : (from end : ℕ) → from ≡ min 512 (x - 512 * p) → end ≡ min 512 (x + length bytes - 512 * p) → end ≤ from → old ≡ laid_over x bytes p old
  unfolding laid_over
  over_none from end a b h = sym (over_skip x bytes from (512 * p) old (omega arith) ∙ ap (λ (r : List ℕ). take from old ++ r) (over-rest from (omega arith)) ∙ take-append-drop from old)

  -- the part that it reaches: as long as its bytes there, and lent and given back with these in it
  module _ (from end : ℕ) (h : Reach x (length bytes) p from end) where
    many : 512 * p + end - x - (512 * p + from - x) ≡ end - from
    many = omega (arith, h.low, h.ahead)

    pub part-laid : (y : List ℕ) → y ≡ take (512 * p + end - x - (512 * p + from - x)) (drop (512 * p + from - x) bytes)
        → take from old ++ (y ++ drop (end - from) (drop from old)) ≡ laid_over x bytes p old
    unfolding laid_over
    part-laid y e =
        let m : 512 * p + from + (end - from) ≡ 512 * p + end = omega (arith, h.ahead) in
        let j : from + (end - from) ≡ end = omega (arith, h.ahead) in
        let l : end - from ≤ length (drop from old) = simp length-drop (omega (arith, h.ahead, h.inside)) in
        let d : drop (end - from) (drop from old) ≡ drop end old = drop-drop (end - from) from old ∙ ap (λ (k : ℕ). drop k old) j in
        rw (e, many, d)
        (sym (over_skip x bytes from (512 * p) old h.skipped
        ∙ ap (λ (r : List ℕ). take from old ++ r) (over-in x bytes (end - from) (512 * p + from) (drop from old) h.low (omega (arith, h.high, h.ahead)) l
        ∙ rw (m, d, over-rest end h.last))))

  -- of a block that the data covers nothing is left
  over-whole : x ≤ 512 * p → 512 * p + 512 ≤ x + length bytes → laid_over x bytes p old ≡ take 512 (drop (512 * p - x) bytes)
  unfolding laid_over
  over-whole h m =
      over-in x bytes 512 (512 * p) old h m (omega arith)
      ∙ rw (drop_of_length-le old {i = 512} (omega arith)) (append-nil (take 512 (drop (512 * p - x) bytes)))

-- ---- a block cleared from a place on

exactly-zeros : (n m : ℕ) (xs : List ℕ) → length xs + m ≡ n → xs ++ replicate m 0 ≡ exactly n xs
exactly-zeros zero zero [] h = refl
exactly-zeros zero (suc m) [] h = absurd (omega arith)
exactly-zeros zero m (x ∷ xs) h = absurd (omega arith)
exactly-zeros (suc n) zero [] h = absurd (omega arith)
exactly-zeros (suc n) (suc m) [] h = ap (λ (l : List ℕ). 0 ∷ l) (exactly-zeros n m [] (omega arith))
exactly-zeros (suc n) m (x ∷ xs) h = ap (λ (l : List ℕ). x ∷ l) (exactly-zeros n m xs (omega arith))

-- the size of the last kept block
last-kept : (old_size size p : ℕ) → is_last_kept old_size size p ≡ true → size - 512 * p ≡ size % 512
last-kept old_size size p h = go (ltb size old_size) (eqb (size % 512) 0) (eqb p (size / 512)) refl refl refl
  where
    go : (a b c : Bool) → ltb size old_size ≡ a → eqb (size % 512) 0 ≡ b → eqb p (size / 512) ≡ c → size - 512 * p ≡ size % 512
    go a b true ea eb ec = let e = eqb-true p (size / 512) ec in omega arith
    go true true false ea eb ec = let z : false ≡ true = rw (ea, eb) at h in absurd (true≢false (sym z))
    go true false false ea eb ec = let z : false ≡ true = rw (ea, eb, ec) at h in absurd (true≢false (sym z))
    go false b false ea eb ec = let z : false ≡ true = rw ea at h in absurd (true≢false (sym z))

module _ (held old_size size p : ℕ) (old : List ℕ) where
  pub kept_new : held ≤ p → length old ≡ 512 → (q : List ℕ) → q ≡ replicate (length old) 0 → q ≡ kept_content held old_size size p old
  unfolding kept_content zeros
  kept_new h l q e = rw (e, l, le-leb held p h)

  pub kept-cut : p < held → is_last_kept old_size size p ≡ true → length old ≡ 512 → (q : List ℕ) → q ≡ replicate (length (take (512 - size % 512) (drop (size % 512) old))) 0
      → take (size % 512) old ++ (q ++ drop (512 - size % 512) (drop (size % 512) old)) ≡ kept_content held old_size size p old
  unfolding kept_content
  kept-cut h t l q e =
      let n = size % 512 in
      let m : length (take n old) ≡ n = simp length-take (omega arith) in
      let r : length (take (512 - n) (drop n old)) ≡ 512 - n = simp (length-take, length-drop) (omega arith) in
      let z : length (drop n old) ≤ 512 - n = simp length-drop (omega arith) in
      rw (lt-leb held p h, t, last-kept old_size size p t, e, drop_of_length-le (drop n old) z, r)
      (ap (λ (xs : List ℕ). take n old ++ xs) (append-nil (replicate (512 - n) 0)) ∙ exactly-zeros 512 (512 - n) (take n old) (omega arith))

  pub kept_same : p < held → is_last_kept old_size size p ≡ false → old ≡ kept_content held old_size size p old
  unfolding kept_content
  kept_same h l = rw (lt-leb held p h, l)

  length-kept : length old ≡ 512 → length (kept_content held old_size size p old) ≡ 512
  unfolding kept_content
  length-kept l = go (leb held p) (is_last_kept old_size size p)
    where
      go : (a b : Bool) → length (cond a (zeros 512) (cond b (clear_tail size p old) old)) ≡ 512
      go true b = sym (ap length (exactly-nil 512)) ∙ length-exactly 512 []
      go false true = length-exactly 512 (take (size - 512 * p) old)
      go false false = l

-- what the data is laid over: what is kept of the block, or all of it where the data covers it
pub record Under (held old_size size x : ℕ) (bytes : List ℕ) (p : ℕ) (old block : List ℕ) : Type 0 where
  pub long : length block ≡ 512
  pub is : laid_over x bytes p block ≡ data_content held old_size size x bytes p old

module _ (held old_size size x : ℕ) (bytes : List ℕ) (p : ℕ) (old block : List ℕ) (l : length old ≡ 512) where
  pub under-kept : block ≡ kept_content held old_size size p old → Under held old_size size x bytes p old block
  unfolding kept_content laid_over data_content
  under-kept e = record { long = ap length e ∙ length-kept held old_size size p old l; is = rw e }

  pub under-covered : leb x (512 * p) && leb (512 * p + 512) (x + length bytes) ≡ true → block ≡ old → Under held old_size size x bytes p old block
  unfolding kept_content laid_over data_content
  under-covered h e =
      let t = both_true (leb x (512 * p)) (leb (512 * p + 512) (x + length bytes)) h in
      let a = leb-true x (512 * p) t.0 in
      let b = leb-true (512 * p + 512) (x + length bytes) t.1 in
      let n : length block ≡ 512 = ap length e ∙ l in
      record { long = n; is = over-whole x bytes p block n a b ∙ sym (over-whole x bytes p (kept_content held old_size size p old) (length-kept held old_size size p old l) a b) }

-- ---- the last kept block

-- whether a place that was found is p
abbrev is_at : Option FileBlock → ℕ → Bool
is_at None p = false
is_at (Some k) p = eqb p k.0

kept-at : (old size p : ℕ) → is_at (last_kept old size) p ≡ is_last_kept old size p
unfolding last_kept
kept-at old size p = go (ltb size old && not (eqb (size % 512) 0))
  where
    go : (t : Bool) → is_at (cond t (Some (record { 0 = size / 512 })) None) p ≡ t && eqb p (size / 512)
    go true = refl
    go false = refl

-- the test of the place that was found, if any: Q is what a test of it tells
pub kept-test : (old size p : ℕ) (o : Option FileBlock) (r : Bool) (Q : FileBlock → Type 0) → o ≡ last_kept old size → MatchOption o (r ≡ false) Q
    → ((k : FileBlock) → Q k → r ≡ eqb p k.0) → r ≡ is_last_kept old size p
kept-test old size p o r Q e m h = go o m ∙ ap (λ (o : Option FileBlock). is_at o p) e ∙ kept-at old size p
  where
    go : (o : Option FileBlock) → MatchOption o (r ≡ false) Q → r ≡ is_at o p
    go None m = m
    go (Some k) m = h k m

pub kept-none : (old size p : ℕ) → ◌≡◌ {A = Option FileBlock} None (last_kept old size) → false ≡ is_last_kept old size p
kept-none old size p e = ap (λ (o : Option FileBlock). is_at o p) e ∙ kept-at old size p

pub kept-place : (old size : ℕ) (k : FileBlock) → Some k ≡ last_kept old size → k.0 ≡ size / 512
unfolding last_kept
kept-place old size k = go (ltb size old && not (eqb (size % 512) 0))
  where
    go : (t : Bool) → Some k ≡ cond t (Some (record { 0 = size / 512 })) None → k.0 ≡ size / 512
    go true e = let f : k ≡ record { 0 = size / 512 } = cc in ap (λ (b : FileBlock). b.0) f
    go false e = cc
