-- The data blocks of a file after a write or a change of size, byte by byte, against its content before. Assumes nothing.
use Rattle.std.specs.Prelude.{ℕ, zero, suc, ◌+◌, ◌*◌, ◌-◌, ◌/◌, ◌%◌, ◌≤◌, ◌<◌, ◌≡◌, refl, Bool, true, false, cond, ◌&&◌, ◌||◌, ◌⊎◌, List, [], ◌∷◌, ◌++◌, map, leb, ltb, length, take, get_or}
use Rattle.std.proofs.Common.{sym, ap, ap₂, ◌∙◌, true≢false, inl, inr, length-take, get_or-append-add, get_or-take, arith, eq-eqb, ne_eqb, lt-ltb, le-ltb, le-leb}
use Rattle.std.proofs.Math.ListN.{get_or-append, get_or-eq_default}
use Rattle.std.proofs.lemmas.Bool.{lt-leb}
use Rattle.spec.specs.Layout.{block_size}
use Rattle.spec.specs.Bytes.{all_zero, concat, zeros, quotient_up}
use Rattle.spec.specs.Disk.{Disk}
use Rattle.spec.specs.Plan.{overlay, clear_tail, holds_data, is_last_kept, is_staged, new_content}
use Rattle.block.proofs.Laws.{lt-or-le, length-exactly, get_or-exactly}
use Rattle.logs.specs.Stores.{Whole}
use Rattle.logs.specs.Header.{length-clear, clear_zero}
use Rattle.laws.specs.Content.{zero-byte}

-- ---- lists

pub append-front : (xs ys : List ℕ) (n r : ℕ) → length xs ≡ n → r < n → get_or (xs ++ ys) r 0 ≡ get_or xs r 0
append-front xs ys n r q h = get_or-append xs ys 0 r (omega arith)

pub append-back : (xs ys : List ℕ) (n r : ℕ) → length xs ≡ n → n ≤ r → get_or (xs ++ ys) r 0 ≡ get_or ys (r - n) 0
append-back xs ys n r q h =
    let e : r ≡ length xs + (r - n) = omega arith in
    ap (λ (k : ℕ). get_or (xs ++ ys) k 0) e ∙ get_or-append-add xs ys (r - n) 0

-- the byte at place r of block p of some blocks
pub joined-byte : (g : Disk) (bs : List ℕ) (p r : ℕ) → Whole g → p < length bs → r < block_size → get_or (concat (map g bs)) (block_size * p + r) 0 ≡ get_or (g (get_or bs p 0)) r 0
joined-byte g [] p r a h k = absurd (omega arith)
joined-byte g (b ∷ bs) zero r a h k = let z : 512 * 0 + r ≡ r = omega arith in rw z (append-front (g b) (concat (map g bs)) 512 r (a b) k)
joined-byte g (b ∷ bs) (suc p) r a h k =
    append-back (g b) (concat (map g bs)) 512 (512 * suc p + r) (a b) (omega arith)
    ∙ (ap (λ (n : ℕ). get_or (concat (map g bs)) n 0) (omega arith) ∙ joined-byte g bs p r a (omega arith) k)

pub byte-zero : (xs : List ℕ) → ((r : ℕ) → r < length xs → get_or xs r 0 ≡ 0) → all_zero xs ≡ true
byte-zero [] h = refl
byte-zero (x ∷ xs) h = rw (eq-eqb x 0 (h 0 (omega arith)), byte-zero xs (λ r k. h (suc r) (omega arith)))

-- ---- bytes laid over

length-overlay : (x : ℕ) (bytes : List ℕ) (from : ℕ) (old : List ℕ) → length (overlay x bytes from old) ≡ length old
length-overlay x bytes from [] = refl
length-overlay x bytes from (o ∷ old) = ap suc (length-overlay x bytes (suc from) old)

overlay-in : (x : ℕ) (bytes : List ℕ) (from : ℕ) (old : List ℕ) (r q : ℕ) → r < length old → from + r ≡ q → x ≤ q → q < x + length bytes → get_or (overlay x bytes from old) r 0 ≡ get_or bytes (q - x) 0
overlay-in x bytes from [] r q h e lo hi = absurd (omega arith)
overlay-in x bytes from (o ∷ old) zero q h e lo hi =
    let z : from ≡ q = omega arith in
    rw (z, le-leb x q lo, lt-ltb q (x + length bytes) hi)
overlay-in x bytes from (o ∷ old) (suc r) q h e lo hi = overlay-in x bytes (suc from) old r q (omega arith) (omega arith) lo hi

overlay-out : (x : ℕ) (bytes : List ℕ) (from : ℕ) (old : List ℕ) (r q : ℕ) → r < length old → from + r ≡ q → (q < x) ⊎ (x + length bytes ≤ q) → get_or (overlay x bytes from old) r 0 ≡ get_or old r 0
overlay-out x bytes from [] r q h e d = absurd (omega arith)
overlay-out x bytes from (o ∷ old) zero q h e d = let z : from ≡ q = omega arith in rw z (go d)
  where
    go : (q < x) ⊎ (x + length bytes ≤ q) → cond (leb x q && ltb q (x + length bytes)) (get_or bytes (q - x) 0) o ≡ o
    go (inl l) = rw (lt-leb x q l)
    go (inr l) = rw (le-ltb q (x + length bytes) l) (either (leb x q))
      where
        either : (t : Bool) → cond (t && false) (get_or bytes (q - x) 0) o ≡ o
        either true = refl
        either false = refl
overlay-out x bytes from (o ∷ old) (suc r) q h e d = overlay-out x bytes (suc from) old r q (omega arith) (omega arith) d

-- ---- one block, at place p

module _ (held old_size size x : ℕ) (bytes old : List ℕ) (long : length old ≡ old_size) (blocks : held ≡ quotient_up old_size block_size) (fits : x + length bytes ≤ size)
    (p : ℕ) (b : List ℕ) (whole : length b ≡ block_size) (was : p < held → (r : ℕ) → r < block_size → get_or b r 0 ≡ get_or old (block_size * p + r) 0)
  where
    -- what bytes are laid over
    abbrev base : List ℕ
    base = cond (leb held p) (zeros block_size) (cond (is_last_kept old_size size p) (clear_tail size p b) b)

    abbrev pub block_then : List ℕ
    block_then = cond (is_staged held old_size size x bytes p) (new_content held old_size size x bytes p b) b

    length-base : length base ≡ block_size
    length-base = go (leb held p) (is_last_kept old_size size p)
      where
        go : (t u : Bool) → length (cond t (zeros block_size) (cond u (clear_tail size p b) b)) ≡ block_size
        go true u = length-clear
        go false true = length-exactly 512 (take (size - 512 * p) b)
        go false false = whole

    pub new-length : length (new_content held old_size size x bytes p b) ≡ block_size
    new-length = length-overlay x bytes (block_size * p) base ∙ length-base

    past : (q : ℕ) → old_size ≤ q → get_or old q 0 ≡ 0
    past q h = get_or-eq_default old 0 {n = q} (omega arith)

    zeros-at : (r : ℕ) → get_or (zeros block_size) r 0 ≡ 0
    zeros-at r = zero-byte (zeros block_size) r clear_zero

    clear-keeps : (r : ℕ) → r < block_size → block_size * p + r < size → get_or (clear_tail size p b) r 0 ≡ get_or b r 0
    clear-keeps r h k = get_or-exactly 512 (take (size - 512 * p) b) r h ∙ get_or-take (size - 512 * p) b r 0 (omega arith)

    clear-past : (r : ℕ) → r < block_size → size ≤ block_size * p + r → get_or (clear_tail size p b) r 0 ≡ 0
    clear-past r h k =
        get_or-exactly 512 (take (size - 512 * p) b) r h
        ∙ get_or-eq_default (take (size - 512 * p) b) 0 {n = r} (omega (arith, length-take (size - 512 * p) b))

    base-low : (r : ℕ) → r < block_size → block_size * p + r < size → get_or base r 0 ≡ get_or old (block_size * p + r) 0
    base-low r k h = go (lt-or-le p held) (is_last_kept old_size size p)
      where
        go : (p < held) ⊎ (held ≤ p) → (u : Bool) → get_or (cond (leb held p) (zeros block_size) (cond u (clear_tail size p b) b)) r 0 ≡ get_or old (block_size * p + r) 0
        go (inr l) u = rw (le-leb held p l) (zeros-at r ∙ sym (past (block_size * p + r) (omega arith)))
        go (inl l) true = rw (lt-leb held p l) (clear-keeps r k h ∙ was l r k)
        go (inl l) false = rw (lt-leb held p l) (was l r k)

    last-kept : size < old_size → block_size * p < size → size < block_size * p + block_size → is_last_kept old_size size p ≡ true
    last-kept h k l =
        let e : p ≡ size / 512 = omega arith in
        rw (lt-ltb size old_size h, ne_eqb (size % 512) 0 (λ q. omega arith), eq-eqb p (size / 512) e)

    base-past : (r : ℕ) → r < block_size → block_size * p < size → size ≤ block_size * p + r → get_or base r 0 ≡ 0
    base-past r k l h = go (lt-or-le p held) (lt-or-le size old_size) (is_last_kept old_size size p) refl
      where
        go : (p < held) ⊎ (held ≤ p) → (size < old_size) ⊎ (old_size ≤ size) → (u : Bool) → is_last_kept old_size size p ≡ u
            → get_or (cond (leb held p) (zeros block_size) (cond u (clear_tail size p b) b)) r 0 ≡ 0
        go (inr m) d u q = rw (le-leb held p m) (zeros-at r)
        go (inl m) d true q = rw (lt-leb held p m) (clear-past r k h)
        go (inl m) (inl n) false q = absurd (true≢false (sym (last-kept n l (omega arith)) ∙ q))
        go (inl m) (inr n) false q = rw (lt-leb held p m) (was m r k ∙ past (block_size * p + r) (omega arith))

    -- a block that is not staged is as it would be
    unstaged : is_staged held old_size size x bytes p ≡ false → (r : ℕ) → r < block_size → block_size * p + r < size ⊎ size ≤ block_size * p + r
        → get_or b r 0 ≡ get_or (new_content held old_size size x bytes p b) r 0
    unstaged f r k d =
        sym (overlay-out x bytes (block_size * p) base r (block_size * p + r) (omega (arith, length-base)) refl out ∙ ap (λ (l : List ℕ). get_or l r 0) same_base)
      where
        parts : (t u w : Bool) → (t || u || w) ≡ false → (t ≡ false) × (u ≡ false) × (w ≡ false)
        parts true u w h = absurd (true≢false h)
        parts false true w h = absurd (true≢false h)
        parts false false true h = absurd (true≢false h)
        parts false false false h = (refl, refl, refl)

        three : (leb held p ≡ false) × (holds_data x bytes p ≡ false) × (is_last_kept old_size size p ≡ false)
        three = parts (leb held p) (holds_data x bytes p) (is_last_kept old_size size p) f

        same_base : base ≡ b
        same_base = ap₂ (λ (t u : Bool). cond t (zeros block_size) (cond u (clear_tail size p b) b)) three.0 three.2

        out : (block_size * p + r < x) ⊎ (x + length bytes ≤ block_size * p + r)
        out = go (lt-or-le (block_size * p + r) x) (lt-or-le (block_size * p + r) (x + length bytes))
          where
            go : (block_size * p + r < x) ⊎ (x ≤ block_size * p + r) → (block_size * p + r < x + length bytes) ⊎ (x + length bytes ≤ block_size * p + r)
                → (block_size * p + r < x) ⊎ (x + length bytes ≤ block_size * p + r)
            go (inl a) c = inl a
            go (inr a) (inr c) = inr c
            go (inr a) (inl c) =
                let y : holds_data x bytes p ≡ true =
                rw (lt-ltb 0 (length bytes) (omega arith), lt-ltb x (512 * (p + 1)) (omega arith), lt-ltb (512 * p) (x + length bytes) (omega arith))
                in
                absurd (true≢false (sym y ∙ three.1))

    then_is : (r : ℕ) → r < block_size → get_or block_then r 0 ≡ get_or (new_content held old_size size x bytes p b) r 0
    then_is r k = go (is_staged held old_size size x bytes p) refl
      where
        go : (t : Bool) → is_staged held old_size size x bytes p ≡ t → get_or (cond t (new_content held old_size size x bytes p b) b) r 0 ≡ get_or (new_content held old_size size x bytes p b) r 0
        go true e = refl
        go false e = unstaged e r k (lt-or-le (block_size * p + r) size)

    pub then-length : length block_then ≡ block_size
    then-length = go (is_staged held old_size size x bytes p)
      where
        go : (t : Bool) → length (cond t (new_content held old_size size x bytes p b) b) ≡ block_size
        go true = new-length
        go false = whole

    -- the bytes of the data, the old ones, and zeros from the size on
    pub then-in : (r : ℕ) → r < block_size → x ≤ block_size * p + r → block_size * p + r < x + length bytes → get_or block_then r 0 ≡ get_or bytes (block_size * p + r - x) 0
    then-in r k lo hi = then_is r k ∙ overlay-in x bytes (block_size * p) base r (block_size * p + r) (omega (arith, length-base)) refl lo hi

    pub then-out : (r : ℕ) → r < block_size → block_size * p + r < size → (block_size * p + r < x) ⊎ (x + length bytes ≤ block_size * p + r)
        → get_or block_then r 0 ≡ get_or old (block_size * p + r) 0
    then-out r k h o = then_is r k ∙ overlay-out x bytes (block_size * p) base r (block_size * p + r) (omega (arith, length-base)) refl o ∙ base-low r k h

    pub then-past : (r : ℕ) → r < block_size → block_size * p < size → size ≤ block_size * p + r → get_or block_then r 0 ≡ 0
    then-past r k l h =
        then_is r k ∙ overlay-out x bytes (block_size * p) base r (block_size * p + r) (omega (arith, length-base)) refl (inr (omega arith)) ∙ base-past r k l h
