-- The header, built record by record. Assumes nothing.
use Prim.Native.Nat.{ℕ, zero, suc, ◌+◌, ◌*◌, ◌<◌, ◌≤◌}
use mathlib.Core.Path.{◌≡◌, refl, sym, ap, ◌∙◌}
use mathlib.Core.List.{List, [], ◌∷◌, ◌++◌, append_assoc, append-nil}
use native.Mathlib.Nat.{suc-add, zero-add}
use native.Mathlib.Numerals.{add-one}
use native.Mathlib.Omega.{arith}
use lib.ListN.{length, take, drop, get_or, length-append}
use lib.Seq.{take-suc, length-take-le}
use Rattle.spec.specs.Bytes.{exactly, zeros, patch, bytes2}
use Rattle.spec.specs.Journal.{header_of}
use Rattle.logs.specs.Header.{record_of, records, records-are, length-record}

-- ---- bytes laid behind others

after_none : (n : ℕ) (x : List ℕ) → length x ≤ n → x ++ drop (length x) (exactly n []) ≡ exactly n x
after_none n [] h = refl
after_none zero (x ∷ xs) h = absurd (omega arith)
after_none (suc n) (x ∷ xs) h = ap (λ (l : List ℕ). x ∷ l) (after_none n xs (omega arith))

patch-exactly : (n : ℕ) (xs x : List ℕ) → length xs + length x ≤ n → patch (length xs) x (exactly n xs) ≡ exactly n (xs ++ x)
patch-exactly n [] x h = rw (zero-add (length x)) (after_none n x (omega arith))
patch-exactly zero (b ∷ xs) x h = absurd (omega arith)
patch-exactly (suc n) (b ∷ xs) x h = rw (suc-add (length xs) (length x)) (ap (λ (l : List ℕ). b ∷ l) (patch-exactly n xs x (omega arith)))

exactly-zeros : (n m : ℕ) (xs : List ℕ) → exactly n (xs ++ zeros m) ≡ exactly n xs
unfolding zeros
exactly-zeros zero m xs = refl
exactly-zeros (suc n) zero [] = refl
exactly-zeros (suc n) (suc m) [] = ap (λ (l : List ℕ). 0 ∷ l) (exactly-zeros n m [])
exactly-zeros (suc n) m (x ∷ xs) = ap (λ (l : List ℕ). x ∷ l) (exactly-zeros n m xs)

-- ---- the records of a header

header-records : (ts : List ℕ) → header_of ts ≡ exactly 512 (records ts)
unfolding header_of
header-records ts = ap (exactly 512) (records-are ts)

length-records : (ts : List ℕ) → length (records ts) ≡ 16 * length ts
unfolding records
length-records [] = refl
length-records (t ∷ ts) = length-append (record_of t) (records ts) ∙ rw (length-record t, length-records ts) (omega arith)

records-more : (ts : List ℕ) (t : ℕ) → records (ts ++ (t ∷ [])) ≡ records ts ++ record_of t
unfolding records
records-more [] t = append-nil (record_of t)
records-more (s ∷ ts) t = ap (λ (l : List ℕ). record_of s ++ l) (records-more ts t) ∙ sym (append_assoc (record_of s) (records ts) (record_of t))

record-padded : (xs : List ℕ) (t : ℕ) → exactly 512 (xs ++ record_of t) ≡ exactly 512 (xs ++ bytes2 t)
unfolding record_of
record-padded xs t = ap (exactly 512) (sym (append_assoc xs (bytes2 t) (zeros 14))) ∙ exactly-zeros 512 14 (xs ++ bytes2 t)

-- one more target stored
pub header-more : (ts q : List ℕ) (r t : ℕ) → r < length ts → r < 32 → q ≡ header_of (take r ts) → t ≡ get_or ts r 0
    → patch (16 * r) (bytes2 t) q ≡ header_of (take (r + 1) ts)
header-more ts q r t h few e et =
    let xs : List ℕ = records (take r ts) in
    let l : length xs ≡ 16 * r = length-records (take r ts) ∙ ap (λ (n : ℕ). 16 * n) (length-take-le r ts (omega arith)) in
    let m : take (r + 1) ts ≡ take r ts ++ (t ∷ []) = rw (add-one r, et) (take-suc ts r 0 h) in
    rw (e, header-records (take r ts), ← l, patch-exactly 512 xs (bytes2 t) (omega arith), ← record-padded xs t, ← records-more (take r ts) t, ← m)
    (sym (header-records (take (r + 1) ts)))
