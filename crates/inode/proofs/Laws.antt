-- Laws of file records. Assumes nothing.
use Prim.Native.Nat.{ℕ, zero, suc, ◌+◌, ◌*◌, ◌-◌, ◌/◌, ◌%◌, ◌<◌, ◌≤◌}
use mathlib.Core.Path.{◌≡◌, refl, sym, ap, ap₂, ◌∙◌}
use mathlib.Core.Logic.{⊎_elim}
use mathlib.Core.Bool.{Bool, true, false, cond, not, ◌&&◌}
use mathlib.Core.List.{List, [], ◌∷◌}
use mathlib.Core.Option.{Option, none, some}
use native.Mathlib.Numerals.{add-one}
use native.Mathlib.Omega.{arith}
use lib.Dec.{eqb}
use borrow.Author.Tests.{eqb-true, le-leb, lt-leb, lt-ltb, le-ltb}
use lib.ListN.{length, take, drop, get_or, replicate, length-take, length-drop, get_or-eq_default}
use lib.Seq.{ext_get_or, get_or-take, get_or-drop, take-take, take-nil, drop-drop}
use Rattle.spec.specs.Bytes.{exactly, part, number2, number4, same, all_zero, place, lowest}
use Rattle.spec.specs.Disk.{Disk, blocks_of, area_of}
use Rattle.spec.specs.declared.Session.{Session}
use Rattle.spec.specs.Session.{staged_in}
use Rattle.spec.specs.Transaction.{view, state_of}
use Rattle.spec.specs.Inode.{Inode, slots_in, inode_of, inode_bytes, inode_at, name_at, is_empty, block_of_inode, place_of_inode, find, find_empty, nodes_for, levels_for}
use Rattle.block.proofs.Laws.{lt-or-le, block-byte, length-exactly, get_or-exactly, exactly-small, block-length, block-is}
use Rattle.lists.specs.Lowest as lows
use Rattle.transaction.specs.Places.{view_in}
use Rattle.transaction.proofs.Laws.{view-new, view-in-length, view_of}
use Rattle.block.specs.Keys.{key_of, Name}
use Rattle.block.proofs.Keys.{same_key}
use Rattle.std.specs.List.{AllPass}
use Rattle.std.specs.Int.{div_ceil}
use Rattle.lists.specs.Places.{place-lt, place-value}
use Rattle.inode.specs.Records.{bytes_in, record_in, named, found_of, lowest_to, is_table}
use Rattle.std.specs.Prelude.{Option as Returned, Some, None, IfSome, ◌==◌}
use Rattle.std.specs.List.{position, position_from}
use Rattle.std.proofs.lemmas.Iterator.Adapters.{position_from-zero}
use Rattle.std.specs.Simd.{first_chunks}

-- ---- a record of w bytes at a place of a block

module _ (t : List ℕ) (at w : ℕ) (fits : at + w ≤ 512) where
  pub field-byte : (o : ℕ) → o < w → get_or (bytes_in t at w) o 0 ≡ get_or t (at + o) 0
  unfolding bytes_in
  field-byte o h = get_or-take w (drop at (exactly 512 t)) o 0 h ∙ get_or-drop at (exactly 512 t) o 0 ∙ get_or-exactly 512 t (at + o) (omega arith)

  pub field-number2 : (o : ℕ) → o + 2 ≤ w → number2 o (bytes_in t at w) ≡ number2 (at + o) t
  field-number2 o h =
      let e : at + (o + 1) ≡ at + o + 1 = omega arith in
      rw (field-byte o (omega arith), field-byte (o + 1) (omega arith), e)

  pub field-number4 : (o : ℕ) → o + 4 ≤ w → number4 o (bytes_in t at w) ≡ number4 (at + o) t
  field-number4 o h =
      let e : at + (o + 2) ≡ at + o + 2 = omega arith in
      rw (field-number2 o (omega arith), field-number2 (o + 2) (omega arith), e)

  pub field-take : (n : ℕ) → n ≤ w → take n (bytes_in t at w) ≡ bytes_in t at n
  unfolding bytes_in
  field-take n h = take-take n w (drop at (exactly 512 t)) h

  pub field-length : length (bytes_in t at w) ≡ w
  unfolding bytes_in
  field-length = simp (length-take, length-drop, length-exactly) (omega arith)

pub drop-take : {A : Type 0} (n k : ℕ) (xs : List A) → drop k (take n xs) ≡ take (n - k) (drop k xs)
drop-take n zero xs = let z : n - 0 ≡ n = omega arith in rw z
drop-take zero (suc k) xs = let z : 0 - suc k ≡ 0 = omega arith in rw z
drop-take (suc n) (suc k) [] = sym (take-nil (suc n - suc k))
drop-take (suc n) (suc k) (x ∷ xs) = let z : suc n - suc k ≡ n - k = omega arith in rw z (drop-take n k xs)

-- slots need no bytes behind them
slots-more : (n k : ℕ) (xs : List ℕ) → 4 ≤ k → slots_in n (take (k - 4) (drop 4 xs)) ≡ slots_in n (drop 4 xs) → slots_in (suc n) (take k xs) ≡ slots_in (suc n) xs
unfolding slots_in
slots-more n k xs l h =
    rw (
      get_or-take k xs 0 0 (omega arith),
      get_or-take k xs 1 0 (omega arith),
      get_or-take k xs 2 0 (omega arith),
      get_or-take k xs 3 0 (omega arith),
      drop-take k 4 xs,
      h,
    )

slots-front : (n k : ℕ) (xs : List ℕ) → 4 * n ≤ k → slots_in n (take k xs) ≡ slots_in n xs
unfolding slots_in
slots-front zero k xs h = refl
slots-front (suc n) k xs h = slots-more n k xs (omega arith) (slots-front n (k - 4) (drop 4 xs) (omega arith))

pub field-slots : (xs : List ℕ) (at w o n : ℕ) → o + 4 * n ≤ w → slots_in n (drop o (part at w xs)) ≡ slots_in n (drop (at + o) xs)
field-slots xs at w o n h =
    ap (slots_in n) (drop-take w o (drop at xs))
    ∙ slots-front n (w - o) (drop o (drop at xs)) (omega arith)
    ∙ ap (slots_in n) (drop-drop o at xs)

-- ---- record i of a disk, read from its block of the table

-- the record's place leaves room for it
place-fits : (i : ℕ) → place_of_inode i + 32 ≤ 512
place-fits i = omega arith

-- a field as the code reads it, with the record's place p
module _ (t : List ℕ) (i p r : ℕ) (e : p ≡ place_of_inode i) where
  pub size_in : r ≡ number4 (p + 8) t → r ≡ (inode_of (record_in t i)).size
  unfolding inode_of
  size_in q = q ∙ rw e (sym (field-number4 t (place_of_inode i) 32 (place-fits i) 8 (omega arith)))

  pub depth-in : r ≡ get_or t (p + 12) 0 → r ≡ (inode_of (record_in t i)).depth
  unfolding inode_of
  depth-in q = q ∙ rw e (sym (field-byte t (place_of_inode i) 32 (place-fits i) 12 (omega arith)))

-- the name as the code reads it, with the record's place p
pub name-bytes : (t : List ℕ) (i p : ℕ) → p ≡ place_of_inode i → exactly 8 (drop p t) ≡ take 8 (record_in t i)
name-bytes t i p e =
    let f = place-fits i in
    let q : p + 8 ≤ 512 = omega arith in
    let l = length-exactly 8 (drop p t) in
    ext_get_or 0 (exactly 8 (drop p t)) (bytes_in t p 8) (l ∙ sym (field-length t p 8 q))
    (λ j k. let m : j < 8 = rw l at k in get_or-exactly 8 (drop p t) j m ∙ get_or-drop p t j 0 ∙ sym (field-byte t p 8 q j m))
    ∙ ap (λ (k : ℕ). bytes_in t k 8) e ∙ sym (field-take t (place_of_inode i) 32 f 8 (omega arith))

module _ (v : Disk) (t : List ℕ) (i : ℕ) (h : exactly 512 t ≡ v (block_of_inode i)) where
  pub record-at : record_in t i ≡ inode_bytes v i
  unfolding bytes_in inode_bytes
  record-at = ap (part (place_of_inode i) 32) h

  -- so that a field of the one is that field of the other
  pub inode-at : inode_of (record_in t i) ≡ inode_at v i
  inode-at = ap inode_of record-at

  pub empty-at : all_zero (take 8 (record_in t i)) ≡ is_empty v i
  empty-at = ap (λ (x : List ℕ). all_zero (take 8 x)) record-at

-- the size that is told of record i as lent
pub size-told : (v : Disk) (t : List ℕ) (k i n : ℕ) → k ≡ i → exactly 512 t ≡ v (block_of_inode i) → n ≡ (inode_of (record_in t k)).size → n ≡ (inode_at v i).size
size-told v t k i n e h s = s ∙ ap (λ (j : ℕ). (inode_of (record_in t j)).size) e ∙ ap (λ (x : Inode). x.size) (inode-at v t i h)

-- ---- names

pub same-zeros : (xs : List ℕ) → same xs (replicate (length xs) 0) ≡ all_zero xs
same-zeros [] = refl
same-zeros (x ∷ xs) = ap (λ (r : Bool). eqb x 0 && r) (same-zeros xs)

same_length : (xs ys : List ℕ) → (length xs ≡ length ys → ⊥) → same xs ys ≡ false
same_length [] [] h = absurd (h refl)
same_length [] (y ∷ ys) h = refl
same_length (x ∷ xs) [] h = refl
same_length (x ∷ xs) (y ∷ ys) h = go (eqb x y) (same_length xs ys (λ e. h (ap suc e)))
  where
    go : (b : Bool) → same xs ys ≡ false → (b && same xs ys) ≡ false
    go true e = e
    go false e = refl

-- ---- the lowest number that passes

module _ (n : ℕ) (f : ℕ → Bool) (i : ℕ) where
  pub lowest-none : n ≤ i → lowest_to n f i ≡ None
  unfolding lowest_to
  lowest-none h = let e : n - i ≡ 0 = omega arith in rw e

  pub lowest-hit : i < n → f i ≡ true → lowest_to n f i ≡ Some i
  unfolding lowest_to
  lowest-hit h q = let e : n - i ≡ suc (n - (i + 1)) = omega arith in rw (e, q)

  pub lowest-miss : i < n → f i ≡ false → lowest_to n f i ≡ lowest_to n f (i + 1)
  unfolding lowest_to
  lowest-miss h q = let e : n - i ≡ suc (n - (i + 1)) = omega arith in rw (e, q, add-one i)

-- two tests that agree
pub lowest-agree : (n : ℕ) (f g : ℕ → Bool) (i : ℕ) → ((k : ℕ) → i ≤ k → k < n → f k ≡ g k) → lowest_to n f i ≡ lowest_to n g i
unfolding lowest_to
lowest-agree n f g i h = ap found_of (lows.lowest-agree i (n - i) f g (λ k p q. h k p (omega arith)))

-- a search in two parts
lowest-first : (f : ℕ → Bool) (a d e j : ℕ) → found_of (lowest a d f) ≡ Some j → found_of (lowest a (d + e) f) ≡ Some j
lowest-first f a zero e j h = cc
lowest-first f a (suc d) e j h = let z : suc d + e ≡ suc (d + e) = omega arith in rw z (go (f a) refl (lowest-first f (suc a) d e j))
  where
    go : (t : Bool) → f a ≡ t → (found_of (lowest (suc a) d f) ≡ Some j → found_of (lowest (suc a) (d + e) f) ≡ Some j)
        → found_of (cond (f a) (some a) (lowest (suc a) (d + e) f)) ≡ Some j
    go true q ih = rw q (rw q at h)
    go false q ih = rw q (ih (rw q at h))

lowest-skip : (f : ℕ → Bool) (a d e : ℕ) → found_of (lowest a d f) ≡ None → lowest a (d + e) f ≡ lowest (a + d) e f
lowest-skip f a zero e h = let z : 0 + e ≡ e = omega arith in let y : a + 0 ≡ a = omega arith in rw (z, y)
lowest-skip f a (suc d) e h = let z : suc d + e ≡ suc (d + e) = omega arith in let y : a + suc d ≡ suc a + d = omega arith in rw (z, y) (go (f a) refl (lowest-skip f (suc a) d e))
  where
    go : (t : Bool) → f a ≡ t → (found_of (lowest (suc a) d f) ≡ None → lowest (suc a) (d + e) f ≡ lowest (suc a + d) e f)
        → cond (f a) (some a) (lowest (suc a) (d + e) f) ≡ lowest (suc a + d) e f
    go true q ih = let w : Some a ≡ None = rw q at h in cc
    go false q ih = rw q (ih (rw q at h))

module _ (m n : ℕ) (f : ℕ → Bool) (i : ℕ) (low : i ≤ m) (high : m ≤ n) where
  parts : n - i ≡ (m - i) + (n - m)
  parts = omega arith

  pub lowest-in : (j : ℕ) → lowest_to m f i ≡ Some j → lowest_to n f i ≡ Some j
  unfolding lowest_to
  lowest-in j h = rw parts (lowest-first f i (m - i) (n - m) j h)

  pub lowest-past : lowest_to m f i ≡ None → lowest_to n f i ≡ lowest_to n f m
  unfolding lowest_to
  lowest-past h = let e : i + (m - i) ≡ m = omega arith in rw (parts, lowest-skip f i (m - i) (n - m) h, e)

-- ---- the search over the table

-- whether record i of a disk has this name
unfoldable pub named_at : Disk → List ℕ → ℕ → Bool
named_at v name i = same (name_at v i) name

lowest-all : (n : ℕ) (f : ℕ → Bool) → found_of (lowest 0 n f) ≡ lowest_to n f 0
unfolding lowest_to
lowest-all n f = let e : n - 0 ≡ n = omega arith in rw e

pub find-all : (v : Disk) (name : List ℕ) → found_of (find v name) ≡ lowest_to 128 (named_at v name) 0
unfolding find named_at
find-all v name = lowest-all 128 (λ i. same (name_at v i) name)

-- a search from another start on
abbrev moved : ℕ → Returned ℕ → Returned ℕ
moved a None = None
moved a (Some j) = Some (a + j)

lowest-moved : (f g : ℕ → Bool) (a b n : ℕ) → ((k : ℕ) → k < b + n → f (a + k) ≡ g k) → found_of (lowest (a + b) n f) ≡ moved a (found_of (lowest b n g))
lowest-moved f g a b zero h = refl
lowest-moved f g a b (suc n) h = rw (h b (omega arith)) (go (g b) (lowest-moved f g a (suc b) n (λ k l. h k (omega arith))))
  where
    go : (t : Bool) → found_of (lowest (a + suc b) n f) ≡ moved a (found_of (lowest (suc b) n g))
        → found_of (cond t (some (a + b)) (lowest (suc (a + b)) n f)) ≡ moved a (found_of (cond t (some b) (lowest (suc b) n g)))
    go true e = refl
    go false e = let z : suc (a + b) ≡ a + suc b = omega arith in rw z e

-- ---- records of 32 bytes that lie one behind the other

part-small : (t : List ℕ) (n at : ℕ) → ((i : ℕ) → get_or t i 0 < 256) → (i : ℕ) → get_or (take n (drop at t)) i 0 < 256
part-small t n at h i =
    ⊎_elim (λ (l : i < n). rw (get_or-take n (drop at t) i 0 l, get_or-drop at t i 0) (h (at + i)))
    (λ (g : n ≤ i). rw (get_or-eq_default (take n (drop at t)) 0 {n = i} (rw length-take (omega arith))) (omega arith))
    (lt-or-le i n)

-- the name of record k of the table on the device
lies-at : (t device : List ℕ) (k : ℕ) → 21504 ≤ length device → t ≡ take (21504 - 17408) (drop 17408 device) → k < 128 → take 8 (take 32 (drop (32 * k) t)) ≡ name_at (blocks_of device) k
unfolding inode_bytes
lies-at t device k l q h =
    let long : length t ≡ 4096 = rw q (simp (length-take, length-drop) (omega arith)) in
    let own = take 8 (take 32 (drop (32 * k) t)) in
    let a : length own ≡ 8 = simp (length-take, length-drop) (omega arith) in
    let b : length (name_at (blocks_of device) k) ≡ 8 = simp (length-take, length-drop, block-length) (omega arith) in
    ext_get_or 0 own (name_at (blocks_of device) k) (a ∙ sym b)
    (λ i u.
    let n : i < 8 = rw a at u in
    let y : 17408 + (32 * k + i) ≡ 512 * (34 + k / 16) + (32 * (k % 16) + i) = omega arith in
    get_or-take 8 (take 32 (drop (32 * k) t)) i 0 n ∙ get_or-take 32 (drop (32 * k) t) i 0 (omega arith) ∙ get_or-drop (32 * k) t i 0
    ∙ ap (λ (x : List ℕ). get_or x (32 * k + i) 0) q ∙ get_or-take 4096 (drop 17408 device) (32 * k + i) 0 (omega arith) ∙ get_or-drop 17408 device (32 * k + i) 0
    ∙ ap (λ (x : ℕ). get_or device x 0) y
    ∙ sym (get_or-take 8 (part (place_of_inode k) 32 (blocks_of device (block_of_inode k))) i 0 n
    ∙ get_or-take 32 (drop (place_of_inode k) (blocks_of device (block_of_inode k))) i 0 (omega arith)
    ∙ get_or-drop (place_of_inode k) (blocks_of device (block_of_inode k)) i 0
    ∙ block-byte device (block_of_inode k) (place_of_inode k + i) (omega arith)))

-- gone through from record i on
from-record : (p : List ℕ → Bool) (f : ℕ → Bool) (n i : ℕ) (t : List ℕ) → ((k : ℕ) → k < n → p (take 32 (drop (32 * k) t)) ≡ f (i + k))
    → position_from p i (first_chunks 32 n t) ≡ found_of (lowest i n f)
from-record p f zero i t h = refl
from-record p f (suc n) i t h =
    let z : i + 0 ≡ i = omega arith in
    rw (h 0 (omega arith), z)
    (go (f i) (from-record p f n (i + 1) (drop 32 t)
    (λ k l.
    let y : 32 * k + 32 ≡ 32 * suc k = omega arith in
    let x : i + suc k ≡ i + 1 + k = omega arith in
    ap (λ (u : List ℕ). p (take 32 u)) (drop-drop (32 * k) 32 t ∙ ap (λ (q : ℕ). drop q t) (omega arith)) ∙ h (suc k) (omega arith) ∙ ap f x)))
  where
    go : (b : Bool) → position_from p (i + 1) (first_chunks 32 n (drop 32 t)) ≡ found_of (lowest (i + 1) n f)
        → cond b (Some i) (position_from p (i + 1) (first_chunks 32 n (drop 32 t))) ≡ found_of (cond b (some i) (lowest (suc i) n f))
    go true e = refl
    go false e = e ∙ rw (add-one i)

-- a name by its key, where the records are those whose names f tells
pub first-named : (t name : List ℕ) (key n m : ℕ) (f : ℕ → Bool) → m ≡ n → 32 * n ≤ length t → ((i : ℕ) → get_or t i 0 < 256) → Name name → key ≡ key_of name
    → ((k : ℕ) → k < n → same (take 8 (take 32 (drop (32 * k) t))) name ≡ f k)
    → position (λ inode. key_of (take 8 inode) == key) (first_chunks 32 m t) ≡ found_of (lowest 0 n f)
first-named t name key n m f q long small w e h =
    position_from-zero (λ inode. key_of (take 8 inode) == key) (first_chunks 32 m t)
    ∙ rw q
    (from-record (λ inode. key_of (take 8 inode) == key) f n 0 t
    (λ k l.
    let own = take 32 (drop (32 * k) t) in
    let whole : length (take 8 own) ≡ 8 = simp (length-take, length-drop) (omega arith) in
    let z : 0 + k ≡ k = omega arith in
    ap (λ (x : ℕ). key_of (take 8 own) == x) e
    ∙ sym (same_key (take 8 own) name (whole ∙ sym w.long) (part-small own 8 0 (part-small t 32 (32 * k) small)) w.small)
    ∙ h k l ∙ ap f (sym z)))

-- what a search by a name's key answers of the records in some bytes
abbrev pub SearchedIn : List ℕ → List (List ℕ) → ℕ → Returned ℕ → Type 0
SearchedIn t records key r = (records ≡ first_chunks 32 (length t / 32) t) × (r ≡ position (λ inode. key_of (take 8 inode) == key) records)

-- of the first 512 bytes of a block that may end early
pub first-in-block : (t x : List ℕ) (records : List (List ℕ)) (key : ℕ) (r : Returned ℕ) → x ≡ exactly 512 t → ((i : ℕ) → get_or t i 0 < 256) → SearchedIn x records key r
    → (length records ≡ length x / 32) × IfSome r (λ k. k < length records)
    → ((name : List ℕ) → Name name → key ≡ key_of name → r ≡ lowest_to 16 (named t name) 0) × IfSome r (λ k. k < 16)
unfolding lowest_to named bytes_in
first-in-block t x records key r e small s few =
    let l : length x ≡ 512 = rw e (length-exactly 512 t) in
    let z : length x / 32 ≡ 16 = omega arith in (
      (λ name w h.
          s.1
          ∙ rw s.0
          (first-named x name key 16 (length x / 32) (named t name) z (omega arith) (rw e (exactly-small 512 256 t (omega arith) small)) w h
          (λ k i.
          let p : 32 * (k % 16) ≡ 32 * k = omega arith in
          rw (e, p)))),
      rw (few.0 ∙ z) at few.1,
    )

-- of the table on the device
pub first-on-device : (t device name : List ℕ) (records : List (List ℕ)) (key : ℕ) (r : Returned ℕ) → SearchedIn t records key r → 21504 ≤ length device
    → t ≡ take (21504 - 17408) (drop 17408 device) → ((i : ℕ) → get_or device i 0 < 256) → Name name → key ≡ key_of name → r ≡ found_of (find (blocks_of device) name)
unfolding find inode_bytes
first-on-device t device name records key r s l q small w e =
    let long : length t ≡ 4096 = rw q (simp (length-take, length-drop) (omega arith)) in
    let z : length t / 32 ≡ 128 = omega arith in
    let v = blocks_of device in
    s.1
    ∙ rw s.0
    (first-named t name key 128 (length t / 32) (λ i. same (name_at v i) name) z (omega arith) (rw q (part-small device 4096 17408 small)) w e
    (λ k h. ap (λ (x : List ℕ). same x name) (lies-at t device k l q h)))

-- the 16 records of one block searched
module _ (v : Disk) (t name : List ℕ) (first : ℕ) (low : first < 128) (whole : first % 16 ≡ 0) (e : exactly 512 t ≡ v (block_of_inode first)) where
  named-in : (k : ℕ) → k < 16 → named_at v name (first + k) ≡ named t name k
  unfolding named_at named
  named-in k l =
      let z : (first + k) / 16 ≡ first / 16 = omega arith in
      let p : place_of_inode (first + k) ≡ place_of_inode k = omega arith in
      ap (λ (x : List ℕ). same (take 8 x) name) (sym (record-at v t (first + k) (e ∙ ap (λ (b : ℕ). v (34 + b)) (sym z))) ∙ ap (λ (q : ℕ). bytes_in t q 32) p)

  in_block : lowest_to (first + 16) (named_at v name) first ≡ moved first (lowest_to 16 (named t name) 0)
  unfolding lowest_to
  in_block =
      let n : first + 16 - first ≡ 16 = omega arith in
      let s : first + 0 ≡ first = omega arith in
      ap (λ (k : ℕ). found_of (lowest first k (named_at v name))) n
      ∙ ap (λ (k : ℕ). found_of (lowest k 16 (named_at v name))) (sym s)
      ∙ lowest-moved (named_at v name) (named t name) first 0 16 (λ k l. named-in k l)

  pub find-hit : (k : ℕ) → Some k ≡ lowest_to 16 (named t name) 0 → lowest_to 128 (named_at v name) first ≡ Some (first + k)
  find-hit k h = lowest-in (first + 16) 128 (named_at v name) first (omega arith) (omega arith) (first + k) (in_block ∙ ap (moved first) (sym h))

  pub find-miss : None ≡ lowest_to 16 (named t name) 0 → lowest_to 128 (named_at v name) first ≡ lowest_to 128 (named_at v name) (first + 16)
  find-miss h = lowest-past (first + 16) 128 (named_at v name) first (omega arith) (omega arith) (in_block ∙ ap (moved first) (sym h))

lowest-never : (f : ℕ → Bool) (a n : ℕ) → ((k : ℕ) → f k ≡ false) → lowest a n f ≡ none
lowest-never f a zero h = refl
lowest-never f a (suc n) h = rw (h a) (lowest-never f (suc a) n h)

-- no record has a name of another length
pub find-other : (v : Disk) (name : List ℕ) → ((b : ℕ) → length (v b) ≡ 512) → (length name ≡ 8 → ⊥) → None ≡ found_of (find v name)
unfolding find inode_bytes
find-other v name l h =
    sym (ap found_of (lowest-never (λ i. same (name_at v i) name) 0 128
    (λ k.
    let n : length (name_at v k) ≡ 8 = simp (length-take, length-drop, l) (omega arith) in
    same_length (name_at v k) name (λ e. h (sym e ∙ n)))))

-- an empty record is one whose name is zeros
pub find-zeros : (v : Disk) (name : List ℕ) (r : Returned ℕ) → ((b : ℕ) → length (v b) ≡ 512) → name ≡ replicate 8 0 → r ≡ found_of (find v name) → r ≡ found_of (find_empty v)
unfolding find find_empty inode_bytes
find-zeros v name r l e q =
    q
    ∙ ap found_of (lows.lowest-agree 0 128 (λ i. same (name_at v i) name) (is_empty v)
    (λ k p h.
    let n : length (name_at v k) ≡ 8 = simp (length-take, length-drop, l) (omega arith) in
    rw e (ap (λ (m : ℕ). same (name_at v k) (replicate m 0)) (sym n) ∙ same-zeros (name_at v k))))

-- ---- the working copy

pub view-length : (s : Session) (device work : List ℕ) (b : ℕ) → length (view (state_of s device work) b) ≡ 512
view-length s device work b = ap (λ (v : Disk). length (v b)) (sym (view_of s device work (staged_in s) refl)) ∙ view-in-length (staged_in s) device work b

-- ---- the table as it lies on the device

-- a name is looked for in the blocks of the table alone
pub find-agree : (v u : Disk) (name : List ℕ) → ((b : ℕ) → 34 ≤ b → b < 42 → v b ≡ u b) → find v name ≡ find u name
unfolding find inode_bytes
find-agree v u name h =
    lows.lowest-agree 0 128 (λ (i : ℕ). same (name_at v i) name) (λ (i : ℕ). same (name_at u i) name)
    (λ k p l. ap (λ (block : List ℕ). same (take 8 (part (place_of_inode k) 32 block)) name) (h (block_of_inode k) (omega arith) (omega arith)))

table-area : (b : ℕ) → 34 ≤ b → b < 42 → is_table b ≡ true
unfolding area_of
table-area b p l = rw (le-ltb b 1 (omega arith), le-ltb b 33 (omega arith), le-ltb b 34 (omega arith), lt-ltb b 42 l) refl

-- where none of them is staged
unstaged : (staged : List ℕ) → AllPass (λ b. not (is_table b)) staged → (b : ℕ) → 34 ≤ b → b < 42 → place b staged ≡ none
unstaged staged h b p l = go (place b staged) refl
  where
    go : (o : Option ℕ) → place b staged ≡ o → place b staged ≡ none
    go none e = e
    go (some j) e =
        let z : not (is_table b) ≡ true = rw (place-value b j staged e) at (h j 0 (place-lt b j staged e)) in
        let y : false ≡ true = rw (table-area b p l) at z in
        cc

pub find-committed : (staged device work name : List ℕ) → AllPass (λ b. not (is_table b)) staged → find (blocks_of device) name ≡ find (view_in staged device work) name
find-committed staged device work name h =
    find-agree (blocks_of device) (view_in staged device work) name (λ b p l. sym (view-new staged device work b (ap found_of (unstaged staged h b p l))))

-- a block of it, lent
pub block-lent : (device : List ℕ) (b at end : ℕ) → at ≡ 512 * b → end ≡ at + 512 → exactly 512 (take (end - at) (drop at device)) ≡ blocks_of device b
block-lent device b at end e f = let z : end - at ≡ 512 = omega arith in ap₂ (λ (n k : ℕ). exactly 512 (take n (drop k device))) z e ∙ sym (block-is device b)

-- the block of record i, where nothing is staged
pub table-lent : (staged device work : List ℕ) (i at end : ℕ) → true ≡ eqb (length staged) 0 → i < 128 → at ≡ 17408 + 512 * (i / 16) → end ≡ at + 512
    → (exactly 512 (take (end - at) (drop at device)) ≡ view_in staged device work (block_of_inode i))
    × (length (take (end - at) (drop at device)) ≤ 512)
table-lent (x ∷ xs) device work i at end t h e f = absurd (omega (arith, eqb-true (length (x ∷ xs)) 0 (sym t)))
table-lent [] device work i at end t h e f =
    let z : end - at ≡ 512 = omega arith in (
      block-lent device (block_of_inode i) at end (omega arith) f ∙ sym (view-new [] device work (block_of_inode i) refl),
      rw z (simp length-take (omega arith)),
    )

-- ---- nodes that a file of so many extents needs

pub nodes-few : (n : ℕ) → n ≤ 4 → 0 ≡ nodes_for n
unfolding levels_for
nodes-few n h = rw (le-leb n 4 h)

pub nodes-many : (n : ℕ) → 4 < n → div_ceil n 128 ≡ nodes_for n
unfolding levels_for
nodes-many n h = rw (lt-leb n 4 h) (omega arith)
