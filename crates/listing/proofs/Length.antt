-- How long a listing is at most: an image of at most 65,536 bytes has 128 records, and 86 blocks that they reach. Assumes nothing.
use Prim.Native.Nat.{ℕ, zero, suc, ◌+◌, ◌*◌, ◌/◌, ◌%◌, ◌<◌, ◌≤◌, min}
use mathlib.Core.Path.{◌≡◌, refl, ap, ap₂, ◌∙◌}
use mathlib.Core.Logic.{◌⊎◌, inl, inr}
use mathlib.Core.Bool.{Bool, true, false, cond}
use mathlib.Core.List.{List, [], ◌∷◌, ◌++◌, map}
use mathlib.Core.Option.{Option, none, some}
use native.Mathlib.Omega.{arith}
use borrow.Author.Tests.{eqb-true, eqb-false}
use lib.Dec.{eqb, ltb}
use lib.ListN.{length, take, drop, length-append, length-take}
use lib.Seq.{take_all, take-length, take-append-le}
use Rattle.spec.specs.declared.Extent.{Extent}
use Rattle.spec.specs.declared.Phase.TheVariants.{Closed, Ready, Recovering}
use Rattle.spec.specs.declared.Refusal.{Refusal}
use Rattle.spec.specs.declared.Refusal.TheVariants.{DeviceSize, BadHeader, DamagedInode, DamagedBlock}
use Rattle.spec.specs.Bytes.{concat, up_from}
use Rattle.spec.specs.Disk.{Disk, blocks_of, disk_block, is_allowed}
use Rattle.spec.specs.Bitmap.{bits_of, free_bits}
use Rattle.spec.specs.Inode.{inode_at, inode_bytes, name_at, is_empty, data_of, nodes_of, reached_from, reached, runs}
use Rattle.spec.specs.Sound.{inode_fault, block_fault, volume_sound}
use Rattle.spec.specs.Session.{never_opened, opened}
use Rattle.spec.specs.Answers.{done, refusal_of, refusal_number}
use Rattle.spec.specs.Journal.{targets_in, header_fault}
use Rattle.spec.specs.Calls.{left}
use Rattle.text.proofs.Laws.{length-hex}
use Rattle.spec.specs.Listing.{files_word, free_word, refused_word, recover_word, digits, hexadecimal, opened_text, outcome_text, listing}
use Rattle.block.proofs.Laws.{lt-or-le, block-length, allowed-says}
use Rattle.logs.specs.Targets.{truth}
use Rattle.laws.specs.Volume.{free-fault, volume-sound}
use Rattle.laws.specs.Free.{reached-few}
use Rattle.extents.proofs.Laws.{runs-few}
use Rattle.store.proofs.Laws.{open-device, open-header, open-log, open-inode, open-block, open-ready}
use Rattle.text.specs.Written.{number}
use Rattle.listing.specs.Steps.{span_text, more_text, runs_text, line_text, used_from, lines_text, files_lines, told_text, refused_line, recover_line, Listed}
use Rattle.listing.proofs.Laws.{span-is, more-next, more-none, runs-some, runs_none, line-used, lines_more, lines_end, files-text, told_is, refused-is, recover-is, opened-text, refused-text, text-long, text-short}

-- ---- numbers, extents

digits-few : (most n : ℕ) → length (digits most n) ≤ most
digits-few zero n = omega arith
digits-few (suc most) n = go (ltb n 10) (digits-few most (n / 10))
  where
    go : (t : Bool) → length (digits most (n / 10)) ≤ most → length (cond t ((48 + n) ∷ []) (digits most (n / 10) ++ ((48 + n % 10) ∷ []))) ≤ suc most
    go true h = omega arith
    go false h = omega (arith, length-append (digits most (n / 10)) ((48 + n % 10) ∷ []))

number-few : (n : ℕ) → length (number n) ≤ 20
unfolding number
number-few n = digits-few 20 n

span-few : (e : Extent) → length (span_text e) ≤ 41
span-few e =
    omega (arith, ap length (span-is e), length-append (number e.first) ((43 ∷ []) ++ number e.count), number-few e.first, number-few e.count)

more-few : (es : List Extent) → length (more_text es) ≤ 42 * length es
more-few [] = omega (arith, ap length more-none)
more-few (e ∷ es) = omega (arith, ap length (more-next e es), length-append ((44 ∷ []) ++ span_text e) (more_text es), span-few e, more-few es)

module _ (v : Disk) (i : ℕ) where
  runs-text-few : length (runs_text v i) ≤ 1 + 42 * length (data_of v (inode_at v i))
  runs-text-few = go (runs (data_of v (inode_at v i))) refl
    where
      go : (es : List Extent) → runs (data_of v (inode_at v i)) ≡ es → length (runs_text v i) ≤ 1 + 42 * length (data_of v (inode_at v i))
      go [] q = omega (arith, ap length (runs_none v i q))
      go (e ∷ es) q =
          omega (arith, ap length (runs-some v i e es q), length-append (span_text e) (more_text es), span-few e, more-few es, ap length q, runs-few (data_of v (inode_at v i)))

-- ---- lines

module _ (v : Disk) (i : ℕ) where
  line-empty : is_empty v i ≡ true → line_text v i ≡ []
  unfolding line_text
  line-empty e = rw e

  reached-used : is_empty v i ≡ false → reached_from v i ≡ data_of v (inode_at v i) ++ nodes_of v (inode_at v i)
  unfolding reached_from
  reached-used e = rw e

  line-length : is_empty v i ≡ false → length (line_text v i) ≤ 40 + 42 * length (data_of v (inode_at v i))
  line-length e =
      let name = name_at v i in
      let size = number (inode_at v i).size in
      let a = length-append (hexadecimal name) ((32 ∷ []) ++ (size ++ ((32 ∷ []) ++ (runs_text v i ++ (10 ∷ []))))) in
      let b = length-append size ((32 ∷ []) ++ (runs_text v i ++ (10 ∷ []))) in
      let d = length-append (runs_text v i) (10 ∷ []) in
      let n : length name ≤ 8 = omega (arith, length-take 8 (inode_bytes v i)) in
      let t = ap length (line-used v i e) in
      let r = runs-text-few v i in
      let k = number-few (inode_at v i).size in
      omega (arith, length-hex name)

  line-few : length (line_text v i) ≤ 40 + 42 * length (reached_from v i)
  line-few = go (is_empty v i) refl
    where
      go : (t : Bool) → is_empty v i ≡ t → length (line_text v i) ≤ 40 + 42 * length (reached_from v i)
      go true e = omega (arith, ap length (line-empty e))
      go false e =
          omega (arith, line-length e, ap length (reached-used e), length-append (data_of v (inode_at v i)) (nodes_of v (inode_at v i)))

-- the lines of the k records from i on
lines-few : (v : Disk) (k i : ℕ) → i + k ≡ 128 → length (lines_text v i) ≤ 40 * k + 42 * length (concat (map (reached_from v) (up_from i k)))
lines-few v zero i h = omega (arith, ap length (lines_end v i (omega arith)))
lines-few v (suc k) i h =
    let e : i + 1 ≡ suc i = omega arith in
    let m : lines_text v i ≡ line_text v i ++ lines_text v (suc i) = rw (← e) (lines_more v i (omega arith)) in
    omega (
      arith,
      ap length m,
      length-append (line_text v i) (lines_text v (suc i)),
      line-few v i,
      lines-few v k (suc i) (omega arith),
      length-append (reached_from v i) (concat (map (reached_from v) (up_from (suc i) k))),
    )

all_lines : (v : Disk) → length (lines_text v 0) ≤ 5120 + 42 * length (reached v)
unfolding reached
all_lines v = lines-few v 128 0 refl

-- ---- the text

files-few : (v : Disk) → length (reached v) ≤ 86 → length (files_lines v) ≤ 8785
files-few v h =
    let n = number (length (used_from v 0)) in
    let m = number (free_bits (bits_of (v 33))) in
    let lines = lines_text v 0 in
    let a = length-append files_word (n ++ (free_word ++ (m ++ ((10 ∷ []) ++ lines)))) in
    let b = length-append n (free_word ++ (m ++ ((10 ∷ []) ++ lines))) in
    let d = length-append free_word (m ++ ((10 ∷ []) ++ lines)) in
    let e = length-append m ((10 ∷ []) ++ lines) in
    let t = ap length (files-text v) in
    let x = number-few (length (used_from v 0)) in
    let y = number-few (free_bits (bits_of (v 33))) in
    omega (arith, all_lines v)

told-few : (word : List ℕ) (n : ℕ) → length (told_text word n) ≤ length word + 21
told-few word n =
    omega (arith, ap length (told_is word n), length-append word (number n ++ (10 ∷ [])), length-append (number n) (10 ∷ []), number-few n)

refused-few : (r : Refusal) → length (refused_line r) ≤ 29
refused-few r = let n = refusal_number (refusal_of r) in let h : length (told_text refused_word n) ≤ 29 = told-few refused_word n in rw (refused-is r) at h

recover-few : (d : Disk) → length (recover_line d) ≤ 29
recover-few d =
    let h : length (told_text recover_word (length (targets_in (d 0)))) ≤ 29 = told-few recover_word (length (targets_in (d 0))) in
    rw (recover-is d (length (targets_in (d 0))) refl) at h

module _ (d : List ℕ) (h : length d ≤ 65536) where
  refusal-few : (r : Refusal) → outcome_text (blocks_of d) Closed (refusal_of r) ≡ listing d → length (listing d) ≤ 8785
  refusal-few r e = omega (arith, refused-few r, ap length (refused-text (blocks_of d) Closed r ∙ e))

  ready-few : is_allowed (length d) ≡ true → volume_sound (length d / 512) (blocks_of d) ≡ true → opened_text (blocks_of d) Ready ≡ listing d → length (listing d) ≤ 8785
  ready-few a s e =
      let n = allowed-says (length d) a in
      let r = reached-few (length d / 512) (blocks_of d) (omega (arith, n.low)) n.high (block-length d) ((volume-sound (length d / 512) (blocks_of d)).0 (truth (volume_sound (length d / 512) (blocks_of d)) s)) in
      omega (arith, files-few (blocks_of d) (omega arith), ap length (opened-text (blocks_of d) Ready ∙ e))

  recovering-few : opened_text (blocks_of d) (Recovering 0) ≡ listing d → length (listing d) ≤ 8785
  recovering-few e = omega (arith, recover-few (blocks_of d), ap length (opened-text (blocks_of d) (Recovering 0) ∙ e))

  short-few : length (listing d) ≤ 8785
  short-few = device (is_allowed (length d)) refl
    where
      empty : (a : is_allowed (length d) ≡ true) (f : header_fault (length d / 512) (blocks_of d 0) ≡ none) → length (targets_in (blocks_of d 0)) ≡ 0
          → (o : Option ℕ) → inode_fault (length d / 512) (blocks_of d) ≡ o → (p : Option ℕ) → block_fault (length d / 512) (blocks_of d) ≡ p → length (listing d) ≤ 8785
      empty a f z (some i) g p k = refusal-few (DamagedInode i) (text-short d (left never_opened d [] (refusal_of (DamagedInode i))) h (open-inode never_opened d [] a f z i g))
      empty a f z none g (some b) k =
          refusal-few (DamagedBlock (disk_block b)) (text-short d (left never_opened d [] (refusal_of (DamagedBlock (disk_block b)))) h (open-block never_opened d [] a f z g b k))
      empty a f z none g none k =
          ready-few a (free-fault (length d / 512) (blocks_of d) g k) (text-short d (left (opened (length d / 512) Ready) d [] done) h (open-ready never_opened d [] a f z g k))

      log : (a : is_allowed (length d) ≡ true) (f : header_fault (length d / 512) (blocks_of d 0) ≡ none) (t : Bool) → eqb (length (targets_in (blocks_of d 0))) 0 ≡ t → length (listing d) ≤ 8785
      log a f true z = empty a f (eqb-true (length (targets_in (blocks_of d 0))) 0 z) (inode_fault (length d / 512) (blocks_of d)) refl (block_fault (length d / 512) (blocks_of d)) refl
      log a f false z =
          recovering-few (text-short d (left (opened (length d / 512) (Recovering 0)) d [] done) h (open-log never_opened d [] a f (eqb-false (length (targets_in (blocks_of d 0))) 0 z)))

      header : (a : is_allowed (length d) ≡ true) (o : Option ℕ) → header_fault (length d / 512) (blocks_of d 0) ≡ o → length (listing d) ≤ 8785
      header a none f = log a f (eqb (length (targets_in (blocks_of d 0))) 0) refl
      header a (some i) f = refusal-few (BadHeader i) (text-short d (left never_opened d [] (refusal_of (BadHeader i))) h (open-header never_opened d [] a i f))

      device : (t : Bool) → is_allowed (length d) ≡ t → length (listing d) ≤ 8785
      device true a = header a (header_fault (length d / 512) (blocks_of d 0)) refl
      device false a = refusal-few DeviceSize (text-short d (left never_opened d [] (refusal_of DeviceSize)) h (open-device never_opened d [] a))

-- no listing is longer
pub listing-few : (d : List ℕ) → length (listing d) ≤ 8785
listing-few d = go (lt-or-le 65536 (length d))
  where
    go : (65536 < length d) ⊎ (length d ≤ 65536) → length (listing d) ≤ 8785
    go (inl h) = omega (arith, refused-few DeviceSize, ap length (text-long d h))
    go (inr h) = short-few d h

-- with room for the longest, the answer counts the whole text
pub listed-whole : (image out after : List ℕ) (n : ℕ) → Listed image out after n → 8785 ≤ length out → take n after ≡ listing image
listed-whole image out after n h r = go (listing image) (listing-few image) h.bytes h.count
  where
    go : (t : List ℕ) → length t ≤ 8785 → after ≡ take (length out) t ++ drop (length t) out → n ≡ min (length t) (length out) → take n after ≡ t
    go t f e c =
        let k : n ≡ length t = omega arith in
        ap₂ (λ (m : ℕ) (xs : List ℕ). take m xs) k (e ∙ ap (λ (xs : List ℕ). xs ++ drop (length t) out) (take_all (length out) t (omega arith)))
        ∙ take-append-le (length t) t (drop (length t) out) (omega arith) ∙ take-length t
