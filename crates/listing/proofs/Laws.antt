-- Laws of the listing's parts. Assumes nothing.
use Prim.Native.Nat.{ℕ, zero, suc, ◌+◌, ◌-◌, ◌<◌, ◌≤◌, min}
use mathlib.Core.Path.{◌≡◌, refl, sym, ap, ap₂, ◌∙◌}
use mathlib.Core.Bool.{Bool, true, false, cond, not}
use mathlib.Core.List.{List, [], ◌∷◌, ◌++◌, map}
use native.Mathlib.Omega.{arith}
use borrow.Author.Tests.{lt-ltb, le-ltb}
use lib.ListN.{length, take, drop, length-append, length-take, length-drop}
use lib.Seq.{take_all}
use Rattle.spec.specs.declared.Extent.{Extent}
use Rattle.spec.specs.declared.Session.{Session}
use Rattle.std.specs.Prelude.{Result as Returned, Ok, Err}
use Rattle.std.specs.List.{filter, range_with_len}
use Rattle.inode.specs.declared.number.InodeNumber.{InodeNumber}
use Rattle.spec.specs.declared.Phase.{Phase}
use Rattle.spec.specs.declared.Phase.TheVariants.{Closed, Ready, Committing, Recovering}
use Rattle.spec.specs.declared.Refusal.{Refusal}
use Rattle.spec.specs.declared.Refusal.TheVariants.{DeviceSize}
use Rattle.spec.specs.Bytes.{exactly, all_zero, concat, keep, up_from}
use Rattle.spec.specs.Disk.{Disk, blocks_of}
use Rattle.spec.specs.Bitmap.{bits_of, free_bits}
use Rattle.spec.specs.Inode.{Inode, inode_of, inode_at, name_at, is_empty, block_of_inode, blocks_in, extents_of, data_of, runs}
use Rattle.spec.specs.Session.{never_opened}
use Rattle.spec.specs.Answers.{done_of, refusal_of, refusal_number}
use Rattle.spec.specs.Transaction.{state_of}
use Rattle.spec.specs.Journal.{targets_in}
use Rattle.spec.specs.Calls.{Outcome, left, open_store}
use Rattle.spec.specs.Listing.{files_word, free_word, refused_word, recover_word, hexadecimal, extents_text, line_at, refused_text, opened_text, outcome_text, text_of, listing}
use Rattle.spec.proofs.Refusals.{of-refusal}
use Rattle.inode.specs.Records.{record_in}
use Rattle.inode.proofs.Laws.{record-at, inode-at, empty-at}
use Rattle.extents.specs.Stretches.{runs_in}
use Rattle.text.specs.Written.{number, Written}
use Rattle.text.proofs.Laws.{laid-front}
use Rattle.listing.specs.Steps.{span_text, more_text, runs_text, line_text, used, used_from, lines_text, files_lines, told_text, refused_line, recover_line, opened_lines, device_text, Listed}

-- ---- extents

pub span-is : (e : Extent) → number e.first ++ ((43 ∷ []) ++ number e.count) ≡ span_text e
unfolding span_text number
span-is e = refl

pub more-next : (e : Extent) (es : List Extent) → more_text (e ∷ es) ≡ ((44 ∷ []) ++ span_text e) ++ more_text es
unfolding more_text span_text
more-next e es = refl

pub more-none : more_text [] ≡ []
unfolding more_text
more-none = refl

-- no file has more blocks than the stretch
pub few-blocks : (v : Disk) (i : ℕ) → length (data_of v (inode_at v i)) ≤ 2048
unfolding data_of
few-blocks v i = omega (arith, length-take 2048 (blocks_in (extents_of v (inode_at v i))))

all_runs : (v : Disk) (i : ℕ) → runs_in v i 0 2048 ≡ runs (data_of v (inode_at v i))
unfolding runs_in
all_runs v i = ap runs (take_all 2048 (data_of v (inode_at v i)) (few-blocks v i))

pub runs-some : (v : Disk) (i : ℕ) (e : Extent) (es : List Extent) → runs (data_of v (inode_at v i)) ≡ e ∷ es → runs_text v i ≡ span_text e ++ more_text es
unfolding runs_text span_text more_text
runs-some v i e es h = ap extents_text h

pub runs_none : (v : Disk) (i : ℕ) → runs (data_of v (inode_at v i)) ≡ [] → runs_text v i ≡ 45 ∷ []
unfolding runs_text
runs_none v i h = ap extents_text h

-- where these are all runs of the file
module _ (v : Disk) (i : ℕ) (all : List Extent) (q : all ≡ runs_in v i 0 2048) where
  pub text-run : (e : Extent) (es : List Extent) → all ≡ e ∷ es → span_text e ++ more_text es ≡ runs_text v i
  text-run e es h = sym (runs-some v i e es (sym (all_runs v i) ∙ sym q ∙ h))

  pub text-none : all ≡ [] → 45 ∷ [] ≡ runs_text v i
  text-none h = sym (runs_none v i (sym (all_runs v i) ∙ sym q ∙ h))

-- ---- lines

pub line-used : (v : Disk) (i : ℕ) → is_empty v i ≡ false
    → hexadecimal (name_at v i) ++ ((32 ∷ []) ++ (number (inode_at v i).size ++ ((32 ∷ []) ++ (runs_text v i ++ (10 ∷ []))))) ≡ line_text v i
unfolding line_text runs_text number
line-used v i e = rw e

module _ (v : Disk) (i : ℕ) (table : List ℕ) (g : exactly 512 table ≡ v (block_of_inode i)) where
  pub line-none : all_zero (take 8 (record_in table i)) ≡ true → [] ≡ line_text v i
  unfolding line_text
  line-none e = let z : is_empty v i ≡ true = sym (empty-at v table i g) ∙ e in rw z

  pub line-is : (name : List ℕ) (size : ℕ) → all_zero (take 8 (record_in table i)) ≡ false → name ≡ take 8 (record_in table i) → size ≡ (inode_of (record_in table i)).size
      → hexadecimal name ++ ((32 ∷ []) ++ (number size ++ ((32 ∷ []) ++ (runs_text v i ++ (10 ∷ []))))) ≡ line_text v i
  line-is name size e n z =
      ap₂ (λ (x : List ℕ) (k : ℕ). hexadecimal x ++ ((32 ∷ []) ++ (number k ++ ((32 ∷ []) ++ (runs_text v i ++ (10 ∷ []))))))
      (n ∙ ap (take 8) (record-at v table i g)) (z ∙ ap (λ (x : Inode). x.size) (inode-at v table i g))
      ∙ line-used v i (sym (empty-at v table i g) ∙ e)

  pub used-is : not (all_zero (take 8 (record_in table i))) ≡ not (is_empty v i)
  used-is = ap not (empty-at v table i g)

-- what the code answers where there is no record i, and of record m
pub used-none : (v : Disk) (i : ℕ) → 128 ≤ i → false ≡ used v i
unfolding used
used-none v i h = rw (le-ltb i 128 h)

pub used-some : (v : Disk) (i : ℕ) (m : InodeNumber) (r : Bool) → m.n ≡ i → r ≡ not (is_empty v m.n) → r ≡ used v i
unfolding used
used-some v i m r e f = f ∙ rw (e, lt-ltb i 128 (rw e at m.low))

-- one record, and the n behind it
module _ (v : Disk) (i n : ℕ) where
  used-count : length (keep (λ j. not (is_empty v j)) (up_from i (suc n))) ≡ cond (is_empty v i) 0 1 + length (keep (λ j. not (is_empty v j)) (up_from (suc i) n))
  used-count = go (is_empty v i) (keep (λ j. not (is_empty v j)) (up_from (suc i) n))
    where
      go : (t : Bool) (r : List ℕ) → length (cond (not t) (i ∷ r) r) ≡ cond t 0 1 + length r
      go true r = omega arith
      go false r = omega arith

  used-lines : concat (map (line_at v) (keep (λ j. not (is_empty v j)) (up_from i (suc n))))
      ≡ cond (is_empty v i) [] (line_at v i) ++ concat (map (line_at v) (keep (λ j. not (is_empty v j)) (up_from (suc i) n)))
  used-lines = go (line_at v) (is_empty v i) (keep (λ j. not (is_empty v j)) (up_from (suc i) n))
    where
      go : (f : ℕ → List ℕ) (t : Bool) (r : List ℕ) → concat (map f (cond (not t) (i ∷ r) r)) ≡ cond t [] (f i) ++ concat (map f r)
      go f true r = refl
      go f false r = refl

module _ (v : Disk) (i : ℕ) where
  pub count-more : i < 128 → length (used_from v i) ≡ cond (is_empty v i) 0 1 + length (used_from v (i + 1))
  unfolding used_from
  count-more h =
      let a : 128 - i ≡ suc (128 - (i + 1)) = omega arith in
      let b : i + 1 ≡ suc i = omega arith in
      rw (a, b) (used-count v i (128 - suc i))

  pub lines_more : i < 128 → lines_text v i ≡ line_text v i ++ lines_text v (i + 1)
  unfolding lines_text line_text used_from
  lines_more h =
      let a : 128 - i ≡ suc (128 - (i + 1)) = omega arith in
      let b : i + 1 ≡ suc i = omega arith in
      rw (a, b) (used-lines v i (128 - suc i))

  pub count-end : 128 ≤ i → length (used_from v i) ≡ 0
  unfolding used_from
  count-end h = let a : 128 - i ≡ 0 = omega arith in rw a

  pub lines_end : 128 ≤ i → lines_text v i ≡ []
  unfolding lines_text used_from
  lines_end h = let a : 128 - i ≡ 0 = omega arith in rw a

-- the used records, counted
used-files : (v : Disk) (i n : ℕ) → i + n ≡ 128 → length (filter (used v) (range_with_len i n)) ≡ length (used_from v i)
unfolding used
used-files v i zero h = sym (count-end v i (omega arith))
used-files v i (suc n) h = rw (lt-ltb i 128 (omega arith)) (go (is_empty v i) (filter (used v) (range_with_len (i + 1) n)) ∙ ap (λ (k : ℕ). cond (is_empty v i) 0 1 + k) (used-files v (i + 1) n (omega arith)) ∙ sym (count-more v i (omega arith)))
  where
    go : (t : Bool) (r : List ℕ) → length (cond (not t) (i ∷ r) r) ≡ cond t 0 1 + length r
    go true r = omega arith
    go false r = omega arith

pub count-is : (v : Disk) (n : ℕ) → n ≡ length (filter (used v) (range_with_len 0 128)) → n ≡ length (used_from v 0)
count-is v n e = e ∙ used-files v 0 128 refl

pub files-text : (v : Disk) → files_word ++ (number (length (used_from v 0)) ++ (free_word ++ (number (free_bits (bits_of (v 33))) ++ ((10 ∷ []) ++ lines_text v 0)))) ≡ files_lines v
unfolding files_lines number lines_text used_from
files-text v = refl

pub files-are : (v : Disk) (n m : ℕ) → n ≡ length (used_from v 0) → m ≡ free_bits (bits_of (v 33))
    → files_word ++ (number n ++ (free_word ++ (number m ++ ((10 ∷ []) ++ lines_text v 0)))) ≡ files_lines v
files-are v n m e f = ap₂ (λ (x y : ℕ). files_word ++ (number x ++ (free_word ++ (number y ++ ((10 ∷ []) ++ lines_text v 0))))) e f ∙ files-text v

-- ---- the other lines

pub told_is : (word : List ℕ) (n : ℕ) → word ++ (number n ++ (10 ∷ [])) ≡ told_text word n
unfolding told_text
told_is word n = refl

pub refused-is : (r : Refusal) → told_text refused_word (refusal_number (refusal_of r)) ≡ refused_line r
unfolding told_text number refused_line
refused-is r = refl

pub recover-is : (d : Disk) (n : ℕ) → n ≡ length (targets_in (d 0)) → told_text recover_word n ≡ recover_line d
unfolding told_text number recover_line
recover-is d n e = ap (λ (k : ℕ). told_text recover_word k) e

-- ---- open

pub opened-text : (d : Disk) (p : Phase) → opened_lines d p ≡ opened_text d p
unfolding files_lines recover_line
opened-text d Closed = refl
opened-text d Ready = refl
opened-text d (Committing k) = refl
opened-text d (Recovering k) = refl

pub refused-text : (d : Disk) (p : Phase) (r : Refusal) → refused_line r ≡ outcome_text d p (refusal_of r)
unfolding refused_line
refused-text d p = of-refusal (λ a. refused_text (refusal_number a) ≡ outcome_text d p a) (λ n vs. refl)

pub text-long : (d : List ℕ) → 65536 < length d → refused_line DeviceSize ≡ listing d
unfolding text_of refused_line
text-long d h = rw (lt-ltb 65536 (length d) h)

pub short-text : (d : List ℕ) → length d ≤ 65536 → device_text d ≡ listing d
unfolding text_of device_text
short-text d h = rw (le-ltb 65536 (length d) h)

device-text : (d : List ℕ) (o : Outcome) → o ≡ open_store (state_of never_opened d []) → outcome_text (blocks_of d) o.after.session.phase o.answer ≡ device_text d
unfolding device_text
device-text d o e = rw e

pub text-short : (d : List ℕ) (o : Outcome) → length d ≤ 65536 → o ≡ open_store (state_of never_opened d []) → outcome_text (blocks_of d) o.after.session.phase o.answer ≡ listing d
text-short d o h e = device-text d o e ∙ short-text d h

module _ (d : List ℕ) (q s : Session) (a : Returned (Unit {0}) Refusal) (e : (work : List ℕ) → left q d work (done_of a) ≡ open_store (state_of s d work)) (n : s ≡ never_opened) where
  outcome-text : outcome_text (blocks_of d) q.phase (done_of a) ≡ device_text d
  outcome-text = device-text d (left q d [] (done_of a)) (e [] ∙ ap (λ (t : Session). open_store (state_of t d [])) n)

  pub text-refused : (r : Refusal) → a ≡ Err r → refused_line r ≡ device_text d
  text-refused r f = refused-text (blocks_of d) q.phase r ∙ ap (λ (x : Returned (Unit {0}) Refusal). outcome_text (blocks_of d) q.phase (done_of x)) (sym f) ∙ outcome-text

  pub text-done : a ≡ Ok (tt {0}) → opened_lines (blocks_of d) q.phase ≡ device_text d
  text-done f = opened-text (blocks_of d) q.phase ∙ ap (λ (x : Returned (Unit {0}) Refusal). outcome_text (blocks_of d) q.phase (done_of x)) (sym f) ∙ outcome-text

pub listed : (image out after text : List ℕ) (p : ℕ) → Written out 0 text after p → text ≡ listing image → Listed image out after p
listed image out after text p w e =
    record {
      bytes = w.bytes ∙ laid-front out text ∙ ap (λ (t : List ℕ). take (length out) t ++ drop (length t) out) e;
      count = let z : p ≡ min (length text) (length out) = omega (arith, w.place) in z ∙ ap (λ (t : List ℕ). min (length t) (length out)) e;
    }

-- what was put is within the bytes
pub listed-count : (image out after : List ℕ) (n : ℕ) → Listed image out after n → n ≡ length (take n after)
listed-count image out after n h = go (listing image) h.bytes h.count
  where
    go : (t : List ℕ) → after ≡ take (length out) t ++ drop (length t) out → n ≡ min (length t) (length out) → n ≡ length (take n after)
    go t e f =
        let l : length after ≡ min (length out) (length t) + (length out - length t) =
        ap length e ∙ length-append (take (length out) t) (drop (length t) out)
        ∙ ap₂ (λ (x y : ℕ). x + y) (length-take (length out) t) (length-drop (length t) out)
        in
        omega (arith, length-take n after)
