-- Laws of staging and of the working copy. Assumes nothing.
use Prim.Native.Nat.{ℕ, suc, ◌+◌, ◌*◌, ◌-◌, ◌<◌, ◌≤◌, min}
use mathlib.Core.Path.{◌≡◌, refl, sym, ap, ap₂, ◌∙◌, fun_ext}
use mathlib.Core.Bool.{Bool, true, false}
use mathlib.Core.List.{List, [], ◌∷◌, ◌++◌}
use mathlib.Core.Option.{Option, none, some}
use lib.ListN.{length, take, drop, get_or, set, length-append, length-take, take-append-drop}
use lib.Seq.{take-append_seam, take_all, set_split, append_snoc, drop-append-add, drop-drop}
use lib.Dec.{eqb}
use native.Mathlib.Decide.{dec_lt}
use native.Mathlib.Numerals.{add-one}
use native.Mathlib.Omega.{arith}
use borrow.Author.Tests.{eqb-true, eqb-false, eq-eqb, ne_eqb}
use Rattle.spec.specs.Bytes.{exactly, found, place, distinct, all}
use Rattle.spec.specs.Disk.{Disk, Slice, blocks_of, slice_of, is_target, with_block}
use Rattle.spec.specs.declared.Phase.{Phase}
use Rattle.spec.specs.declared.Session.{Session}
use Rattle.spec.specs.Session.{opened, staged_in, with_staged}
use Rattle.spec.specs.Transaction.{State, state_of, view, BlockStore, put, Staged, stage, staged_of, with_staging}
use Rattle.block.specs.Stores.{stored_in}
use Rattle.block.proofs.Laws.{block-length, block_read}
use Rattle.block.proofs.Steps.{slice-stored}
use Rattle.lists.specs.Places.{place-lt, place-value, place-new, place_other, no_place, distinct_snoc, all_append}
use Rattle.transaction.specs.Places.{found_at, spot, blocks_with, session_of, view_in}
use Rattle.transaction.specs.Volumes.{working, Heads, Shows}
use Rattle.transaction.specs.LentSessions.{session_lent, Kept, Held}
use Rattle.transaction.specs.Images.{image_in}
use Rattle.transaction.specs.declared.lent_session.LentSession.{LentSession}
use Rattle.transaction.specs.declared.staging.Staging.{Staging}
use Rattle.transaction.specs.declared.volume.Volume.{Volume}
use Rattle.transaction.specs.declared.working_copy.WorkingCopy.{WorkingCopy}
use Rattle.std.specs.Prelude.{Some, None}
use Rattle.std.specs.Option.{unwrap_or}
use Rattle.block.proofs.Places.{found-some, found-none}

-- ---- the staged numbers

pub staged-with : (s : Session) (bs : List ℕ) → staged_in (with_staged s bs) ≡ bs
unfolding staged_in with_staged
staged-with s bs = take-append_seam bs (drop (length bs) s.staged)

pub phase-with : (s : Session) (bs : List ℕ) → (with_staged s bs).phase ≡ s.phase
unfolding with_staged
phase-with s bs = refl

pub staged-opened : (N : ℕ) (p : Phase) → staged_in (opened N p) ≡ []
unfolding staged_in
staged-opened N p = refl

-- ---- staging one block

-- the working copy that staged blocks show over a disk
abbrev pub shown : Disk → Staged → Disk
shown d t c = found (place c t.blocks) (d c) t.image

module _ (t : Staged) (w : BlockStore) where
  pub stage-new : place w.block t.blocks ≡ none
      → stage t w ≡ record { blocks = t.blocks ++ (w.block ∷ []); image = with_block (length t.blocks) w.content t.image }
  unfolding stage
  stage-new e = rw e

  pub stage-again : (i : ℕ) → place w.block t.blocks ≡ some i
      → stage t w ≡ record { blocks = t.blocks; image = with_block i w.content t.image }
  unfolding stage
  stage-again i e = rw e

-- staging a block changes what is shown at that block only
pub shown-stage : (d : Disk) (t : Staged) (w : BlockStore) (c : ℕ) → shown d (stage t w) c ≡ with_block w.block w.content (shown d t) c
shown-stage d t w c = go (place w.block t.blocks) refl (eqb c w.block) refl
  where
    away : (i : ℕ) → ((j : ℕ) → place c t.blocks ≡ some j → j ≡ i → ⊥) → (o : Option ℕ) → place c t.blocks ≡ o
        → found o (d c) (with_block i w.content t.image) ≡ found o (d c) t.image
    away i h none e = refl
    away i h (some j) e = rw (ne_eqb j i (h j e))

    go : (o : Option ℕ) → place w.block t.blocks ≡ o → (q : Bool) → eqb c w.block ≡ q
        → shown d (stage t w) c ≡ with_block w.block w.content (shown d t) c
    go none e true q =
        let p : place c (t.blocks ++ (w.block ∷ [])) ≡ some (0 + length t.blocks) =
        rw (eqb-true c w.block q) (place-new w.block 0 t.blocks e)
        in
        rw (stage-new t w e, q, p, eq-eqb (0 + length t.blocks) (length t.blocks) (omega arith))
    go none e false q =
        rw (stage-new t w e, q, place_other w.block c 0 t.blocks (eqb-false c w.block q))
        (away (length t.blocks) (λ j h k. omega (arith, place-lt c j t.blocks h, k)) (place c t.blocks) refl)
    go (some i) e true q =
        let p : place c t.blocks ≡ some i = rw (eqb-true c w.block q) e in
        rw (stage-again t w i e, q, p, eq-eqb i i refl)
    go (some i) e false q =
        rw (stage-again t w i e, q)
        (away i
        (λ j h k. eqb-false c w.block q
        (sym (place-value c j t.blocks h) ∙ ap (λ (n : ℕ). get_or t.blocks n 0) k ∙ place-value w.block i t.blocks e))
        (place c t.blocks) refl)

-- the working copy of a state is what its staged blocks show
pub view-shown : (s : State) (t : Staged) → view (with_staging s t) ≡ shown s.device.block t
unfolding view
view-shown s t = fun_ext (λ b. ap (λ (bs : List ℕ). found (place b bs) (s.device.block b) t.image) (staged-with s.session t.blocks))

-- staging x at b changes the working copy at b alone
pub view-stage : (s : State) (w : BlockStore) → view (with_staging s (stage (staged_of s) w)) ≡ with_block w.block w.content (view s)
unfolding view
view-stage s w = view-shown s (stage (staged_of s) w) ∙ fun_ext (λ c. shown-stage s.device.block (staged_of s) w c)

-- ---- staged numbers stay within the device and different

pub record Listed (N : ℕ) (bs : List ℕ) : Type 0 where
  pub targets : all (is_target N) bs ≡ true
  pub differ : distinct bs ≡ true

pub stage-listed : (N : ℕ) (t : Staged) (w : BlockStore) → Listed N t.blocks → is_target N w.block ≡ true → Listed N (stage t w).blocks
stage-listed N t w l h = go (place w.block t.blocks) refl
  where
    go : (o : Option ℕ) → place w.block t.blocks ≡ o → Listed N (stage t w).blocks
    go none e =
        rw (stage-new t w e) (record {
          targets = all_append (is_target N) t.blocks (w.block ∷ []) ∙ rw (l.targets, h);
          differ = distinct_snoc w.block t.blocks (no_place w.block 0 t.blocks e) l.differ;
        })
    go (some i) e = rw (stage-again t w i e) l

-- ---- what holds of every session that the calls hand out, on a device of N blocks

pub record Valid (N : ℕ) (s : Session) : Type 0 where
  -- N, the numbers staged, and zeros behind them
  pub whole : s ≡ with_staged (opened N s.phase) (staged_in s)
  pub few : length (staged_in s) ≤ 32
  pub listed : Listed N (staged_in s)

-- numbers staged over fewer ones
pub with_staged-twice : (t : Session) (old bs : List ℕ) → length old ≤ length bs → with_staged (with_staged t old) bs ≡ with_staged t bs
unfolding with_staged
with_staged-twice t old bs h =
    let n = length bs - length old in
    let e : length bs ≡ length old + n = omega arith in
    let q : drop (length bs) (old ++ drop (length old) t.staged) ≡ drop (length bs) t.staged =
    rw e (drop-append-add old (drop (length old) t.staged) n ∙ drop-drop n (length old) t.staged)
    in
    rw q

-- staged numbers are only ever added, so that the cells behind them stay zero
pub valid-staged : (N : ℕ) (s : Session) (bs : List ℕ) → Valid N s → length (staged_in s) ≤ length bs → length bs ≤ 32 → Listed N bs → Valid N (with_staged s bs)
valid-staged N s bs v more few l =
    record {
      whole = ap (λ (t : Session). with_staged t bs) v.whole ∙ with_staged-twice (opened N s.phase) (staged_in s) bs more ∙ rw (staged-with s bs, phase-with s bs);
      few = rw (staged-with s bs) few;
      listed = rw (staged-with s bs) l;
    }

pub stage-longer : (t : Staged) (w : BlockStore) → length t.blocks ≤ length (stage t w).blocks
stage-longer t w = go (place w.block t.blocks) refl
  where
    go : (o : Option ℕ) → place w.block t.blocks ≡ o → length t.blocks ≤ length (stage t w).blocks
    go none e = rw (stage-new t w e) (simp length-append (omega arith))
    go (some i) e = rw (stage-again t w i e) (omega arith)

-- ---- of the code

module _ (s : Session) (h : length s.staged ≡ 32) where
  -- a count past the array is read as the array's length
  pub length-staged : length (staged_in s) ≡ min s.count 32
  unfolding staged_in
  length-staged = length-take s.count s.staged ∙ rw h

  pub staged-is : (n : ℕ) → n ≡ length (staged_in s) → staged_in s ≡ take n s.staged
  unfolding staged_in
  staged-is n e = go (dec_lt s.count 32)
    where
      l : n ≡ min s.count 32
      l = e ∙ length-staged

      go : Dec (s.count < 32) → take s.count s.staged ≡ take n s.staged
      go (yes k) = let q : n ≡ s.count = omega (arith, l) in rw q
      go (no k) = take_all s.count s.staged (omega arith) ∙ sym (take_all n s.staged (omega (arith, l)))

pub settled_is : (s : Session) (n : ℕ) → length s.staged ≡ 32 → n ≡ length (staged_in s)
    → record { blocks = s.blocks; phase = s.phase; staged = s.staged; count = n } ≡ with_staged s (staged_in s)
unfolding with_staged
settled_is s n h e = rw (← e, staged-is s h n e, take-append-drop n s.staged)

-- the cells in use, of every session with these
pub staged-parts : (cells : List ℕ) (count N : ℕ) (p : Phase) → staged_in (session_of N p cells count) ≡ take count cells
unfolding staged_in
staged-parts cells count N p = refl

pub at_lt : (l : List ℕ) (b i : ℕ) → found_at (place b l) ≡ Some i → i < length l
at_lt l b i e = place-lt b i l (found-some (place b l) i e)

pub part-few : (xs ys : List ℕ) (b : ℕ) → ys ≡ take 512 (drop (512 * b) xs) → length ys ≤ 512
part-few xs ys b e = rw e (simp length-take (omega arith))

-- the working copy, of the numbers staged
module _ (l device work : List ℕ) (b : ℕ) where
  pub view-at : (i : ℕ) → found_at (place b l) ≡ Some i → view_in l device work b ≡ blocks_of work i
  unfolding view_in
  view-at i e = rw (found-some (place b l) i e)

  pub view-new : found_at (place b l) ≡ None → view_in l device work b ≡ blocks_of device b
  unfolding view_in
  view-new e = rw (found-none (place b l) e)

  pub view-in-length : length (view_in l device work b) ≡ 512
  unfolding view_in
  view-in-length = go (place b l)
    where
      go : (o : Option ℕ) → length (found o (blocks_of device b) (blocks_of work)) ≡ 512
      go none = block-length device b
      go (some i) = block-length work i

-- a session's working copy is that of the numbers that it has staged
pub view_of : (s : Session) (device work l : List ℕ) → staged_in s ≡ l → view_in l device work ≡ view (state_of s device work)
unfolding view view_in
view_of s device work l e = rw (← e)

module _ (l : List ℕ) (b : ℕ) where
  -- as the code finds it
  pub spot-is : unwrap_or (found_at (place b l)) (length l) ≡ spot l b
  unfolding spot
  spot-is = go (place b l)
    where
      go : (o : Option ℕ) → unwrap_or (found_at o) (length l) ≡ found o (length l) (λ i. i)
      go none = refl
      go (some i) = refl

  pub spot-le : spot l b ≤ length l
  unfolding spot
  spot-le = go (place b l) refl
    where
      go : (o : Option ℕ) → place b l ≡ o → spot l b ≤ length l
      go none e = rw e (omega arith)
      go (some i) e = rw e (omega (arith, place-lt b i l e))

  -- whether it is among them already is told by its place
  pub spot-found : spot l b < length l → found_at (place b l) ≡ Some (spot l b)
  unfolding spot
  spot-found h = go (place b l) refl
    where
      go : (o : Option ℕ) → place b l ≡ o → found_at (place b l) ≡ Some (spot l b)
      go none e = let z : length l < length l = rw e at h in absurd (omega arith)
      go (some i) e = rw e

  pub spot-absent : length l ≤ spot l b → found_at (place b l) ≡ None
  unfolding spot
  spot-absent h = go (place b l) refl
    where
      go : (o : Option ℕ) → place b l ≡ o → found_at (place b l) ≡ None
      go none e = rw e
      go (some i) e = let z : length l ≤ i = rw e at h in absurd (omega (arith, place-lt b i l e))

  -- a block keeps its place where it is added
  spot-with : spot (blocks_with l b) b ≡ spot l b
  unfolding spot blocks_with
  spot-with = go (place b l) refl
    where
      go : (o : Option ℕ) → place b l ≡ o
          → found (place b (found (place b l) (l ++ (b ∷ [])) (λ i. l))) (length (found (place b l) (l ++ (b ∷ [])) (λ i. l))) (λ i. i) ≡ found (place b l) (length l) (λ i. i)
      go none e = rw (e, place-new b 0 l e) (omega arith)
      go (some i) e = rw (e, e) refl

pub spot-after : (s q : Session) (b i : ℕ) → i ≡ spot (staged_in s) b → q ≡ with_staged s (blocks_with (staged_in s) b) → i ≡ spot (staged_in q) b
spot-after s q b i e h =
    e ∙ sym (spot-with (staged_in s) b) ∙ ap (λ (l : List ℕ). spot l b) (sym (ap staged_in h ∙ staged-with s (blocks_with (staged_in s) b)))

-- the place among the cells in use of a session
pub spot-staged : (s : Session) (l : List ℕ) (b i : ℕ) → i ≡ spot l b → l ≡ take s.count s.staged → i ≡ spot (staged_in s) b
unfolding staged_in
spot-staged s l b i e q = e ∙ ap (λ (l : List ℕ). spot l b) q

-- a block stored once more over itself
with-self : (k : ℕ) (d : Disk) → with_block k (d k) d ≡ d
with-self k d = fun_ext (λ c. go c (eqb c k) refl)
  where
    go : (c : ℕ) (t : Bool) → eqb c k ≡ t → with_block k (d k) d c ≡ d c
    go c true h = rw h (ap d (sym (eqb-true c k h)))
    go c false h = rw h

-- where these are staged, the image of block b at its place k
module _ (l device work : List ℕ) (b k : ℕ) (at : k ≡ spot l b) where
  -- it is the working copy where the block is among them
  pub image-held : k < length l → slice_of work ≡ stored_in (slice_of work) k (view_in l device work b)
  image-held h =
      let e : found_at (place b l) ≡ Some k = rw at (spot-found l b (omega (arith, at))) in
      ap (λ (d : Disk). record { size = length work; block = d }) (sym (with-self k (blocks_of work)))
      ∙ ap (λ (x : List ℕ). stored_in (slice_of work) k x) (sym (view-at l device work b k e))

  -- else the block is the device's
  pub image-new : (left from : List ℕ) → length l ≤ k → from ≡ take 512 (drop (512 * b) device)
      → slice_of left ≡ stored_in (slice_of work) k (exactly 512 from) → slice_of left ≡ stored_in (slice_of work) k (view_in l device work b)
  image-new left from h ef is =
      let e : found_at (place b l) ≡ None = spot-absent l b (omega (arith, at)) in
      is ∙ ap (λ (x : List ℕ). stored_in (slice_of work) k x) (block_read device from (exactly 512 from) b ef refl ∙ sym (view-new l device work b e))

module _ (s : Session) (b n i : ℕ) (h : length s.staged ≡ 32) (e : n ≡ length (staged_in s)) (q : i ≡ spot (staged_in s) b) where
  -- the session's cells after staging: all as they were, or one more in use
  pub with_at : i < n → record { blocks = s.blocks; phase = s.phase; staged = s.staged; count = n } ≡ with_staged s (blocks_with (staged_in s) b)
  unfolding with_staged blocks_with
  with_at l =
      let f = spot-found (staged_in s) b (omega (arith, q, e)) in
      rw (found-some (place b (staged_in s)) (spot (staged_in s) b) f, ← e, staged-is s h n e, take-append-drop n s.staged)

  pub with-new : n ≤ i → i < 32
      → record { blocks = s.blocks; phase = s.phase; staged = set s.staged n b; count = n + 1 } ≡ with_staged s (blocks_with (staged_in s) b)
  unfolding with_staged blocks_with
  with-new m k =
      let f = spot-absent (staged_in s) b (omega (arith, q, e)) in
      let l : length (staged_in s ++ (b ∷ [])) ≡ suc n = length-append (staged_in s) (b ∷ []) ∙ omega arith in
      rw (found-none (place b (staged_in s)) f, l, add-one n, set_split s.staged n b (omega arith), staged-is s h n e)
      (ap (λ (x : List ℕ). record { blocks = s.blocks; phase = s.phase; staged = x; count = suc n }) (sym (append_snoc (take n s.staged) b (drop (suc n) s.staged))))

-- all of it: the session and the work space that `stage` leaves
pub stage_is : (s : Session) (device work : List ℕ) (b : ℕ) (x : List ℕ)
    → stage (staged_of (state_of s device work)) (put b x)
    ≡ record { blocks = blocks_with (staged_in s) b; image = with_block (spot (staged_in s) b) x (blocks_of work) }
unfolding blocks_with spot
stage_is s device work b x = go (place b (staged_in s)) refl
  where
    go : (o : Option ℕ) → place b (staged_in s) ≡ o
        → stage (staged_of (state_of s device work)) (put b x) ≡ record { blocks = blocks_with (staged_in s) b; image = with_block (spot (staged_in s) b) x (blocks_of work) }
    go none e = stage-new (staged_of (state_of s device work)) (put b x) e ∙ rw e
    go (some i) e = stage-again (staged_of (state_of s device work)) (put b x) i e ∙ rw e

pub stage-leaves : (s q : Session) (device work left : List ℕ) (b i : ℕ) (x : List ℕ) → i ≡ spot (staged_in s) b → slice_of left ≡ stored_in (slice_of work) i x
    → q ≡ with_staged s (blocks_with (staged_in s) b) → state_of q device left ≡ with_staging (state_of s device work) (stage (staged_of (state_of s device work)) (put b x))
stage-leaves s q device work left b i x e f g =
    ap₂ (λ (n : Session) (w : Slice). record { session = n; device = slice_of device; work = w }) g
    (f ∙ ap (λ (k : ℕ). stored_in (slice_of work) k x) e)
    ∙ ap (with_staging (state_of s device work)) (sym (stage_is s device work b x))

-- ---- what a call that only reads sees

pub working-length : (c : WorkingCopy) (b : ℕ) → length (working c b) ≡ 512
working-length c = view-in-length c.staged.list.now c.device.now c.work.now

-- its blocks
module _ (v : Volume) (s : State) (e : Shows v s) where
  pub shows-view : working v.copy ≡ view s
  unfolding view view_in
  shows-view =
      ap₂ (λ (l : List ℕ) (d : Slice). λ b. found (place b l) (d.block b) (blocks_of v.copy.work.now)) (sym e.numbers) (sym e.head.device)
      ∙ ap (λ (w : Slice). λ b. found (place b (staged_in s.session)) (s.device.block b) w.block) (sym e.head.work)

-- all of it but the numbers of staged blocks
module _ (v : Volume) (s : State) (e : Heads v s) where
  pub heads-all : s ≡ state_of s.session v.copy.device.now v.copy.work.now
  heads-all = ap₂ (λ (d w : Slice). record { session = s.session; device = d; work = w }) e.device e.work

-- ---- a session lent

-- two changes, one after the other
kept_then : (l m n : LentSession) → Kept l m → Kept m n → Kept l n
kept_then l m n a b =
    record { work = b.work ∙ a.work; cells = b.cells ∙ a.cells; count = b.count ∙ a.count; device = b.device ∙ a.device; blocks = b.blocks ∙ a.blocks; phase = b.phase ∙ a.phase }

pub held_then : (s t u : Staging) → Held s t → Held t u → Held s u
held_then s t u a b = record { lent = b.lent ∙ a.lent; parts = kept_then _ _ _ a.parts b.parts }

-- at most 32 are staged
pub few-lent : (l : LentSession) → length (staged_in (session_lent l)) ≤ 32
few-lent l = omega (arith, length-staged (session_lent l) l.full)

-- ---- an image changed in place, in the part that is lent

pub edited : (g : List ℕ → List ℕ) (k : ℕ) (was y work : List ℕ) → 512 * k + 512 ≤ length was → y ≡ g (take (512 * k + 512 - 512 * k) (drop (512 * k) was)) → length y ≡ 512
    → work ≡ take (512 * k) was ++ (y ++ drop (512 * k + 512 - 512 * k) (drop (512 * k) was)) → slice_of work ≡ stored_in (slice_of was) k (g (image_in k was))
edited g k was y work fits e l is =
    let z : 512 * k + 512 - 512 * k ≡ 512 = omega arith in
    let made : y ≡ g (image_in k was) = e ∙ ap (λ (n : ℕ). g (take n (drop (512 * k) was))) z in
    ap slice_of is ∙ slice-stored k (g (image_in k was)) y was made (sym (ap length made) ∙ l) fits
