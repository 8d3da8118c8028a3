-- Demand 3 begins "from a store formatted whole or opened as sound": what format and open leave starts a list of the cut rule (open: proofs/Starts.antt). Assumes nothing.
use Rattle.std.specs.Prelude.{ℕ, zero, suc, ◌+◌, ◌*◌, ◌/◌, ◌%◌, ◌≤◌, ◌<◌, ◌≡◌, Bool, cond, ◌&&◌, ◌||◌, List, [], ◌∷◌, map, T, get_or, drop}
use Rattle.std.proofs.Math.Path.{refl}
use Rattle.std.proofs.Common.{sym, ap, ◌∙◌, subst, true≢false, inl, inr, get_or-take, get_or-drop, arith}
use Rattle.std.proofs.Math.Bool.{true, false, not}
use Rattle.std.proofs.lemmas.Bool.{false≢true}
use Rattle.std.proofs.Math.Option.{Option, none, some}
use Rattle.std.proofs.Math.Dec.{eqb}
use Rattle.std.proofs.Math.ListN.{length}
use borrow.Author.Tests.{eqb-true, eq-eqb, eqb-false}
use Rattle.spec.specs.Layout.{block_size, header_block, bitmap_block, fewest_blocks, most_blocks, log_length, log_record_size}
use Rattle.spec.specs.Bytes.{zeros, all_zero, part, up_from, member, leading}
use Rattle.spec.specs.Disk.{Disk, Slice, blocks_of, is_allowed, is_target}
use Rattle.spec.specs.Sound.{inode_fault, block_fault, sound}
use Rattle.spec.specs.declared.Phase.TheVariants.{Ready}
use Rattle.spec.specs.declared.Session.{Session}
use Rattle.spec.specs.declared.Refusal.TheVariants.{DeviceSize}
use Rattle.spec.specs.Session.{closed_on, never_opened}
use Rattle.spec.specs.Answers.{Answer, done, is_refused, accept, require, ◌>>◌}
use Rattle.spec.specs.Transaction.{State, with_session, state_of}
use Rattle.spec.specs.Journal.{target_at, targets_before, targets_in, is_record_wrong, header_fault}
use Rattle.spec.specs.Calls.{Outcome, outcome, settle, empty_disk, format, open_phase, open_store, Format, Open, step, left}
use Rattle.spec.specs.CutRule.{Starts}
use Rattle.lists.specs.Lowest.{lowest-none}
use Rattle.block.proofs.Laws.{allowed-says}
use Rattle.logs.specs.Targets.{truth}
use Rattle.logs.specs.Header.{clear_zero}
use Rattle.crash.specs.Exact.{opening}
use Rattle.crash.specs.Machine.{empty-clear, empty-whole, allowed-ok}
use Rattle.crash.specs.Theorem.{bounds}
use Rattle.laws.specs.Content.{zero-byte}
use Rattle.laws.specs.NewContent.{byte-zero}
use Rattle.laws.specs.Volume.{volume-sound}
use Rattle.laws.specs.Empty.{empty-good, empty-other}
use Rattle.laws.specs.Tie.{starts-on}

-- ---- a header that passes 10 and lists nothing is all zero

-- what a record that is not wrong tells
right-says : (used outside seen late clean : Bool) → ((used && (outside || seen || late)) || not clean) ≡ false → (clean ≡ true) × (late ≡ true → used ≡ false)
right-says true true c d z h = absurd (true≢false h)
right-says true false true d z h = absurd (true≢false h)
right-says true false false true z h = absurd (true≢false h)
right-says true false false false true h = (refl, λ q. absurd (false≢true q))
right-says true false false false false h = absurd (true≢false h)
right-says false b c d true h = (refl, λ q. refl)
right-says false b c d false h = absurd (true≢false h)

module _ (N : ℕ) (xs : List ℕ) (whole : length xs ≡ block_size) (right : header_fault N xs ≡ none) (unlisted : length (targets_in xs) ≡ 0) where
  record-right : (i : ℕ) → i < log_length → is_record_wrong N xs i ≡ false
  unfolding header_fault
  record-right i h = lowest-none 0 log_length (is_record_wrong N xs) right i (omega arith) (omega arith)

  first : target_at xs 0 ≡ 0
  unfolding targets_in
  first = go (eqb (target_at xs 0) 0) refl unlisted
    where
      go : (t : Bool) → eqb (target_at xs 0) 0 ≡ t
          → length (cond (not t) (target_at xs 0 ∷ leading (λ t. not (eqb t 0)) (map (target_at xs) (up_from 1 31))) []) ≡ 0 → target_at xs 0 ≡ 0
      go true e q = eqb-true (target_at xs 0) 0 e
      go false e q = absurd (omega (arith, q))

  told : (i : ℕ) → i < log_length → (all_zero (part (log_record_size * i + 2) 14 xs) ≡ true) × (member 0 (targets_before xs i) ≡ true → not (eqb (target_at xs i) 0) ≡ false)
  told i h =
      right-says (not (eqb (target_at xs i) 0)) (not (is_target N (target_at xs i))) (member (target_at xs i) (targets_before xs i)) (member 0 (targets_before xs i))
      (all_zero (part (log_record_size * i + 2) 14 xs)) (record-right i h)

  -- "used after an empty one" is wrong, so none is used
  target : (i : ℕ) → i < log_length → target_at xs i ≡ 0
  target zero h = first
  target (suc i) h = go (eqb (target_at xs (suc i)) 0) refl ((told (suc i) h).1 (rw (eq-eqb (target_at xs 0) 0 first) refl))
    where
      go : (t : Bool) → eqb (target_at xs (suc i)) 0 ≡ t → not t ≡ false → target_at xs (suc i) ≡ 0
      go true e q = eqb-true (target_at xs (suc i)) 0 e
      go false e q = absurd (true≢false q)

  byte : (i j : ℕ) → i < log_length → j < log_record_size → get_or xs (log_record_size * i + j) 0 ≡ 0
  byte i zero h k =
      let t : get_or xs (16 * i) 0 + 256 * get_or xs (16 * i + 1) 0 ≡ 0 = target i h in
      let e : 16 * i + 0 ≡ 16 * i = omega arith in
      ap (λ n. get_or xs n 0) e ∙ omega (arith, t)
  byte i (suc zero) h k =
      let t : get_or xs (16 * i) 0 + 256 * get_or xs (16 * i + 1) 0 ≡ 0 = target i h in
      omega (arith, t)
  byte i (suc (suc j)) h k =
      let e : 16 * i + suc (suc j) ≡ 16 * i + 2 + j = omega arith in
      ap (λ n. get_or xs n 0) e ∙ sym (get_or-drop (16 * i + 2) xs j 0) ∙ sym (get_or-take 14 (drop (16 * i + 2) xs) j 0 (omega arith))
      ∙ zero-byte (part (16 * i + 2) 14 xs) j (told i h).0

  -- "Block 0 is all zero"
  pub header-zero : all_zero xs ≡ true
  header-zero =
      byte-zero xs (λ k l.
      let e : k ≡ 16 * (k / 16) + k % 16 = omega arith in
      ap (λ n. get_or xs n 0) e ∙ byte (k / 16) (k % 16) (omega (arith, whole)) (omega arith))

-- ---- open

anew-says : (a : Bool) (o : Option ℕ) (t : Bool) (i b : Option ℕ) (s : State) (n : Session) → (opening a o t i b s).answer ≡ done
    → opening a o t i b (with_session s n) ≡ opening a o t i b s
anew-says false o t i b s n h = absurd (true≢false (ap is_refused h))
anew-says true (some k) t i b s n h = absurd (true≢false (ap is_refused h))
anew-says true none true (some i) b s n h = absurd (true≢false (ap is_refused h))
anew-says true none true none (some b) s n h = absurd (true≢false (ap is_refused h))
anew-says true none true none none s n h = refl
anew-says true none false i b s n h = refl

-- "Open makes a new session whatever went before": an open that is done has the same outcome with a session never opened
pub open-anew : (s : State) → (step s Open).answer ≡ done → step (with_session s never_opened) Open ≡ step s Open
unfolding open_store open_phase
open-anew s h =
    let N = s.device.size / block_size in
    let d = s.device.block in
    anew-says (is_allowed s.device.size) (header_fault N (d header_block)) (eqb (length (targets_in (d header_block))) 0) (inode_fault N d) (block_fault N d) s never_opened h

-- ---- by the promises of open and format

pub whole-blocks : (size : ℕ) → is_allowed size ≡ true → size ≡ block_size * (size / block_size)
whole-blocks size h = let a = allowed-says size h in let q = a.whole in omega (arith, q)

-- what a function left on device d and work space w, with session t and answer a, is the outcome of open: answered done and ready, it starts a
-- list with a session never opened, and this open is the list's first call
module _ (s t : Session) (d w : List ℕ) (a : Answer) (small : (i : ℕ) → get_or d i 0 < 256) (is-done : a ≡ done) (ready : t.phase ≡ Ready)
    (promise : left t d w a ≡ step (state_of s d w) Open)
  where
    pub opened-first : left t d w a ≡ step (state_of never_opened d w) Open
    opened-first = promise ∙ sym (open-anew (state_of s d w) (sym (ap (λ (o : Outcome). o.answer) promise) ∙ is-done))

-- the empty disk is sound
pub empty-sound : (N : ℕ) → fewest_blocks ≤ N → N ≤ most_blocks → T (sound N (empty_disk N))
empty-sound N lo hi =
    let v = (volume-sound N (empty_disk N)).1 (empty-good N (omega arith) hi).sound in
    rw (empty-clear N, clear_zero) v

abbrev formatted : State → State
formatted s = record { session = closed_on (s.device.size / block_size); device = record { size = s.device.size; block = empty_disk (s.device.size / block_size) }; work = s.work }

format-says : (a : Bool) (s : State) → is_refused (settle (outcome s) (require a DeviceSize >> accept (outcome (formatted s) done))).answer ≡ false
    → (a ≡ true) × ((settle (outcome s) (require a DeviceSize >> accept (outcome (formatted s) done))).after ≡ formatted s)
format-says false s h = absurd (true≢false h)
format-says true s h = (refl, refl)

-- "formatted whole": what format leaves, not refused, starts a list with its session
pub formatted-starts : (s t : Session) (d e w : List ℕ) (a : Answer) → ((i : ℕ) → get_or e i 0 < 256) → is_refused a ≡ false
    → left t e w a ≡ step (state_of s d w) Format → Starts (length e / block_size) (state_of t e w)
unfolding format
formatted-starts s t d e w a small h p =
    let N = length d / block_size in
    let r = format-says (is_allowed (length d)) (state_of s d w) (sym (ap (λ (o : Outcome). is_refused o.answer) p) ∙ h) in
    let after = ap (λ (o : Outcome). o.after) p ∙ r.1 in
    let size : length e ≡ length d = ap (λ (x : State). x.device.size) after in
    let disk : blocks_of e ≡ empty_disk N = ap (λ (x : State). x.device.block) after in
    let session : t ≡ closed_on N = ap (λ (x : State). x.session) after in
    let fits : is_allowed (length e) ≡ true = ap is_allowed size ∙ r.0 in
    let blocks : length e / block_size ≡ N = ap (λ n. n / block_size) size in
    let b = bounds N (length d) r.0 (whole-blocks (length d) r.0) in
    let is-sound : T (sound N (blocks_of e)) = subst (λ (v : Disk). T (sound N v)) (sym disk) (empty-sound N b.0 b.1) in
    rw blocks (starts-on N t e w (truth (is_allowed (length e)) fits) (size ∙ whole-blocks (length d) r.0) small is-sound (inl session))

-- ---- a list can start, for every N: on the empty disk, with a session never opened

abbrev pub empty_store : ℕ → Slice → State
empty_store N w = record { session = never_opened; device = record { size = block_size * N; block = empty_disk N }; work = w }

module _ (N : ℕ) (lo : fewest_blocks ≤ N) (hi : N ≤ most_blocks) where
  empty-small : (n i : ℕ) → get_or (empty_disk N n) i 0 < 256
  empty-small n i = go (eqb n bitmap_block) refl
    where
      go : (t : Bool) → eqb n bitmap_block ≡ t → get_or (empty_disk N n) i 0 < 256
      go true e = let q = eqb-true n bitmap_block e in subst (λ (k : ℕ). get_or (empty_disk N k) i 0 < 256) (sym q) ((empty-good N (omega arith) hi).table i)
      go false e =
          let z : get_or (empty_disk N n) i 0 ≡ 0 = ap (λ (xs : List ℕ). get_or xs i 0) (empty-other N n (eqb-false n bitmap_block e)) ∙ zero-byte (zeros block_size) i clear_zero in
          omega (arith, z)

  pub empty-starts : (w : Slice) → Starts N (empty_store N w)
  empty-starts w =
      record {
        fits = truth (is_allowed (block_size * N)) (allowed-ok N lo hi);
        blocks = refl;
        whole = empty-whole N;
        bytes = empty-small;
        is-sound = empty-sound N lo hi;
        unopened = inr refl;
      }
