-- Refusals off the list: on any state, whoever made it.
use Rattle.std.specs.Prelude.{ℕ, zero, suc, ◌+◌, ◌-◌, ◌/◌, ◌≡◌, Bool, true, false, cond, not, ◌&&◌, ◌||◌, List, [], ◌∷◌, eqb, leb}
use Rattle.std.proofs.Math.Path.{refl, ap}
use Rattle.std.proofs.Common.{sym, ◌∙◌, true≢false}
use Rattle.std.proofs.Math.Option.{Option, none, some, map}
use Rattle.std.proofs.Math.ListN.{length, get_elem?}
use Rattle.spec.specs.Layout.{block_size, header_block, bitmap_block, inode_count, log_length, max_extents}
use Rattle.spec.specs.Bytes.{found, is_some}
use Rattle.spec.specs.Bitmap.{bits_of, free_bits}
use Rattle.spec.specs.Disk.{Disk, disk_block, is_allowed}
use Rattle.spec.specs.Inode.{Inode, is_name, inode_at, is_empty, find, find_empty, data_of, levels_of, blocks_for}
use Rattle.spec.specs.Sound.{inode_fault, block_fault}
use Rattle.spec.specs.Map.{files_of}
use Rattle.spec.specs.declared.Phase.{Phase}
use Rattle.spec.specs.declared.Phase.TheVariants.{Closed, Ready, Committing, Recovering}
use Rattle.spec.specs.declared.Refusal.{Refusal}
use Rattle.spec.specs.declared.Refusal.TheVariants.{DeviceSize, BadHeader, Unknown, Taken, NoInode, NoSpace, TooManyExtents, TooManyStaged, ListShort, DamagedInode, DamagedBlock}
use Rattle.spec.specs.Session.{closed_on, opened, staged_in}
use Rattle.spec.specs.Answers.{Answer, refused, done, started, stored, idle, counted, file, no_file, run, no_run, refusal_of, is_refused, Result, refuse, accept, require, ◌>>=◌, ◌>>◌}
use Rattle.spec.specs.Transaction.{State, with_session, view, BlockStore, stage_all, with_staging}
use Rattle.spec.specs.Journal.{targets_in, header_fault, commit_stores, recovery_stores}
use Rattle.spec.specs.Plan.{Tree, resized, fits, tree_for}
use Rattle.spec.specs.Calls.{Outcome, outcome, settle, is_ready, known, lent_ok, ready_ok, file_ok, staging, empty_disk, open_phase, open_store, format, advance_in, advance, start_commit, commit, abort, runs_of, read, size_of, free_count, record_at, nth_extent, run_list, Change, Create, Remove, Rename, Write, SetSize, Query, Read, Size, Free, Record, RunList, NthExtent, change_step, query_step, Call, Format, Open, Advance, Commit, Abort, Do, Ask, step}
use Rattle.spec.specs.Plain.{Plain, Mode, plain}
use Rattle.spec.specs.Refusals.{is_ready_mode, name_unknown, name_taken, no_record, of_record, lacks_room, is_scattered, overstaged, list_short, of_query, wrong_name, test, first_failed, due}
use Rattle.spec.specs.CutRule.{refusal_in}
use Rattle.transaction.proofs.Laws.{Listed}
use Rattle.logs.specs.Stores.{Whole}
use Rattle.crash.specs.Interface.{FilesOn, known_on, rewritten, planned}
use Rattle.crash.specs.Tests.{keeping, Answered, turned_down, taken, Tested, late_tests, Passed, Front, refused, passed, front-due, ready-passed, file-passed, asked-name}
use Rattle.crash.specs.Queries.{query-answered, says-still, run-told, file-told}
use Rattle.crash.specs.Changed.{Changed, change-planned, change-answered}
use Rattle.crash.specs.Steps.{both}
use Rattle.crash.specs.Moments.{refusal-in, accepted-is}

-- ---- the plain store that a state alone tells of: the session's N and phase, the working copy's files

abbrev pub mode_of : Phase → Mode
mode_of Closed = Mode.Closed
mode_of Ready = Mode.Ready
mode_of (Committing d) = Mode.Committing
mode_of (Recovering d) = Mode.Recovering

abbrev pub plain_of : State → Plain
plain_of s = plain (files_of s.device.block) (files_of (view s)) (mode_of s.session.phase) 0 0 false s.session.blocks

-- what document 01 refuses a call with on a state
abbrev pub due_on : State → Call → Option Answer
due_on s c = map refusal_of (due s.session.blocks (plain_of s) s c)

ready-mode : (f : Phase) → is_ready_mode (mode_of f) ≡ is_ready f
ready-mode Closed = refl
ready-mode Ready = refl
ready-mode (Committing d) = refl
ready-mode (Recovering d) = refl

pub fronted : (s : State) (c : Call) → Tested c → Front s.session.blocks (both s (plain_of s)) c
fronted s c h = front-due s.session.blocks (both s (plain_of s)) c h refl (ready-mode s.session.phase)

-- ---- format and open, on any device

abbrev formatted : Bool → State → Outcome
formatted a s =
    settle (outcome s)
    (require a DeviceSize >> accept (outcome (record { session = closed_on (s.device.size / block_size); device = record { size = s.device.size; block = empty_disk (s.device.size / block_size) }; work = s.work }) done))

formatted-told : (a : Bool) (s : State) → refusal_in (formatted a s).answer ≡ map refusal_of (cond (not a || false) (some DeviceSize) none)
formatted-told true s = refl
formatted-told false s = refl

-- "Open makes a new session whatever went before": by the results of its tests, which are the length, the header's lowest wrong record, no record used,
-- the lowest damaged record and the lowest damaged block
abbrev pub opening : Bool → Option ℕ → Bool → Option ℕ → Option ℕ → State → Outcome
opening a o t i b s =
    settle (outcome s)
    (require a DeviceSize
    >> (found o (accept true) (λ k. refuse (BadHeader k))
    >> (cond (is_ready (cond t Ready (Recovering 0))) (found i (accept true) (λ i. refuse (DamagedInode i)) >> found b (accept true) (λ b. refuse (DamagedBlock (disk_block b)))) (accept true)
    >> accept (outcome (with_session s (opened (s.device.size / block_size) (cond t Ready (Recovering 0)))) done))))

abbrev opening_due : Bool → Option ℕ → Bool → Option ℕ → Option ℕ → Option Refusal
opening_due a o t i b =
    cond (not a || false) (some DeviceSize)
    (cond (is_some o) (some (BadHeader (found o 0 (λ k. k))))
    (cond (t && is_some i) (some (DamagedInode (found i 0 (λ i. i)))) (cond (t && is_some b) (some (DamagedBlock (disk_block (found b 0 (λ b. b))))) none)))

opening-told : (a : Bool) (o : Option ℕ) (t : Bool) (i b : Option ℕ) (s : State) → refusal_in (opening a o t i b s).answer ≡ map refusal_of (opening_due a o t i b)
opening-told false o t i b s = refl
opening-told true (some k) t i b s = refl
opening-told true none true (some i) b s = refl
opening-told true none true none (some b) s = refl
opening-told true none true none none s = refl
opening-told true none false i b s = refl

opening-done : (a : Bool) (o : Option ℕ) (t : Bool) (i b : Option ℕ) (s : State) → opening_due a o t i b ≡ none
    → opening a o t i b s ≡ outcome (with_session s (opened (s.device.size / block_size) (cond t Ready (Recovering 0)))) done
opening-done false o t i b s h = cc
opening-done true (some k) t i b s h = cc
opening-done true none true (some i) b s h = cc
opening-done true none true none (some b) s h = cc
opening-done true none true none none s h = refl
opening-done true none false i b s h = refl

module _ (s : State) where
  abbrev headed : Option ℕ
  headed = header_fault (s.device.size / block_size) (s.device.block header_block)

  abbrev unlisted : Bool
  unlisted = eqb (length (targets_in (s.device.block header_block))) 0

  abbrev damaged_inode : Option ℕ
  damaged_inode = inode_fault (s.device.size / block_size) s.device.block

  abbrev damaged_block : Option ℕ
  damaged_block = block_fault (s.device.size / block_size) s.device.block

  format-exact : refusal_in (step s Format).answer ≡ due_on s Format
  unfolding format due
  format-exact = formatted-told (is_allowed s.device.size) s

  -- 1 where the length is none; 10 with the lowest wrong record of the header; where none is wrong and none used, 22 with the lowest damaged record, or
  -- else 23 with the lowest damaged block
  open-exact : refusal_in (step s Open).answer ≡ due_on s Open
  unfolding open_store open_phase due
  open-exact = opening-told (is_allowed s.device.size) headed unlisted damaged_inode damaged_block s

  -- else it is done: ready where no record is used, else recovering
  pub open_done : due s.session.blocks (plain_of s) s Open ≡ none
      → step s Open ≡ outcome (with_session s (opened (s.device.size / block_size) (cond unlisted Ready (Recovering 0)))) done
  unfolding open_store open_phase due
  open_done h = opening-done (is_allowed s.device.size) headed unlisted damaged_inode damaged_block s h

-- ---- advance, commit and abort, on any state

settled-told : (s : State) (r : Result Bool) (o : Outcome) → r ≡ accept true → is_refused o.answer ≡ false → refusal_in (settle (outcome s) (r >> accept o)).answer ≡ none
settled-told s r o e h = ap (λ (m : Result Bool). refusal_in (settle (outcome s) (m >> accept o)).answer) e ∙ accepted-is o.answer h

performed-told : (s : State) (o : Option BlockStore) (f : BlockStore → Outcome) → ((w : BlockStore) → is_refused (f w).answer ≡ false)
    → is_refused (found o (outcome s idle) f).answer ≡ false
performed-told s none f h = refl
performed-told s (some w) f h = h w

advanced-told : (s : State) (f : Phase) → is_refused (advance_in s f).answer ≡ false
unfolding advance_in
advanced-told s Closed = refl
advanced-told s Ready = refl
advanced-told s (Committing d) = performed-told s (get_elem? (commit_stores s) d) _ (λ w. refl)
advanced-told s (Recovering d) = performed-told s (get_elem? (recovery_stores s.session.blocks s.device.block) d) _ (λ w. refl)

started-told : (s : State) (k : ℕ) → is_refused (start_commit s k).answer ≡ false
started-told s zero = refl
started-told s (suc k) = refl

-- a call that passes the tests of its front is refused by none behind them
pub passes : (s : State) (c : Call) → Tested c → (Passed s.session.blocks (both s (plain_of s)) c → refusal_in (step s c).answer ≡ due_on s c)
    → refusal_in (step s c).answer ≡ due_on s c
passes s c h k = go (fronted s c h)
  where
    go : Front s.session.blocks (both s (plain_of s)) c → refusal_in (step s c).answer ≡ due_on s c
    go (refused r d e) = ap (λ (o : Outcome). refusal_in o.answer) e ∙ refusal-in r ∙ sym (ap (map refusal_of) d)
    go (passed p) = k p

-- every call but changes and queries of files
abbrev pub is_plain : Call → Bool
is_plain Format = true
is_plain Open = true
is_plain Advance = true
is_plain Commit = true
is_plain Abort = true
is_plain (Do c) = false
is_plain (Ask q) = false

-- of these calls, on every state: refused exactly where document 01 says so
pub plain-exact : (s : State) (c : Call) → is_plain c ≡ true → refusal_in (step s c).answer ≡ due_on s c
unfolding advance commit abort
plain-exact s Format h = format-exact s
plain-exact s Open h = open-exact s
plain-exact s Advance h =
    passes s Advance refl (λ p. settled-told s (lent_ok s) (advance_in s s.session.phase) p.lent (advanced-told s s.session.phase) ∙ sym (ap (map refusal_of) p.late))
plain-exact s Commit h =
    passes s Commit refl (λ p. settled-told s (ready_ok s) (start_commit s (length (staged_in s.session))) (ready-passed s p.lent p.ready) (started-told s (length (staged_in s.session)))
    ∙ sym (ap (map refusal_of) p.late))
plain-exact s Abort h =
    passes s Abort refl (λ p. settled-told s (ready_ok s) (outcome (with_session s (opened s.session.blocks Ready)) done) (ready-passed s p.lent p.ready) refl
    ∙ sym (ap (map refusal_of) p.late))
plain-exact s (Do c) h = absurd (true≢false (sym h))
plain-exact s (Ask q) h = absurd (true≢false (sym h))

-- ---- 1 to 12, on any state

-- a refusal up to 12, or none
abbrev pub early : Option Answer → Option Answer
early none = none
early (some (refused n vs)) = cond (leb n 12) (some (refused n vs)) none
early (some done) = none
early (some (started n)) = none
early (some (stored b l n)) = none
early (some idle) = none
early (some (counted n)) = none
early (some (file x n)) = none
early (some no_file) = none
early (some (run e)) = none
early (some no_run) = none

-- a result that is no refusal up to 12, and P of what it accepts
abbrev LateIs : {A : Type 0} → (A → Type 0) → Result A → Type 0
LateIs P (refuse r) = early (some (refusal_of r)) ≡ none
LateIs P (accept a) = P a

record Late {A : Type 0} (P : A → Type 0) (m : Result A) : Type 0 where
  is : LateIs P m

abbrev Any : {A : Type 0} → A → Type 0
Any a = Unit {0}

module _ {A B : Type 0} (P : B → Type 0) where
  late-bind : (m : Result A) (f : A → Result B) → Late Any m → ((a : A) → Late P (f a)) → Late P (m >>= f)
  late-bind (refuse r) f l h = record { is = l.is }
  late-bind (accept a) f l h = h a

late-accept : {A : Type 0} (P : A → Type 0) (a : A) → P a → Late P (accept a)
late-accept P a h = record { is = h }

late-found : (o : Option ℕ) (r : Refusal) → early (some (refusal_of r)) ≡ none → Late Any (found o (refuse r) accept)
late-found none r h = record { is = h }
late-found (some i) r h = record { is = tt }

-- no refusal
abbrev Told : Outcome → Type 0
Told o = is_refused o.answer ≡ false

late-settled : (K : Answer → Outcome) (m : Result Outcome) → ((a : Answer) → (K a).answer ≡ a) → Late Told m → early (refusal_in (settle K m).answer) ≡ none
late-settled K (refuse r) k l = ap (λ (a : Answer). early (refusal_in a)) (k (refusal_of r)) ∙ ap early (refusal-in r) ∙ l.is
late-settled K (accept o) k l = ap early (accepted-is o.answer l.is)

late-test : {A : Type 0} (P : A → Type 0) (t : Bool) (r : Refusal) (n : Result A) → early (some (refusal_of r)) ≡ none → Late P n → Late P (require t r >> n)
late-test P true r n h l = l
late-test P false r n h l = record { is = h }

late-fits : (a b c : Bool) (t : Tree) → Late Any (require a NoSpace >> (require b NoSpace >> (require c TooManyExtents >> accept t)))
late-fits a b c t = late-test Any a NoSpace _ refl (late-test Any b NoSpace _ refl (late-test Any c TooManyExtents _ refl (late-accept Any t tt)))

module _ (s : State) where
  late-staging : (ws : List BlockStore) → Late Told (staging s ws)
  unfolding staging
  late-staging ws = late-test Told (leb (length (stage_all s ws).blocks) log_length) TooManyStaged _ refl (late-accept Told (outcome (with_staging s (stage_all s ws)) done) refl)

  late-tree : (v : Disk) (n : Inode) (size : ℕ) → Late Any (tree_for v n size)
  unfolding fits
  late-tree v n size =
      let bits = bits_of (v bitmap_block) in
      let t = resized bits (data_of v n) (levels_of v n) (blocks_for size) in
      late-fits (leb (blocks_for size - length (data_of v n)) (free_bits bits)) (leb (length t.new_data + length t.new_nodes) (free_bits bits)) (leb (length t.extents) max_extents) t

  late-rewritten : (v : Disk) (i size x : ℕ) (bytes : List ℕ) → Late Any (rewritten v i size x bytes)
  late-rewritten v i size x bytes = late-bind Any (tree_for v (inode_at v i) size) _ (late-tree v (inode_at v i) size) (λ t. late-accept Any _ tt)

  late-planned : (v : Disk) (c : Change) → Late Any (planned v c)
  unfolding planned
  late-planned v (Create name) =
      late-test Any (not (is_some (find v name))) Taken _ refl
      (late-bind Any (found (find_empty v) (refuse NoInode) accept) _ (late-found (find_empty v) NoInode refl) (λ i. late-accept Any _ tt))
  late-planned v (Remove name) = late-bind Any (known_on v name) _ (late-found (find v name) Unknown refl) (λ i. late-accept Any _ tt)
  late-planned v (Rename name new) =
      late-bind Any (known_on v name) _ (late-found (find v name) Unknown refl)
      (λ i. late-test Any (not (is_some (find v new))) Taken _ refl (late-accept Any _ tt))
  late-planned v (Write name x bytes) = late-bind Any (known_on v name) _ (late-found (find v name) Unknown refl) (λ i. late-rewritten v i _ x bytes)
  late-planned v (SetSize name size) = late-bind Any (known_on v name) _ (late-found (find v name) Unknown refl) (λ i. late-rewritten v i size 0 [])

  late-change : (c : Change) → Passed s.session.blocks (both s (plain_of s)) (Do c) → early (refusal_in (change_step s c).answer) ≡ none
  late-change c p =
      ap (λ (o : Outcome). early (refusal_in o.answer)) (change-planned s c p.lent p.ready p.names p.sizes)
      ∙ late-settled (outcome s) (planned (view s) c >>= staging s) (λ a. refl) (late-bind Told (planned (view s) c) (staging s) (late-planned (view s) c) late-staging)

  late-file : (K : Answer → Outcome) → ((a : Answer) → (K a).answer ≡ a) → (name : List ℕ) (f : ℕ → Result Outcome) → file_ok s name ≡ known s name → ((i : ℕ) → Late Told (f i))
      → early (refusal_in (settle K (file_ok s name >>= f)).answer) ≡ none
  late-file K k name f e h =
      ap (λ (m : Result ℕ). early (refusal_in (settle K (m >>= f)).answer)) e
      ∙ late-settled K (known s name >>= f) k (late-bind Told (known s name) f (late-found (find (view s) name) Unknown refl) h)

  passed-file : (q : Query) (name : List ℕ) → Passed s.session.blocks (both s (plain_of s)) (Ask q) → not (wrong_name (Ask q)) ≡ is_name name → file_ok s name ≡ known s name
  passed-file q name p e = file-passed s p.lent p.ready name (sym e ∙ ap not p.names)

  late-query : (q : Query) → Passed s.session.blocks (both s (plain_of s)) (Ask q) → early (refusal_in (query_step s q).answer) ≡ none
  unfolding read size_of free_count record_at nth_extent run_list
  late-query (Read name x buffer) p = late-file (keeping s (Ask (Read name x buffer))) (λ a. refl) name _ (passed-file _ name p (asked-name (is_name name))) (λ i. late-accept Told _ refl)
  late-query (Size name) p = late-file (outcome s) (λ a. refl) name _ (passed-file _ name p (asked-name (is_name name))) (λ i. late-accept Told _ refl)
  late-query Free p = ap early (settled-told s (ready_ok s) _ (ready-passed s p.lent p.ready) refl)
  late-query (Record i) p = ap early (settled-told s (ready_ok s) _ (ready-passed s p.lent p.ready) (file-told (leb inode_count i || is_empty (view s) i) _ _))
  late-query (NthExtent name from n k) p = late-file (outcome s) (λ a. refl) name _ (passed-file _ name p (asked-name (is_name name))) (λ i. late-accept Told _ (run-told (get_elem? (runs_of s i from n) k)))
  late-query (RunList name from n list) p =
      late-file (keeping s (Ask (RunList name from n list))) (λ a. refl) name _ (passed-file _ name p (asked-name (is_name name)))
      (λ i. late-test Told (leb (length (runs_of s i from n)) (length list)) ListShort _ refl (late-accept Told _ refl))

late_due : (u t r l x o k : Bool)
    → early (map refusal_of (first_failed (test u Unknown ∷ test t Taken ∷ test r NoInode ∷ test l NoSpace ∷ test x TooManyExtents ∷ test o TooManyStaged ∷ test k ListShort ∷ []))) ≡ none
late_due true t r l x o k = refl
late_due false true r l x o k = refl
late_due false false true l x o k = refl
late_due false false false true x o k = refl
late_due false false false false true o k = refl
late_due false false false false false true k = refl
late_due false false false false false false true = refl
late_due false false false false false false false = refl

late-tests : (N : ℕ) (p : Plain) (s : State) (c : Call) → early (map refusal_of (first_failed (late_tests N p s c))) ≡ none
late-tests N p s c =
    late_due (name_unknown p c) (name_taken p c) (no_record s c) (of_record (lacks_room N s) s c) (of_record (is_scattered N s) s c) (of_record (overstaged N s) s c) (of_query (list_short s) c)

early-passes : (s : State) (c : Call) → Tested c → (Passed s.session.blocks (both s (plain_of s)) c → early (refusal_in (step s c).answer) ≡ none)
    → early (refusal_in (step s c).answer) ≡ early (due_on s c)
early-passes s c h k = go (fronted s c h)
  where
    go : Front s.session.blocks (both s (plain_of s)) c → early (refusal_in (step s c).answer) ≡ early (due_on s c)
    go (refused r d e) = ap (λ (o : Outcome). early (refusal_in o.answer)) e ∙ ap early (refusal-in r) ∙ sym (ap (λ (o : Option Refusal). early (map refusal_of o)) d)
    go (passed p) = k p ∙ sym (ap (λ (o : Option Refusal). early (map refusal_of o)) p.late ∙ late-tests s.session.blocks (plain_of s) s c)

-- of every call, 1 to 4 and 12: on every state they are given exactly where document 01 says so
pub early-exact : (s : State) (c : Call) → early (refusal_in (step s c).answer) ≡ early (due_on s c)
early-exact s Format = ap early (plain-exact s Format refl)
early-exact s Open = ap early (plain-exact s Open refl)
early-exact s Advance = ap early (plain-exact s Advance refl)
early-exact s Commit = ap early (plain-exact s Commit refl)
early-exact s Abort = ap early (plain-exact s Abort refl)
early-exact s (Do c) = early-passes s (Do c) refl (late-change s c)
early-exact s (Ask q) = early-passes s (Ask q) refl (late-query s q)

-- ---- 13 to 19, on a state with a sound view

module _ {N : ℕ} (F : FilesOn N) (s : State) (whole : Whole (view s)) (good : F.Good (view s)) (listed : Listed N (staged_in s.session)) where
  answered : {A : Type 0} (c : Call) → (A → is_refused (step s c).answer ≡ false) → Answered N (both s (plain_of s)) c A → refusal_in (step s c).answer ≡ map refusal_of (due N (plain_of s) s c)
  answered c h (turned_down r d e) = ap (λ (o : Outcome). refusal_in o.answer) e ∙ refusal-in r ∙ sym (ap (map refusal_of) d)
  answered c h (taken d a) = accepted-is (step s c).answer (h a) ∙ sym (ap (map refusal_of) d)

  pub change-exact : (c : Change) → Passed N (both s (plain_of s)) (Do c) → refusal_in (step s (Do c)).answer ≡ map refusal_of (due N (plain_of s) s (Do c))
  change-exact c p =
      answered (Do c) (λ (y : Changed F (both s (plain_of s)) c). ap (λ (o : Outcome). is_refused o.answer) y.leaves)
      (change-answered F (both s (plain_of s)) c p listed (F.plans (plain_of s) s whole good (λ name. refl) c p.names p.sizes))

  pub query-exact : (q : Query) → Passed N (both s (plain_of s)) (Ask q) → refusal_in (step s (Ask q)).answer ≡ map refusal_of (due N (plain_of s) s (Ask q))
  query-exact q p =
      answered (Ask q) (λ y. (says-still N (both s (plain_of s)) q (query_step s q) y).answer)
      (query-answered F (both s (plain_of s)) whole good (λ name. refl) q p)
