-- On any state, tampered or not: a refusal changes nothing, and only format and advance may store. Assumes nothing.
use Rattle.std.specs.Prelude.{ℕ, zero, suc, ◌+◌, ◌/◌, ◌≡◌, Bool, true, false, not, ◌&&◌, ◌||◌, List, [], leb}
use Rattle.std.proofs.Math.Path.{refl}
use Rattle.std.proofs.Common.{sym, ap, ◌∙◌, arith}
use Rattle.std.proofs.Math.ListN.{length, get_elem?}
use Rattle.spec.specs.Layout.{block_size, log_length, inode_count}
use Rattle.spec.specs.Disk.{is_allowed}
use Rattle.spec.specs.Inode.{is_name, inode_at, name_at, is_empty}
use Rattle.spec.specs.Session.{staged_in}
use Rattle.spec.specs.declared.Refusal.{Refusal}
use Rattle.spec.specs.declared.Refusal.TheVariants.{DeviceSize, BadName, NotReady, Taken, TooManyStaged, ListShort}
use Rattle.spec.specs.Answers.{Answer, done, refusal_of, is_refused, Result, refuse, accept, require, ◌>>=◌, ◌>>◌}
use Rattle.spec.specs.Transaction.{State, view, BlockStore, stage_all, with_staging}
use Rattle.spec.specs.Plan.{tree_for}
use Rattle.spec.specs.CutRule.{buffer_of, list_of}
use Rattle.crash.specs.Queries.{run-told, file-told}
use Rattle.spec.specs.Calls.{Outcome, outcome, with_buffer, with_list, settle, is_ready, known, is_taken, empty_inode, lent_ok, ready_ok, name_ok, file_ok, sized_ok, header_ok, volume_ok, start_commit, staging, rewrite, runs_of, create, remove, rename, write, set_size, read, size_of, free_count, record_at, nth_extent, run_list, open_store, commit, abort, Change, Create, Remove, Rename, Write, SetSize, Query, Read, Size, Free, Record, RunList, NthExtent, Call, Format, Open, Advance, Commit, Abort, Do, Ask, change_step, query_step, step}

-- what an accepted call answers and leaves: no refusal, and the device as it was
record Keeps (s : State) (r : Result Outcome) : Type 0 where
  device : (o : Outcome) → r ≡ accept o → o.after.device ≡ s.device
  answer : (o : Outcome) → r ≡ accept o → is_refused o.answer ≡ false

true≢false : true ≡ false → ⊥
true≢false p = let z : ◌≡◌ {A = ℕ} 0 1 = cc in omega arith

-- a call that keeps the device; refused, it keeps all: `kept` is the outcome that does, with that answer
record Settled (s : State) (kept : Answer → Outcome) (o : Outcome) : Type 0 where
  device : o.after.device ≡ s.device
  refusal : is_refused o.answer ≡ true → o ≡ kept o.answer

module _ (s : State) where
  keeps-accept : (o : Outcome) → o.after.device ≡ s.device → is_refused o.answer ≡ false → Keeps s (accept o)
  keeps-accept o h a = record { device = λ p e. let q : o ≡ p = cc in rw (← q) h; answer = λ p e. let q : o ≡ p = cc in rw (← q) a }

  keeps-refuse : (r : Refusal) → Keeps s (refuse r)
  keeps-refuse r =
      record {
        device = λ p e. let z : ◌≡◌ {A = ℕ} 0 1 = cc in absurd (omega arith);
        answer = λ p e. let z : ◌≡◌ {A = ℕ} 0 1 = cc in absurd (omega arith);
      }

  keeps_then : {A : Type 0} (a : Result A) (b : Result Outcome) → Keeps s b → Keeps s (a >> b)
  keeps_then (refuse r) b k = keeps-refuse r
  keeps_then (accept a) b k = k

  keeps-bind : {A : Type 0} (a : Result A) (f : A → Result Outcome) → ((x : A) → Keeps s (f x)) → Keeps s (a >>= f)
  keeps-bind (refuse r) f k = keeps-refuse r
  keeps-bind (accept a) f k = k a

  settled : (kept : Answer → Outcome) (r : Result Outcome) → ((a : Answer) → (kept a).after ≡ s) → ((a : Answer) → (kept a).answer ≡ a) → Keeps s r
      → Settled s kept (settle kept r)
  settled kept (refuse r) h a k = record { device = ap (λ (x : State). x.device) (h (refusal_of r)); refusal = λ e. ap kept (sym (a (refusal_of r))) }
  settled kept (accept o) h a k = record { device = k.device o refl; refusal = λ e. absurd (true≢false (sym e ∙ k.answer o refl)) }

  staging-keeps : (ws : List BlockStore) → Keeps s (staging s ws)
  unfolding staging
  staging-keeps ws =
      keeps_then (require (leb (length (stage_all s ws).blocks) log_length) TooManyStaged) (accept (outcome (with_staging s (stage_all s ws)) done))
      (keeps-accept (outcome (with_staging s (stage_all s ws)) done) refl refl)

  rewrite-keeps : (i size x : ℕ) (bytes : List ℕ) → Keeps s (rewrite s i size x bytes)
  unfolding rewrite
  rewrite-keeps i size x bytes = keeps-bind (tree_for (view s) (inode_at (view s) i) size) _ (λ t. staging-keeps _)

  change-settled : (c : Change) → Settled s (outcome s) (change_step s c)
  unfolding create remove rename write set_size
  change-settled (Create name) =
      settled (outcome s) _ (λ a. refl) (λ a. refl)
      (keeps_then (name_ok s name) _ (keeps_then (require (not (is_taken s name)) Taken) _ (keeps-bind (empty_inode s) _ (λ i. staging-keeps _))))
  change-settled (Remove name) = settled (outcome s) _ (λ a. refl) (λ a. refl) (keeps-bind (file_ok s name) _ (λ i. staging-keeps _))
  change-settled (Rename name new) =
      settled (outcome s) _ (λ a. refl) (λ a. refl)
      (keeps_then (lent_ok s) _
      (keeps_then (require (is_name name && is_name new) BadName) _
      (keeps_then (require (is_ready s.session.phase) NotReady) _
      (keeps-bind (known s name) _ (λ i. keeps_then (require (not (is_taken s new)) Taken) _ (staging-keeps _))))))
  change-settled (Write name x bytes) =
      settled (outcome s) _ (λ a. refl) (λ a. refl) (keeps-bind (sized_ok s name (x + length bytes)) _ (λ i. rewrite-keeps i _ x bytes))
  change-settled (SetSize name size) = settled (outcome s) _ (λ a. refl) (λ a. refl) (keeps-bind (sized_ok s name size) _ (λ i. rewrite-keeps i size 0 []))

  query-settled : (q : Query) → Settled s (λ a. record { answer = a; after = s; buffer = buffer_of (Ask q); list = list_of (Ask q) }) (query_step s q)
  unfolding read size_of free_count record_at nth_extent run_list
  query-settled (Read name x buffer) =
      settled (λ a. with_buffer s a buffer) _ (λ a. refl) (λ a. refl) (keeps-bind (file_ok s name) _ (λ i. keeps-accept _ refl refl))
  query-settled (Size name) = settled (outcome s) _ (λ a. refl) (λ a. refl) (keeps-bind (file_ok s name) _ (λ i. keeps-accept _ refl refl))
  query-settled Free = settled (outcome s) _ (λ a. refl) (λ a. refl) (keeps_then (ready_ok s) _ (keeps-accept _ refl refl))
  query-settled (Record i) =
      settled (outcome s) _ (λ a. refl) (λ a. refl)
      (keeps_then (ready_ok s) _ (keeps-accept _ refl (file-told (leb inode_count i || is_empty (view s) i) (name_at (view s) i) (inode_at (view s) i).size)))
  query-settled (RunList name from n list) =
      settled (λ a. with_list s a list) _ (λ a. refl) (λ a. refl)
      (keeps-bind (file_ok s name) _ (λ i. keeps_then (require (leb (length (runs_of s i from n)) (length list)) ListShort) _ (keeps-accept _ refl refl)))
  query-settled (NthExtent name from n k) =
      settled (outcome s) _ (λ a. refl) (λ a. refl)
      (keeps-bind (file_ok s name) _ (λ i. keeps-accept _ refl (run-told (get_elem? (runs_of s i from n) k))))

  start-keeps : (k : ℕ) → Keeps s (accept (start_commit s k))
  start-keeps zero = keeps-accept _ refl refl
  start-keeps (suc k) = keeps-accept _ refl refl

  open-settled : Settled s (outcome s) (open_store s)
  unfolding open_store
  open-settled =
      settled (outcome s) _ (λ a. refl) (λ a. refl)
      (keeps_then (require (is_allowed s.device.size) DeviceSize) _
      (keeps_then (header_ok (s.device.size / block_size) s.device.block) _
      (keeps_then (volume_ok (s.device.size / block_size) s.device.block) _ (keeps-accept _ refl refl))))

  commit-settled : Settled s (outcome s) (commit s)
  unfolding commit
  commit-settled = settled (outcome s) _ (λ a. refl) (λ a. refl) (keeps_then (ready_ok s) _ (start-keeps (length (staged_in s.session))))

  abort-settled : Settled s (outcome s) (abort s)
  unfolding abort
  abort-settled = settled (outcome s) _ (λ a. refl) (λ a. refl) (keeps_then (ready_ok s) _ (keeps-accept _ refl refl))

-- the calls that may store: "besides format only advance may then store"
abbrev pub may_store : Call → Bool
may_store Format = true
may_store Open = false
may_store Advance = true
may_store Commit = false
may_store Abort = false
may_store (Do c) = false
may_store (Ask q) = false

pub device-kept : (s : State) (c : Call) → may_store c ≡ false → (step s c).after.device ≡ s.device
device-kept s Format e = absurd (true≢false e)
device-kept s Open e = (open-settled s).device
device-kept s Advance e = absurd (true≢false e)
device-kept s Commit e = (commit-settled s).device
device-kept s Abort e = (abort-settled s).device
device-kept s (Do c) e = (change-settled s c).device
device-kept s (Ask q) e = (query-settled s q).device

-- "A refusal changes nothing": of the calls but format and advance
pub refusal-keeps : (s : State) (c : Call) → may_store c ≡ false → is_refused (step s c).answer ≡ true
    → step s c ≡ record { answer = (step s c).answer; after = s; buffer = buffer_of c; list = list_of c }
refusal-keeps s Format e h = absurd (true≢false e)
refusal-keeps s Open e h = (open-settled s).refusal h
refusal-keeps s Advance e h = absurd (true≢false e)
refusal-keeps s Commit e h = (commit-settled s).refusal h
refusal-keeps s Abort e h = (abort-settled s).refusal h
refusal-keeps s (Do c) e h = (change-settled s c).refusal h
refusal-keeps s (Ask q) e h = (query-settled s q).refusal h
