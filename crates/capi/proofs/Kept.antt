-- A call that is refused leaves the state as it was, on any state. Assumes nothing.
use Prim.Native.Nat.{ℕ, zero, suc, ◌+◌, ◌/◌}
use native.Mathlib.Omega.{arith}
use mathlib.Core.Path.{◌≡◌, refl, sym, ap, ◌∙◌}
use mathlib.Core.Bool.{true, false, not, ◌&&◌}
use mathlib.Core.List.{List, []}
use mathlib.Core.Option.{Option, none, some}
use lib.ListN.{length, get_elem?}
use lib.Dec.{leb}
use Rattle.spec.specs.declared.Phase.{Phase}
use Rattle.spec.specs.declared.Phase.TheVariants.{Closed, Ready, Committing, Recovering}
use Rattle.spec.specs.declared.Refusal.{Refusal}
use Rattle.spec.specs.declared.Refusal.TheVariants.{DeviceSize, BadName, NotReady, Taken, TooManyStaged}
use Rattle.spec.specs.Layout.{block_size, log_length}
use Rattle.spec.specs.Bytes.{found}
use Rattle.spec.specs.Disk.{is_allowed}
use Rattle.spec.specs.Inode.{is_name, inode_at}
use Rattle.spec.specs.Session.{staged_in}
use Rattle.spec.specs.Answers.{Answer, done, idle, refusal_of, is_refused, Result, refuse, accept, require, ◌>>=◌, ◌>>◌}
use Rattle.spec.specs.Transaction.{State, view, BlockStore, stage_all, with_staging}
use Rattle.spec.specs.Journal.{commit_stores, recovery_stores}
use Rattle.spec.specs.Plan.{tree_for}
use Rattle.spec.specs.Calls.{Outcome, outcome, with_buffer, settle, is_ready, known, is_taken, empty_inode, lent_ok, ready_ok, name_ok, file_ok, sized_ok, header_ok, volume_ok, start_commit, advance_in, staging, rewrite, create, remove, rename, write, set_size, read, open_store, format, advance, commit, abort}
pub use Rattle.capi.specs.Changes.{Still}

pub true≢false : true ≡ false → ⊥
true≢false p = let z : ◌≡◌ {A = ℕ} 0 1 = cc in omega arith

-- an outcome that is accepted answers no refusal
record Told (r : Result Outcome) : Type 0 where
  answer : (o : Outcome) → r ≡ accept o → is_refused o.answer ≡ false

told-accept : (o : Outcome) → is_refused o.answer ≡ false → Told (accept o)
told-accept o h = record { answer = λ p e. let q : o ≡ p = cc in rw (← q) h }

told-refuse : (r : Refusal) → Told (refuse r)
told-refuse r = record { answer = λ p e. let z : ◌≡◌ {A = ℕ} 0 1 = cc in absurd (omega arith) }

told-then : {A : Type 0} (a : Result A) (b : Result Outcome) → Told b → Told (a >> b)
told-then (refuse r) b k = told-refuse r
told-then (accept a) b k = k

told-bind : {A : Type 0} (a : Result A) (f : A → Result Outcome) → ((x : A) → Told (f x)) → Told (a >>= f)
told-bind (refuse r) f k = told-refuse r
told-bind (accept a) f k = k a

still : (kept : Answer → Outcome) (r : Result Outcome) → ((a : Answer) → (kept a).answer ≡ a) → Told r → Still kept (settle kept r)
still kept (refuse r) h k = record { refusal = λ e. ap kept (sym (h (refusal_of r))) }
still kept (accept o) h k = record { refusal = λ e. absurd (true≢false (sym e ∙ k.answer o refl)) }

module _ (s : State) where
  settled : (r : Result Outcome) → Told r → Still (outcome s) (settle (outcome s) r)
  settled r k = still (outcome s) r (λ a. refl) k

  staging-told : (ws : List BlockStore) → Told (staging s ws)
  unfolding staging
  staging-told ws = told-then (require (leb (length (stage_all s ws).blocks) log_length) TooManyStaged) (accept (outcome (with_staging s (stage_all s ws)) done)) (told-accept _ refl)

  rewrite-told : (i size x : ℕ) (bytes : List ℕ) → Told (rewrite s i size x bytes)
  unfolding rewrite
  rewrite-told i size x bytes = told-bind (tree_for (view s) (inode_at (view s) i) size) _ (λ t. staging-told _)

  found-told : (o : Option BlockStore) (f : BlockStore → Outcome) → ((w : BlockStore) → is_refused (f w).answer ≡ false) → is_refused (found o (outcome s idle) f).answer ≡ false
  found-told none f k = refl
  found-told (some w) f k = k w

  advance-told : (p : Phase) → is_refused (advance_in s p).answer ≡ false
  unfolding advance_in
  advance-told Closed = refl
  advance-told Ready = refl
  advance-told (Committing d) = found-told (get_elem? (commit_stores s) d) _ (λ w. refl)
  advance-told (Recovering d) = found-told (get_elem? (recovery_stores s.session.blocks s.device.block) d) _ (λ w. refl)

  start-told : (k : ℕ) → is_refused (start_commit s k).answer ≡ false
  start-told zero = refl
  start-told (suc k) = refl

  -- ---- the calls

  pub format-still : Still (outcome s) (format s)
  unfolding format
  format-still = settled _ (told-then (require (is_allowed s.device.size) DeviceSize) _ (told-accept _ refl))

  pub open-still : Still (outcome s) (open_store s)
  unfolding open_store
  open-still =
      settled _
      (told-then (require (is_allowed s.device.size) DeviceSize) _
      (told-then (header_ok (s.device.size / block_size) s.device.block) _ (told-then (volume_ok (s.device.size / block_size) s.device.block) _ (told-accept _ refl))))

  pub advance-still : Still (outcome s) (advance s)
  unfolding advance
  advance-still = settled _ (told-then (lent_ok s) _ (told-accept _ (advance-told s.session.phase)))

  pub commit-still : Still (outcome s) (commit s)
  unfolding commit
  commit-still = settled _ (told-then (ready_ok s) _ (told-accept _ (start-told (length (staged_in s.session)))))

  pub abort-still : Still (outcome s) (abort s)
  unfolding abort
  abort-still = settled _ (told-then (ready_ok s) _ (told-accept _ refl))

  pub create-still : (name : List ℕ) → Still (outcome s) (create s name)
  unfolding create
  create-still name =
      settled _ (told-then (name_ok s name) _ (told-then (require (not (is_taken s name)) Taken) _ (told-bind (empty_inode s) _ (λ i. staging-told _))))

  pub remove-still : (name : List ℕ) → Still (outcome s) (remove s name)
  unfolding remove
  remove-still name = settled _ (told-bind (file_ok s name) _ (λ i. staging-told _))

  pub rename-still : (name new : List ℕ) → Still (outcome s) (rename s name new)
  unfolding rename
  rename-still name new =
      settled _
      (told-then (lent_ok s) _
      (told-then (require (is_name name && is_name new) BadName) _
      (told-then (require (is_ready s.session.phase) NotReady) _
      (told-bind (known s name) _ (λ i. told-then (require (not (is_taken s new)) Taken) _ (staging-told _))))))

  pub write-still : (name : List ℕ) (x : ℕ) (bytes : List ℕ) → Still (outcome s) (write s name x bytes)
  unfolding write
  write-still name x bytes = settled _ (told-bind (sized_ok s name (x + length bytes)) _ (λ i. rewrite-told i _ x bytes))

  pub size-still : (name : List ℕ) (size : ℕ) → Still (outcome s) (set_size s name size)
  unfolding set_size
  size-still name size = settled _ (told-bind (sized_ok s name size) _ (λ i. rewrite-told i size 0 []))

  -- the buffer too
  pub read-still : (name : List ℕ) (x : ℕ) (buffer : List ℕ) → Still (λ a. with_buffer s a buffer) (read s name x buffer)
  unfolding read
  read-still name x buffer = still (λ a. with_buffer s a buffer) _ (λ a. refl) (told-bind (file_ok s name) _ (λ i. told-accept _ refl))
