-- The steps of format, open, advance, commit and abort as equations. Assumes nothing.
use Prim.Native.Nat.{ℕ, zero, suc, ◌+◌, ◌*◌, ◌/◌, ◌%◌, ◌≤◌}
use Rattle.std.specs.Prelude.{◌≡◌, refl, length, drop}
use Rattle.std.proofs.Common.{sym, ap, ◌∙◌}
use Rattle.std.proofs.lemmas.Bool.{false≢true}
use Rattle.std.proofs.Math.Path.{ap₂}
use mathlib.Core.Bool.{Bool, true, false, cond, not}
use mathlib.Core.List.{List, [], ◌∷◌, ◌++◌, map}
use Rattle.std.proofs.Math.Option.{Option, none, some}
use Rattle.std.proofs.Math.Dec.{eqb}
use Rattle.std.proofs.Math.ListN.{get_elem?}
use Rattle.std.proofs.lemmas.List.{length-map}
use native.Mathlib.Omega.{arith}
use borrow.Author.Tests.{le-leb, ne_eqb}
use Rattle.spec.specs.Layout.{block_size, fewest_blocks, most_blocks, header_block, bitmap_block}
use Rattle.spec.specs.Bytes.{zeros, pieces, is_some}
use Rattle.spec.specs.Bitmap.{byte_of, bytes_of}
use Rattle.spec.specs.Disk.{Disk, Slice, is_allowed}
use Rattle.spec.specs.Sound.{inode_fault, block_fault, volume_sound}
use Rattle.spec.specs.declared.Phase.{Phase}
use Rattle.spec.specs.declared.Phase.TheVariants.{Closed, Ready, Committing, Recovering}
use Rattle.spec.specs.declared.Session.{Session}
use Rattle.spec.specs.Session.{opened, closed_on, in_phase, staged_in, with_staged}
use Rattle.spec.specs.Answers.{done, stored, idle, accept}
use Rattle.spec.specs.Transaction.{State, with_session, BlockStore}
use Rattle.spec.specs.Journal.{targets_in, header_fault, are_targets, redo_from, clearing, commit_stores, recovery_stores}
use Rattle.spec.specs.Calls.{Outcome, outcome, lent_ok, ready_ok, empty_bits, empty_disk, format, open_phase, open_store, perform, advance_in, advance, start_commit, commit, abort, Format, Open, Advance, Commit, Abort, step}
use Rattle.spec.specs.Plain.{Plain}
use Rattle.spec.specs.Refusals.{due}
use Rattle.spec.specs.CutRule.{Both, Stores}
use Rattle.lists.specs.Tests.{both_true}
use Rattle.transaction.proofs.Laws.{staged-with, phase-with, Valid}
use Rattle.logs.specs.Stores.{Whole, upd, targets_of, commit_list}
use Rattle.logs.specs.Targets.{targets-listed}
use Rattle.logs.specs.Header.{length-clear}
use Rattle.logs.specs.View.{Held, list_of, staged_stores_lem}

-- ---- a sound volume has no fault

no-fault : (o : Option ℕ) → not (is_some o) ≡ true → o ≡ none
no-fault none h = refl
no-fault (some i) h = absurd (false≢true h)

pub fault-free : (N : ℕ) (v : Disk) → volume_sound N v ≡ true → (inode_fault N v ≡ none) × (block_fault N v ≡ none)
unfolding volume_sound
fault-free N v h =
    let t = both_true (not (is_some (inode_fault N v))) (not (is_some (block_fault N v))) h in
    (no-fault (inode_fault N v) t.0, no-fault (block_fault N v) t.1)

-- ---- states

-- a session with these numbers staged
abbrev pub ses : ℕ → Phase → List ℕ → Session
ses B f bs = with_staged (opened B f) bs

-- on a device of N blocks
abbrev pub at : ℕ → Session → Disk → Slice → State
at N n v w = record { session = n; device = record { size = block_size * N; block = v }; work = w }

pub ses-none : (B : ℕ) (f : Phase) → opened B f ≡ ses B f []
unfolding with_staged
ses-none B f = refl

pub ses-in : (B : ℕ) (f g : Phase) (bs : List ℕ) → in_phase (ses B f bs) g ≡ ses B g bs
unfolding with_staged
ses-in B f g bs = refl

pub ses-blocks : (B : ℕ) (f : Phase) (bs : List ℕ) → (ses B f bs).blocks ≡ B
unfolding with_staged
ses-blocks B f bs = refl

pub ses-staged : (B : ℕ) (f : Phase) (bs : List ℕ) → staged_in (ses B f bs) ≡ bs
ses-staged B f bs = staged-with (opened B f) bs

pub ses-phase : (B : ℕ) (f : Phase) (bs : List ℕ) → (ses B f bs).phase ≡ f
ses-phase B f bs = phase-with (opened B f) bs

-- ---- format's device

length-pieces : (m n : ℕ) (xs : List ℕ) → length (pieces m n xs) ≡ m
length-pieces zero n xs = refl
length-pieces (suc m) n xs = ap suc (length-pieces m n (drop n xs))

pub empty-whole : (N : ℕ) → Whole (empty_disk N)
unfolding empty_disk bytes_of
empty-whole N b = go (eqb b bitmap_block)
  where
    go : (t : Bool) → length (cond t (map byte_of (pieces block_size 8 (empty_bits N))) (zeros block_size)) ≡ block_size
    go true = length-map (pieces block_size 8 (empty_bits N)) byte_of ∙ length-pieces block_size 8 (empty_bits N)
    go false = length-clear

pub empty-clear : (N : ℕ) → empty_disk N header_block ≡ zeros block_size
unfolding empty_disk
empty-clear N = refl

-- ---- what is lent

module _ (N : ℕ) (lo : fewest_blocks ≤ N) (hi : N ≤ most_blocks) where
  pub blocks-are : block_size * N / block_size ≡ N
  blocks-are = omega arith

  pub allowed-ok : is_allowed (block_size * N) ≡ true
  unfolding is_allowed
  allowed-ok =
      let r : 512 * N % 512 ≡ 0 = omega arith in
      rw (r, blocks-are, le-leb 64 N lo, le-leb N 4096 hi)

  -- ---- format

  pub format-is : (n : Session) (v : Disk) (w : Slice) → step (at N n v w) Format ≡ outcome (at N (closed_on N) (empty_disk N) w) done
  unfolding format
  format-is n v w = rw (allowed-ok, blocks-are)

  pub format-due : (p : Plain) (n : Session) (v : Disk) (w : Slice) → due N p (at N n v w) Format ≡ none
  unfolding due
  format-due p n v w = rw allowed-ok

  -- ---- open

  module _ (n : Session) (v : Disk) (w : Slice) (right : header_fault N (v header_block) ≡ none) where
    pub open-clear : targets_in (v header_block) ≡ [] → volume_sound N v ≡ true → step (at N n v w) Open ≡ outcome (at N (opened N Ready) v w) done
    unfolding open_store open_phase
    open-clear q g = let z = fault-free N v g in rw (allowed-ok, blocks-are, right, q, z.0, z.1)

    pub clear-due : (p : Plain) → targets_in (v header_block) ≡ [] → volume_sound N v ≡ true → due N p (at N n v w) Open ≡ none
    unfolding due
    clear-due p q g = let z = fault-free N v g in rw (allowed-ok, blocks-are, right, q, z.0, z.1)

    pub open-log : (t : ℕ) (ts : List ℕ) → targets_in (v header_block) ≡ t ∷ ts → step (at N n v w) Open ≡ outcome (at N (opened N (Recovering 0)) v w) done
    unfolding open_store open_phase
    open-log t ts q = rw (allowed-ok, blocks-are, right, q, ne_eqb (suc (length ts)) 0 (λ e. omega arith))

    pub log-due : (p : Plain) (t : ℕ) (ts : List ℕ) → targets_in (v header_block) ≡ t ∷ ts → due N p (at N n v w) Open ≡ none
    unfolding due
    log-due p t ts q = rw (allowed-ok, blocks-are, right, q, ne_eqb (suc (length ts)) 0 (λ e. omega arith))

-- ---- advance

pub advance-is : (s : State) (f : Phase) → lent_ok s ≡ accept true → s.session.phase ≡ f → step s Advance ≡ advance_in s f
unfolding advance
advance-is s f h q = rw (h, q)

-- "If nothing is under way it answers that .. and stores nothing."
pub idle-closed : (s : State) → advance_in s Closed ≡ outcome s idle
unfolding advance_in
idle-closed s = refl

pub idle-ready : (s : State) → advance_in s Ready ≡ outcome s idle
unfolding advance_in
idle-ready s = refl

-- one store, of the entry w at place d of the sequence ws
abbrev pub performed : State → List BlockStore → ℕ → Session → Session → BlockStore → Outcome
performed s ws d next last w =
    outcome (record { session = cond (eqb (suc d) (length ws)) last next; device = record { size = s.device.size; block = upd w s.device.block }; work = s.work })
    (stored w.block (eqb (suc d) (length ws)) (suc d))

module _ (s : State) (ws : List BlockStore) (d : ℕ) (next last : Session) (w : BlockStore) (q : get_elem? ws d ≡ some w) where
  pub perform-is : perform s ws d next last ≡ performed s ws d next last w
  unfolding upd
  perform-is = rw q

pub performed-stores : (b : Both) (ws : List BlockStore) (next last : Session) (w : BlockStore) → get_elem? ws b.plain.d ≡ some w
    → staged_in next ≡ staged_in b.store.session → staged_in last ≡ [] → Stores b ws (performed b.store ws b.plain.d next last w)
performed-stores b ws next last w q n l =
    record {
      entry = w;
      is-entry = q;
      answer = ap (λ i. stored w.block (eqb i (length ws)) i) one;
      device = unfold upd in refl;
      work = refl;
      staged = staged (eqb (suc b.plain.d) (length ws)) (eqb (b.plain.d + 1) (length ws)) (ap (λ i. eqb i (length ws)) one);
    }
  where
    one : suc b.plain.d ≡ b.plain.d + 1
    one = omega arith

    staged : (t u : Bool) → t ≡ u → staged_in (cond t last next) ≡ cond u [] (staged_in b.store.session)
    staged true true e = l
    staged false false e = n
    staged true false e = absurd (mathlib.Core.Bool.true≢false e)
    staged false true e = absurd (mathlib.Core.Bool.false≢true e)

-- the sequences of stores
module _ (N d : ℕ) (bs : List ℕ) (v : Disk) (w : Slice) where
  pub commit-stores : are_targets N bs ≡ true
      → commit_stores (at N (ses N (Committing d) bs) v w)
      ≡ commit_list (list_of bs w.block) (redo_from 1 v (targets_of (list_of bs w.block)))
  unfolding commit_stores commit_list
  commit-stores h =
      ap₂ (λ (t : Bool) (l : List BlockStore). cond t (commit_list l (redo_from 1 v (targets_of l))) [])
      (ap₂ are_targets (ses-blocks N (Committing d) bs) (ses-staged N (Committing d) bs) ∙ h)
      (staged_stores_lem (at N (ses N (Committing d) bs) v w) bs (ses-staged N (Committing d) bs))

  pub advance-commit : lent_ok (at N (ses N (Committing d) bs) v w) ≡ accept true
      → step (at N (ses N (Committing d) bs) v w) Advance
      ≡ perform (at N (ses N (Committing d) bs) v w) (commit_stores (at N (ses N (Committing d) bs) v w)) d (ses N (Committing (suc d)) bs) (opened N Ready)
  advance-commit h =
      advance-is (at N (ses N (Committing d) bs) v w) (Committing d) h (ses-phase N (Committing d) bs) ∙ (unfold advance_in with_staged in refl)

  pub advance-recover : lent_ok (at N (ses N (Recovering d) bs) v w) ≡ accept true
      → step (at N (ses N (Recovering d) bs) v w) Advance
      ≡ perform (at N (ses N (Recovering d) bs) v w) (recovery_stores N v) d (ses N (Recovering (suc d)) bs) (closed_on N)
  advance-recover h =
      advance-is (at N (ses N (Recovering d) bs) v w) (Recovering d) h (ses-phase N (Recovering d) bs) ∙ (unfold advance_in with_staged in refl)

pub recovery-stores : (N : ℕ) (v : Disk) (l : List BlockStore) → targets_in (v header_block) ≡ targets_of l → are_targets N (targets_of l) ≡ true
    → redo_from 1 v (targets_of l) ≡ l → recovery_stores N v ≡ l ++ clearing
unfolding recovery_stores
recovery-stores N v l q h r =
    ap (λ (ts : List ℕ). cond (are_targets N ts) (redo_from 1 v ts ++ clearing) []) q
    ∙ ap₂ (λ (t : Bool) (x : List BlockStore). cond t (x ++ clearing) []) h r

-- ---- commit and abort

module _ (s : State) (h : lent_ok s ≡ accept true) (f : s.session.phase ≡ Ready) where
  ready-ok : ready_ok s ≡ accept true
  unfolding ready_ok
  ready-ok = rw (h, f)

  pub commit-is : step s Commit ≡ start_commit s (length (staged_in s.session))
  unfolding commit
  commit-is = rw ready-ok

  pub abort-is : step s Abort ≡ outcome (with_session s (opened s.session.blocks Ready)) done
  unfolding abort
  abort-is = rw ready-ok

-- ---- a session holds what the plain store reckons

pub ses-valid : (N : ℕ) (f : Phase) (bs : List ℕ) (g : Disk) → Held N bs g → Valid N (ses N f bs)
ses-valid N f bs g h =
    record {
      whole = ap₂ (λ (q : Phase) (xs : List ℕ). with_staged (opened N q) xs) (sym (ses-phase N f bs)) (sym (ses-staged N f bs));
      few = rw (ses-staged N f bs) h.few;
      listed = rw (ses-staged N f bs) (targets-listed N bs h.targets);
    }
