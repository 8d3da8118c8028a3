-- What a device recovers to after a cut.
use Prim.Native.Nat.{ℕ, zero, suc, ◌+◌, ◌*◌, ◌≤◌, ◌<◌}
use Rattle.std.specs.Prelude.{◌≡◌, refl, Bool, true, false, cond, ◌⊎◌, List, [], T, eqb, get_or}
use Rattle.std.proofs.Common.{sym, ap₂, ◌∙◌, subst, inl, inr, eq-or-lt_of_le, le_refl, eq-eqb, ne_eqb}
use Rattle.std.proofs.Math.Path.{ap}
use Rattle.std.proofs.Math.ListN.{length, get_or-append}
use Rattle.std.proofs.Math.Seq.{get_or-append_seam}
use native.Mathlib.Omega.{arith}
use Rattle.spec.specs.Layout.{block_size, header_block, work_size}
use Rattle.spec.specs.Bytes.{zeros}
use Rattle.spec.specs.Disk.{Disk, Slice}
use Rattle.spec.specs.Map.{Files}
use Rattle.spec.specs.declared.Phase.TheVariants.{Ready, Recovering}
use Rattle.spec.specs.declared.Session.{Session}
use Rattle.spec.specs.Session.{opened, closed_on, never_opened}
use Rattle.spec.specs.Answers.{done, stored, accept}
use Rattle.spec.specs.Transaction.{State, with_session, BlockStore, put}
use Rattle.spec.specs.Journal.{clearing}
use Rattle.spec.specs.Calls.{Outcome, outcome, lent_ok, Open, Advance, step}
use Rattle.spec.specs.Plain.{Mode, phase_in}
use Rattle.spec.specs.CutRule.{advances}
use Rattle.logs.specs.Stores.{upd, blank}
use Rattle.crash.specs.Interface.{FilesOn}
use Rattle.crash.specs.Tests.{lent_is}
use Rattle.crash.specs.Machine.{ses, at, ses-none, ses-blocks, allowed-ok}
use Rattle.crash.specs.Invariant.{Settled, Logged, Redoing, Rest, settled, logged, redo-first, redo-next, redo-clear}
use Rattle.crash.specs.Steps.{opens-clear, opens-log, recover-is}

advances-suc : (n : ℕ) (s : State) → advances step (suc n) s ≡ (step (advances step n s) Advance).after
advances-suc zero s = refl
advances-suc (suc n) s = advances-suc n (step s Advance).after

module _ {N : ℕ} (F : FilesOn N) where
  -- after a cut: the device D, and any work space
  abbrev pub off : Slice → Slice → State
  off D w = record { session = never_opened; device = D; work = w }

  abbrev pub recovered_from : Slice → ℕ → Bool → Slice → State
  recovered_from D k o w = advances step (cond o (k + 1) 0) (step (off D w) Open).after

  pub record Recovers (D : Slice) (c : Files) (k : ℕ) (o : Bool) : Type 0 where
    pub opens : (w : Slice) → step (off D w) Open ≡ outcome (with_session (off D w) (opened N (phase_in (cond o Mode.Recovering Mode.Ready) 0))) done
    pub recovers : (w : Slice) → w.size ≡ work_size → T o → (j : ℕ) → j ≤ k
        → (x : ℕ) × ((step (advances step j (step (off D w) Open).after) Advance).answer ≡ stored x (eqb j k) (j + 1))
    -- in the end
    pub session : (w : Slice) → w.size ≡ work_size → Session
    pub disk : (w : Slice) → w.size ≡ work_size → Disk
    pub ends : (w : Slice) (h : w.size ≡ work_size) → recovered_from D k o w ≡ at N (session w h) (disk w h) w
    pub rests : (w : Slice) (h : w.size ≡ work_size) → Settled F (disk w h) c

  module _ (l : List BlockStore) (v : Disk) (c : Files) (g : Logged F l v c) (w : Slice) (size : w.size ≡ work_size) where
    abbrev begin : State
    begin = at N (ses N (Recovering 0) []) v w

    -- j advances on
    record Reached (j : ℕ) : Type 0 where
      disk : Disk
      same : advances step j begin ≡ at N (ses N (Recovering j) []) disk w
      redoing : Redoing F l j disk c

    lent : (j : ℕ) (u : Disk) → lent_ok (at N (ses N (Recovering j) []) u w) ≡ accept true
    lent j u =
        lent_is (at N (ses N (Recovering j) []) u w) (allowed-ok N F.fewest F.most)
        (eq-eqb (block_size * (ses N (Recovering j) []).blocks) (block_size * N) (ap (λ n. block_size * n) (ses-blocks N (Recovering j) []))) (eq-eqb w.size work_size size)

    on : (j : ℕ) (u : Disk) → Redoing F l j u c → j < length l
        → step (at N (ses N (Recovering j) []) u w) Advance ≡ outcome (at N (ses N (Recovering (suc j)) []) (upd (get_or l j blank) u) w) (stored (get_or l j blank).block false (suc j))
    on j u r h =
        recover-is F l u w c r.logged j (get_or l j blank) false (lent j u) (omega arith) (get_or-append l clearing blank j h) (ne_eqb (suc j) (length l + 1) (λ q. omega arith))

    last : (u : Disk) → Redoing F l (length l) u c
        → step (at N (ses N (Recovering (length l)) []) u w) Advance ≡ outcome (at N (closed_on N) (upd (put header_block (zeros block_size)) u) w) (stored 0 true (suc (length l)))
    last u r =
        recover-is F l u w c r.logged (length l) (put header_block (zeros block_size)) true (lent (length l) u) (omega arith)
        (get_or-append_seam l (put header_block (zeros block_size)) [] blank) (eq-eqb (suc (length l)) (length l + 1) (omega arith))

    reached : (j : ℕ) → j ≤ length l → Reached j
    reached zero h = record { disk = v; same = refl; redoing = redo-first F l v c g }
    reached (suc j) h =
        let r = reached j (omega arith) in
        record {
          disk = upd (get_or l j blank) r.disk;
          same = advances-suc j begin ∙ ap (λ (s : State). (step s Advance).after) r.same ∙ ap (λ (o : Outcome). o.after) (on j r.disk r.redoing h);
          redoing = redo-next F l j r.disk c h r.redoing;
        }

    answered : (j k : ℕ) → k ≡ length l → (j ≡ length l) ⊎ (j < length l) → (x : ℕ) × ((step (advances step j begin) Advance).answer ≡ stored x (eqb j k) (j + 1))
    answered j k q (inr h) =
        let r = reached j (omega arith) in
        let e : suc j ≡ j + 1 = omega arith in
        let n : false ≡ eqb j k = sym (ne_eqb j k (λ x. omega arith)) in (
          (get_or l j blank).block,
          ap (λ (s : State). (step s Advance).answer) r.same ∙ ap (λ (o : Outcome). o.answer) (on j r.disk r.redoing h)
              ∙ ap₂ (λ b i. stored (get_or l j blank).block b i) n e,
        )
    answered j k q (inl h) =
        let r = reached (length l) (le_refl (length l)) in
        let e : suc (length l) ≡ j + 1 = omega arith in
        let n : true ≡ eqb j k = sym (eq-eqb j k (omega arith)) in (
          0,
          ap (λ i. (step (advances step i begin) Advance).answer) h ∙ ap (λ (s : State). (step s Advance).answer) r.same
              ∙ ap (λ (o : Outcome). o.answer) (last r.disk r.redoing) ∙ ap₂ (λ b i. stored 0 b i) n e,
        )

    end-disk : Disk
    end-disk = upd (put header_block (zeros block_size)) (reached (length l) (le_refl (length l))).disk

    ended : advances step (length l + 1) begin ≡ at N (closed_on N) end-disk w
    unfolding end-disk
    ended =
        let r = reached (length l) (le_refl (length l)) in
        let e : length l + 1 ≡ suc (length l) = omega arith in
        ap (λ n. advances step n begin) e ∙ advances-suc (length l) begin ∙ ap (λ (s : State). (step s Advance).after) r.same
        ∙ ap (λ (o : Outcome). o.after) (last r.disk r.redoing)

    end-settled : Settled F end-disk c
    unfolding end-disk
    end-settled = let r = reached (length l) (le_refl (length l)) in redo-clear F l r.disk c r.redoing

  pub recovers-rest : (v : Disk) (c : Files) (k : ℕ) (o : Bool) → Rest F v c k o → Recovers (record { size = block_size * N; block = v }) c k o
  recovers-rest v c k false (settled z) =
      record {
        opens = λ w. opens-clear F never_opened v w c z;
        recovers = λ w h t. absurd t;
        session = λ w h. opened N Ready;
        disk = λ w h. v;
        ends = λ w h. ap (λ (x : Outcome). x.after) (opens-clear F never_opened v w c z);
        rests = λ w h. z;
      }
  recovers-rest v c k true (logged l q g) =
      record {
        opens = λ w. opens-log F never_opened v w c l g;
        recovers = λ w h t j x. subst (λ (s : State). (y : ℕ) × ((step (advances step j s) Advance).answer ≡ stored y (eqb j k) (j + 1))) (sym (start w)) (answered l v c g w h j k q (eq-or-lt_of_le (omega (arith, x, q))));
        session = λ w h. closed_on N;
        disk = λ w h. end-disk l v c g w h;
        ends = λ w h. ap₂ (λ n s. advances step (n + 1) s) q (start w) ∙ ended l v c g w h;
        rests = λ w h. end-settled l v c g w h;
      }
    where
      start : (w : Slice) → (step (off (record { size = block_size * N; block = v }) w) Open).after ≡ at N (ses N (Recovering 0) []) v w
      start w = ap (λ (x : Outcome). x.after) (opens-log F never_opened v w c l g) ∙ ap (λ (x : Session). at N x v w) (ses-none N (Recovering 0))
