-- Each moment and each call of a list is as the cut rule says (proofs/Moments.antt). Here: what the invariant says in every phase, so at one moment, and of a cut.
use Rattle.std.specs.Prelude.{ℕ, ◌≡◌, refl, Bool, true, false, ◌&&◌, List, [], T, eqb, length}
use Rattle.std.proofs.Common.{sym, ap, ap₂, ◌∙◌, subst, true≢false, eq-eqb}
use Rattle.std.proofs.Math.Option.{none, some}
use Rattle.spec.specs.Bytes.{all, distinct}
use Rattle.spec.specs.Disk.{Disk, Slice, is_target}
use Rattle.spec.specs.Sound.{volume_sound}
use Rattle.spec.specs.Map.{Files, files_of}
use Rattle.spec.specs.declared.Phase.TheVariants.{Closed, Committing}
use Rattle.spec.specs.declared.Session.{Session}
use Rattle.spec.specs.declared.Refusal.{Refusal}
use Rattle.spec.proofs.Refusals.{of-refusal}
use Rattle.spec.specs.Session.{opened, staged_in, with_staged}
use Rattle.spec.specs.Answers.{Answer, refused, done, started, stored, idle, counted, file, no_file, run, no_run, refusal_of, is_refused}
use Rattle.spec.specs.Transaction.{State, view}
use Rattle.spec.specs.Calls.{step}
use Rattle.spec.specs.Plain.{Plain, Mode, plain, phase_of}
use Rattle.spec.specs.CutRule.{cut, Both, refusal_in, Moment, next}
use Rattle.transaction.proofs.Laws.{shown}
use Rattle.logs.specs.Stores.{Whole}
use Rattle.logs.specs.Targets.{targets-listed, truth}
use Rattle.logs.specs.View.{Held, held_none, numbered, list_of, list_length, view-is}
use Rattle.crash.specs.Interface.{FilesOn}
use Rattle.crash.specs.Machine.{ses, at, ses-none, ses-staged}
use Rattle.crash.specs.Invariant.{Means, Settled, Rest, settled, logged, Inv, closed, ready, imaging, targeting, recovering, settled-sound}
use Rattle.crash.specs.Steps.{both}

-- ---- answers

pub refusal-in : (r : Refusal) → refusal_in (refusal_of r) ≡ some (refusal_of r)
refusal-in = of-refusal (λ a. refusal_in a ≡ some a) (λ n vs. refl)

pub accepted-is : (a : Answer) → is_refused a ≡ false → refusal_in a ≡ none
accepted-is (refused n vs) h = absurd (true≢false h)
accepted-is done h = refl
accepted-is (started n) h = refl
accepted-is (stored b l n) h = refl
accepted-is idle h = refl
accepted-is (counted n) h = refl
accepted-is (file x n) h = refl
accepted-is no_file h = refl
accepted-is (run e) h = refl
accepted-is no_run h = refl

-- two modes that differ
abbrev code : Mode → ℕ
code Mode.Closed = 0
code Mode.Ready = 1
code Mode.Committing = 2
code Mode.Recovering = 3

differ : {A : Type 0} (x y : Mode) → eqb (code x) (code y) ≡ false → x ≡ y → A
differ x y h e = absurd (true≢false (sym (eq-eqb (code x) (code y) (ap code e)) ∙ h))

module _ {N : ℕ} (F : FilesOn N) where
  -- ---- a moment

  -- what the invariant says in every phase
  pub record Seen (s : State) (p : Plain) : Type 0 where
    pub bs : List ℕ
    pub disk : Disk
    pub work : Slice
    pub is : s ≡ at N (ses p.blocks (phase_of p) bs) disk work
    pub rest : Rest F disk p.committed p.k p.pending
    pub held : Held N bs work.block
    pub closed : p.mode ≡ Mode.Closed → bs ≡ []
    pub recovering : p.mode ≡ Mode.Recovering → bs ≡ []
    pub committing : p.mode ≡ Mode.Committing → length bs ≡ p.k
    pub ready : p.mode ≡ Mode.Ready → Means F (shown disk (numbered bs work.block)) p.working

  -- closed and recovering nothing is staged
  bare : (s : State) (p : Plain) (v : Disk) (w : Slice) → s ≡ at N (ses p.blocks (phase_of p) []) v w → Rest F v p.committed p.k p.pending
      → (p.mode ≡ Mode.Committing → 0 ≡ p.k) → (p.mode ≡ Mode.Ready → Means F v p.working) → Seen s p
  bare s p v w q r x y =
      record { bs = []; disk = v; work = w; is = q; rest = r; held = held_none N w.block; closed = λ e. refl; recovering = λ e. refl; committing = x; ready = y }

  -- committing
  busy : (s : State) (bs : List ℕ) (c m : Files) (v : Disk) (w : Slice) (o : Bool) (n : ℕ) → s ≡ at N (ses N (Committing n) bs) v w → Rest F v c (length bs) o → Held N bs w.block
      → Seen s (plain c m Mode.Committing (length bs) n o N)
  busy s bs c m v w o n q r h =
      record {
        bs = bs;
        disk = v;
        work = w;
        is = q;
        rest = r;
        held = h;
        closed = differ Mode.Committing Mode.Closed refl;
        recovering = differ Mode.Committing Mode.Recovering refl;
        committing = λ e. refl;
        ready = differ Mode.Committing Mode.Ready refl;
      }

  pub seen : (s : State) (p : Plain) → Inv F s p → Seen s p
  seen s p (closed B c k d o v w q e r) =
      subst (Seen s) (sym e) (bare s (plain c c Mode.Closed k d o B) v w q r (differ Mode.Closed Mode.Committing refl) (differ Mode.Closed Mode.Ready refl))
  seen s p (ready bs c m k d v w q e z h u) =
      subst (Seen s) (sym e)
      (record {
        bs = bs;
        disk = v;
        work = w;
        is = q;
        rest = settled z;
        held = h;
        closed = differ Mode.Ready Mode.Closed refl;
        recovering = differ Mode.Ready Mode.Recovering refl;
        committing = differ Mode.Ready Mode.Committing refl;
        ready = λ x. u;
      })
  seen s p (imaging n bs c m v w q e z h y u k g) = subst (Seen s) (sym e) (busy s bs c m v w false n q (settled z) h)
  seen s p (targeting n j bs c v w q e h r k) =
      subst (Seen s) (sym e) (busy s bs c c v w true n q (logged (list_of bs w.block) (sym (list_length h)) r.logged) h)
  seen s p (recovering n c v w l q e r) =
      subst (Seen s) (sym e)
      (bare s (plain c c Mode.Recovering (length l) n true N) v w q (logged l refl r.logged) (differ Mode.Recovering Mode.Committing refl) (differ Mode.Recovering Mode.Ready refl))

  rest-settled : (v : Disk) (c : Files) (k : ℕ) (o : Bool) → Rest F v c k o → o ≡ false → Settled F v c
  rest-settled v c k false (settled z) q = z
  rest-settled v c k true (logged l e g) q = absurd (true≢false q)

  rest-whole : (v : Disk) (c : Files) (k : ℕ) (o : Bool) → Rest F v c k o → Whole v
  rest-whole v c k false (settled z) = z.whole
  rest-whole v c k true (logged l e g) = g.whole

  pub moment : (s : State) (p : Plain) → Seen s p → Moment N (both s p)
  moment s p x =
      let n = ses p.blocks (phase_of p) x.bs in
      let q : staged_in n ≡ x.bs = ses-staged p.blocks (phase_of p) x.bs in
      let e : view (at N n x.disk x.work) ≡ shown x.disk (numbered x.bs x.work.block) = view-is (at N n x.disk x.work) x.bs q in
      let l = targets-listed N x.bs x.held.targets in
      subst (λ (y : State). Moment N (both y p)) (sym x.is)
      (record {
        size = refl;
        whole = rest-whole x.disk p.committed p.k p.pending x.rest;
        session = ap (with_staged (opened p.blocks (phase_of p))) (sym q);
        closed = λ m. q ∙ x.closed m;
        recovering = λ m. q ∙ x.recovering m;
        committing = λ m. ap length q ∙ x.committing m;
        targets = truth (all (is_target N) (staged_in n) && distinct (staged_in n)) (rw (q, l.targets, l.differ));
        view-sound = λ m. subst (λ (a : Disk). T (volume_sound N a)) (sym e) (F.is-sound (shown x.disk (numbered x.bs x.work.block)) (x.ready m).good);
        view-files = λ m name. ap (λ (a : Disk). files_of a name) e ∙ (x.ready m).files name;
        device-sound = λ o. settled-sound F x.disk p.committed (rest-settled x.disk p.committed p.k p.pending x.rest o);
        device-files = λ o name. (rest-settled x.disk p.committed p.k p.pending x.rest o).means.files name;
      })

  -- ---- a cut

  pub inv-cut : (b : Both) (w : Slice) → Seen b.store b.plain → Inv F (next step N b (cut w)).store (next step N b (cut w)).plain
  inv-cut b w x =
      closed 0 b.plain.committed b.plain.k b.plain.d b.plain.pending x.disk w
      (ap₂ (λ (n : Session) (y : State). record { session = n; device = y.device; work = w }) (ses-none 0 Closed) x.is) refl x.rest
