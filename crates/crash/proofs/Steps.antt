-- Each call keeps the invariant and is answered rightly.
use Rattle.std.specs.Prelude.{ℕ, zero, suc, ◌+◌, ◌*◌, ◌-◌, ◌/◌, ◌<◌, ◌≡◌, refl, Bool, true, false, cond, ◌⊎◌, List, [], ◌∷◌, ◌++◌, eqb, length, get_or}
use Rattle.std.proofs.Common.{sym, ap, ap₂, ◌∙◌, subst, inl, inr, eq-or-lt_of_le, arith, eq-eqb, ne_eqb}
use Rattle.std.proofs.Math.Path.{fun_ext}
use Rattle.std.proofs.lemmas.Bool.{false≢true}
use Rattle.std.proofs.Math.Option.{none, some}
use Rattle.std.proofs.Math.ListN.{get_elem?, get_or-append}
use Rattle.std.proofs.lemmas.List.{length-map}
use Rattle.std.proofs.Math.Seq.{get_or-append_seam}
use Rattle.spec.specs.Layout.{block_size, header_block}
use Rattle.spec.specs.Bytes.{zeros}
use Rattle.spec.specs.Disk.{Disk, Slice}
use Rattle.spec.specs.Map.{Files, files_of}
use Rattle.spec.specs.declared.Phase.{Phase}
use Rattle.spec.specs.declared.Phase.TheVariants.{Closed, Ready, Committing, Recovering}
use Rattle.spec.specs.declared.Session.{Session}
use Rattle.spec.specs.Session.{opened, closed_on, in_phase, staged_in, with_staged}
use Rattle.spec.specs.Answers.{done, started, idle, is_refused}
use Rattle.spec.specs.Transaction.{State, with_session, view, BlockStore, put, Staged, staged_of, stage_all, with_staging}
use Rattle.spec.specs.Journal.{header_of, redo_from, clearing, commit_stores, recovery_stores}
use Rattle.spec.specs.Calls.{Outcome, outcome, is_ready, empty_disk, start_commit, perform, Change, Query, query_step, Call, Format, Open, Advance, Commit, Abort, Do, Ask, step}
use Rattle.spec.specs.Plain.{Plain, Mode, plain, after_commit, after_advance, after_commit_store, after_recovery_store, changed_files, accepted}
use Rattle.spec.specs.Refusals.{is_ready_mode, due}
use Rattle.spec.specs.CutRule.{Both, Stores, Says, Accepted}
use Rattle.transaction.proofs.Laws.{staged-with, phase-with, staged-opened, shown, view-shown, Valid}
use Rattle.logs.specs.Stores.{upd, upd_same, upd_other, Whole, upd-whole, blank, applied, applied-whole, applied-agree, element-at, long-entry, entry_at, targets_of, length-redo, commit_list, commit-image, commit-header, commit-target, commit-clear, commit-length}
use Rattle.logs.specs.Targets.{Targets, targets_of_lem, targets-listed, are-targets}
use Rattle.logs.specs.View.{Held, Imaged, held_none, numbered, list_of, list-ascending, list-long, list_length, list-view, view-is, staging-valid, staging-images}
use Rattle.crash.specs.Interface.{FilesOn}
use Rattle.crash.specs.Tests.{Answered, turned_down, taken, Tested, Passed, Front, refused, passed, front-due}
use Rattle.crash.specs.Queries.{query-answered, says-still}
use Rattle.crash.specs.Changed.{Changed, change-answered}
use Rattle.crash.specs.Machine.{ses, at, empty-whole, empty-clear, ses-none, ses-in, ses-blocks, ses-staged, ses-phase, ses-valid, format-is, format-due, clear-due, log-due, advance-is, idle-closed, idle-ready, performed, perform-is, performed-stores, commit-stores, advance-commit, advance-recover, commit-is, abort-is}
use Rattle.crash.specs.Invariant.{Taken, Stored, Means, Settled, Logged, Redoing, Rest, settled, logged, Inv, closed, ready, imaging, targeting, recovering, local, redo-first, redo-next, redo-clear, list-logged, log-read, log-right, log-redo, settled-read, settled-right, settled-volume}
use Rattle.crash.proofs.Invariant.{settled-log}
use Rattle.crash.specs.Steps.{both, Keeps as KeepsOn, Goes as GoesOn, opens-clear, first_of, opens-log, recovery, length-recovery}

-- ---- the plain store's counts as equations

module _ (c m : Files) (k n B : ℕ) (b : Bool) where
  next-is : n + 1 ≡ suc n
  next-is = omega arith

  count-on : (n ≡ k → ⊥) → suc n < 2 * k + 2 → after_commit_store (plain c m Mode.Committing k n b B) (n + 1) ≡ plain c m Mode.Committing k (suc n) b B
  count-on h l = rw (ne_eqb (n + 1) (k + 1) (λ e. h (omega arith)), ne_eqb (n + 1) (2 * k + 2) (λ e. omega arith), next-is)

  count-header : n ≡ k → after_commit_store (plain c m Mode.Committing k n b B) (n + 1) ≡ plain m m Mode.Committing k (suc n) true B
  count-header h = rw (eq-eqb (n + 1) (k + 1) (omega arith), next-is)

  count-last : (n ≡ k → ⊥) → suc n ≡ 2 * k + 2 → after_commit_store (plain c m Mode.Committing k n b B) (n + 1) ≡ plain c m Mode.Ready k (suc n) false B
  count-last h l = rw (ne_eqb (n + 1) (k + 1) (λ e. h (omega arith)), eq-eqb (n + 1) (2 * k + 2) (omega arith), next-is)

  recount-on : (n ≡ k → ⊥) → after_recovery_store (plain c m Mode.Recovering k n b B) (n + 1) ≡ plain c m Mode.Recovering k (suc n) b B
  recount-on h = rw (ne_eqb (n + 1) (k + 1) (λ e. h (omega arith)), next-is)

  recount-last : n ≡ k → after_recovery_store (plain c m Mode.Recovering k n b B) (n + 1) ≡ plain c m Mode.Closed k (suc n) false B
  recount-last h = rw (eq-eqb (n + 1) (k + 1) (omega arith), next-is)

-- ---- calls

module _ {N : ℕ} (F : FilesOn N) where
  -- `Keeps` and `Goes` of specs/, on this F
  abbrev Keeps : Both → Call → Type 0
  Keeps b c = KeepsOn F b c

  abbrev Goes : Both → Call → Type 0
  Goes b c = GoesOn F b c

  by-step : (b : Both) (c : Call) (o : Outcome) → step b.store c ≡ o → due N b.plain b.store c ≡ none
      → Accepted N b c o → is_refused o.answer ≡ false → Inv F o.after (accepted N b.plain c o.answer) → Goes b c
  by-step b c o e d a n i =
      taken d record {
        accepts = subst (λ (x : Outcome). Accepted N b c x) (sym e) a;
        answer = subst (λ (x : Outcome). is_refused x.answer ≡ false) (sym e) n;
        inv = subst (λ (x : Outcome). Inv F x.after (accepted N b.plain c x.answer)) (sym e) i;
      }

  -- ---- format and open

  format-goes : (n : Session) (v : Disk) (w : Slice) (p : Plain) → Goes (both (at N n v w) p) Format
  format-goes n v w p =
      by-step (both (at N n v w) p) Format (outcome (at N (closed_on N) (empty_disk N) w) done)
      (format-is N F.fewest F.most n v w) (format-due N F.fewest F.most p n v w) refl refl
      (closed N (λ name. none) 0 0 false (empty_disk N) w (ap (λ (x : Session). at N x (empty_disk N) w) (ses-none N Closed)) refl
      (settled record { clear = empty-clear N; whole = empty-whole N; means = record { good = F.empty; files = F.no-files } }))

  module _ (n : Session) (v : Disk) (w : Slice) (c : Files) where
    open-goes : (m : Files) (mode : Mode) (k d : ℕ) (o : Bool) (B : ℕ) → Rest F v c k o → Goes (both (at N n v w) (plain c m mode k d o B)) Open
    open-goes m mode k d false B (settled z) =
        by-step (both (at N n v w) (plain c m mode k d false B)) Open (outcome (at N (opened N Ready) v w) done) (opens-clear F n v w c z)
        (clear-due N F.fewest F.most n v w (settled-right F v c z) (plain c m mode k d false B) (settled-read F v c z) (settled-volume F v c z)) refl refl
        (ready [] c c k 0 v w (ap (λ (x : Session). at N x v w) (ses-none N Ready)) refl z (held_none N w.block) z.means)
    open-goes m mode k d true B (logged l q g) =
        let f = first_of F n v w c l g.taken.some in
        by-step (both (at N n v w) (plain c m mode k d true B)) Open (outcome (at N (opened N (Recovering 0)) v w) done) (opens-log F n v w c l g)
        (log-due N F.fewest F.most n v w (log-right F l v c g) (plain c m mode k d true B) f.0 f.1 (log-read F l v c g ∙ f.2))
        refl refl
        (recovering 0 c v w l (ap (λ (x : Session). at N x v w) (ses-none N (Recovering 0)))
        (ap (λ j. plain c c Mode.Recovering j 0 true N) q) (redo-first F l v c g))

  -- ---- the tests that come first

  module _ (B : ℕ) (f : Phase) (bs : List ℕ) (v : Disk) (w : Slice) (c m : Files) (mode : Mode) (k d : ℕ) (o : Bool) (same : is_ready_mode mode ≡ is_ready f) where
    abbrev here : Both
    here = both (at N (ses B f bs) v w) (plain c m mode k d o B)

    -- a call is turned down by them, or passes them all
    fronted : (x : Call) → Tested x → (Passed N here x → Goes here x) → Goes here x
    fronted x t g = go (front-due N here x t (sym (ses-blocks B f bs)) (same ∙ ap is_ready (sym (ses-phase B f bs))))
      where
        go : Front N here x → Goes here x
        go (refused r d e) = turned_down r d e
        go (passed p) = g p

    -- 12. "Session not ready (all calls but format, open and advance)."
    unready-goes : is_ready f ≡ false → Rest F v c k o → Goes here Advance → (x : Call) → Goes here x
    unready-goes h r a Format = format-goes (ses B f bs) v w here.plain
    unready-goes h r a Open = open-goes (ses B f bs) v w c m mode k d o B r
    unready-goes h r a Advance = a
    unready-goes h r a Commit = fronted Commit refl (λ p. absurd (false≢true (sym h ∙ ap is_ready (sym (ses-phase B f bs)) ∙ p.ready)))
    unready-goes h r a Abort = fronted Abort refl (λ p. absurd (false≢true (sym h ∙ ap is_ready (sym (ses-phase B f bs)) ∙ p.ready)))
    unready-goes h r a (Do x) = fronted (Do x) refl (λ p. absurd (false≢true (sym h ∙ ap is_ready (sym (ses-phase B f bs)) ∙ p.ready)))
    unready-goes h r a (Ask x) = fronted (Ask x) refl (λ p. absurd (false≢true (sym h ∙ ap is_ready (sym (ses-phase B f bs)) ∙ p.ready)))

  -- ---- advance

  -- "Each advance stores exactly one block": e, the entry of the sequence ws at the place reached; t tells whether it is the last
  store_goes : (b : Both) (ws : List BlockStore) (next last : Session) (e : BlockStore) (t : Bool)
      → step b.store Advance ≡ perform b.store ws b.plain.d next last → due N b.plain b.store Advance ≡ none
      → b.plain.d < length ws → get_or ws b.plain.d blank ≡ e → eqb (suc b.plain.d) (length ws) ≡ t
      → staged_in next ≡ staged_in b.store.session → staged_in last ≡ []
      → (Stores b ws (performed b.store ws b.plain.d next last e) → Accepted N b Advance (performed b.store ws b.plain.d next last e))
      → Inv F (record { session = cond t last next; device = record { size = b.store.device.size; block = upd e b.store.device.block }; work = b.store.work }) (after_advance b.plain b.plain.mode)
      → Goes b Advance
  store_goes b ws next last e t s u h g q n l a i =
      let x : get_elem? ws b.plain.d ≡ some e = element-at ws b.plain.d blank h ∙ ap some g in
      by-step b Advance (performed b.store ws b.plain.d next last e) (s ∙ perform-is b.store ws b.plain.d next last e x) u
      (a (performed-stores b ws next last e x n l)) refl
      (subst (λ (y : Bool). Inv F (record { session = cond y last next; device = record { size = b.store.device.size; block = upd e b.store.device.block }; work = b.store.work }) (after_advance b.plain b.plain.mode)) (sym q) i)

  -- ---- committing

  module _ (bs : List ℕ) (v : Disk) (w : Slice) (h : Held N bs w.block) (y : 0 < length bs) where
    abbrev list : List BlockStore
    list = list_of bs w.block

    abbrev redo : List BlockStore
    redo = redo_from 1 v (targets_of list)

    length-list : length list ≡ length bs
    length-list = list_length h

    length-again : length redo ≡ length bs
    length-again = length-redo 1 v (targets_of list) ∙ length-map list (λ e. e.block) ∙ length-list

    pub list-taken : Taken N list
    list-taken =
        record {
          ascending = list-ascending h;
          few = omega (arith, length-list, h.few);
          some = omega (arith, length-list);
          long = list-long h;
        }

    sequence : (n : ℕ) → commit_stores (at N (ses N (Committing n) bs) v w) ≡ commit_list list redo
    sequence n = commit-stores N n bs v w (are-targets N bs y (targets-listed N bs h.targets))

    length-sequence : (n : ℕ) → length (commit_stores (at N (ses N (Committing n) bs) v w)) ≡ 2 * length bs + 2
    length-sequence n = ap length (sequence n) ∙ commit-length list redo ∙ omega (arith, length-list, length-again)

    -- one store of a commit
    commit-step : (n : ℕ) (c m : Files) (o : Bool) (e : BlockStore) (t : Bool) → n < 2 * length bs + 2 → get_or (commit_list list redo) n blank ≡ e
        → eqb (suc n) (2 * length bs + 2) ≡ t
        → Inv F (at N (cond t (opened N Ready) (ses N (Committing (suc n)) bs)) (upd e v) w) (after_commit_store (plain c m Mode.Committing (length bs) n o N) (n + 1))
        → Goes (both (at N (ses N (Committing n) bs) v w) (plain c m Mode.Committing (length bs) n o N)) Advance
    commit-step n c m o e t k g q i =
        fronted N (Committing n) bs v w c m Mode.Committing (length bs) n o refl Advance refl
        (λ p. store_goes (both (at N (ses N (Committing n) bs) v w) (plain c m Mode.Committing (length bs) n o N)) (commit_stores (at N (ses N (Committing n) bs) v w))
        (ses N (Committing (suc n)) bs) (opened N Ready) e t (advance-commit N n bs v w p.lent) p.late (omega (arith, length-sequence n))
        (ap (λ (l : List BlockStore). get_or l n blank) (sequence n) ∙ g) (ap (eqb (suc n)) (length-sequence n) ∙ q)
        (ses-staged N (Committing (suc n)) bs ∙ sym (ses-staged N (Committing n) bs)) (staged-opened N Ready) (λ x. (x, length-sequence n)) i)

    -- "images in ascending order of target to 1, 2, and so on; block 0 with the list"
    image-goes : (n : ℕ) (c m : Files) → Settled F v c → Means F (applied list v) m → (n ≡ length bs) ⊎ (n < length bs) → Stored n list v
        → Goes (both (at N (ses N (Committing n) bs) v w) (plain c m Mode.Committing (length bs) n false N)) Advance
    image-goes n c m z u (inr k) g =
        commit-step n c m false e false (omega arith) (commit-image list redo n (omega (arith, length-list))) (ne_eqb (suc n) (2 * length bs + 2) (λ q. omega arith))
        (imaging (suc n) bs c m (upd e v) w refl (count-on c m (length bs) n N false (λ q. omega arith) (omega arith))
        (settled-log F (e ∷ []) v c (omega arith, omega (arith, h.few), tt) (long, tt) z) h y
        (local F (applied list v) (applied list (upd e v)) m (applied-whole list v (list-long h) z.whole) (applied-whole list (upd e v) (list-long h) (upd-whole e v long z.whole))
        (λ b x. applied-agree list (upd e v) v b (upd_other e v b (λ q. omega (arith, h.few)))) u)
        k (λ i x. now i (eq-or-lt_of_le (omega (arith, x)))))
      where
        e : BlockStore
        e = put (suc n) (get_or list n blank).content

        long : length (get_or list n blank).content ≡ block_size
        long = long-entry (get_or list n blank) list (entry_at list n (omega (arith, length-list))) (list-long h)

        now : (i : ℕ) → (i ≡ n) ⊎ (i < n) → upd e v (suc i) ≡ (get_or list i blank).content
        now i (inl q) = ap (λ j. upd e v (suc j)) q ∙ upd_same e v ∙ ap (λ j. (get_or list j blank).content) (sym q)
        now i (inr x) = upd_other e v (suc i) (λ q. omega (arith, q, x)) ∙ g i x
    image-goes n c m z u (inl k) g =
        commit-step n c m false (put header_block (header_of (targets_of list))) false (omega arith)
        (ap (λ i. get_or (commit_list list redo) i blank) (k ∙ sym length-list) ∙ commit-header list redo) (ne_eqb (suc n) (2 * length bs + 2) (λ q. omega arith))
        (targeting (suc n) 0 bs m (upd (put header_block (header_of (targets_of list))) v) w refl (count-header c m (length bs) n N false k) h
        (redo-first F list (upd (put header_block (header_of (targets_of list))) v) m
        (list-logged F list v m list-taken z.whole (subst (λ (i : ℕ). Stored i list v) (k ∙ sym length-list) g) u)) (omega arith))

    -- "each target; block 0 cleared"
    target-goes : (n j : ℕ) (c : Files) → Redoing F list j v c → (j ≡ length bs) ⊎ (j < length bs) → n ≡ length bs + suc j
        → Goes (both (at N (ses N (Committing n) bs) v w) (plain c c Mode.Committing (length bs) n true N)) Advance
    target-goes n j c r (inr k) q =
        commit-step n c c true (get_or list j blank) false (omega arith)
        (ap (λ i. get_or (commit_list list redo) i blank) (q ∙ ap (λ i. i + suc j) (sym length-list))
        ∙ commit-target list redo j (omega (arith, length-again)) ∙ ap (λ (l : List BlockStore). get_or l j blank) (log-redo F list v c r.logged))
        (ne_eqb (suc n) (2 * length bs + 2) (λ x. omega arith))
        (targeting (suc n) (suc j) bs c (upd (get_or list j blank) v) w refl (count-on c c (length bs) n N true (λ x. omega arith) (omega arith)) h
        (redo-next F list j v c (omega (arith, length-list)) r) (omega arith))
    target-goes n j c r (inl k) q =
        commit-step n c c true (put header_block (zeros block_size)) true (omega arith)
        (ap (λ i. get_or (commit_list list redo) i blank) place ∙ commit-clear list redo)
        (eq-eqb (suc n) (2 * length bs + 2) (omega arith))
        (ready [] c c (length bs) (suc n) (upd (put header_block (zeros block_size)) v) w (ap (λ (x : Session). at N x (upd (put header_block (zeros block_size)) v) w) (ses-none N Ready))
        (count-last c c (length bs) n N true (λ x. omega arith) (omega arith)) now (held_none N w.block) now.means)
      where
        place : n ≡ length list + suc (length redo)
        place = omega (arith, length-list, length-again)

        now : Settled F (upd (put header_block (zeros block_size)) v) c
        now = redo-clear F list v c (subst (λ (i : ℕ). Redoing F list i v c) (k ∙ sym length-list) r)

  -- ---- recovering: "k targets in record order and the clearing"

  module _ (l : List BlockStore) (v : Disk) (w : Slice) (c : Files) (g : Logged F l v c) where
    recover-step : (n : ℕ) (e : BlockStore) (t : Bool) → n < length l + 1 → get_or (l ++ clearing) n blank ≡ e → eqb (suc n) (length l + 1) ≡ t
        → Inv F (at N (cond t (closed_on N) (ses N (Recovering (suc n)) [])) (upd e v) w) (after_recovery_store (plain c c Mode.Recovering (length l) n true N) (n + 1))
        → Goes (both (at N (ses N (Recovering n) []) v w) (plain c c Mode.Recovering (length l) n true N)) Advance
    recover-step n e t k q u i =
        fronted N (Recovering n) [] v w c c Mode.Recovering (length l) n true refl Advance refl
        (λ p. store_goes (both (at N (ses N (Recovering n) []) v w) (plain c c Mode.Recovering (length l) n true N)) (recovery_stores N v)
        (ses N (Recovering (suc n)) []) (closed_on N) e t (advance-recover N n [] v w p.lent) p.late (omega (arith, length-recovery F l v w c g))
        (ap (λ (x : List BlockStore). get_or x n blank) (recovery F l v w c g) ∙ q) (ap (eqb (suc n)) (length-recovery F l v w c g) ∙ u)
        (ses-staged N (Recovering (suc n)) [] ∙ sym (ses-staged N (Recovering n) [])) (staged-opened N Closed) (λ x. (x, length-recovery F l v w c g)) i)

  recover-goes : (n : ℕ) (l : List BlockStore) (v : Disk) (w : Slice) (c : Files) → Redoing F l n v c → (n ≡ length l) ⊎ (n < length l)
      → Goes (both (at N (ses N (Recovering n) []) v w) (plain c c Mode.Recovering (length l) n true N)) Advance
  recover-goes n l v w c r (inr h) =
      recover-step l v w c r.logged n (get_or l n blank) false (omega arith) (get_or-append l clearing blank n h) (ne_eqb (suc n) (length l + 1) (λ q. omega arith))
      (recovering (suc n) c (upd (get_or l n blank) v) w l refl (recount-on c c (length l) n N true (λ q. omega arith)) (redo-next F l n v c h r))
  recover-goes n l v w c r (inl h) =
      recover-step l v w c r.logged n (put header_block (zeros block_size)) true (omega arith)
      (ap (λ i. get_or (l ++ clearing) i blank) h ∙ get_or-append_seam l (put header_block (zeros block_size)) [] blank) (eq-eqb (suc n) (length l + 1) (omega arith))
      (closed N c (length l) (suc n) false (upd (put header_block (zeros block_size)) v) w (ap (λ (x : Session). at N x (upd (put header_block (zeros block_size)) v) w) (ses-none N Closed))
      (recount-last c c (length l) n N true h) (settled (redo-clear F l v c (subst (λ (i : ℕ). Redoing F l i v c) h r))))

  -- ---- ready

  module _ (bs : List ℕ) (c m : Files) (k d : ℕ) (v : Disk) (w : Slice) (z : Settled F v c) (h : Held N bs w.block) (u : Means F (shown v (numbered bs w.block)) m) where
    abbrev s : State
    s = at N (ses N Ready bs) v w

    abbrev p : Plain
    p = plain c m Mode.Ready k d false N

    i : Inv F s p
    i = ready bs c m k d v w refl refl z h u

    seen : view s ≡ shown v (numbered bs w.block)
    seen = view-is s bs (ses-staged N Ready bs)

    abort-goes : Goes (both s p) Abort
    abort-goes =
        fronted N Ready bs v w c m Mode.Ready k d false refl Abort refl
        (λ q. by-step (both s p) Abort (outcome (at N (opened N Ready) v w) done)
        (abort-is s q.lent (ses-phase N Ready bs) ∙ ap (λ B. outcome (at N (opened B Ready) v w) done) (ses-blocks N Ready bs)) q.late refl refl
        (ready [] c c k d v w (ap (λ (x : Session). at N x v w) (ses-none N Ready)) refl z (held_none N w.block) z.means))

    -- "Commit answering 2k+2: committing, d = 0"
    begun : (j : ℕ) → length bs ≡ suc j → after_commit p (2 * suc j + 2) ≡ plain c m Mode.Committing (length bs) 0 false N
    begun j q =
        let e : 2 * suc j + 2 ≡ suc (2 * suc j + 1) = omega arith in
        let f : (suc (2 * suc j + 1) - 2) / 2 ≡ length bs = omega arith in
        ap (after_commit p) e ∙ ap (λ n. plain c m Mode.Committing n 0 false N) f

    staged-are : length (staged_in s.session) ≡ length bs
    staged-are = ap length (ses-staged N Ready bs)

    commit-by : (j : ℕ) → length bs ≡ j → due N p s Commit ≡ none → step s Commit ≡ start_commit s j → Goes (both s p) Commit
    commit-by zero q e x =
        by-step (both s p) Commit (outcome s (started 0)) x e (inl (refl, staged-are ∙ q, same)) refl i
      where
        none-staged : (l : List ℕ) → length l ≡ 0 → shown v (numbered l w.block) ≡ v
        none-staged [] y = refl
        none-staged (b ∷ l) y = absurd (omega (arith, y))

        same : (name : List ℕ) → m name ≡ c name
        same name = sym (u.files name) ∙ ap (λ (a : Disk). files_of a name) (none-staged bs q) ∙ z.means.files name
    commit-by (suc j) q e x =
        by-step (both s p) Commit (outcome (with_session s (in_phase s.session (Committing 0))) (started (2 * suc j + 2))) x e
        (inr (ap (λ n. outcome (with_session s (in_phase s.session (Committing 0))) (started (2 * n + 2))) (sym (staged-are ∙ q)), omega (arith, staged-are ∙ q))) refl
        (imaging 0 bs c m v w (ap (λ (y : Session). at N y v w) (ses-in N Ready (Committing 0) bs)) (begun j q) z h (omega arith)
        (subst (λ (a : Disk). Means F a m) (sym (list-view h v)) u) (omega arith) (λ n y. absurd (omega (arith, y))))

    commit-goes : Goes (both s p) Commit
    commit-goes =
        fronted N Ready bs v w c m Mode.Ready k d false refl Commit refl
        (λ q. commit-by (length bs) refl q.late (commit-is s q.lent (ses-phase N Ready bs) ∙ ap (start_commit s) staged-are))

    -- ---- changes and queries

    whole : Whole (view s)
    whole = subst Whole (list-view h v ∙ sym seen) (applied-whole (list_of bs w.block) v (list-long h) z.whole)

    good : F.Good (view s)
    good = subst F.Good (sym seen) u.good

    working : (name : List ℕ) → files_of (view s) name ≡ m name
    working name = ap (λ (a : Disk). files_of a name) seen ∙ u.files name

    query-goes : (q : Query) → Answered N (both s p) (Ask q) (Says N (both s p) q (query_step s q)) → Goes (both s p) (Ask q)
    query-goes q (turned_down r e x) = turned_down r e x
    query-goes q (taken e x) =
        let y = says-still N (both s p) q (query_step s q) x in
        taken e record { accepts = x; answer = y.answer; inv = subst (λ (a : State). Inv F a p) (sym y.after) i }

    valid : Valid N s.session
    valid = ses-valid N Ready bs w.block h

    images : Imaged (staged_of s)
    images j x = h.images j (omega (arith, x, staged-are))

    module _ (x : Change) (y : Changed F (both s p) x) where
      abbrev t : Staged
      t = stage_all s y.stores

      valid-now : Valid N (with_staging s t).session
      valid-now = staging-valid N s valid images y.stores y.targets y.long y.few

      staged-now : staged_in (with_staging s t).session ≡ t.blocks
      staged-now = staged-with s.session t.blocks

      session-now : with_staged s.session t.blocks ≡ ses N Ready t.blocks
      session-now =
          valid-now.whole
          ∙ ap₂ (λ (f : Phase) (l : List ℕ). ses N f l) (phase-with s.session t.blocks ∙ ses-phase N Ready bs) staged-now

      held-now : Held N t.blocks t.image
      held-now =
          record {
            targets = subst (Targets N) staged-now (targets_of_lem N (staged_in (with_staging s t).session) valid-now.listed.targets valid-now.listed.differ);
            few = y.few;
            images = staging-images N s valid images y.stores y.targets y.long y.few;
          }

      means-now : Means F (shown v t) (changed_files m x)
      means-now =
          record {
            good = subst F.Good (view-shown s t) y.good;
            files = λ name. ap (λ (a : Disk). files_of a name) (sym (view-shown s t)) ∙ y.files name ∙ ap (λ (a : Files). changed_files a x name) (fun_ext working);
          }

      inv-now : Inv F (with_staging s t) (plain c (changed_files m x) Mode.Ready k d false N)
      inv-now =
          ready t.blocks c (changed_files m x) k d v (record { size = w.size; block = t.image })
          (ap (λ (a : Session). at N a v (record { size = w.size; block = t.image })) session-now) refl z held-now means-now

      changed-keeps : Keeps (both s p) (Do x)
      changed-keeps =
          record {
            accepts = y.changes;
            answer = ap (λ (o : Outcome). is_refused o.answer) y.leaves;
            inv = subst (λ (o : Outcome). Inv F o.after (plain c (changed_files m x) Mode.Ready k d false N)) (sym y.leaves) inv-now;
          }

    change-goes : (x : Change) → Answered N (both s p) (Do x) (Changed F (both s p) x) → Goes (both s p) (Do x)
    change-goes x (turned_down r e y) = turned_down r e y
    change-goes x (taken e y) = taken e (changed-keeps x y)

    ready-goes : (x : Call) → Goes (both s p) x
    ready-goes Format = format-goes (ses N Ready bs) v w p
    ready-goes Open = open-goes (ses N Ready bs) v w c m Mode.Ready k d false N (settled z)
    ready-goes Advance =
        fronted N Ready bs v w c m Mode.Ready k d false refl Advance refl
        (λ q. by-step (both s p) Advance (outcome s idle) (advance-is s Ready q.lent (ses-phase N Ready bs) ∙ idle-ready s) q.late refl refl i)
    ready-goes Commit = commit-goes
    ready-goes Abort = abort-goes
    ready-goes (Do x) =
        fronted N Ready bs v w c m Mode.Ready k d false refl (Do x) refl
        (λ q. change-goes x (change-answered F (both s p) x q valid.listed (F.plans p s whole good working x q.names q.sizes)))
    ready-goes (Ask x) =
        fronted N Ready bs v w c m Mode.Ready k d false refl (Ask x) refl (λ q. query-goes x (query-answered F (both s p) whole good working x q))

  closed-goes : (B : ℕ) (c : Files) (k d : ℕ) (o : Bool) (v : Disk) (w : Slice) → Rest F v c k o → (x : Call) → Goes (both (at N (ses B Closed []) v w) (plain c c Mode.Closed k d o B)) x
  closed-goes B c k d o v w r =
      unready-goes B Closed [] v w c c Mode.Closed k d o refl refl r
      (fronted B Closed [] v w c c Mode.Closed k d o refl Advance refl
      (λ q. by-step (both (at N (ses B Closed []) v w) (plain c c Mode.Closed k d o B)) Advance (outcome (at N (ses B Closed []) v w) idle)
      (advance-is (at N (ses B Closed []) v w) Closed q.lent (ses-phase B Closed []) ∙ idle-closed (at N (ses B Closed []) v w)) q.late refl refl
      (closed B c k d o v w refl refl r)))

  -- ---- all

  pub goes : (x : Call) (s : State) (p : Plain) → Inv F s p → Goes (both s p) x
  goes x s p (closed B c k d o v w q m r) =
      subst (λ (b : Both). Goes b x) (sym (ap₂ both q m)) (closed-goes B c k d o v w r x)
  goes x s p (ready bs c m k d v w q e z h u) =
      subst (λ (b : Both). Goes b x) (sym (ap₂ both q e)) (ready-goes bs c m k d v w z h u x)
  goes x s p (imaging n bs c m v w q e z h y u k g) =
      subst (λ (b : Both). Goes b x) (sym (ap₂ both q e))
      (unready-goes N (Committing n) bs v w c m Mode.Committing (length bs) n false refl refl (settled z) (image-goes bs v w h y n c m z u (eq-or-lt_of_le k) g) x)
  goes x s p (targeting n j bs c v w q e h r k) =
      subst (λ (b : Both). Goes b x) (sym (ap₂ both q e))
      (unready-goes N (Committing n) bs v w c c Mode.Committing (length bs) n true refl refl (logged (list_of bs w.block) (sym (list_length h)) r.logged)
      (target-goes bs v w h (omega (arith, r.logged.taken.some, list_length h)) n j c r (eq-or-lt_of_le (omega (arith, r.place, list_length h))) k) x)
  goes x s p (recovering n c v w l q e r) =
      subst (λ (b : Both). Goes b x) (sym (ap₂ both q e))
      (unready-goes N (Recovering n) [] v w c c Mode.Recovering (length l) n true refl refl (logged l refl r.logged) (recover-goes n l v w c r (eq-or-lt_of_le r.place)) x)
