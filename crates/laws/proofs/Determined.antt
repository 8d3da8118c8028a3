-- The cut rule determines the store: any store that has it, over bytes, leaves after every call of every list what `step` leaves. Assumes nothing.
use Rattle.std.specs.Prelude.{ℕ, ◌+◌, ◌≤◌, ◌<◌, ◌≡◌, refl, Bool, true, false, not, ◌&&◌, ◌||◌, List, [], ◌∷◌, T, eqb, leb, length, take, drop, get_or}
use Rattle.std.proofs.Common.{sym, ap, ap₂, ◌∙◌, subst, true≢false, inl, inr, arith}
use Rattle.std.proofs.Math.Option.{Option, none, some, map, some-ne-none, some-injective}
use Rattle.std.proofs.Math.ListN.{get_elem?}
use Rattle.std.proofs.lemmas.Bool.{lt-leb}
use Rattle.spec.specs.Layout.{block_size, inode_count, most_blocks}
use Rattle.spec.specs.Bytes.{found, all, distinct, place}
use Rattle.spec.specs.Disk.{with_block, is_allowed, is_target}
use Rattle.spec.specs.Inode.{is_name, is_empty, name_at, find, runs}
use Rattle.spec.specs.Map.{files_of}
use Rattle.spec.specs.declared.Refusal.{Refusal}
use Rattle.spec.specs.Session.{opened, staged_in, with_staged}
use Rattle.spec.specs.Answers.{Answer, stored, counted, file, no_run, run, refusal_of, is_refused}
use Rattle.spec.specs.Transaction.{State, view, BlockStore}
use Rattle.spec.specs.Calls.{Outcome, outcome, read_into, list_into, Change, Query, Read, Size, Free, Record, RunList, NthExtent, Call, Format, Open, Advance, Commit, Abort, Do, Ask, step}
use Rattle.spec.specs.Plain.{Plain, Mode, Closed, Ready, Committing, Recovering, phase_of, follow}
use Rattle.spec.specs.Sentences.{file_at}
use Rattle.spec.specs.Refusals.{is_ready_mode, Test, first_failed, tests, due}
use Rattle.spec.specs.CutRule.{Event, call, cut, Both, buffer_of, list_of, refusal_in, Moment, Stores, Advances, Commits, Changes, Says, Accepted, next, after, Always, Each, Rightly, Starts, start_of, CutRule}
use Rattle.lists.specs.Tests.{both_true, not-both}
use Rattle.logs.specs.Targets.{holds}
use Rattle.crash.specs.Moments.{accepted-is}
use Rattle.crash.specs.Theorem.{bounds}
use Rattle.laws.specs.Volume.{find-some}
use Rattle.laws.specs.Reached.{name-used, files-unnamed}
use Rattle.laws.specs.OneReply.{refusal_is}
use Rattle.laws.specs.SameVolume.{good_of}
use Rattle.laws.specs.SameChange.{staged-same, work-same}
use Rattle.laws.specs.StepBytes.{ViewInBytes, step-bytes}
use Rattle.laws.specs.Files.{crash-safe}
use Rattle.laws.specs.Determined.{leaves, left_along, Same, OverBytes}

-- ---- what a call leaves

leaves_after : (c : Call) (o : Outcome) → (leaves c o).after ≡ o.after
leaves_after Format o = refl
leaves_after Open o = refl
leaves_after Advance o = refl
leaves_after Commit o = refl
leaves_after Abort o = refl
leaves_after (Do c) o = refl
leaves_after (Ask q) o = refl

leaves-answer : (c : Call) (o : Outcome) → (leaves c o).answer ≡ o.answer
leaves-answer Format o = refl
leaves-answer Open o = refl
leaves-answer Advance o = refl
leaves-answer Commit o = refl
leaves-answer Abort o = refl
leaves-answer (Do c) o = refl
leaves-answer (Ask q) o = refl

-- ---- no refusal is due of a change or query: the plain store is ready

abbrev NoneFails : List Test → Type 0
NoneFails [] = Unit {0}
NoneFails (t ∷ ts) = (t.fails ≡ false) × NoneFails ts

none-fails : (ts : List Test) → first_failed ts ≡ none → NoneFails ts
none-fails [] h = tt
none-fails (t ∷ ts) h = go t.fails refl (none-fails ts)
  where
    go : (b : Bool) → t.fails ≡ b → (first_failed ts ≡ none → NoneFails ts) → (t.fails ≡ false) × NoneFails ts
    go true e ih = absurd (some-ne-none t.refusal (rw e at h))
    go false e ih = (e, ih (rw e at h))

is-ready : (m : Mode) → not (is_ready_mode m) ≡ false → m ≡ Ready
is-ready Closed h = absurd (true≢false h)
is-ready Ready h = refl
is-ready Committing h = absurd (true≢false h)
is-ready Recovering h = absurd (true≢false h)

module _ (N : ℕ) (p : Plain) (s : State) where
  change-ready : (c : Change) → due N p s (Do c) ≡ none → p.mode ≡ Ready
  unfolding due
  change-ready c h = is-ready p.mode (none-fails (tests N p s (Do c)) h).1.1.1.1.1.1.1.0

  query-ready : (q : Query) → due N p s (Ask q) ≡ none → p.mode ≡ Ready
  unfolding due
  query-ready q h = is-ready p.mode (none-fails (tests N p s (Ask q)) h).1.1.1.1.1.1.1.0

-- ---- accepted calls at one moment

module _ (N : ℕ) (b : Both) where
  stores-alike : (ws : List BlockStore) (o p : Outcome) → Stores b ws o → Stores b ws p
      → (o.answer ≡ p.answer) × (o.after.device ≡ p.after.device) × (o.after.work ≡ p.after.work) × (staged_in o.after.session ≡ staged_in p.after.session)
  stores-alike ws o p x y =
      let e : x.entry ≡ y.entry = some-injective x.entry y.entry (sym x.is-entry ∙ y.is-entry) in (
        x.answer ∙ ap (λ (w : BlockStore). stored w.block (eqb (b.plain.d + 1) (length ws)) (b.plain.d + 1)) e ∙ sym y.answer,
        x.device ∙ ap (λ (w : BlockStore). record { size = b.store.device.size; block = with_block w.block w.content b.store.device.block }) e ∙ sym y.device,
        x.work ∙ sym y.work,
        x.staged ∙ sym y.staged,
      )

  commits-alike : (o p : Outcome) → Commits b o → Commits b p → o ≡ p
  commits-alike o p (inl x) (inl y) = x.0 ∙ sym y.0
  commits-alike o p (inl x) (inr y) = absurd (omega (arith, x.1, y.1))
  commits-alike o p (inr x) (inl y) = absurd (omega (arith, x.1, y.1))
  commits-alike o p (inr x) (inr y) = x.0 ∙ sym y.0

  -- a record is empty or told with its file, not both
  empty-or-told : b.plain.mode ≡ Ready → Moment N b → (r : ℕ) → T (leb inode_count r || is_empty (view b.store) r) → (c : List ℕ)
      → b.plain.working (name_at (view b.store) r) ≡ some c → find (view b.store) (name_at (view b.store) r) ≡ some r → ⊥
  empty-or-told ready m r t c w f = go (is_name (name_at (view b.store) r)) refl
    where
      is-empty : (leb inode_count r || is_empty (view b.store) r) ≡ true → is_empty (view b.store) r ≡ true
      is-empty h = rw (lt-leb inode_count r (find-some (view b.store) (name_at (view b.store) r) r f).0) at h

      go : (t : Bool) → is_name (name_at (view b.store) r) ≡ t → ⊥
      go true e = not-both (is-empty (holds (leb inode_count r || is_empty (view b.store) r) t)) (name-used (view b.store) r (name_at (view b.store) r) e refl)
      go false e = some-ne-none c (sym w ∙ sym (m.view-files ready (name_at (view b.store) r)) ∙ files-unnamed (view b.store) (name_at (view b.store) r) e)

  content-one : (name c d : List ℕ) → b.plain.working name ≡ some c → b.plain.working name ≡ some d → c ≡ d
  content-one name c d h k = some-injective c d (sym h ∙ k)

  place-one : (name : List ℕ) (i j : ℕ) → find (view b.store) name ≡ some i → find (view b.store) name ≡ some j → i ≡ j
  place-one name i j h k = some-injective i j (sym h ∙ k)

  says-alike : b.plain.mode ≡ Ready → Moment N b → (q : Query) (o p : Outcome) → Says N b q o → Says N b q p → o ≡ p
  says-alike ready m (Read name x buffer) o p s t =
      s.2 ∙ ap (λ (c : List ℕ). read_into b.store buffer (take (length buffer) (drop x c))) (content-one name s.0 t.0 s.1 t.1) ∙ sym t.2
  says-alike ready m (Size name) o p s t =
      s.2 ∙ ap (λ (c : List ℕ). outcome b.store (counted (length c))) (content-one name s.0 t.0 s.1 t.1) ∙ sym t.2
  says-alike ready m Free o p s t = s ∙ sym t
  says-alike ready m (Record r) o p (inl s) (inl t) = s.1 ∙ sym t.1
  says-alike ready m (Record r) o p (inl s) (inr t) = absurd (empty-or-told ready m r s.0 t.0 t.1 t.2)
  says-alike ready m (Record r) o p (inr s) (inl t) = absurd (empty-or-told ready m r t.0 s.0 s.1 s.2)
  says-alike ready m (Record r) o p (inr s) (inr t) =
      s.3 ∙ ap (λ (c : List ℕ). outcome b.store (file (name_at (view b.store) r) (length c))) (content-one (name_at (view b.store) r) s.0 t.0 s.1 t.1) ∙ sym t.3
  says-alike ready m (RunList name from n list) o p s t =
      s.2 ∙ ap (λ (i : ℕ). list_into b.store list (runs (take n (drop from (file_at (view b.store) i).blocks)))) (place-one name s.0 t.0 s.1 t.1) ∙ sym t.2
  says-alike ready m (NthExtent name from n k) o p s t =
      s.2 ∙ ap (λ (i : ℕ). outcome b.store (found (get_elem? (runs (take n (drop from (file_at (view b.store) i).blocks))) k) no_run run)) (place-one name s.0 t.0 s.1 t.1) ∙ sym t.2

-- ---- one call

state-is : (s t : State) → s.session ≡ t.session → s.device ≡ t.device → s.work ≡ t.work → s ≡ t
state-is s t p q r = λ j. record { session = p j; device = q j; work = r j }

no_due : (o : Option Refusal) → map refusal_of o ≡ none → o ≡ none
no_due none h = refl
no_due (some r) h = absurd (some-ne-none (refusal_of r) h)

-- the session that a moment tells of
session-alike : (N : ℕ) (p : Plain) (s t : State) → Moment N (record { store = s; plain = p }) → Moment N (record { store = t; plain = p }) → staged_in s.session ≡ staged_in t.session → s.session ≡ t.session
session-alike N p s t m n e = m.session ∙ ap (with_staged (opened p.blocks (phase_of p))) e ∙ sym n.session

module _ (S R : State → Call → Outcome) (N : ℕ) (most : N ≤ most_blocks) (b : Both) (m : Moment N b) (z : ViewInBytes N b) (c : Call)
    (m_s : Moment N (next S N b (call c))) (m_r : Moment N (next R N b (call c))) (z_s : ViewInBytes N (next S N b (call c))) (z_r : ViewInBytes N (next R N b (call c)))
  where
    abbrev o : Outcome
    o = S b.store c

    abbrev p : Outcome
    p = R b.store c

    module _ (answers : o.answer ≡ p.answer) where
      -- the same plain store stands beside both
      m_r' : Moment N (record { store = p.after; plain = follow N b.plain c o.answer })
      m_r' = subst (λ (a : Answer). Moment N (record { store = p.after; plain = follow N b.plain c a })) (sym answers) m_r

      z_r' : ViewInBytes N (record { store = p.after; plain = follow N b.plain c o.answer })
      z_r' = subst (λ (a : Answer). ViewInBytes N (record { store = p.after; plain = follow N b.plain c a })) (sym answers) z_r

      left-alike : staged_in o.after.session ≡ staged_in p.after.session → o.after.device ≡ p.after.device → o.after.work ≡ p.after.work
          → outcome o.after o.answer ≡ outcome p.after p.answer
      left-alike s d w =
          ap₂ outcome (state-is o.after p.after (session-alike N (follow N b.plain c o.answer) o.after p.after m_s m_r' s) d w) answers

    advances-alike : (k : Mode) → Advances N k b o → Advances N k b p → outcome o.after o.answer ≡ outcome p.after p.answer
    advances-alike Closed x y = ap (λ (q : Outcome). outcome q.after q.answer) (x ∙ sym y)
    advances-alike Ready x y = ap (λ (q : Outcome). outcome q.after q.answer) (x ∙ sym y)
    advances-alike Committing x y = let r = stores-alike N b _ o p x.0 y.0 in left-alike r.0 r.3 r.1 r.2
    advances-alike Recovering x y = let r = stores-alike N b _ o p x.0 y.0 in left-alike r.0 r.3 r.1 r.2

    -- a change goes on with a ready session
    changes-alike : (d : Change) → b.plain.mode ≡ Ready → (follow N b.plain c o.answer).mode ≡ Ready → Changes N b d o → Changes N b d p
        → outcome o.after o.answer ≡ outcome p.after p.answer
    changes-alike d ready then x y =
        let a = x.answer ∙ sym y.answer in
        let v = z ready in
        let u = z_s then in
        let w = z_r' a then in
        let maps : (name : List ℕ) → files_of (view o.after) name ≡ files_of (view p.after) name = λ name. m_s.view-files then name ∙ sym ((m_r' a).view-files then name) in
        let l = staged_in o.after.session in
        let e = (both_true (all (is_target N) l) (distinct l) (holds (all (is_target N) l && distinct l) m_s.targets)).1 in
        left-alike a
        (staged-same N most b d v.0 v.1.sound o p x y u.0 w.0 u.1 w.1 maps)
        (x.device ∙ sym y.device)
        (work-same N most b d v.0 v.1.sound o p x y u.0 w.0 u.1 w.1 maps e)

module _ (S R : State → Call → Outcome) (N : ℕ) (most : N ≤ most_blocks) (b : Both) (m : Moment N b) (z : ViewInBytes N b) where
  accepted-alike : (c : Call) → Moment N (next S N b (call c)) → Moment N (next R N b (call c)) → ViewInBytes N (next S N b (call c)) → ViewInBytes N (next R N b (call c))
      → due N b.plain b.store c ≡ none → Accepted N b c (S b.store c) → Accepted N b c (R b.store c) → leaves c (S b.store c) ≡ leaves c (R b.store c)
  accepted-alike Format m_s m_r z_s z_r d x y = x ∙ sym y
  accepted-alike Open m_s m_r z_s z_r d x y = x ∙ sym y
  accepted-alike Advance m_s m_r z_s z_r d x y = advances-alike S R N most b m z Advance m_s m_r z_s z_r b.plain.mode x y
  accepted-alike Commit m_s m_r z_s z_r d x y = commits-alike N b (S b.store Commit) (R b.store Commit) x y
  accepted-alike Abort m_s m_r z_s z_r d x y = x ∙ sym y
  accepted-alike (Do c) m_s m_r z_s z_r d x y =
      let ready = change-ready N b.plain b.store c d in
      changes-alike S R N most b m z (Do c) m_s m_r z_s z_r c ready (ap (λ (a : Answer). (follow N b.plain (Do c) a).mode) x.answer ∙ ready) x y
  accepted-alike (Ask q) m_s m_r z_s z_r d x y = says-alike N b (query-ready N b.plain b.store q d) m q (S b.store (Ask q)) (R b.store (Ask q)) x y

  -- at one moment, two stores of which the claim holds there leave the same
  one-call : (c : Call) → Moment N (next S N b (call c)) → Moment N (next R N b (call c)) → ViewInBytes N (next S N b (call c)) → ViewInBytes N (next R N b (call c))
      → Rightly S N b c → Rightly R N b c → leaves c (S b.store c) ≡ leaves c (R b.store c)
  one-call c m_s m_r z_s z_r x y = go (is_refused (S b.store c).answer) refl (is_refused (R b.store c).answer) refl
    where
      says : refusal_in (S b.store c).answer ≡ refusal_in (R b.store c).answer
      says = x.refused ∙ sym y.refused

      go : (t : Bool) → is_refused (S b.store c).answer ≡ t → (u : Bool) → is_refused (R b.store c).answer ≡ u → leaves c (S b.store c) ≡ leaves c (R b.store c)
      go true h true k =
          let a = some-injective (S b.store c).answer (R b.store c).answer (sym (refusal_is (S b.store c).answer h) ∙ says ∙ refusal_is (R b.store c).answer k) in
          ap (leaves c) (x.kept h ∙ ap (λ (a : Answer). record { answer = a; after = b.store; buffer = buffer_of c; list = list_of c }) a ∙ sym (y.kept k))
      go true h false k = absurd (some-ne-none (S b.store c).answer (sym (refusal_is (S b.store c).answer h) ∙ says ∙ accepted-is (R b.store c).answer k))
      go false h true k = absurd (some-ne-none (R b.store c).answer (sym (refusal_is (R b.store c).answer k) ∙ sym says ∙ accepted-is (S b.store c).answer h))
      go false h false k =
          accepted-alike c m_s m_r z_s z_r (no_due (due N b.plain b.store c) (sym x.refused ∙ accepted-is (S b.store c).answer h)) (x.accepted h) (y.accepted k)

-- ---- a list

always-now : (S : State → Call → Outcome) (N : ℕ) (P : Both → Type 0) (b : Both) (es : List Event) → Always S N P b es → P b
always-now S N P b [] h = h
always-now S N P b (e ∷ es) h = h.0

module _ (S R : State → Call → Outcome) (N : ℕ) (most : N ≤ most_blocks) where
  alike : (es : List Event) (b : Both) → Always S N (Moment N) b es → Always R N (Moment N) b es → Each S N (Rightly S N) b es → Each R N (Rightly R N) b es
      → Always S N (ViewInBytes N) b es → Always R N (ViewInBytes N) b es → Same S R N b es
  alike [] b m_s m_r r_s r_r z_s z_r = record { calls = refl; ends = refl }
  alike (cut w ∷ es) b m_s m_r r_s r_r z_s z_r =
      let ih = alike es (next S N b (cut w)) m_s.1 m_r.1 r_s r_r z_s.1 z_r.1 in
      record { calls = ih.calls; ends = ih.ends }
  alike (call c ∷ es) b m_s m_r r_s r_r z_s z_r =
      let n_s = next S N b (call c) in
      let n_r = next R N b (call c) in
      let one = one-call S R N most b m_s.0 z_s.0 c
      (always-now S N (Moment N) n_s es m_s.1) (always-now R N (Moment N) n_r es m_r.1)
      (always-now S N (ViewInBytes N) n_s es z_s.1) (always-now R N (ViewInBytes N) n_r es z_r.1) r_s.0 r_r.0
      in
      let s : (S b.store c).after ≡ (R b.store c).after =
      sym (leaves_after c (S b.store c)) ∙ ap (λ (o : Outcome). o.after) one ∙ leaves_after c (R b.store c)
      in
      let a : (S b.store c).answer ≡ (R b.store c).answer =
      sym (leaves-answer c (S b.store c)) ∙ ap (λ (o : Outcome). o.answer) one ∙ leaves-answer c (R b.store c)
      in
      let n : n_s ≡ n_r = ap₂ (λ (s : State) (a : Answer). record { store = s; plain = follow N b.plain c a }) s a in
      let ih = alike es n_s m_s.1 (subst (λ (x : Both). Always R N (Moment N) x es) (sym n) m_r.1) r_s.1 (subst (λ (x : Both). Each R N (Rightly R N) x es) (sym n) r_r.1)
      z_s.1 (subst (λ (x : Both). Always R N (ViewInBytes N) x es) (sym n) z_r.1)
      in
      record {
        calls = ap₂ (λ (o : Outcome) (os : List Outcome). o ∷ os) one (ih.calls ∙ ap (λ (x : Both). left_along R N x es) n);
        ends = ih.ends ∙ ap (λ (x : Both). after R N x es) n;
      }

-- ---- the claim determines the store

view-by : (P : List ℕ → Type 0) (s : State) → ((n : ℕ) → P (s.device.block n)) → ((n : ℕ) → P (s.work.block n)) → (n : ℕ) → P (view s n)
unfolding view
view-by P s d w n = go (place n (staged_in s.session))
  where
    go : (o : Option ℕ) → P (found o (s.device.block n) s.work.block)
    go none = d n
    go (some k) = w k

over-bytes : (N : ℕ) (b : Both) → Moment N b → OverBytes b → ViewInBytes N b
over-bytes N b m z ready = (
  view-by (λ (xs : List ℕ). length xs ≡ block_size) b.store z.device.whole z.work.whole,
  good_of N (view b.store) (view-by (λ (xs : List ℕ). (i : ℕ) → get_or xs i 0 < 256) b.store z.device.bytes z.work.bytes) (m.view-sound ready),
)

always-both : (S : State → Call → Outcome) (N : ℕ) (P Q W : Both → Type 0) → ((b : Both) → P b → Q b → W b) → (es : List Event) (b : Both) → Always S N P b es → Always S N Q b es → Always S N W b es
always-both S N P Q W f [] b p q = f b p q
always-both S N P Q W f (e ∷ es) b p q = (f b p.0 q.0, always-both S N P Q W f es (next S N b e) p.1 q.1)

-- a store that has the cut rule, over bytes, is `step`: along every list each call leaves what `step` leaves, and store and plain store are those of `step`
pub determined : (S : State → Call → Outcome) → CutRule S → (N : ℕ) (s : State) → Starts N s → (es : List Event) → Always S N OverBytes (start_of s) es → Same S step N (start_of s) es
determined S rule N s start es bytes =
    let x = rule.survives N s start es in
    let y = crash-safe.survives N s start es in
    let most = (bounds N s.device.size (holds (is_allowed s.device.size) start.fits) start.blocks).1 in
    alike S step N most es (start_of s) x.moments y.moments x.calls y.calls
    (always-both S N (Moment N) OverBytes (ViewInBytes N) (over-bytes N) es (start_of s) x.moments bytes) (step-bytes N s start es)

-- so any two such stores are the same
pub same-stores : (S R : State → Call → Outcome) → CutRule S → CutRule R → (N : ℕ) (s : State) → Starts N s → (es : List Event)
    → Always S N OverBytes (start_of s) es → Always R N OverBytes (start_of s) es → Same S R N (start_of s) es
same-stores S R x y N s h es p q =
    let a = determined S x N s h es p in
    let b = determined R y N s h es q in
    record { calls = a.calls ∙ sym b.calls; ends = a.ends ∙ sym b.ends }
