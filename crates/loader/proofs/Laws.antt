-- The cases of a load. Assumes nothing.
use Prim.Native.Nat.{ℕ, zero, suc, ◌+◌, ◌*◌, ◌<◌}
use mathlib.Core.Path.{◌≡◌, refl, sym, ap, ap₂, ◌∙◌, subst}
use mathlib.Core.Bool.{Bool, true, false, cond, true≢false}
use mathlib.Core.List.{List, []}
use Rattle.std.specs.Prelude.{Option, Some, Ok, Err}
use Rattle.std.specs.Prelude.{Result as Returned}
use Rattle.std.specs.Result.{MatchResult, IsErrAnd}
use native.Mathlib.Omega.{arith}
use borrow.Author.Tests.{ne_eqb}
use lib.ListN.{length, take}
use Rattle.std.specs.Prelude.{slice_index_or}
use Rattle.std.specs.Simd.{first_chunks}
use lib.Dec.{eqb}
use Rattle.spec.specs.declared.Phase.{Phase}
use Rattle.spec.specs.declared.Phase.TheVariants.{Closed, Ready, Committing, Recovering}
use Rattle.spec.specs.declared.Session.{Session}
use Rattle.spec.specs.declared.Refusal.{Refusal}
use Rattle.spec.specs.declared.Refusal.TheVariants.{NotReady}
use Rattle.spec.specs.Disk.{Slice, slice_of, blocks_of}
use Rattle.spec.specs.Session.{staged_in}
use Rattle.spec.specs.Answers.{Answer, refused, done, started, stored, idle, counted, file, no_file, run, no_run, refusal_of, done_of, started_of, is_refused, Result, refuse, accept, require, ◌>>◌}
use Rattle.spec.specs.Transaction.{State, state_of}
use Rattle.spec.specs.Calls.{Outcome, outcome, left, settle, lent_ok, ready_ok, start_commit, create, write, commit, advance}
pub use Rattle.std.proofs.lemmas.List.{nil_from_length as nil-of}
use Rattle.spec.proofs.Refusals.{of-refusal, refused-is}
use Rattle.promises.specs.Restored.{stored_in, restored, create-keeps, write_keeps, lent-work}
use Rattle.cardfile.specs.Cards.{amount_bytes}
use Rattle.cardfile.specs.Lines.{Standing, card, standing, line_at, line_number, name_told}
use Rattle.cardfile.specs.declared.Line.{Line}
use Rattle.cardfile.specs.declared.LineFault.{LineFault}
use Rattle.cardfile.proofs.Places.{found_at}
use Rattle.loader.specs.declared.Loaded.TheVariants as loaded-cases
use Rattle.loader.specs.declared.LoadFault.TheVariants as fault-cases
use Rattle.loader.specs.Load.{idle_ok, begin, or_back, store_line, answered, LoadOutcome, loaded, naming, taken_up, take_line, after_begin, advancing, load_in, load_step, loaded_of, left_load}

-- what a call answers that is done, and one that starts stores
abbrev Done : Type 0
Done = Returned (Unit {0}) Refusal

abbrev Started : Type 0
Started = Returned ℕ Refusal

-- ---- begin: what commit answers tells whether a load may begin

abbrev begun : Answer → Answer
begun (refused n vs) = refused n vs
begun done = done
begun (started n) = cond (eqb n 0) done (refusal_of NotReady)
begun (stored b l n) = done
begun idle = done
begun (counted n) = done
begun (file x n) = done
begun no_file = done
begun (run e) = done
begun no_run = done

begun-refusal : (r : Refusal) → begun (refusal_of r) ≡ refusal_of r
begun-refusal = of-refusal (λ a. begun a ≡ a) (λ n vs. refl)

pub begin-is : (s : State) → outcome s (begun (commit s).answer) ≡ begin s
unfolding begin idle_ok commit
begin-is s = go (ready_ok s) (length (staged_in s.session))
  where
    go : (r : Result Bool) (k : ℕ)
        → outcome s (begun (settle (outcome s) (r >> accept (start_commit s k))).answer)
        ≡ settle (outcome s) ((r >> require (eqb k 0) NotReady) >> accept (outcome s done))
    go (refuse r) k = ap (outcome s) (begun-refusal r)
    go (accept t) zero = refl
    go (accept t) (suc k) =
        let z : eqb (2 * suc k + 2) 0 ≡ false = ne_eqb (2 * suc k + 2) 0 (λ (n : 2 * suc k + 2 ≡ 0). omega arith) in
        rw (z, ne_eqb (suc k) 0 (λ (n : suc k ≡ 0). omega arith))

module _ (s t : Session) (d w : List ℕ) (a : Started) (eq : left t d w (started_of a) ≡ commit (state_of s d w)) where
  begun-is : outcome (state_of s d w) (begun (started_of a)) ≡ begin (state_of s d w)
  begun-is = ap (λ (o : Outcome). outcome (state_of s d w) (begun o.answer)) eq ∙ begin-is (state_of s d w)

  pub begin-refused : (r : Refusal) → a ≡ Err r → left s d w (done_of (Err r)) ≡ begin (state_of s d w)
  begin-refused r h = ap (outcome (state_of s d w)) (sym (begun-refusal r) ∙ ap (λ (x : Started). begun (started_of x)) (sym h)) ∙ begun-is

  pub begin-fine : (n : ℕ) → a ≡ Ok n → n ≡ 0 → left s d w (done_of (Ok tt)) ≡ begin (state_of s d w)
  begin-fine n h z = ap (λ (x : Answer). outcome (state_of s d w) (begun x)) (ap started (sym z) ∙ ap started_of (sym h)) ∙ begun-is

  pub begin-busy : (n : ℕ) → a ≡ Ok n → (n ≡ 0 → ⊥) → left s d w (done_of (Err NotReady)) ≡ begin (state_of s d w)
  begin-busy n h z =
      ap (λ (b : Bool). outcome (state_of s d w) (cond b done (refusal_of NotReady))) (sym (ne_eqb n 0 z))
      ∙ ap (λ (x : Started). outcome (state_of s d w) (begun (started_of x))) (sym h) ∙ begun-is

refuse≢accept : {A : Type 0} {r : Refusal} {t : A} → ◌≡◌ {A = Result A} (refuse r) (accept t) → ⊥
refuse≢accept e = let z : ◌≡◌ {A = ℕ} 0 1 = cc in omega arith

-- what a begin that was accepted has shown
idle-is : (s : State) (a : Answer) → outcome s a ≡ begin s → is_refused a ≡ false → (t : Bool) × (idle_ok s ≡ accept t)
unfolding begin
idle-is s a e h = go (idle_ok s) e
  where
    go : (r : Result Bool) → outcome s a ≡ settle (outcome s) (r >> accept (outcome s done)) → (t : Bool) × (r ≡ accept t)
    go (refuse r) q = absurd (true≢false (sym (refused-is r) ∙ ap (λ (o : Outcome). is_refused o.answer) (sym q) ∙ h))
    go (accept t) q = (t, refl)

idle-says : (s : State) (t : Bool) → idle_ok s ≡ accept t → staged_in s.session ≡ []
unfolding idle_ok
idle-says s t h = go (ready_ok s) (length (staged_in s.session)) refl h
  where
    go : (r : Result Bool) (k : ℕ) → length (staged_in s.session) ≡ k → (r >> require (eqb k 0) NotReady) ≡ accept t → staged_in s.session ≡ []
    go (refuse r) k l q = absurd (refuse≢accept q)
    go (accept u) zero l q = nil-of (staged_in s.session) l
    go (accept u) (suc k) l q =
        let z : refuse NotReady ≡ accept t = rw (ne_eqb (suc k) 0 (λ (n : suc k ≡ 0). omega arith)) at q in
        absurd (refuse≢accept z)

-- what was accepted is behind its first test
first-passed : (r m : Result Bool) (t : Bool) → (r >> m) ≡ accept t → (u : Bool) × (r ≡ accept u)
first-passed (refuse r) m t q = absurd (refuse≢accept q)
first-passed (accept u) m t q = (u, refl)

pub idle-ready : (s : State) (t : Bool) → idle_ok s ≡ accept t → (u : Bool) × (ready_ok s ≡ accept u)
unfolding idle_ok
idle-ready s t h = first-passed (ready_ok s) _ t h

ready-lent : (s : State) (t : Bool) → ready_ok s ≡ accept t → (u : Bool) × (lent_ok s ≡ accept u)
unfolding ready_ok
ready-lent s t h = first-passed (lent_ok s) _ t h

-- a begin that was accepted had its work space lent
pub begin-lent : (s : Session) (d w : List ℕ) → outcome (state_of s d w) done ≡ begin (state_of s d w) → length w ≡ 16384
begin-lent s d w e =
    let i = idle-is (state_of s d w) done e refl in
    let r = idle-ready (state_of s d w) i.0 i.1 in
    let l = ready-lent (state_of s d w) r.0 r.1 in
    lent-work s d w l.0 (sym l.1)

-- ---- a line

-- the first of the parts of 512 bytes
pub first-of : (w : List ℕ) (k : ℕ) → 0 < k → slice_index_or (first_chunks 512 k w) 0 [] ≡ take 512 w
first-of w zero h = absurd (omega arith)
first-of w (suc k) h = refl

-- write and commit on the state that create has left; refused, the session given and the first image kept are put back
unfoldable pub finish_line : State → Session → List ℕ → List ℕ → List ℕ → Outcome
finish_line t s kept name amount =
    let o = write t name 0 amount in
    cond (is_refused o.answer)
    (outcome (record { session = s; device = t.device; work = stored_in t.work 0 kept }) o.answer)
    (commit o.after)

-- a refused line's state is the one that it began with
kept-work : (s : State) (name : List ℕ) → is_refused (create s name).answer ≡ true → (create s name).after ≡ s
kept-work s name h = ap (λ (o : Outcome). o.after) (create-keeps s name h)

module _ (s t : Session) (d w x name amount : List ℕ) (a : Done) (eq : left t d x (done_of a) ≡ create (state_of s d w) name) where
  answer-is : done_of a ≡ (create (state_of s d w) name).answer
  answer-is = ap (λ (o : Outcome). o.answer) eq

  after_is : state_of t d x ≡ (create (state_of s d w) name).after
  after_is = ap (λ (o : Outcome). o.after) eq

  stops : (o : Outcome) → o ≡ outcome (state_of s d w) (create (state_of s d w) name).answer → is_refused (create (state_of s d w) name).answer ≡ true
      → o ≡ store_line (state_of s d w) name amount
  unfolding store_line
  stops o e h = rw h e

  goes_on : (o : Outcome) → is_refused (create (state_of s d w) name).answer ≡ false
      → o ≡ or_back (state_of s d w) (write (create (state_of s d w) name).after name 0 amount) commit → o ≡ store_line (state_of s d w) name amount
  unfolding store_line
  goes_on o h e = rw h e

  pub line-stops : (r : Refusal) → a ≡ Err r → left s d x (started_of (Err r)) ≡ store_line (state_of s d w) name amount
  line-stops r h =
      let f : refusal_of r ≡ (create (state_of s d w) name).answer = ap done_of (sym h) ∙ answer-is in
      let g : is_refused (create (state_of s d w) name).answer ≡ true = ap is_refused (sym f) ∙ refused-is r in
      let same : slice_of x ≡ slice_of w = ap (λ (u : State). u.work) (after_is ∙ kept-work (state_of s d w) name g) in
      stops (left s d x (refusal_of r))
      (ap₂ (λ (u : Slice) (b : Answer). outcome (record { session = s; device = slice_of d; work = u }) b) same f) g

  pub line-goes-on : a ≡ (Ok tt) → staged_in s ≡ [] → (kept : List ℕ) → kept ≡ blocks_of w 0 → (o : Outcome)
      → o ≡ finish_line (state_of t d x) s kept name amount → o ≡ store_line (state_of s d w) name amount
  unfolding finish_line
  line-goes-on h bare kept k o e =
      let g : is_refused (create (state_of s d w) name).answer ≡ false = ap is_refused (sym answer-is) ∙ ap (λ (y : Done). is_refused (done_of y)) h in
      let back : stored_in (slice_of x) 0 kept ≡ slice_of w =
      ap₂ (λ (u : Slice) (b : List ℕ). stored_in u 0 b) (ap (λ (u : State). u.work) after_is) k ∙ restored (state_of s d w) bare name g in
      goes_on o g
      (e
      ∙ ap (λ (u : Slice). or_back (record { session = s; device = slice_of d; work = u }) (write (state_of t d x) name 0 amount) commit) back
      ∙ ap (λ (u : State). or_back (state_of s d w) (write u name 0 amount) commit) after_is)

module _ (s m t : Session) (d x y kept name amount : List ℕ) (a : Done) (eq : left t d y (done_of a) ≡ write (state_of m d x) name 0 amount) where
  wrote-answer : done_of a ≡ (write (state_of m d x) name 0 amount).answer
  wrote-answer = ap (λ (o : Outcome). o.answer) eq

  wrote_after : state_of t d y ≡ (write (state_of m d x) name 0 amount).after
  wrote_after = ap (λ (o : Outcome). o.after) eq

  pub write-stops : (r : Refusal) (z : List ℕ) → a ≡ Err r → slice_of z ≡ stored_in (slice_of y) 0 kept
      → left s d z (started_of (Err r)) ≡ finish_line (state_of m d x) s kept name amount
  unfolding finish_line
  write-stops r z h k =
      let f : refusal_of r ≡ (write (state_of m d x) name 0 amount).answer = ap done_of (sym h) ∙ wrote-answer in
      let g : is_refused (write (state_of m d x) name 0 amount).answer ≡ true = ap is_refused (sym f) ∙ refused-is r in
      let same : slice_of y ≡ slice_of x = ap (λ (u : State). u.work)
      (wrote_after ∙ ap (λ (o : Outcome). o.after) (write_keeps (state_of m d x) name 0 amount g)) in
      rw g (ap₂ (λ (u : Slice) (b : Answer). outcome (record { session = s; device = slice_of d; work = u }) b) (k ∙ ap (λ (u : Slice). stored_in u 0 kept) same) f)

  pub write-goes-on : (o : Outcome) → a ≡ (Ok tt) → o ≡ commit (state_of t d y) → o ≡ finish_line (state_of m d x) s kept name amount
  unfolding finish_line
  write-goes-on o h e =
      let g : is_refused (write (state_of m d x) name 0 amount).answer ≡ false = ap is_refused (sym wrote-answer) ∙ ap (λ (b : Done). is_refused (done_of b)) h in
      rw g (e ∙ ap commit wrote_after)

-- ---- what stands at a place

module _ (s : State) (t : Session) (d x : List ℕ) (at number next : ℕ) (name amount : List ℕ) (a : Started)
    (eq : left t d x (started_of a) ≡ store_line s name amount)
  where
    as-named : (o : LoadOutcome) → o ≡ taken_up s at next number (left t d x (started_of a)) → o ≡ taken_up s at next number (store_line s name amount)
    as-named o e = e ∙ ap (taken_up s at next number) eq

    take-refused : (r : Refusal) → a ≡ Err r
        → left_load t d x at (loaded_of (Err (fault-cases.LineRefused number r))) ≡ taken_up s at next number (store_line s name amount)
    take-refused r h =
        as-named (left_load t d x at (answered (naming number (refusal_of r))))
        (ap (λ (b : Bool). loaded (state_of t d x) (cond b at next) (answered (naming number (refusal_of r)))) (sym (refused-is r))
        ∙ ap (λ (y : Started). taken_up s at next number (left t d x (started_of y))) (sym h))

    take-started : (n : ℕ) → a ≡ Ok n → left_load t d x next (loaded_of (Ok (loaded-cases.Started n))) ≡ taken_up s at next number (store_line s name amount)
    take-started n h = as-named (left_load t d x next (answered (started n))) (ap (λ (y : Started). taken_up s at next number (left t d x (started_of y))) (sym h))

-- what the code read at the place is what stands there
module _ (s : State) (text : List ℕ) (at number : ℕ) (r : Returned (Option Line) LineFault) (read : r ≡ line_at text at) where
  taken_as : (o : LoadOutcome) (z : Standing) → standing text at ≡ z → o ≡ take_line s at number z → o ≡ take_line s at number (standing text at)
  taken_as o z h e = e ∙ ap (take_line s at number) (sym h)

  take_found : (x : Line) (o : LoadOutcome) → r ≡ Ok (Some x)
      → o ≡ taken_up s at x.next number (store_line s (name_told x.card.serial.bytes x.card.serial.number) (amount_bytes x.card.amount))
      → o ≡ take_line s at number (standing text at)
  take_found x o h e =
      let f = found_at text at x (sym read ∙ h) in
      taken_as o (card f.entry x.next) f.is
      (e ∙ ap₂ (λ (n : List ℕ) (m : ℕ). taken_up s at x.next number (store_line s n (amount_bytes m))) f.name f.amount)

  -- a line taken up with the name and the amount of its card
  module _ (x : Line) (found : r ≡ Ok (Some x)) (t : Session) (d w name amount : List ℕ) (a : Started)
      (n : name ≡ name_told x.card.serial.bytes x.card.serial.number) (m : amount ≡ amount_bytes x.card.amount) (eq : left t d w (started_of a) ≡ store_line s name amount)
    where
      of-card : left t d w (started_of a) ≡ store_line s (name_told x.card.serial.bytes x.card.serial.number) (amount_bytes x.card.amount)
      of-card = eq ∙ ap₂ (store_line s) n m

      pub line-refused : (why : Refusal) → a ≡ Err why → left_load t d w at (loaded_of (Err (fault-cases.LineRefused number why))) ≡ take_line s at number (standing text at)
      line-refused why h = take_found x _ found (take-refused s t d w at number x.next _ _ a of-card why h)

      pub line-started : (k : ℕ) → a ≡ Ok k → left_load t d w x.next (loaded_of (Ok (loaded-cases.Started k))) ≡ take_line s at number (standing text at)
      line-started k h = take_found x _ found (take-started s t d w at number x.next _ _ a of-card k h)

-- ---- the next line, and a step

-- an error told as another, and none
module _ {X E D : Type 0} where
  pub told-as : (r : Returned X E) (m : Returned X D) (P : E → D → Type 0) → MatchResult r (λ x. m ≡ Ok x) (λ e. IsErrAnd m (P e)) → (d : D) → m ≡ Err d
      → (e : E) × ((r ≡ Err e) × P e d)
  told-as (Ok x) m P h d k = let z : Ok x ≡ Err d = sym h ∙ k in let y : ◌≡◌ {A = ℕ} 0 1 = cc in absurd (omega arith)
  told-as (Err e) (Ok x) P h d k = absurd h
  told-as (Err e) (Err c) P h d k = let g : c ≡ d = cc in (e, (refl, subst (P e) g h))

  pub told-fine : (r : Returned X E) (m : Returned X D) (P : E → D → Type 0) → MatchResult r (λ x. m ≡ Ok x) (λ e. IsErrAnd m (P e)) → (x : X) → m ≡ Ok x → r ≡ Ok x
  told-fine (Ok y) m P h x k = let g : y ≡ x = cc in ap Ok g
  told-fine (Err e) (Ok y) P h x k = absurd h
  told-fine (Err e) (Err d) P h x k = let y : ◌≡◌ {A = ℕ} 0 1 = cc in absurd (omega arith)

module _ (s : State) (text : List ℕ) (at : ℕ) where
  pub next-stops : (a : Done) (r : Refusal) → outcome s (done_of a) ≡ begin s → a ≡ Err r → loaded s at (answered (refusal_of r)) ≡ after_begin s text at (idle_ok s)
  unfolding begin
  next-stops a r e k = go (idle_ok s) (ap (λ (x : Done). outcome s (done_of x)) (sym k) ∙ e)
    where
      go : (q : Result Bool) → outcome s (refusal_of r) ≡ settle (outcome s) (q >> accept (outcome s done)) → loaded s at (answered (refusal_of r)) ≡ after_begin s text at q
      go (refuse t) h = ap (λ (o : Outcome). loaded s at (answered o.answer)) h
      go (accept t) h = absurd (true≢false (sym (refused-is r) ∙ ap (λ (o : Outcome). is_refused o.answer) h))

  pub next-goes : (o : LoadOutcome) → outcome s done ≡ begin s → o ≡ take_line s at (line_number text at) (standing text at) → o ≡ after_begin s text at (idle_ok s)
  next-goes o e h =
      let i = idle-is s done e refl in
      h ∙ ap (after_begin s text at) (sym i.1)

  pub may-begin : outcome s done ≡ begin s → staged_in s.session ≡ []
  may-begin e = let i = idle-is s done e refl in idle-says s i.0 i.1

module _ (s : State) (text : List ℕ) (at : ℕ) (o : LoadOutcome) where
  in-phase : (p : Phase) → s.session.phase ≡ p → o ≡ load_in s text at p → o ≡ load_step s text at
  unfolding load_step
  in-phase p h e = e ∙ ap (load_in s text at) (sym h)

  step-closed : s.session.phase ≡ Closed → o ≡ after_begin s text at (idle_ok s) → o ≡ load_step s text at
  unfolding load_in
  step-closed h e = in-phase Closed h e

  step-ready : s.session.phase ≡ Ready → o ≡ after_begin s text at (idle_ok s) → o ≡ load_step s text at
  unfolding load_in
  step-ready h e = in-phase Ready h e

  step-recovering : (n : ℕ) → s.session.phase ≡ Recovering n → o ≡ after_begin s text at (idle_ok s) → o ≡ load_step s text at
  unfolding load_in
  step-recovering n h e = in-phase (Recovering n) h e

  -- a phase that is not committing
  pub step-other : ((n : ℕ) → s.session.phase ≡ Committing n → ⊥) → o ≡ after_begin s text at (idle_ok s) → o ≡ load_step s text at
  step-other h e = go s.session.phase refl
    where
      go : (p : Phase) → s.session.phase ≡ p → o ≡ load_step s text at
      go Closed q = step-closed q e
      go Ready q = step-ready q e
      go (Committing n) q = absurd (h n q)
      go (Recovering n) q = step-recovering n q e

  pub step-committing : (n : ℕ) → s.session.phase ≡ Committing n → o ≡ advancing at (advance s) → o ≡ load_step s text at
  unfolding load_in
  step-committing n h e = in-phase (Committing n) h e
