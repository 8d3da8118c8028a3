-- A list with steps of loads is a list of calls and cuts, with the same states, so the cut rule holds inside a load. Assumes nothing.
use Rattle.std.specs.Prelude.{ℕ, ◌+◌, ◌≡◌, Bool, true, false, cond, List, [], ◌∷◌, ◌++◌, map, length}
use Rattle.std.proofs.Math.Path.{refl, ap, fun_ext}
use Rattle.std.proofs.Common.{sym, ap₂, ◌∙◌, subst, true≢false, append-nil}
use Rattle.std.proofs.Math.Seq.{drop-nil}
use Rattle.block.proofs.Laws.{same_self}
use Rattle.std.proofs.Math.Option
use Rattle.std.proofs.Math.Option.{some}
use Rattle.spec.specs.declared.Phase.{Phase}
use Rattle.spec.specs.declared.Phase.TheVariants.{Closed, Ready, Committing, Recovering}
use Rattle.spec.specs.declared.Refusal.{Refusal}
use Rattle.spec.specs.Bytes.{same}
use Rattle.spec.specs.Answers.{Answer, refused, done, started, stored, idle, counted, file, no_file, run, no_run, refusal_of, is_refused, Result, refuse, accept}
use Rattle.spec.specs.Transaction.{State}
use Rattle.spec.specs.Map.{Files}
use Rattle.spec.specs.Calls.{create, write, commit, advance, Create, Write, Advance, Commit, Do, step}
use Rattle.spec.specs.Plain.{Plain, plain, at, new_file, after_commit, follow}
use Rattle.spec.specs.CutRule.{call, Both, Moment, next, after, Starts, start_of}
use Rattle.cardfile.specs.Cards.{name_of, amount_bytes}
use Rattle.cardfile.specs.Lines.{Standing, card, too_long, malformed, nothing, standing, line_number}
use Rattle.loader.specs.Load.{idle_ok, store_line, LoadOutcome, naming, taken_up, take_line, after_begin, load_in, load_step}
use Rattle.spec.proofs.Refusals.{of-refusal}
use Rattle.promises.specs.Advance.{is_advanced, advance-advanced}
use Rattle.promises.specs.Reached.{Reached, after-append, reached-start, reached-after, moment-of}
use Rattle.loadlaws.specs.Lists.{line_calls, take_calls, begin_calls, calls_in, step_calls, LineTaken, stopped, kept, line-goes, follow_answer, follow_load, LoadEvent, other, load, load_next, load_after, event_calls, flat, load-survives, SurvivesHere}

-- ---- the plain store of a step is that of its calls

-- a file made and written at 0 is the bytes written
pub written-map : (f : Files) (name amount : List ℕ) → at name (Option.map (new_file 0 amount) (at name (some []) f name)) (at name (some []) f) ≡ at name (some amount) f
written-map f name amount = fun_ext (λ n. go n (same n name) refl)
  where
    file-is : Option.map (new_file 0 amount) (at name (some []) f name) ≡ some amount
    file-is = rw (same_self name) (ap some (ap (λ (l : List ℕ). amount ++ l) (drop-nil (0 + length amount)) ∙ append-nil amount))

    go : (n : List ℕ) (t : Bool) → same n name ≡ t
        → cond (same n name) (Option.map (new_file 0 amount) (at name (some []) f name)) (cond (same n name) (some []) (f n)) ≡ cond (same n name) (some amount) (f n)
    go n true h = rw h file-is
    go n false h = rw h

refused-follows : (p : Plain) (l : Standing) (line : ℕ) (a : Answer) → is_refused a ≡ true → follow_answer p l (naming line a) ≡ p
refused-follows p l line (refused n vs) h = refl
refused-follows p l line done h = absurd (true≢false (sym h))
refused-follows p l line (started n) h = absurd (true≢false (sym h))
refused-follows p l line (stored b x n) h = absurd (true≢false (sym h))
refused-follows p l line idle h = absurd (true≢false (sym h))
refused-follows p l line (counted n) h = absurd (true≢false (sym h))
refused-follows p l line (file x n) h = absurd (true≢false (sym h))
refused-follows p l line no_file h = absurd (true≢false (sym h))
refused-follows p l line (run e) h = absurd (true≢false (sym h))
refused-follows p l line no_run h = absurd (true≢false (sym h))

refusal-follows : (p : Plain) (l : Standing) (r : Refusal) → follow_answer p l (refusal_of r) ≡ p
refusal-follows p l = of-refusal (λ a. follow_answer p l a ≡ p) (λ n vs. refl)

pub advance-follows : (N : ℕ) (p : Plain) (l : Standing) (a : Answer) → is_advanced a ≡ true → follow N p Advance a ≡ follow_answer p l a
advance-follows N p l (refused n vs) h = refl
advance-follows N p l (stored b x n) h = refl
advance-follows N p l idle h = refl
advance-follows N p l done h = absurd (true≢false (sym h))
advance-follows N p l (started n) h = absurd (true≢false (sym h))
advance-follows N p l (counted n) h = absurd (true≢false (sym h))
advance-follows N p l (file x n) h = absurd (true≢false (sym h))
advance-follows N p l no_file h = absurd (true≢false (sym h))
advance-follows N p l (run e) h = absurd (true≢false (sym h))
advance-follows N p l no_run h = absurd (true≢false (sym h))

line-follows : (N : ℕ) (p : Plain) (name amount : List ℕ) (a b c : Answer) (n : ℕ) → is_refused a ≡ false → is_refused b ≡ false → c ≡ started n
    → follow N (follow N (follow N p (Do (Create name)) a) (Do (Write name 0 amount)) b) Commit c
    ≡ after_commit (plain p.committed (at name (some amount) p.working) p.mode p.k p.d p.pending p.blocks) n
line-follows N p name amount a b c n e f g =
    rw (e, f, g)
    (ap (λ (m : Files). after_commit (plain p.committed m p.mode p.k p.d p.pending p.blocks) n) (written-map p.working name amount))

-- ---- a step, beside the plain store, is its calls

module _ (N : ℕ) (b : Both) (text : List ℕ) (p : ℕ) where
  abbrev s : State
  s = b.store

  abbrev joined : LoadOutcome → Both
  joined o = record { store = o.after; plain = follow_load b.plain (standing text p) o.answer }

  line-is : (t : Bool) → idle_ok s ≡ accept t → (line : ℕ) (l : Standing) → standing text p ≡ l
      → joined (take_line s p line l) ≡ after step N b (map call (take_calls s l))
  line-is t h line (card e next) q = go (name_of e.serial) (amount_bytes e.amount) (λ n. refl) (line-goes s t h (name_of e.serial) (amount_bytes e.amount))
    where
      go : (name amount : List ℕ)
          → ((n : ℕ) → follow_answer b.plain (card e next) (started n)
          ≡ after_commit (plain b.plain.committed (at name (some amount) b.plain.working) b.plain.mode b.plain.k b.plain.d b.plain.pending b.plain.blocks) n)
          → LineTaken s name amount → joined (taken_up s p next line (store_line s name amount)) ≡ after step N b (map call (line_calls s name amount))
      go name amount f (stopped a r e c) = rw (e, c) (ap (λ (x : Plain). record { store = s; plain = x }) (refused-follows b.plain (standing text p) line a r))
      go name amount f (kept z e c) =
          rw (e, c)
          (ap (λ (x : Plain). record { store = (commit (write (create s name).after name 0 amount).after).after; plain = x })
          (ap₂ (λ (y : Standing) (a : Answer). follow_answer b.plain y (naming line a)) q z.commits
          ∙ f z.stores
          ∙ sym (line-follows N b.plain name amount (create s name).answer (write (create s name).after name 0 amount).answer
          (commit (write (create s name).after name 0 amount).after).answer z.stores z.created z.written z.commits)))
  line-is t h line too_long q = refl
  line-is t h line malformed q = refl
  line-is t h line nothing q = refl

  begin-is : (r : Result Bool) → idle_ok s ≡ r → joined (after_begin s text p r) ≡ after step N b (map call (begin_calls s text p r))
  begin-is (refuse r) h = ap (λ (x : Plain). record { store = s; plain = x }) (refusal-follows b.plain (standing text p) r)
  begin-is (accept t) h = line-is t h (line_number text p) (standing text p) refl

  pub step_is : load_next N b (load text p) ≡ after step N b (map call (step_calls s text p))
  unfolding step_calls load_step calls_in load_in
  step_is = go s.session.phase
    where
      go : (f : Phase) → joined (load_in s text p f) ≡ after step N b (map call (calls_in s text p f))
      go Closed = begin-is (idle_ok s) refl
      go Ready = begin-is (idle_ok s) refl
      go (Committing d) =
          ap (λ (x : Plain). record { store = (advance s).after; plain = x }) (sym (advance-follows N b.plain (standing text p) (advance s).answer (advance-advanced s)))
      go (Recovering d) = begin-is (idle_ok s) refl

event-is : (N : ℕ) (b : Both) (e : LoadEvent) → load_next N b e ≡ after step N b (event_calls b e)
event-is N b (other e) = refl
event-is N b (load text p) = step_is N b text p

-- A list with steps of loads is a list of calls and cuts, with the same states.
pub load-lists : (N : ℕ) (b : Both) (es : List LoadEvent) → load_after N b es ≡ after step N b (flat N b es)
load-lists N b [] = refl
load-lists N b (e ∷ es) =
    load-lists N (load_next N b e) es
    ∙ ap (λ (x : Both). after step N x (flat N (load_next N b e) es)) (event-is N b e)
    ∙ sym (after-append N b (event_calls b e) (flat N (load_next N b e) es))

-- So the cut rule holds inside a load: what a list with steps of loads leads to is a moment of a list, and the list survives a cut.
pub load-reached : (N : ℕ) (s : State) → Starts N s → (es : List LoadEvent) → Reached N (load_after N (start_of s) es)
load-reached N s h es = subst (Reached N) (sym (load-lists N (start_of s) es)) (reached-after N (start_of s) (flat N (start_of s) es) (reached-start N s h))

pub load-moment : (N : ℕ) (s : State) → Starts N s → (es : List LoadEvent) → Moment N (load_after N (start_of s) es)
load-moment N s h es = moment-of N (load_after N (start_of s) es) (load-reached N s h es)

-- Inside a load a cut may fall behind any step: what is then opened and recovered is sound, and its map is the committed one.
pub load_cut : (N : ℕ) (s : State) → Starts N s → (es : List LoadEvent) → SurvivesHere N (load_after N (start_of s) es)
load_cut N s h es =
    let x = load-survives N s h es in
    subst (SurvivesHere N) (sym (load-lists N (start_of s) es))
    (record { opens = x.opens; recovers = x.recovers; opens-again = x.opens-again; is-sound = x.is-sound; keeps = x.keeps })
