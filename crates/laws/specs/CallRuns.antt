-- A run of the public functions and of cuts, each on what the last left, is a list of the cut rule with the same answers, states, buffers and lists. It obeys the cut rule: proofs/CallRuns.antt. Assumes nothing.
use Rattle.std.specs.Prelude.{ℕ, ◌+◌, ◌≡◌, refl, cond, List, [], ◌∷◌, ◌++◌, T, length, replicate}
use Rattle.std.proofs.Common.{ap, subst}
use Rattle.spec.specs.Layout.{work_size}
use Rattle.spec.specs.Disk.{slice_of, blocks_of}
use Rattle.spec.specs.Sound.{sound}
use Rattle.spec.specs.Map.{files_of}
use Rattle.spec.specs.declared.Phase.TheVariants.{Ready}
use Rattle.spec.specs.declared.Session.{Session}
use Rattle.spec.specs.declared.Extent.{Extent}
use Rattle.spec.specs.Session.{opened, never_opened}
use Rattle.spec.specs.Answers.{Answer, done}
use Rattle.spec.specs.Transaction.{State, state_of}
use Rattle.spec.specs.Calls.{Outcome, Call, Open, Advance, step, left, left_buffer, left_list}
use Rattle.spec.specs.Plain.{Plain, Mode, Recovering, phase_in, after_cut, follow}
use Rattle.spec.specs.CutRule.{Event, call, cut, Both, next, after, Survives, start_of}

-- ---- a run

-- what a caller holds between two calls: the session, and the bytes of the device and of the work space
pub record Held : Type 0 where
  pub session : Session
  pub device : List ℕ
  pub work : List ℕ

abbrev pub held : Session → List ℕ → List ℕ → Held
held s d w = record { session = s; device = d; work = w }

abbrev pub state_in : Held → State
state_in h = state_of h.session h.device h.work

-- one call: what was asked, what was answered, what is held then, and what a lent buffer and a lent list hold then (empty where none is lent)
pub record Turn : Type 0 where
  pub asked : Call
  pub answer : Answer
  pub leaves : Held
  pub buffer : List ℕ
  pub list : List Extent

abbrev pub turn : Call → Answer → Held → List ℕ → List Extent → Turn
turn c a h buffer list = record { asked = c; answer = a; leaves = h; buffer = buffer; list = list }

abbrev pub outcome_of : Turn → Outcome
outcome_of t = record { answer = t.answer; after = state_in t.leaves; buffer = t.buffer; list = t.list }

-- the left side of a promise is of this form: of all calls but two, of read, of run list. Format and open are not lent the work space; their promise holds for any, so for
-- the one that is held.
module _ (c : Call) (a : Answer) (s : Session) (d w : List ℕ) where
  pub turn-left : outcome_of (turn c a (held s d w) [] []) ≡ left s d w a
  turn-left = refl

  pub turn-buffer : (buffer : List ℕ) → outcome_of (turn c a (held s d w) buffer []) ≡ left_buffer s d w a buffer
  turn-buffer buffer = refl

  pub turn-list : (list : List Extent) → outcome_of (turn c a (held s d w) [] list) ≡ left_list s d w a list
  turn-list list = refl

-- a call, or a cut with the bytes of the work space after it
pub data Act : Type 0 where
  called : Turn → Act
  was_cut : List ℕ → Act

-- "A cut .. keeps the blocks stored so far; the next call gets a session never opened and any work space."
abbrev pub held_then : Held → Act → Held
held_then h (called t) = t.leaves
held_then h (was_cut w) = held never_opened h.device w

abbrev pub held_after : Held → List Act → Held
held_after h [] = h
held_after h (a ∷ acts) = held_after (held_then h a) acts

-- "each call gets the device, the work space and the session as the last call or cut left them": each call keeps its promise there
abbrev pub Run : Held → List Act → Type 0
Run h [] = Unit {0}
Run h (called t ∷ acts) = (outcome_of t ≡ step (state_in h) t.asked) × Run t.leaves acts
Run h (was_cut w ∷ acts) = Run (held never_opened h.device w) acts

-- ---- its list, its outcomes, its plain store

abbrev pub event_of : Act → Event
event_of (called t) = call t.asked
event_of (was_cut w) = cut (slice_of w)

abbrev pub events_of : List Act → List Event
events_of [] = []
events_of (a ∷ acts) = event_of a ∷ events_of acts

abbrev pub outcomes_of : List Act → List Outcome
outcomes_of [] = []
outcomes_of (called t ∷ acts) = outcome_of t ∷ outcomes_of acts
outcomes_of (was_cut w ∷ acts) = outcomes_of acts

-- "The plain store is fed arguments, answers and cuts.": those of the run
abbrev pub fed : ℕ → Plain → List Act → Plain
fed N p [] = p
fed N p (called t ∷ acts) = fed N (follow N p t.asked t.answer) acts
fed N p (was_cut w ∷ acts) = fed N (after_cut p) acts

-- the outcomes of a list's calls, in order, of any store
module _ (step : State → Call → Outcome) where
  abbrev pub outcomes : ℕ → Both → List Event → List Outcome
  outcomes N b [] = []
  outcomes N b (call c ∷ es) = step b.store c ∷ outcomes N (next step N b (call c)) es
  outcomes N b (cut w ∷ es) = outcomes N (next step N b (cut w)) es

abbrev beside : State → Plain → Both
beside s p = record { store = s; plain = p }

-- ---- a run is a list

-- a run is its list: every call has the outcome that the list gives it, and the list ends in what is held, beside the plain store that the run feeds.
-- Every part of a run is a run (`run-parts`), so this holds at every moment.
pub record IsList (N : ℕ) (p : Plain) (h : Held) (acts : List Act) : Type 0 where
  pub same : outcomes step N (beside (state_in h) p) (events_of acts) ≡ outcomes_of acts
  pub ends : after step N (beside (state_in h) p) (events_of acts) ≡ beside (state_in (held_after h acts)) (fed N p acts)

pub runs-are-lists : (N : ℕ) (p : Plain) (h : Held) (acts : List Act) → Run h acts → IsList N p h acts
runs-are-lists N p h [] r = record { same = refl; ends = refl }
runs-are-lists N p h (called t ∷ acts) r =
    let c = t.asked in
    let ih = runs-are-lists N (follow N p c t.answer) t.leaves acts r.1 in
    record {
      same = subst (λ (o : Outcome). o ∷ outcomes step N (beside o.after (follow N p c o.answer)) (events_of acts) ≡ outcome_of t ∷ outcomes_of acts) r.0
          (ap (λ (os : List Outcome). outcome_of t ∷ os) ih.same);
      ends = subst (λ (o : Outcome). after step N (beside o.after (follow N p c o.answer)) (events_of acts) ≡ beside (state_in (held_after t.leaves acts)) (fed N (follow N p c t.answer) acts))
          r.0 ih.ends;
    }
runs-are-lists N p h (was_cut w ∷ acts) r =
    let ih = runs-are-lists N (after_cut p) (held never_opened h.device w) acts r in
    record { same = ih.same; ends = ih.ends }

pub run-parts : (h : Held) (acts bs : List Act) → Run h (acts ++ bs) → Run h acts × Run (held_after h acts) bs
run-parts h [] bs r = (tt, r)
run-parts h (called t ∷ acts) bs r = let ih = run-parts t.leaves acts bs r.1 in ((r.0, ih.0), ih.1)
run-parts h (was_cut w ∷ acts) bs r = run-parts (held never_opened h.device w) acts bs r

-- ---- the cut rule of a run, in its own bytes

-- what a cut and its recovery ask of a caller: open, and where a log is pending k+1 advances
abbrev pub recovery_of : Plain → List ℕ → List Event
recovery_of p w = cut (slice_of w) ∷ call Open ∷ replicate (cond p.pending (p.k + 1) 0) (call Advance)

-- on a device of N blocks, from h on; p is the plain store that the run has fed, d the device's bytes that it has left
pub record RunSurvives (N : ℕ) (h : Held) (acts : List Act) : Type 0 where
  pub is-list : IsList N (start_of (state_in h)).plain h acts
  pub survives : Survives step N (start_of (state_in h)) (events_of acts)
  -- "After any list and a cut, open is accepted": recovering if a log is pending, else ready
  pub opens : let p = fed N (start_of (state_in h)).plain acts in let d = (held_after h acts).device in
      (w : List ℕ) → step (state_of never_opened d w) Open ≡ left (opened N (phase_in (cond p.pending Recovering Mode.Ready) 0)) d w done
  -- whoever then cuts, opens and recovers holds a sound device with the committed map, and a second open is ready
  pub recovers : let p = fed N (start_of (state_in h)).plain acts in
      (w : List ℕ) → length w ≡ work_size → (bs : List Act) → Run (held_after h acts) bs → events_of bs ≡ recovery_of p w
      → let e = held_after (held_after h acts) bs in
      T (sound N (blocks_of e.device)) × ((name : List ℕ) → files_of (blocks_of e.device) name ≡ p.committed name)
      × (step (state_in e) Open ≡ left (opened N Ready) e.device e.work done)
