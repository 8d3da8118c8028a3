-- Lists in which the steps of loads stand beside calls and cuts: each is a list of calls and cuts, with the same states (proofs/Lists.antt), and the same answers where a step makes calls.
-- A step that makes none is refused or finds no line, and leaves all as it was. Assumes nothing.
use Rattle.std.specs.Prelude.{ℕ, ◌+◌, ◌≤◌, ◌≡◌, Bool, true, false, cond, List, [], ◌∷◌, ◌++◌, map, T, eqb}
use Rattle.std.proofs.Math.Path.{refl, ap}
use Rattle.std.proofs.Common.{sym, ◌∙◌, arith}
use Rattle.std.proofs.Math.Option.{some}
use Rattle.spec.specs.declared.Phase.{Phase}
use Rattle.spec.specs.declared.Phase.TheVariants.{Closed, Ready, Committing, Recovering}
use Rattle.spec.specs.Layout.{work_size}
use Rattle.spec.specs.Session.{opened, never_opened}
use Rattle.spec.specs.Answers.{Answer, refused, done, started, stored, idle, counted, file, no_file, run, no_run, is_refused, Result, refuse, accept}
use Rattle.spec.specs.Transaction.{State, with_session}
use Rattle.spec.specs.Disk.{Slice}
use Rattle.spec.specs.Sound.{sound}
use Rattle.spec.specs.Map.{Files, files_of}
use Rattle.spec.specs.Calls.{outcome, create, write, commit, Create, Write, Call, Open, Advance, Commit, Do, step}
use Rattle.spec.specs.Plain.{Plain, Mode, phase_in, plain, at, after_commit, after_advance}
use Rattle.spec.specs.CutRule.{Event, call, Both, next, advances, Survives, Starts, start_of}
use Rattle.cardfile.specs.Cards.{name_of, amount_bytes}
use Rattle.cardfile.specs.Lines.{Standing, card, too_long, malformed, nothing, standing, line_number}
use Rattle.loader.specs.Load.{idle_ok, store_line, LoadAnswer, answered, none_left, LoadOutcome, naming, taken_up, take_line, after_begin, load_in, load_step, leaves_all}
use Rattle.laws.specs.Files.{crash-safe}
use Rattle.spec.proofs.Refusals.{refused-is}
use Rattle.loader.proofs.Kept.{line-commits}

-- ---- the calls of a step

-- a line's: none where one of them is refused
unfoldable pub line_calls : State → List ℕ → List ℕ → List Call
line_calls s name amount =
    cond (is_refused (create s name).answer) []
    (cond (is_refused (write (create s name).after name 0 amount).answer) []
    (Do (Create name) ∷ Do (Write name 0 amount) ∷ Commit ∷ []))

abbrev pub take_calls : State → Standing → List Call
take_calls s (card e next) = line_calls s (name_of e.serial) (amount_bytes e.amount)
take_calls s too_long = []
take_calls s malformed = []
take_calls s nothing = []

abbrev pub begin_calls : State → List ℕ → ℕ → Result Bool → List Call
begin_calls s text p (refuse r) = []
begin_calls s text p (accept t) = take_calls s (standing text p)

unfoldable pub calls_in : State → List ℕ → ℕ → Phase → List Call
calls_in s text p Closed = begin_calls s text p (idle_ok s)
calls_in s text p Ready = begin_calls s text p (idle_ok s)
calls_in s text p (Committing d) = Advance ∷ []
calls_in s text p (Recovering d) = begin_calls s text p (idle_ok s)

unfoldable pub step_calls : State → List ℕ → ℕ → List Call
step_calls s text p = calls_in s text p s.session.phase

-- ---- they leave the same state, and the last one's answer is the step's

abbrev pub ran : State → List Call → State
ran s [] = s
ran s (c ∷ cs) = ran (step s c).after cs

-- the answer of the last call; without calls, any
abbrev pub Tells : State → List Call → LoadAnswer → Type 0
Tells s [] a = Unit {0}
Tells s (c ∷ []) a = a ≡ answered (step s c).answer
Tells s (c ∷ d ∷ cs) a = Tells (step s c).after (d ∷ cs) a

-- a step without calls is one that leaves all as it was
pub record Does (s : State) (cs : List Call) (o : LoadOutcome) : Type 0 where
  pub after : ran s cs ≡ o.after
  pub answer : Tells s cs o.answer
  pub idle : cs ≡ [] → leaves_all o.answer ≡ true

-- ---- a line

-- the three calls of a line that is accepted
pub record StoredLine (s : State) (name amount : List ℕ) : Type 0 where
  pub created : is_refused (create s name).answer ≡ false
  pub written : is_refused (write (create s name).after name 0 amount).answer ≡ false
  pub stores : ℕ
  pub commits : (commit (write (create s name).after name 0 amount).after).answer ≡ started stores

-- a line is stored by its three calls, or refused by one of them and all is as before
pub data LineTaken (s : State) (name amount : List ℕ) : Type 0 where
  stopped : (a : Answer) → is_refused a ≡ true → store_line s name amount ≡ outcome s a → line_calls s name amount ≡ [] → LineTaken s name amount
  kept : StoredLine s name amount → store_line s name amount ≡ commit (write (create s name).after name 0 amount).after
      → line_calls s name amount ≡ Do (Create name) ∷ Do (Write name 0 amount) ∷ Commit ∷ [] → LineTaken s name amount

pub line-goes : (s : State) (t : Bool) → idle_ok s ≡ accept t → (name amount : List ℕ) → LineTaken s name amount
unfolding store_line line_calls
line-goes s t h name amount = go (is_refused (create s name).answer) refl (is_refused (write (create s name).after name 0 amount).answer) refl
  where
    go : (p : Bool) → is_refused (create s name).answer ≡ p → (q : Bool) → is_refused (write (create s name).after name 0 amount).answer ≡ q → LineTaken s name amount
    go true e q f = stopped (create s name).answer e (rw e) (rw e)
    go false e true f = stopped (write (create s name).after name 0 amount).answer f (rw (e, f)) (rw (e, f))
    go false e false f =
        let c = line-commits s t h name amount e f in
        kept (record { created = e; written = f; stores = c.0; commits = c.1 }) (rw (e, f)) (rw (e, f))

-- ---- a step is its calls

naming-told : (line : ℕ) (a : Answer) (n : ℕ) → a ≡ started n → naming line a ≡ a
naming-told line a n e = ap (naming line) e ∙ sym e

naming-refused : (line : ℕ) (a : Answer) → is_refused a ≡ true → is_refused (naming line a) ≡ true
naming-refused line (refused n vs) h = refl
naming-refused line done h = h
naming-refused line (started n) h = h
naming-refused line (stored b l n) h = h
naming-refused line idle h = h
naming-refused line (counted n) h = h
naming-refused line (file x n) h = h
naming-refused line no_file h = h
naming-refused line (run e) h = h
naming-refused line no_run h = h

some-calls : {c : Call} {cs : List Call} {A : Type 0} → c ∷ cs ≡ [] → A
some-calls q = let z : ◌≡◌ {A = ℕ} 0 1 = cc in absurd (omega arith)

take-does : (s : State) (t : Bool) → idle_ok s ≡ accept t → (p line : ℕ) (l : Standing) → Does s (take_calls s l) (take_line s p line l)
take-does s t h p line (card e next) = go (name_of e.serial) (amount_bytes e.amount) (line-goes s t h (name_of e.serial) (amount_bytes e.amount))
  where
    go : (name amount : List ℕ) → LineTaken s name amount → Does s (line_calls s name amount) (taken_up s p next line (store_line s name amount))
    go name amount (stopped a r e c) = rw (e, c) (record { after = refl; answer = tt; idle = λ q. naming-refused line a r })
    go name amount (kept z e c) =
        rw (e, c)
        (record {
          after = refl;
          answer = ap answered (naming-told line (commit (write (create s name).after name 0 amount).after).answer z.stores z.commits);
          idle = λ q. some-calls q;
        })
take-does s t h p line too_long = record { after = refl; answer = tt; idle = λ q. refl }
take-does s t h p line malformed = record { after = refl; answer = tt; idle = λ q. refl }
take-does s t h p line nothing = record { after = refl; answer = tt; idle = λ q. refl }

begin-does : (s : State) (text : List ℕ) (p : ℕ) (r : Result Bool) → idle_ok s ≡ r → Does s (begin_calls s text p r) (after_begin s text p r)
begin-does s text p (refuse r) h = record { after = refl; answer = tt; idle = λ q. refused-is r }
begin-does s text p (accept t) h = take-does s t h p (line_number text p) (standing text p)

-- each step is a list of store calls with the same answer and the same state
pub step-does : (s : State) (text : List ℕ) (p : ℕ) → Does s (step_calls s text p) (load_step s text p)
unfolding step_calls load_step calls_in load_in
step-does s text p = go s.session.phase
  where
    go : (f : Phase) → Does s (calls_in s text p f) (load_in s text p f)
    go Closed = begin-does s text p (idle_ok s) refl
    go Ready = begin-does s text p (idle_ok s) refl
    go (Committing d) = record { after = refl; answer = refl; idle = λ q. some-calls q }
    go (Recovering d) = begin-does s text p (idle_ok s) refl

-- ---- the plain store beside a load

-- the map with a card's name at its amount
abbrev pub with_card : Standing → Files → Files
with_card (card e next) f = at (name_of e.serial) (some (amount_bytes e.amount)) f
with_card too_long f = f
with_card malformed f = f
with_card nothing f = f

-- "Refused ..: no change"; a line taken up: the working map with the card's name at its amount, then "Commit answering 2k+2"; an advance. No step answers otherwise
abbrev pub follow_answer : Plain → Standing → Answer → Plain
follow_answer p l (refused n vs) = p
follow_answer p l (started n) = after_commit (plain p.committed (with_card l p.working) p.mode p.k p.d p.pending p.blocks) n
follow_answer p l (stored b x n) = after_advance p p.mode
follow_answer p l idle = after_advance p p.mode
follow_answer p l done = p
follow_answer p l (counted n) = p
follow_answer p l (file x n) = p
follow_answer p l no_file = p
follow_answer p l (run e) = p
follow_answer p l no_run = p

abbrev pub follow_load : Plain → Standing → LoadAnswer → Plain
follow_load p l (answered a) = follow_answer p l a
follow_load p l none_left = p

-- ---- lists with steps of loads among their calls and cuts

pub data LoadEvent : Type 0 where
  other : Event → LoadEvent
  load : List ℕ → ℕ → LoadEvent

abbrev pub load_next : ℕ → Both → LoadEvent → Both
load_next N b (other e) = next step N b e
load_next N b (load text p) =
    let o = load_step b.store text p in
    record { store = o.after; plain = follow_load b.plain (standing text p) o.answer }

abbrev pub load_after : ℕ → Both → List LoadEvent → Both
load_after N b [] = b
load_after N b (e ∷ es) = load_after N (load_next N b e) es

-- the same list with each step as its calls
abbrev pub event_calls : Both → LoadEvent → List Event
event_calls b (other e) = e ∷ []
event_calls b (load text p) = map call (step_calls b.store text p)

abbrev pub flat : ℕ → Both → List LoadEvent → List Event
flat N b [] = []
flat N b (e ∷ es) = event_calls b e ++ flat N (load_next N b e) es

-- ---- a step, beside the plain store, is its calls

pub load-survives : (N : ℕ) (s : State) → Starts N s → (es : List LoadEvent) → Survives step N (start_of s) (flat N (start_of s) es)
load-survives N s h es = crash-safe.survives N s h (flat N (start_of s) es)

-- what a moment of a list leaves with a cut behind it and the work space w after the cut: as `Survives` says it of a list's end
module _ (N : ℕ) (b : Both) where
  abbrev pub cut_here : Slice → State
  cut_here w = record { session = never_opened; device = b.store.device; work = w }

  abbrev pub recovered_here : Slice → State
  recovered_here w = advances step (cond b.plain.pending (b.plain.k + 1) 0) (step (cut_here w) Open).after

  pub record SurvivesHere : Type 0 where
    pub opens : (w : Slice) → step (cut_here w) Open ≡ outcome (with_session (cut_here w) (opened N (phase_in (cond b.plain.pending Mode.Recovering Mode.Ready) 0))) done
    pub recovers : (w : Slice) → w.size ≡ work_size → T b.plain.pending → (j : ℕ) → j ≤ b.plain.k
        → (x : ℕ) × ((step (advances step j (step (cut_here w) Open).after) Advance).answer ≡ stored x (eqb j b.plain.k) (j + 1))
    pub opens-again : (w : Slice) → w.size ≡ work_size → step (recovered_here w) Open ≡ outcome (with_session (recovered_here w) (opened N Ready)) done
    pub is-sound : (w : Slice) → w.size ≡ work_size → T (sound N (recovered_here w).device.block)
    pub keeps : (w : Slice) → w.size ≡ work_size → (name : List ℕ) → files_of (recovered_here w).device.block name ≡ b.plain.committed name
