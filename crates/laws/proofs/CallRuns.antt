-- A run of the public functions and of cuts from a start obeys the cut rule, in its own bytes. Assumes nothing.
use Rattle.std.specs.Prelude.{ℕ, zero, suc, ◌+◌, ◌/◌, ◌<◌, ◌≡◌, refl, false, cond, List, [], ◌∷◌, T, length, get_or, replicate}
use Rattle.std.proofs.Common.{sym, ap, ◌∙◌, subst}
use Rattle.spec.specs.Layout.{block_size}
use Rattle.spec.specs.Disk.{Slice, slice_of}
use Rattle.spec.specs.Sound.{sound}
use Rattle.spec.specs.Map.{files_of}
use Rattle.spec.specs.declared.Phase.TheVariants.{Ready}
use Rattle.spec.specs.declared.Session.{Session}
use Rattle.spec.specs.Session.{opened, never_opened}
use Rattle.spec.specs.Answers.{Answer, done, is_refused}
use Rattle.spec.specs.Transaction.{State, state_of}
use Rattle.spec.specs.Calls.{Outcome, outcome, Call, Format, Open, Advance, step, left}
use Rattle.spec.specs.Plain.{Mode, Recovering, phase_in}
use Rattle.spec.specs.CutRule.{Event, call, cut, Both, advances, recovered, Survives, Starts, start_of}
use Rattle.laws.specs.Files.{crash-safe}
use Rattle.laws.specs.Starts.{opened-first, formatted-starts}
use Rattle.laws.proofs.Starts.{opened-starts}
use Rattle.laws.specs.CallRuns.{Held, held, state_in, Turn, turn, Act, called, was_cut, held_after, Run, events_of, fed, IsList, runs-are-lists, RunSurvives}

-- ---- the cut rule of a run, in its own bytes

-- n advances
abbrev advance_events : ℕ → List Event
advance_events n = replicate n (call Advance)

same_head : {A : Type 0} {x y : A} {xs ys : List A} → x ∷ xs ≡ y ∷ ys → (x ≡ y) × (xs ≡ ys)
same_head e = (cc, cc)

called_is : (t : Turn) (c : Call) → call t.asked ≡ call c → t.asked ≡ c
called_is t c e = cc

-- advances of a run are those of the list
advances-are : (n : ℕ) (h : Held) (acts : List Act) → Run h acts → events_of acts ≡ advance_events n → advances step n (state_in h) ≡ state_in (held_after h acts)
advances-are zero h [] r e = refl
advances-are zero h (a ∷ acts) r e = cc
advances-are (suc n) h [] r e = cc
advances-are (suc n) h (called t ∷ acts) r e =
    let q = same_head e in
    let a : t.asked ≡ Advance = called_is t Advance q.0 in
    let s : (step (state_in h) Advance).after ≡ state_in t.leaves = ap (λ (c : Call). (step (state_in h) c).after) (sym a) ∙ sym (ap (λ (o : Outcome). o.after) r.0) in
    ap (advances step n) s ∙ advances-are n t.leaves acts r.1 q.1
advances-are (suc n) h (was_cut w ∷ acts) r e = cc

recovery-is : (n : ℕ) (w : List ℕ) (h : Held) (bs : List Act) → Run h bs → events_of bs ≡ cut (slice_of w) ∷ call Open ∷ advance_events n
    → advances step n (step (record { session = never_opened; device = slice_of h.device; work = slice_of w }) Open).after ≡ state_in (held_after h bs)
recovery-is n w h [] r e = cc
recovery-is n w h (called t ∷ bs) r e = cc
recovery-is n w h (was_cut x ∷ []) r e = cc
recovery-is n w h (was_cut x ∷ was_cut y ∷ bs) r e = cc
recovery-is n w h (was_cut x ∷ called t ∷ bs) r e =
    let q = same_head e in
    let k = same_head q.1 in
    let c : slice_of x ≡ slice_of w = cc in
    let a : t.asked ≡ Open = called_is t Open k.0 in
    let s : (step (record { session = never_opened; device = slice_of h.device; work = slice_of w }) Open).after ≡ state_in t.leaves =
    ap (λ (z : Slice). (step (record { session = never_opened; device = slice_of h.device; work = z }) Open).after) (sym c)
    ∙ ap (λ (c : Call). (step (state_of never_opened h.device x) c).after) (sym a) ∙ sym (ap (λ (o : Outcome). o.after) r.0)
    in
    ap (advances step n) s ∙ advances-are n t.leaves bs r.1 k.1

-- every run from a start obeys the cut rule
pub run-survives : (N : ℕ) (h : Held) (acts : List Act) → Starts N (state_in h) → Run h acts → RunSurvives N h acts
run-survives N h acts start r =
    record {
      is-list = l;
      survives = v;
      opens = λ w. subst (λ (b : Both). step (record { session = never_opened; device = b.store.device; work = slice_of w }) Open
          ≡ outcome (record { session = opened N (phase_in (cond b.plain.pending Recovering Mode.Ready) 0); device = b.store.device; work = slice_of w }) done) l.ends (v.opens (slice_of w));
      recovers = λ w long bs run e.
          let p = fed N (start_of (state_in h)).plain acts in
          let at : recovered step N (start_of (state_in h)) (events_of acts) (slice_of w) ≡ state_in (held_after (held_after h acts) bs) =
          ap (λ (b : Both). advances step (cond b.plain.pending (b.plain.k + 1) 0) (step (record { session = never_opened; device = b.store.device; work = slice_of w }) Open).after) l.ends
          ∙ recovery-is (cond p.pending (p.k + 1) 0) w (held_after h acts) bs run e
          in (
            subst (λ (s : State). T (sound N s.device.block)) at (v.is-sound (slice_of w) long),
            λ name. ap (λ (s : State). files_of s.device.block name) (sym at) ∙ v.keeps (slice_of w) long name ∙ ap (λ (b : Both). b.plain.committed name) l.ends,
            subst (λ (s : State). step s Open ≡ outcome (record { session = opened N Ready; device = s.device; work = s.work }) done) at (v.opens-again (slice_of w) long),
          );
    }
  where
    l : IsList N (start_of (state_in h)).plain h acts
    l = runs-are-lists N (start_of (state_in h)).plain h acts r

    v : Survives step N (start_of (state_in h)) (events_of acts)
    v = crash-safe.survives N (state_in h) start (events_of acts)

-- "from a store formatted whole": format was not refused, and the run goes on with what it left
pub formatted-run : (s t : Session) (d e w : List ℕ) (a : Answer) → ((i : ℕ) → get_or e i 0 < 256) → is_refused a ≡ false → left t e w a ≡ step (state_of s d w) Format
    → (acts : List Act) → Run (held t e w) acts → RunSurvives (length e / block_size) (held t e w) acts
formatted-run s t d e w a small h p acts r = run-survives (length e / block_size) (held t e w) acts (formatted-starts s t d e w a small h p) r

-- "or opened as sound": open answered done and a ready session, whatever session it was given, and the run goes on with what it left
pub opened-run : (s t : Session) (d w : List ℕ) (a : Answer) → ((i : ℕ) → get_or d i 0 < 256) → a ≡ done → t.phase ≡ Ready → left t d w a ≡ step (state_of s d w) Open
    → (acts : List Act) → Run (held t d w) acts
    → RunSurvives (length d / block_size) (held never_opened d w) (called (turn Open a (held t d w) [] []) ∷ acts)
opened-run s t d w a small h k p acts r =
    run-survives (length d / block_size) (held never_opened d w) (called (turn Open a (held t d w) [] []) ∷ acts)
    (opened-starts s t d w a small h k p) (opened-first s t d w a small h k p, r)
