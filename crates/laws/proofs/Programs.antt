-- "A program that meets our promises and still loses a purse": any store that has the cut rule, over bytes, leaves along a run of the code what the code left. Assumes nothing.
use Rattle.std.specs.Prelude.{ℕ, ◌≡◌, refl, List, [], ◌∷◌}
use Rattle.std.proofs.Common.{ap, ◌∙◌, subst}
use Rattle.spec.specs.Session.{never_opened}
use Rattle.spec.specs.Transaction.{State}
use Rattle.spec.specs.Calls.{Outcome, Call, step}
use Rattle.spec.specs.Plain.{Plain, after_cut, follow}
use Rattle.spec.specs.CutRule.{Both, after, Always, Starts, start_of, CutRule}
use Rattle.block.proofs.Laws.{block-length, block-small}
use Rattle.laws.specs.CallRuns.{Held, held, state_in, outcome_of, Act, called, was_cut, held_after, Run, events_of, runs-are-lists}
use Rattle.laws.specs.Determined.{leaves, left_along, OverBytes}
use Rattle.laws.proofs.Determined.{determined}
use Rattle.laws.specs.Programs.{AreBytes, RunOfBytes, left_by}

abbrev beside : State → Plain → Both
beside s p = record { store = s; plain = p }

held_bytes : (h : Held) (p : Plain) → AreBytes h.device × AreBytes h.work → OverBytes (beside (state_in h) p)
held_bytes h p z =
    record {
      device = record { whole = block-length h.device; bytes = λ n. block-small h.device n z.0 };
      work = record { whole = block-length h.work; bytes = λ n. block-small h.work n z.1 };
    }

-- so the code itself is over bytes
pub run-over-bytes : (N : ℕ) (p : Plain) (h : Held) (acts : List Act) → Run h acts → RunOfBytes h acts → Always step N OverBytes (beside (state_in h) p) (events_of acts)
run-over-bytes N p h [] r z = held_bytes h p z
run-over-bytes N p h (called t ∷ acts) r z = (
  held_bytes h p z.0,
  subst (λ (o : Outcome). Always step N OverBytes (beside o.after (follow N p t.asked o.answer)) (events_of acts)) r.0
      (run-over-bytes N (follow N p t.asked t.answer) t.leaves acts r.1 z.1),
)
run-over-bytes N p h (was_cut w ∷ acts) r z = (held_bytes h p z.0, run-over-bytes N (after_cut p) (held never_opened h.device w) acts r z.1)

left_by_lem : (N : ℕ) (p : Plain) (h : Held) (acts : List Act) → Run h acts → left_along step N (beside (state_in h) p) (events_of acts) ≡ left_by acts
left_by_lem N p h [] r = refl
left_by_lem N p h (called t ∷ acts) r =
    subst (λ (o : Outcome). leaves t.asked o ∷ left_along step N (beside o.after (follow N p t.asked o.answer)) (events_of acts) ≡ leaves t.asked (outcome_of t) ∷ left_by acts) r.0
    (ap (λ (os : List Outcome). leaves t.asked (outcome_of t) ∷ os) (left_by_lem N (follow N p t.asked t.answer) t.leaves acts r.1))
left_by_lem N p h (was_cut w ∷ acts) r = left_by_lem N (after_cut p) (held never_opened h.device w) acts r

-- given the same calls and cuts, any store that has the cut rule leaves after each call what the code left, and ends in the code's session and bytes
pub run-determined : (S : State → Call → Outcome) → CutRule S → (N : ℕ) (h : Held) → Starts N (state_in h) → (acts : List Act) → Run h acts
    → Always S N OverBytes (start_of (state_in h)) (events_of acts)
    → (left_along S N (start_of (state_in h)) (events_of acts) ≡ left_by acts) × ((after S N (start_of (state_in h)) (events_of acts)).store ≡ state_in (held_after h acts))
run-determined S rule N h start acts r z =
    let p = (start_of (state_in h)).plain in
    let d = determined S rule N (state_in h) start (events_of acts) z in
    (d.calls ∙ left_by_lem N p h acts r, ap (λ (b : Both). b.store) (d.ends ∙ (runs-are-lists N p h acts r).ends))
