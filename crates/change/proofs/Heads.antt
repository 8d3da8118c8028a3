-- What a change stages depends on neither the number of blocks nor the phase: what is promised of the session that is lent holds of every session with its cells.
use Prim.Native.Nat.{ℕ}
use mathlib.Core.Path.{◌≡◌, refl, ap, ◌∙◌}
use mathlib.Core.Bool.{Bool, true, false}
use mathlib.Core.List.{List}
use lib.Dec.{leb}
use lib.ListN.{length}
use Rattle.spec.specs.declared.Phase.{Phase}
use Rattle.spec.specs.declared.Refusal.TheVariants.{TooManyStaged}
use Rattle.spec.specs.Answers.{Answer, done, accept, require, ◌>>=◌, ◌>>◌}
use Rattle.spec.specs.Transaction.{State, with_session, Staged, BlockStore, with_staging, stage_all}
use Rattle.spec.specs.Calls.{Outcome, outcome, settle, staging}
use Rattle.transaction.specs.Places.{session_of}

-- the same cells and the same count, with this number of blocks and this phase
abbrev pub with_head : ℕ → Phase → State → State
with_head N p s = with_session s (session_of N p s.session.staged s.session.count)

module _ (N : ℕ) (p : Phase) (s s' : State) where
  -- blocks staged
  pub staged-of-each : (t : Staged) → s' ≡ with_staging s t → with_head N p s' ≡ with_staging (with_head N p s) t
  unfolding Rattle.spec.specs.Session.with_staged
  staged-of-each t h = ap (with_head N p) h

  -- a call that stages, or refuses
  pub change-of-each : (a : Answer) (ws : List BlockStore) → outcome s' a ≡ settle (outcome s) (staging s ws)
      → outcome (with_head N p s') a ≡ settle (outcome (with_head N p s)) (staging (with_head N p s) ws)
  unfolding staging stage_all Rattle.spec.specs.Session.with_staged Rattle.spec.specs.Session.staged_in
  change-of-each a ws h = ap (λ (o : Outcome). outcome (with_head N p o.after) o.answer) h ∙ go (leb (length (stage_all s ws).blocks) 32)
    where
      go : (b : Bool) → (let o = settle (outcome s) (require b TooManyStaged >> accept (outcome (with_staging s (stage_all s ws)) done)) in outcome (with_head N p o.after) o.answer)
          ≡ settle (outcome (with_head N p s)) (require b TooManyStaged >> accept (outcome (with_staging (with_head N p s) (stage_all s ws)) done))
      go true = refl
      go false = refl
