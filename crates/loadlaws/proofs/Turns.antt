-- One step of a load while its commit is under way. Assumes nothing.
use Rattle.std.specs.Prelude.{ℕ, ◌+◌, ◌≡◌, Bool, cond, List, map}
use Rattle.std.proofs.Common.{sym, ◌∙◌, subst}
use Rattle.std.proofs.Math.Path.{ap}
use Rattle.spec.specs.declared.Phase.TheVariants as phases
use Rattle.spec.specs.declared.Session.{Session}
use Rattle.spec.specs.Map.{Files}
use Rattle.spec.specs.Session.{with_staged}
use Rattle.spec.specs.Transaction.{State}
use Rattle.spec.specs.Calls.{lent_ok, advance}
use Rattle.spec.specs.Plain.{Plain, Committing, plain, phase_of, after_commit_store, after_advance}
use Rattle.spec.specs.CutRule.{call, Both}
use Rattle.cardfile.specs.Lines.{standing}
use Rattle.loader.specs.Load.{LoadOutcome, advancing, load_in, load_step}
use Rattle.promises.specs.Reached.{Reached, reached-after, moment-of}
use Rattle.promises.specs.Advance.{advance-goes, advance-advanced}
use Rattle.loadlaws.specs.Lists.{step_calls, follow_load, load, load_next}
use Rattle.loadlaws.proofs.Lists.{step_is, advance-follows}
use Rattle.loadlaws.specs.Maps.{Goes}

-- ---- a load beside the plain store

pub reached-load : (N : ℕ) (b : Both) (text : List ℕ) (p : ℕ) → Reached N b → Reached N (load_next N b (load text p))
reached-load N b text p r = subst (Reached N) (sym (step_is N b text p)) (reached-after N b (map call (step_calls b.store text p)) r)

pub phase-at : (N : ℕ) (b : Both) → Reached N b → b.store.session.phase ≡ phase_of b.plain
unfolding with_staged
phase-at N b r = ap (λ (n : Session). n.phase) (moment-of N b r).session

-- while a commit is under way a step is an advance
pub committing-step : (s : State) (text : List ℕ) (p d : ℕ) → s.session.phase ≡ phases.Committing d → load_step s text p ≡ advancing p (advance s)
unfolding load_step load_in
committing-step s text p d h = rw h

module _ (N : ℕ) (b : Both) (text : List ℕ) (p : ℕ) (c w : Files) (k d : ℕ) (o : Bool) (B : ℕ) where
  -- one step of a load while its commit is under way
  pub turn : Goes N b (plain c w Committing k d o B) → Goes N (load_next N b (load text p)) (after_commit_store (plain c w Committing k d o B) (d + 1))
  turn g =
      let f : b.store.session.phase ≡ phases.Committing d = phase-at N b g.reached ∙ ap phase_of g.is in
      let l = committing-step b.store text p d f in
      let a = advance-goes b.store g.lent.0 g.lent.1 in
      record {
        reached = reached-load N b text p g.reached;
        lent = (g.lent.0, ap (λ (x : LoadOutcome). lent_ok x.after) l ∙ a.1);
        is = ap (λ (x : LoadOutcome). follow_load b.plain (standing text p) x.answer) l ∙ sym (advance-follows N b.plain (standing text p) (advance b.store).answer (advance-advanced b.store)) ∙ ap (λ (t : Bool). cond t b.plain (after_advance b.plain b.plain.mode)) a.0 ∙ ap (λ (x : Plain). after_advance x x.mode) g.is;
      }
