-- Each moment and each call of a list is as the cut rule says.
use Rattle.std.specs.Prelude.{ℕ, ◌≡◌, Bool, cond, List, [], ◌∷◌}
use Rattle.std.proofs.Common.{sym, ap, ◌∙◌, subst, true≢false}
use Rattle.std.proofs.Math.Option.{map}
use Rattle.spec.proofs.Refusals.{refused-is}
use Rattle.spec.specs.Answers.{refusal_of, is_refused}
use Rattle.spec.specs.Calls.{Outcome, Call, step}
use Rattle.spec.specs.Plain.{accepted, follow}
use Rattle.spec.specs.CutRule.{Event, call, cut, Both, refusal_in, Moment, Always, Each, next, after, Rightly}
use Rattle.crash.specs.Interface.{FilesOn}
use Rattle.crash.specs.Tests.{keeping, turned_down, taken}
use Rattle.crash.specs.Invariant.{Inv}
use Rattle.crash.specs.Steps.{Goes}
use Rattle.crash.proofs.Steps.{goes}
use Rattle.crash.specs.Moments.{refusal-in, accepted-is, seen, moment, inv-cut}

module _ {N : ℕ} (F : FilesOn N) where
  -- ---- a call

  rightly : (b : Both) (c : Call) → Goes F b c → Rightly step N b c
  rightly b c (turned_down r d e) =
      let a : (step b.store c).answer ≡ refusal_of r = ap (λ (o : Outcome). o.answer) e in
      record {
        refused = ap refusal_in a ∙ refusal-in r ∙ sym (ap (map refusal_of) d);
        kept = λ h. e ∙ ap (keeping b.store c) (sym a);
        accepted = λ h. absurd (true≢false (sym (ap is_refused a ∙ refused-is r) ∙ h));
      }
  rightly b c (taken d k) =
      record {
        refused = accepted-is (step b.store c).answer k.answer ∙ sym (ap (map refusal_of) d);
        kept = λ h. absurd (true≢false (sym h ∙ k.answer));
        accepted = λ h. k.accepts;
      }

  inv-call : (b : Both) (c : Call) → Inv F b.store b.plain → Goes F b c → Inv F (next step N b (call c)).store (next step N b (call c)).plain
  inv-call b c i (turned_down r d e) =
      subst (λ (o : Outcome). Inv F o.after (follow N b.plain c o.answer)) (sym e)
      (subst (λ (t : Bool). Inv F b.store (cond t b.plain (accepted N b.plain c (refusal_of r)))) (sym (refused-is r)) i)
  inv-call b c i (taken d k) =
      subst (λ (t : Bool). Inv F (step b.store c).after (cond t b.plain (accepted N b.plain c (step b.store c).answer))) (sym k.answer) k.inv

  inv-next : (b : Both) (e : Event) → Inv F b.store b.plain → Inv F (next step N b e).store (next step N b e).plain
  inv-next b (call c) i = inv-call b c i (goes F c b.store b.plain i)
  inv-next b (cut w) i = inv-cut F b w (seen F b.store b.plain i)

  -- ---- a list

  pub moments : (es : List Event) (b : Both) → Inv F b.store b.plain → Always step N (Moment N) b es
  moments [] b i = moment F b.store b.plain (seen F b.store b.plain i)
  moments (e ∷ es) b i = (moment F b.store b.plain (seen F b.store b.plain i), moments es (next step N b e) (inv-next b e i))

  pub calls : (es : List Event) (b : Both) → Inv F b.store b.plain → Each step N (Rightly step N) b es
  calls [] b i = tt
  calls (call c ∷ es) b i = (rightly b c (goes F c b.store b.plain i), calls es (next step N b (call c)) (inv-next b (call c) i))
  calls (cut w ∷ es) b i = calls es (next step N b (cut w)) (inv-next b (cut w) i)

  pub inv-after : (es : List Event) (b : Both) → Inv F b.store b.plain → Inv F (after step N b es).store (after step N b es).plain
  inv-after [] b i = i
  inv-after (e ∷ es) b i = inv-after es (next step N b e) (inv-next b e i)
