use mathlib.Core.Path.{sym, ap, ◌∙◌}
use native.Mathlib.Omega.{arith}
use Rattle.extents.specs.Pieces.{pieces_left}
use Rattle.extents.specs.Stretches.{held_count}
use Rattle.extents.specs.Runs.{runs_left}
use Rattle.extents.proofs.Laws.{piece-counts, piece-fits, first-held, count-held, run-begins, run-goes_on, run-ends, last-told, list-step}
use Rattle.extents.proofs.RunsIterator.next.Goals as goal

pub invariant_of-self : goal.invariant_of-self
invariant_of-self c =
    let s = c.loop-piece.self in
    let p = c.in-Some.ensures.steps in
    record {
      first = λ x h. omega (arith, first-held h, s.first _ c.in-Some-run.is);
      some = λ x h. omega (arith, count-held h, s.some _ c.in-Some-run.is);
      few = omega (arith, piece-counts _ _ _ p.rest, ap held_count c.in-Some-run.is, s.few);
    }

pub loop-piece-preserved-then-run-e : goal.loop-piece-preserved-then-run-e
loop-piece-preserved-then-run-e c =
    let s = c.loop-piece.self in
    c.loop-piece.invariant ∙ run-goes_on s.run (pieces_left s.pieces) _ _ c.in-Some.ensures.steps.rest _ c.in-Some-run.is c.if-run-e.true

pub invariant_of-self-in-Some-2 : goal.invariant_of-self-in-Some-2
invariant_of-self-in-Some-2 c =
    let p = c.in-Some.ensures.steps in
    let f = piece-fits c.loop-piece.self.run c.in-Some.piece _ _ p.rest p.some c.loop-piece.self.few in
    record { first = f.0; some = f.1.0; few = f.1.1 }

pub returns-in-Some-2-clause-steps : goal.returns-in-Some-2-clause-steps
returns-in-Some-2-clause-steps c =
    let s = c.loop-piece.self in
    let p = c.in-Some.ensures.steps in
    let r = sym c.in-Some-run.is ∙ c.in-Some-2.is in
    c.loop-piece.invariant
    ∙ run-ends s.run (pieces_left s.pieces) _ _ p.rest _ c.in-Some-2.is (s.some _ c.in-Some-2.is) p.some (λ z. c.if-run-e.false (omega (arith, z, first-held r, count-held r)))

pub returns-in-Some-2-clause-goes : goal.returns-in-Some-2-clause-goes
returns-in-Some-2-clause-goes c = list-step runs_left _ _ _ (returns-in-Some-2-clause-steps c)

pub invariant_of-self-in-None : goal.invariant_of-self-in-None
invariant_of-self-in-None c =
    let p = c.in-Some.ensures.steps in
    let f = piece-fits c.loop-piece.self.run c.in-Some.piece _ _ p.rest p.some c.loop-piece.self.few in
    record { first = f.0; some = f.1.0; few = f.1.1 }

pub loop-piece-preserved : goal.loop-piece-preserved
loop-piece-preserved c =
    let s = c.loop-piece.self in
    c.loop-piece.invariant ∙ run-begins s.run (pieces_left s.pieces) _ _ c.in-Some.ensures.steps.rest c.in-None.is

-- the last run, and none behind it
pub returns-clause-steps : goal.returns-clause-steps
returns-clause-steps c =
    let s = c.loop-piece.self in
    let n = c.in_default.ensures.steps in
    rw c.loop-piece.invariant (last-told s.run (pieces_left s.pieces) _ n.0 n.1 _ _ s.some c.take.ensures.value c.take.ensures.after)

pub returns-clause-goes : goal.returns-clause-goes
returns-clause-goes c = list-step runs_left _ _ _ (returns-clause-steps c)
