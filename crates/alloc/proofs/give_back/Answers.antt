use mathlib.Core.Path.{ap, ◌∙◌}
use Rattle.spec.specs.Inode.{blocks_in}
use Rattle.extents.specs.declared.pieces.Pieces.{Pieces}
use Rattle.extents.specs.Pieces.{pieces_left}
use Rattle.transaction.specs.Volumes.{working}
use Rattle.alloc.proofs.Laws.{pass-start, pass-more, mark-none, back_none, back_more, back_end}
use Rattle.alloc.proofs.give_back.Goals as goal

pub returns-then-kept-from : goal.returns-then-kept-from
returns-then-kept-from c = back_none _ _ _ c.requires c.if-kept-from.true _

pub loop-e-init : goal.loop-e-init
loop-e-init c =
    record {
      passed = pass-start (working c.args.copy.now) c.args.i.n c.args.from.0 2048 _ (ap (λ (p : Pieces). blocks_in (pieces_left p)) c.into_iter-e-iterator.ensures.into_iter_gives ∙ c.of-e-items.ensures);
      given = mark-none 0 _;
    }

pub loop-e-preserved : goal.loop-e-preserved
loop-e-preserved c =
    let i = c.loop-e.invariant in
    let p = c.in-Some.ensures.steps in
    record { passed = pass-more _ _ _ i.passed _ _ p.rest; given = back_more _ _ _ i.passed _ _ p.rest _ _ _ i.given c.clear_run.ensures }

pub returns : goal.returns
returns c = back_end _ c.args.i.n c.args.from.0 _ _ c.loop-e.invariant.passed c.in-None.ensures.steps.0 c.args.t.now.bytes _ c.loop-e.invariant.given
