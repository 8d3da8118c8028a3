use Rattle.std.proofs.Common.{◌≡◌, refl, ap, ◌∙◌, Ok, Some, None, rules}
use Rattle.mirror.specs.Mirror.{numbers_of, head_of}
use Rattle.capi.proofs.Ends.{refused-is, stays, becomes}
use Rattle.capi.proofs.keep_behind.Goals as goal

pub returns-then-stored : goal.returns-then-stored
returns-then-stored c =
    let s = c.args.s in
    let a : c.args.answer ≡ Ok (Some c.in-Ok-Some.stored) = search rules in
    rw (a, c.if-stored.true) (becomes _ _ _ _ refl (c.keep.ensures ∙ ap (λ p. numbers_of (head_of s.blocks p 0)) c.last_phase.ensures), refl)

pub returns-else-stored : goal.returns-else-stored
returns-else-stored c =
    let s = c.args.s in
    let a : c.args.answer ≡ Ok (Some c.in-Ok-Some.stored) = search rules in
    rw (a, c.if-stored.false) (becomes _ _ _ _ refl (c.keep-else-stored.ensures ∙ ap (λ p. numbers_of (head_of s.blocks p s.count)) c.phase_at.ensures), refl)

pub returns-in-Ok-None : goal.returns-in-Ok-None
returns-in-Ok-None c =
    let a : c.args.answer ≡ Ok None = search rules in
    rw a (becomes _ _ _ _ refl c.keep-in-Ok-None.ensures, refl)

pub returns-in-Err : goal.returns-in-Err
returns-in-Err c = rw (c.in-Err.is) (stays _ _ _ (refused-is c.in-Err.field-0), refl)
