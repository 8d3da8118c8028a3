use native.Mathlib.Omega.{arith}
use Rattle.content.proofs.Laws.{kept-place, kept-none}
use mathlib.Core.Path.{sym}
use Rattle.change.proofs.Outside.{outside-none, outside_kept}
use Rattle.change.proofs.Window.of.Goals as goal

pub overflow_add-k : goal.overflow_add-k
overflow_add-k c = omega (arith, kept-place _ _ _ c.in-Some.ensures, c.type_inv.rewrite)

pub returns-in-Some : goal.returns-in-Some
returns-in-Some c =
    let f = c.first_data-first.ensures in
    let k = kept-place _ _ _ c.in-Some.ensures in
    outside_kept _ _ _ _ _ _ _ (omega (arith, f.0, c.min.ensures)) (λ l. let z = f.1 l in omega (arith, c.min.ensures))
    (omega (arith, c.div_ceil-behind.ensures, c.max.ensures)) (omega (arith, k, c.min.ensures)) (omega (arith, k, c.max.ensures))

pub returns-in-None : goal.returns-in-None
returns-in-None c =
    let f = c.first_data-first.ensures in
    outside-none _ _ _ _ _ _ _ f.0 f.1 (omega (arith, c.div_ceil-behind.ensures)) (λ p. sym (kept-none _ _ p c.in-None.ensures))
