use mathlib.Core.Path.{◌∙◌}
use Prim.Native.Nat.{◌+◌}
use Rattle.std.proofs.lemmas.Result.{err_from_is_err_and}
use Rattle.lookup.proofs.Laws.{sized-bad, sized-fine}
use Rattle.lookup.proofs.look_up_sized.Goals as goal

pub returns-in_err-sized : goal.returns-in_err-sized
returns-in_err-sized c =
    let a = c.args in
    let p = err_from_is_err_and c.from_residual.result c.from_residual.ensures.1 in
    rw (p.1, p.2) (λ s q. sized-bad s a.name.now (a.x.0 + a.n) _ (c.in_err-sized.ensures s q.head))

pub returns : goal.returns
returns c = let a = c.args in
    λ s q. c.known.ensures s q ∙ sized-fine s a.name.now (a.x.0 + a.n) _ (c.in_ok-sized.ensures s q.head)
