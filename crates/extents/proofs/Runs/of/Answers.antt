use Prim.Native.Nat.{ℕ}
use mathlib.Core.Path.{◌≡◌, ap, ◌∙◌}
use native.Mathlib.Omega.{arith}
use lib.ListN.{length}
use Rattle.transaction.specs.Volumes.{working}
use Rattle.extents.proofs.Laws.{begin-in}
use Rattle.extents.proofs.Runs.of.Goals as goal

pub behind-requires : goal.behind-requires
behind-requires c = let s = c.args.stretch in (λ e h. let z : ◌≡◌ {A = ℕ} 0 1 = cc in absurd (omega (arith, z)), omega (arith, (begin-in (working c.args.copy.now) s.i.n s.from.0 s.n _ c.of.ensures).few))

pub returns : goal.returns
returns c = let s = c.args.stretch in
    let b = begin-in (working c.args.copy.now) s.i.n s.from.0 s.n _ c.of.ensures in
    let r = c.behind.ensures ∙ b.runs in
    (r, omega (arith, b.some, ap length r))
