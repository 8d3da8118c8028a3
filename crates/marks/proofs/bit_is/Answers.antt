use Prim.Native.Nat.{ℕ, ◌/◌, ◌%◌, ◌^◌}
use mathlib.Core.Path.{ap, ◌∙◌}
use lib.Dec.{eqb}
use Rattle.marks.proofs.Laws.{bit-read}
use Rattle.marks.proofs.bit_is.Goals as goal

pub returns : goal.returns
returns c =
    let b = c.args.b.0 in
    ap (λ (x : ℕ). eqb x 1) (ap (λ (x : ℕ). x / 2 ^ (b % 8) % 2) c.load.ensures.0 ∙ bit-read _ _ c.told-t)
