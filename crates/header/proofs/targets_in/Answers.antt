use Prim.Native.Nat.{◌≤◌}
use mathlib.Core.Path.{◌≡◌, refl, sym, ap, ◌∙◌}
use mathlib.Core.Bool.{not}
use native.Mathlib.Omega.{arith}
use lib.Dec.{eqb}
use lib.ListN.{length, take, length-take}
use Rattle.std.specs.List.{prefix_len}
use Rattle.lists.specs.Padded.{front-kept, front-padded, none-padded}
use Rattle.spec.specs.Bytes.{leading}
use Rattle.spec.specs.Journal.{target_at, targets_in}
use Rattle.block.proofs.Lists.{taken-leading}
use Rattle.header.specs.Header.{record_targets}
use Rattle.header.proofs.targets_in.Goals.{After-cells-3-1}
use Rattle.header.proofs.targets_in.Goals as goal

long : (c : After-cells-3-1) → length c.record_targets-cells.result ≡ 32
unfolding record_targets
long c = ap length c.record_targets-cells.ensures

few : (c : After-cells-3-1) → c.used-count.result ≤ 32
few c = omega (arith, c.used-count.ensures, long c, length-take (prefix_len (λ t. not (eqb t 0)) c.record_targets-cells.result) c.record_targets-cells.result)

-- an empty header lists none
pub returns-then-load2-eq0 : goal.returns-then-load2-eq0
unfolding targets_in record_targets
returns-then-load2-eq0 c = let e : target_at c.args.head.now 0 ≡ 0 = sym c.load2.ensures.0 ∙ c.if-load2-eq0.true in rw e refl

pub invariant_of-result : goal.invariant_of-result
invariant_of-result c = none-padded 32

pub returns : goal.returns
unfolding targets_in record_targets
returns c =
    let l = c.record_targets-cells.result in
    front-kept 32 l c.fill.new.self c.used-count.result (long c) (few c) (c.fill.ensures.after (λ y h. h))
    ∙ ap (λ n. take n l) c.used-count.ensures ∙ taken-leading (λ t. not (eqb t 0)) l
    ∙ ap (leading (λ t. not (eqb t 0))) c.record_targets-cells.ensures

pub invariant_of-result-2 : goal.invariant_of-result-2
invariant_of-result-2 c = front-padded 32 c.record_targets-cells.result c.fill.new.self c.used-count.result (long c) (few c) (c.fill.ensures.after (λ y h. h))
