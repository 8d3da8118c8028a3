use native.Mathlib.Omega.{arith}
use Prim.Native.Nat.{ℕ, ◌+◌, ◌*◌, ◌-◌}
use mathlib.Core.Path.{◌≡◌, refl, ap}
use Rattle.spec.specs.Bytes.{exactly}
use Rattle.inode.specs.declared.Cursor.{Cursor}
use Rattle.alloc.proofs.Laws.{gather-start, gather-room, gather-next, gather-last, gather_end, top-start, few-tops}
use Rattle.alloc.proofs.held_nodes.Goals as goal

pub loop-k-init : goal.loop-k-init
loop-k-init c = λ v e. gather-start v _ _ _ (c.start_at-cur.ensures v e) c.empty-nodes.ensures

pub overflow_mul-k : goal.overflow_mul-k
overflow_mul-k c = omega (arith, few-tops (λ (b : ℕ). exactly 512 c.args.table.now.bytes.now) c.args.i.n _ (c.start_at-cur.ensures _ refl), c.loop-k-test.true)

pub overflow_add-cur : goal.overflow_add-cur
overflow_add-cur c =
    let v = λ (b : ℕ). exactly 512 c.args.table.now.bytes.now in
    let e = c.start_at-cur.ensures v refl in
    omega (arith, few-tops v c.args.i.n _ e, c.loop-k-test.true, top-start v c.args.i.n, ap (λ (d : Cursor). d.top) e)

pub returns-then-not-is_live : goal.returns-then-not-is_live
returns-then-not-is_live c = λ v e. gather-last v _ _ _ _ _ (c.loop-k.invariant v e) _ e _ _ c.slot-e.ensures c.is_live.ensures c.if-not-is_live.true

pub push-requires : goal.push-requires
push-requires c =
    let v = λ (b : ℕ). exactly 512 c.args.table.now.bytes.now in
    gather-room v _ _ _ _ _ (c.loop-k.invariant v refl) _ refl _ _ c.slot-e.ensures c.is_live.ensures c.if-not-is_live.false

pub loop-k-preserved : goal.loop-k-preserved
loop-k-preserved c = λ v e.
    let top = c.start_at-cur.result.top in
    let tops = c.start_at-cur.result.tops in
    let k = c.loop-k.k in
    let y : top + 4 * (k + 1) ≡ top + 4 * k + 4 = omega arith in
    let z : tops - (k + 1) ≡ tops - k - 1 = omega arith in
    rw (y, z, c.push.ensures) (gather-next v _ _ _ _ _ (c.loop-k.invariant v e) _ e _ _ c.slot-e.ensures c.is_live.ensures c.if-not-is_live.false)

pub returns : goal.returns
returns c = λ v e. gather_end v _ _ _ _ _ (c.loop-k.invariant v e) (omega (arith, c.loop-k-test.false))
