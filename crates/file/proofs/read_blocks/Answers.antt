use Prim.Native.Nat.{ℕ, ◌+◌, ◌-◌, ◌≤◌}
use mathlib.Core.Path.{◌≡◌, ap, ◌∙◌}
use mathlib.Core.List.{◌++◌}
use native.Mathlib.Omega.{arith}
use lib.ListN.{length, take, drop, length-take, length-drop}
use Rattle.spec.specs.Inode.{blocks_in}
use Rattle.transaction.specs.Volumes.{working}
use Rattle.transaction.proofs.Laws.{working-length}
use Rattle.extents.specs.declared.pieces.Pieces.{Pieces}
use Rattle.extents.specs.Pieces.{pieces_left}
use Rattle.file.specs.Bytes.{run_bytes, block_bytes}
use Rattle.file.proofs.Reading.{Under, under-start, under_next, under-end, under-full}
use Rattle.file.proofs.read_blocks.Goals.{After-copy_run}
use Rattle.file.proofs.read_blocks.Goals as goal

pub loop-run-init : goal.loop-run-init
loop-run-init c =
    let a = c.args in
    let v = working a.copy.now in
    under-start v (working-length a.copy.now) a.i.n a.x.0 a.to.now _ (omega arith)
    (ap (λ (p : Pieces). blocks_in (pieces_left p)) c.into_iter-run-iterator.ensures.into_iter_gives ∙ c.in_table-run-items.ensures)

pub copy_run-requires : goal.copy_run-requires
copy_run-requires c =
    let p = c.in-Some.ensures.steps in
    let u = c.loop-run.invariant in
    let to = c.loop-run.to in
    let done = c.loop-run.done in
    let n = c.min.result in
    let few : done + n ≤ length to = omega (arith, c.min.ensures, u.few, u.long) in
    let l : length (take (done + n - done) (drop done to)) ≡ n = simp (length-take, length-drop) (omega arith) in
    omega (arith, c.min.ensures, u.low, p.some)

-- the piece is in its place
next : (c : After-copy_run) → let a = c.args in let v = working a.copy.now in let to = c.loop-run.to in let done = c.loop-run.done in let n = c.min.result in
    Under v (take (length a.to.now) (drop a.x.0 (block_bytes v a.i.n))) a.to.now (take done to ++ (c.copy_run.new.to ++ drop (done + n - done) (drop done to))) (pieces_left c.next.new.self) 0 (done + n)
next c =
    let v = working c.args.copy.now in
    let u = c.loop-run.invariant in
    let p = c.in-Some.ensures.steps in
    let e = c.in-Some.run'.extent in
    let to = c.loop-run.to in
    let done = c.loop-run.done in
    let n = c.min.result in
    let few : done + n ≤ length to = omega (arith, c.min.ensures, u.few, u.long) in
    let k : done + n - done ≡ n = omega arith in
    let l : length (take (done + n - done) (drop done to)) ≡ n = simp (length-take, length-drop) (omega arith) in
    under_next v (working-length c.args.copy.now) _ c.args.to.now to _ c.loop-run.skip done u e _ n (done + n - done) _ p.rest p.some
    (omega (arith, c.min.ensures, u.long)) k (c.copy_run.ensures ∙ ap (λ (m : ℕ). take m (drop c.loop-run.skip (run_bytes v e.first e.count))) l)

pub returns-then-end-to : goal.returns-then-end-to
returns-then-end-to c = let v = working c.args.copy.now in
    under-full v (working-length c.args.copy.now) _ _ _ _ _ _ (next (goal.at.returns-then-end-to c).After-copy_run) (omega (arith, c.if-end-to.true, c.loop-run.invariant.long))

pub loop-run-preserved : goal.loop-run-preserved
loop-run-preserved c = next (goal.at.loop-run-preserved c).After-copy_run

pub returns : goal.returns
returns c = under-end (working c.args.copy.now) (working-length c.args.copy.now) _ c.args.to.now _ _ _ _ c.loop-run.invariant c.in-None.ensures.steps.0
