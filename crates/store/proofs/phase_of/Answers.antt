use Rattle.std.specs.Prelude.{Ok, Err}
use borrow.Author.Rules.{rules}
use mathlib.Core.Path.{◌≡◌, sym, ap, ◌∙◌}
use lib.ListN.{length}
use Rattle.block.proofs.Laws.{allowed-says}
use Rattle.checks.proofs.Laws.{require-passed}
use Rattle.store.proofs.Laws.{require-refused, fault-at, no-fault, counted, open-device, open-header, open-log, open-damaged}
use Rattle.store.proofs.phase_of.Goals as goal

pub returns-in_err-require : goal.returns-in_err-require
returns-in_err-require c =
    let err : c.from_residual.result ≡ Err c.in_err-require.field-0.0 = search rules in
    let r = require-refused _ _ _ c.in_err-require.ensures in
    rw err (tt, λ s work. rw r.1 (open-device s c.args.device.now work (sym c.is_allowed.ensures ∙ r.0)))

pub returns-in-Some : goal.returns-in-Some
returns-in-Some c =
    let d = c.args.device.now in
    let e = sym c.is_allowed.ensures ∙ require-passed _ _ _ c.in_ok-require.ensures in
    (tt, λ s work. open-header s d work e _ (fault-at d _ e c.block_in-head.ensures _ _ _ c.header_fault.ensures c.in-Some.is))

pub returns-then-len-ne0 : goal.returns-then-len-ne0
returns-then-len-ne0 c =
    let d = c.args.device.now in
    let e = sym c.is_allowed.ensures ∙ require-passed _ _ _ c.in_ok-require.ensures in
    let n = counted d _ e c.block_in-head.ensures _ (c.len.ensures.0 ∙ ap length c.targets_in.ensures) in
    (λ s work. open-log s d work e (no-fault d _ e c.block_in-head.ensures _ _ c.header_fault.ensures c.in_default.is) (λ z. c.if-len-ne0.true (n ∙ z)), tt)

pub undamaged-requires : goal.undamaged-requires
undamaged-requires c =
    let e = sym c.is_allowed.ensures ∙ require-passed _ _ _ c.in_ok-require.ensures in
    (allowed-says _ e).high

pub returns-in_err-undamaged : goal.returns-in_err-undamaged
returns-in_err-undamaged c =
    let d = c.args.device.now in
    let e = sym c.is_allowed.ensures ∙ require-passed _ _ _ c.in_ok-require.ensures in
    let n = counted d _ e c.block_in-head.ensures _ (c.len.ensures.0 ∙ ap length c.targets_in.ensures) in
    let f = no-fault d _ e c.block_in-head.ensures _ _ c.header_fault.ensures c.in_default.is in
    let err : c.from_residual-in_err-undamaged.result ≡ Err c.in_err-undamaged.field-0.0 = search rules in
    let was : c.undamaged.result ≡ Err c.in_err-undamaged.field-0.0 = search rules in
    rw err (tt, λ s work. (open-damaged s d work e f (sym n ∙ c.if-len-ne0.false) _ (sym was ∙ c.undamaged.ensures)).1)

pub returns : goal.returns
returns c =
    let d = c.args.device.now in
    let e = sym c.is_allowed.ensures ∙ require-passed _ _ _ c.in_ok-require.ensures in
    let n = counted d _ e c.block_in-head.ensures _ (c.len.ensures.0 ∙ ap length c.targets_in.ensures) in
    let f = no-fault d _ e c.block_in-head.ensures _ _ c.header_fault.ensures c.in_default.is in
    let was : c.undamaged.result ≡ Ok c.in_ok-undamaged.field-0 = search rules in
    (λ s work. (open-damaged s d work e f (sym n ∙ c.if-len-ne0.false) _ (sym was ∙ c.undamaged.ensures)).0, tt)
