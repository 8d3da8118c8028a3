use Rattle.std.proofs.Common.{ap}
use Rattle.spec.specs.declared.Session.{Session}
use Rattle.spec.specs.Transaction.{state_of}
use Rattle.spec.specs.Calls.{Outcome, read}
use Rattle.mirror.specs.Mirror.{head_in, decode}
use Rattle.mirror.proofs.Laws.{reads}
use Rattle.capi.proofs.Kept.{read-still}
use Rattle.capi.proofs.Ends.{lent-session}
use Rattle.capi.proofs.purse_read_v.Goals as goal

pub returns : goal.returns
returns c =
    let a = c.args in
    let q = lent-session _ a.numbers.now a.staged.now c.of-s.ensures in
    let k = read-still (state_of (decode (head_in a.numbers.now) a.staged.now) a.device.now a.work.now) a.name.now a.x a.buffer.now in
    reads (λ (x : Session). read (state_of x a.device.now a.work.now) a.name.now a.x a.buffer.now) _ (decode (head_in a.numbers.now) a.staged.now) q _
    (λ t. ap (λ (o : Outcome). o.buffer) (k.refusal t)) _ _ _ _ _ (c.read_in.ensures _ c.volume.ensures) _ c.counted.ensures
