use Rattle.mirror.specs.Mirror.{finished_of}
use Rattle.spec.specs.Calls.{abort}
use Rattle.capi.proofs.Kept.{abort-still}
use Rattle.capi.proofs.Ends.{ends-settled}
use Rattle.capi.proofs.purse_abort_v.Goals as goal

pub returns : goal.returns
returns c =
    let a = c.args in
    ends-settled abort abort-still a.numbers.now a.staged.now a.device.now a.work.now _ c.session_in-before.ensures finished_of _ _ a.work.now _ (c.abort-after.ensures) _ c.settled.ensures.0 _ _ c.settled.ensures.1 c.settled.ensures.2
