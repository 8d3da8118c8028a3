use Rattle.mirror.specs.Mirror.{finished_of}
use Rattle.spec.specs.Calls.{open_store}
use Rattle.capi.proofs.Kept.{open-still}
use Rattle.capi.proofs.Ends.{ends-settled}
use Rattle.capi.proofs.purse_open_v.Goals as goal

pub returns : goal.returns
returns c = λ w.
    let a = c.args in
    ends-settled open_store open-still a.numbers.now a.staged.now a.device.now w _ c.session_in-before.ensures finished_of _ _ w _ (c.open_store-after.ensures w) _ c.settled.ensures.0 _ _ c.settled.ensures.1 c.settled.ensures.2
