use Rattle.std.proofs.Common.{refl, ap}
use lib.ListN.{length}
use Rattle.spec.specs.Calls.{commit}
use Rattle.spec.specs.Session.{in_phase}
use Rattle.journal.specs.Entries.{begun_phase}
use Rattle.transaction.specs.Places.{session_of}
use Rattle.mirror.specs.Mirror.{committed_of}
use Rattle.capi.proofs.Kept.{commit-still}
use Rattle.capi.proofs.Ends.{lent-session, ends_of}
use Rattle.capi.proofs.purse_commit_v.Goals as goal

pub returns : goal.returns
returns c =
    let a = c.args in
    let s = c.of-s.result in
    let b = session_of s.blocks s.phase a.staged.now s.count in
    ends_of commit commit-still a.numbers.now a.staged.now a.device.now a.work.now b (lent-session _ a.numbers.now a.staged.now c.of-s.ensures) committed_of
    (in_phase b (begun_phase s.phase c.commit_in-answer.result)) a.device.now a.work.now _
    (c.commit_in-answer.ensures _ c.volume.ensures.head (ap length c.volume.ensures.numbers)) _ c.begun.ensures.0 _ _
    c.begun.ensures.1 refl
