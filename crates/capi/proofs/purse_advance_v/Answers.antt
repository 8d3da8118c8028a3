use Rattle.spec.specs.Calls.{advance}
use Rattle.journal.specs.Entries.{behind}
use Rattle.transaction.specs.Places.{session_of}
use Rattle.checks.proofs.Laws.{seen-cells}
use Rattle.mirror.specs.Mirror.{advanced_of}
use Rattle.capi.proofs.Kept.{advance-still}
use Rattle.capi.proofs.Ends.{lent-session, ends_of}
use Rattle.capi.proofs.purse_advance_v.Goals as goal

pub returns : goal.returns
returns c =
    let a = c.args in
    let s = c.of-s.result in
    let r = c.advance_in-answer in
    let b = session_of s.blocks s.phase a.staged.now s.count in
    let n = seen-cells s.blocks s.phase a.staged.now s.count _ c.of-used.ensures in
    ends_of advance advance-still a.numbers.now a.staged.now a.device.now a.work.now b (lent-session _ a.numbers.now a.staged.now c.of-s.ensures) advanced_of
    (behind s.phase b r.result) _ a.work.now _ (r.ensures b n) _ c.advanced.ensures _ _ c.keep_behind.ensures.0 c.keep_behind.ensures.1
