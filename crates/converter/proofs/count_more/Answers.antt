use Rattle.std.proofs.Common.{arith}
use Rattle.converter.proofs.Passes.{room-closed, room-over, room_fits}
use Rattle.converter.proofs.count_more.Goals as goal

pub returns-in_err-room-clause-more : goal.returns-in_err-room-clause-more
returns-in_err-room-clause-more c = room-closed _ _ _ _ c.in_err-room.was c.from_residual.ensures

pub returns-in_err-total-clause-more : goal.returns-in_err-total-clause-more
returns-in_err-total-clause-more c = room-over _ _ _ _ _ c.in_ok-room.was (omega (arith, c.in_err-total.ensures)) c.from_residual-in_err-total.ensures

pub returns-clause-more : goal.returns-clause-more
returns-clause-more c = room_fits _ _ _ _ _ _ c.in_ok-room.was c.in_ok-total.ensures.1 c.then_some.ensures
