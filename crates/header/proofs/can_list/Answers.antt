use Rattle.header.proofs.Ends.{can-list-other}
use Rattle.header.proofs.can_list.Goals as goal

pub returns : goal.returns
returns c = can-list-other _ _ _ _ _ c.is_ascending.ensures c.if-is_ascending.false c.are_inside.ensures c.is_distinct.ensures
