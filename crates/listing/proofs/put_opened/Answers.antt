use mathlib.Core.Logic.{inl, inr}
use Rattle.text.proofs.Laws.{put_none}
use Rattle.listing.proofs.put_opened.Goals as goal

pub returns-in-Closed : goal.returns-in-Closed
returns-in-Closed c = elim c.in-Closed.is [
  | inl e ↦ rw e (put_none _)
  | inr q ↦ rw q.1 (put_none _)
]
