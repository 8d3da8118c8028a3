use mathlib.Core.Path.{sym, ◌∙◌}
use Rattle.bitmap.proofs.Laws.{next-free}
use Rattle.alloc.proofs.Laws.{picked, some-free}
use Rattle.alloc.proofs.pick.Goals as goal

pub unwrap-b-requires : goal.unwrap-b-requires
unwrap-b-requires c = some-free c.args.t.now.bytes _ c.requires.1 c.lowest_free_from.ensures

pub set-requires : goal.set-requires
set-requires c = (next-free _ _ c.args.t.now.whole (sym c.unwrap-b.ensures ∙ c.lowest_free_from.ensures)).within

pub returns : goal.returns
returns c = picked _ _ _ c.args.t.now.whole (sym c.unwrap-b.ensures ∙ c.lowest_free_from.ensures) c.set.ensures
