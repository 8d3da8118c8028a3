use borrow.Author.Rules.{rules}
use Rattle.content.proofs.Record.{fields-room, joined_is}
use Rattle.content.proofs.joined.Goals as goal

pub slice_bounds-out-end-3 : goal.slice_bounds-out-end-3
slice_bounds-out-end-3 c = fields-room c.copy_from_slice.new.self c.copy_from_slice-2.new.self c.args.depth c.copy_from_slice.ensures.len (search rules)

pub returns : goal.returns
returns c = rw (c.copy_from_slice.ensures.after, c.copy_from_slice-2.ensures.after) (joined_is c.args.name c.args.size c.args.depth (search rules) (search rules) c.args.slots.now _ _ (search rules) (search rules) c.lay_slots.ensures)
