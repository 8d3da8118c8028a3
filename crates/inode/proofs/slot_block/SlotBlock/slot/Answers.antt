use borrow.Author.Rules.{rules}
use mathlib.Core.Path.{◌≡◌}
use native.Mathlib.Omega.{arith}
use Rattle.spec.specs.Inode.{extent}
use Rattle.inode.proofs.Walk.{slot-past, slot-part, slot-cut}
use Rattle.inode.proofs.slot_block.SlotBlock.slot.Goals as goal

pub returns-then-block-at : goal.returns-then-block-at
returns-then-block-at c =
    let e : c.default.result ≡ extent 0 0 = search rules in
    rw e (slot-past c.args.self.now.bytes.now _ c.args.self.now.short (omega arith))

pub returns-in-Some : goal.returns-in-Some
returns-in-Some c = slot-part c.args.self.now.bytes.now _ c.args.self.now.short _ _ (omega arith) c.in-Some.ensures.cases.same c.slot_of.ensures

pub returns-in-None : goal.returns-in-None
returns-in-None c =
    slot-cut c.args.self.now.bytes.now _ c.args.self.now.short _ _ _ _ _ (omega arith) c.byte.ensures c.byte-in-None.ensures c.byte-in-None-2.ensures
    c.byte-in-None-3.ensures c.slot_of-in-None.ensures
