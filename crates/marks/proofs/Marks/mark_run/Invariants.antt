use Prim.Native.Nat.{◌-◌, ◌*◌, min, max}
use Rattle.spec.specs.Bytes.{up_from}
use Rattle.marks.specs.Marks.{Kept}
use Rattle.marks.proofs.Marks.mark_run.Given as goal

-- the blocks before byte i of the tables are marked
abbrev pub invariant-loop-i : goal.invariant-loop-i
invariant-loop-i l = let b = min l.end (max l.from (8 * l.i)) in Kept l.device.blocks l.self (up_from b (l.end - b)) l.initial.self (up_from l.fn.first.0 l.count)
