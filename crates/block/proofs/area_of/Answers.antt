use native.Mathlib.Omega.{arith}
use Rattle.spec.specs.Disk.{area_of}
use Rattle.block.proofs.Steps.{area-log, area-inodes, area-data}
use Rattle.block.proofs.area_of.Goals as goal

pub returns-in-0 : goal.returns-in-0
unfolding area_of
returns-in-0 c = rw c.in-0.is

pub returns-in-33 : goal.returns-in-33
unfolding area_of
returns-in-33 c = rw c.in-33.is

pub returns-in-1-to-32 : goal.returns-in-1-to-32
returns-in-1-to-32 c = area-log _ (omega arith) (omega arith)

pub returns-in-34-to-41 : goal.returns-in-34-to-41
returns-in-34-to-41 c = area-inodes _ (omega arith) (omega arith)

pub returns-in_default : goal.returns-in_default
returns-in_default c = area-data _ (omega arith)
