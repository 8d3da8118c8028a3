-- What a read sees of a volume, for the contracts of this crate and of those above.
use Rattle.std.specs.Prelude.{◌≡◌}
use Rattle.spec.specs.Disk.{Disk, slice_of}
use Rattle.spec.specs.Session.{staged_in}
use Rattle.spec.specs.Transaction.{State}
use Rattle.transaction.specs.declared.working_copy.WorkingCopy.{WorkingCopy}
use Rattle.transaction.specs.declared.volume.Volume.{Volume}
use Rattle.transaction.specs.Places.{view_in}

-- its blocks
abbrev pub working : WorkingCopy → Disk
working c = view_in c.staged.list.now c.device.now c.work.now

-- all of a state but the numbers of its staged blocks, which the tests of a call do not read
pub record Heads (v : Volume) (s : State) : Type 0 where
  pub size : s.session.blocks ≡ v.blocks
  pub at-phase : s.session.phase ≡ v.phase
  pub device : s.device ≡ slice_of v.copy.device.now
  pub work : s.work ≡ slice_of v.copy.work.now

-- what a call sees that only reads is all that it reads of this state
pub record Shows (v : Volume) (s : State) : Type 0 where
  pub head : Heads v s
  pub numbers : staged_in s.session ≡ v.copy.staged.list.now
