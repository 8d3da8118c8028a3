-- What is damaged, as the code tells it.
use Rattle.std.specs.Prelude.{ℕ, Bool, not, Result, Ok, Err}
use Rattle.std.proofs.Math.Option.{Option, none, some}
use Rattle.spec.specs.Disk.{Disk, disk_block}
use Rattle.spec.specs.Sound.{inode_sound}
use Rattle.spec.specs.declared.Refusal.{Refusal}
use Rattle.spec.specs.declared.Refusal.TheVariants.{DamagedInode, DamagedBlock}

-- the lowest record first, then the lowest block
abbrev pub damage_of : Option ℕ → Option ℕ → Result (Unit {0}) Refusal
damage_of (some i) b = Err (DamagedInode i)
damage_of none (some b) = Err (DamagedBlock (disk_block b))
damage_of none none = Ok tt

-- record i is not sound
unfoldable pub unsound : ℕ → Disk → ℕ → Bool
unsound N v i = not (inode_sound N v i)
