-- A2: which record refusal 22 of open names, and which block refusal 23, by S1 to S8 as propositions (proofs/Damage.antt).
use Rattle.std.specs.Prelude.{ℕ, ◌/◌, ◌≤◌, ◌<◌, ◌≡◌, true, false, ◌⊎◌, length}
use Rattle.std.proofs.Math.Option.{none}
use Rattle.spec.specs.Layout.{block_size, header_block, inode_count}
use Rattle.spec.specs.Bytes.{occurs, all_zero}
use Rattle.spec.specs.Disk.{Disk, is_allowed}
use Rattle.spec.specs.Inode.{inode_bytes, name_at, is_empty, reached}
use Rattle.spec.specs.Transaction.{State}
use Rattle.spec.specs.Journal.{targets_in, header_fault}
use Rattle.laws.specs.Soundness.{Inside, FileSound}
use Rattle.laws.specs.Volume.{bit, bit_count}

-- ---- the sentences

-- S2 to S6 and S8 of record i. S2: "Names differ pairwise": "for equal names it is the later one" that breaks it; "empty records are all zero"
pub record InodeSound (N : ℕ) (v : Disk) (i : ℕ) : Type 0 where
  pub empty : is_empty v i ≡ true → all_zero (inode_bytes v i) ≡ true
  pub name : is_empty v i ≡ false → (j : ℕ) → j < i → name_at v j ≡ name_at v i → ⊥
  pub file : is_empty v i ≡ false → FileSound N v (inode_bytes v i)

-- "If some record breaks S2 to S6 or S8 we want the lowest such record"
pub record LowestInode (N : ℕ) (v : Disk) (i : ℕ) : Type 0 where
  pub inside : i < inode_count
  pub damaged : InodeSound N v i → ⊥
  pub lower : (j : ℕ) → j < i → InodeSound N v j

-- S1 and S7: the blocks whose bit is to be 1: "Bits 0 to 41 and all bits from N up", and "its bit is 1 exactly when it is reached"
abbrev pub InUse : ℕ → Disk → ℕ → Type 0
InUse N v b = (Inside N b → ⊥) ⊎ (1 ≤ occurs b (reached v))

pub record BitRight (N : ℕ) (v : Disk) (b : ℕ) : Type 0 where
  pub one : InUse N v b → bit v b ≡ 1
  pub zero : (InUse N v b → ⊥) → bit v b ≡ 0

-- "whose bit is wrong or which is reached twice"
abbrev pub BlockDamaged : ℕ → Disk → ℕ → Type 0
BlockDamaged N v b = (BitRight N v b → ⊥) ⊎ (2 ≤ occurs b (reached v))

-- "If all records are fine but S1 or S7 fails, we want the lowest block whose bit is wrong or which is reached twice."
pub record LowestBlock (N : ℕ) (v : Disk) (b : ℕ) : Type 0 where
  pub inodes : (i : ℕ) → i < inode_count → InodeSound N v i
  pub inside : b < bit_count v
  pub damaged : BlockDamaged N v b
  pub lower : (c : ℕ) → c < b → BlockDamaged N v c → ⊥

-- a device of an allowed length whose header passes 10 and lists nothing: "both take the place of 11", "Block 0 empty but .."
pub record OpensEmpty (s : State) : Type 0 where
  pub length-allowed : is_allowed s.device.size ≡ true
  pub header : header_fault (s.device.size / block_size) (s.device.block header_block) ≡ none
  pub unlisted : length (targets_in (s.device.block header_block)) ≡ 0
