-- What the parts of the plan promise.
use Rattle.std.specs.Prelude.{ℕ, ◌+◌, ◌*◌, ◌-◌, ◌/◌, ◌<◌, ◌≤◌, ◌≡◌, List, ◌++◌, length, take, set}
use Rattle.spec.specs.Disk.{Disk}
use Rattle.spec.specs.Bitmap.{bits_of, free_bits, mark, pick, picks}
use Rattle.spec.specs.Inode.{inode_at, data_of, nodes_of, runs}
use Rattle.runs.specs.declared.ExtentList.{ExtentList}
use Rattle.runs.specs.Push.{Holds, Small}

-- the data blocks and the nodes of record i
abbrev pub data_at : Disk → ℕ → List ℕ
data_at v i = data_of v (inode_at v i)

abbrev pub nodes_at : Disk → ℕ → List ℕ
nodes_at v i = nodes_of v (inode_at v i)

-- b is the block to take, and the table after it is taken
pub record Picked (before after : List ℕ) (b : ℕ) : Type 0 where
  pub is : b ≡ pick (bits_of before)
  pub within : b < 4096
  pub bits : bits_of after ≡ set (bits_of before) b 1
  pub fewer : free_bits (bits_of after) + 1 ≡ free_bits (bits_of before)
  pub below : free_bits (take (64 * (b / 64)) (bits_of after)) ≡ 0

-- the extents of the first `wanted` of some blocks, and how many blocks they are
pub record KeptOf (blocks : List ℕ) (wanted : ℕ) (q : ExtentList) (n : ℕ) : Type 0 where
  pub holds : Holds q (runs (take wanted blocks))
  pub count : n ≡ length (take wanted blocks)
  pub few : n ≤ 2048
  pub small : Small q n

-- the bits of some blocks made 0, and how many blocks they are
pub record GaveBack (blocks before after : List ℕ) (n : ℕ) : Type 0 where
  pub many : n ≡ length blocks
  pub bits : bits_of after ≡ mark 0 blocks (bits_of before)

-- n picks behind m blocks kept
pub record TookData (before after : List ℕ) (kept : ExtentList) (m n : ℕ) (q : ExtentList) : Type 0 where
  pub bits : bits_of after ≡ mark 1 (picks (bits_of before) n) (bits_of before)
  pub free : free_bits (bits_of after) + n ≡ free_bits (bits_of before)
  pub holds : (blocks : List ℕ) → Holds kept (runs blocks) → Holds q (runs (blocks ++ picks (bits_of before) n))
  pub small : Small q (m + n)

pub record TookNodes (before after held : List ℕ) (wanted : ℕ) (q : List ℕ) : Type 0 where
  pub bits : bits_of after ≡ mark 1 (picks (bits_of before) (wanted - length held)) (bits_of before)
  pub nodes : q ≡ take wanted held ++ picks (bits_of before) (wanted - length held)
