-- The bytes of runs and files, for the contracts of this crate.
use Rattle.std.specs.Prelude.{ℕ, ◌≡◌, List, ◌++◌, map, length, drop}
use Rattle.spec.specs.Bytes.{concat, up_from}
use Rattle.spec.specs.Disk.{Disk}
use Rattle.spec.specs.Inode.{inode_at, data_of}

-- the bytes of so many blocks that follow each other on the device
unfoldable pub run_bytes : Disk → ℕ → ℕ → List ℕ
run_bytes v first count = concat (map v (up_from first count))

-- the bytes of record i's data blocks in file order
unfoldable pub block_bytes : Disk → ℕ → List ℕ
block_bytes v i = concat (map v (data_of v (inode_at v i)))

-- a buffer filled with some bytes, the rest of it unchanged, and how many they are
pub record Filled (got before after : List ℕ) (n : ℕ) : Type 0 where
  pub count : n ≡ length got
  pub bytes : after ≡ got ++ drop (length got) before
