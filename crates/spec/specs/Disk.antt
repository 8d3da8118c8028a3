-- The device. A disk takes each block number to the 512 bytes of that block.
use Rattle.std.specs.Prelude.{ℕ, ◌*◌, ◌/◌, ◌%◌, Bool, true, false, cond, ◌&&◌, List, length, drop, eqb, leb, ltb}
use Rattle.spec.specs.Layout.{block_size, fewest_blocks, most_blocks, bitmap_block, inode_start, data_start}
use Rattle.spec.specs.Bytes.{exactly}
pub use Rattle.spec.specs.declared.Area.{Area}
pub use Rattle.spec.specs.declared.Area.TheVariants.{Header, Log, Bitmap, Inodes, Data}
pub use Rattle.spec.specs.declared.DiskBlock.{DiskBlock}

-- a block number as the code tells it
abbrev pub disk_block : ℕ → DiskBlock
disk_block b = record { 0 = b }

abbrev pub Disk : Type 0
Disk = ℕ → List ℕ

-- a byte slice as a disk: zeros past the end
unfoldable pub blocks_of : List ℕ → Disk
blocks_of bytes b = exactly block_size (drop (block_size * b) bytes)

-- a disk with one block stored
abbrev pub with_block : ℕ → List ℕ → Disk → Disk
with_block b x d = λ c. cond (eqb c b) x (d c)

-- "The device is a lent byte slice of N blocks of 512 bytes": a lent slice is its length and its blocks. The work space is one too.
pub record Slice : Type 0 where
  pub size : ℕ
  pub block : Disk

abbrev pub slice_of : List ℕ → Slice
slice_of bytes = record { size = length bytes; block = blocks_of bytes }

-- "N blocks of 512 bytes, N from 64 to 4,096"
unfoldable pub is_allowed : ℕ → Bool
is_allowed size = eqb (size % block_size) 0 && leb fewest_blocks (size / block_size) && leb (size / block_size) most_blocks

-- "A block number's area decides its use: 0, 1 to 32, 33, 34 to 41, or 42 and up."
unfoldable pub area_of : ℕ → Area
area_of b =
    cond (ltb b 1) Header
    (cond (ltb b bitmap_block) Log
    (cond (ltb b inode_start) Bitmap
    (cond (ltb b data_start) Inodes Data)))

-- "data blocks and extent blocks" lie in the last area
abbrev pub is_data_area : Area → Bool
is_data_area Header = false
is_data_area Log = false
is_data_area Bitmap = false
is_data_area Inodes = false
is_data_area Data = true

-- "within 42 to N-1"
unfoldable pub in_data : ℕ → ℕ → Bool
in_data N b = is_data_area (area_of b) && ltb b N

-- log targets lie in the last three areas
abbrev pub is_target_area : Area → Bool
is_target_area Header = false
is_target_area Log = false
is_target_area Bitmap = true
is_target_area Inodes = true
is_target_area Data = true

-- within "33 to N-1"
unfoldable pub is_target : ℕ → ℕ → Bool
is_target N b = is_target_area (area_of b) && ltb b N

-- opens what this module seals
unfoldable pub open-Disk : Unit {0}
unfolding blocks_of is_allowed area_of in_data is_target
open-Disk = tt
