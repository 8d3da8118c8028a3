-- The layout of a device and the limits of the store, one name each.
-- Terms that differ from document 01's words: header = commit block, bitmap = bit table, inode = file record, node = extent block, log = log images.
use Rattle.std.specs.Prelude.{ℕ, ◌+◌, ◌*◌, ◌/◌, ◌≡◌, refl}

-- "N blocks of 512 bytes, N from 64 to 4,096"
abbrev pub block_size : ℕ
block_size = 512

abbrev pub fewest_blocks : ℕ
fewest_blocks = 64

abbrev pub most_blocks : ℕ
most_blocks = 4096

-- "Block 0, the commit block: 32 records of 16 bytes, no header."
abbrev pub header_block : ℕ
header_block = 0

abbrev pub log_length : ℕ
log_length = 32

abbrev pub log_record_size : ℕ
log_record_size = 16

-- "a lent work space of 16,384 bytes"
abbrev pub work_size : ℕ
work_size = 16384

-- "Block 33, the bit table"
abbrev pub bitmap_block : ℕ
bitmap_block = 33

-- "Blocks 34 to 41: 128 file records of 32 bytes, 16 to a block. Bytes 0 to 7 name"
abbrev pub inode_start : ℕ
inode_start = 34

abbrev pub inode_count : ℕ
inode_count = 128

abbrev pub inode_size : ℕ
inode_size = 32

abbrev pub inodes_per_block : ℕ
inodes_per_block = 16

abbrev pub name_size : ℕ
name_size = 8

-- "four slots", of 4 bytes each; "An extent block is 128 slots."
abbrev pub slot_size : ℕ
slot_size = 4

abbrev pub slots_per_inode : ℕ
slots_per_inode = 4

abbrev pub slots_per_node : ℕ
slots_per_node = 128

-- "Blocks 42 and up: data blocks and extent blocks."
abbrev pub data_start : ℕ
data_start = 42

-- "depth, 0 or 1"
abbrev pub max_depth : ℕ
max_depth = 1

-- "a file size of at most 1,048,576, and at most 512 extents in a file"
abbrev pub max_file_size : ℕ
max_file_size = 1048576

abbrev pub max_file_blocks : ℕ
max_file_blocks = 2048

abbrev pub max_extents : ℕ
max_extents = 512

-- ---- how they fit together

pub log-records : log_length * log_record_size ≡ block_size
log-records = refl

pub work-images : log_length * block_size ≡ work_size
work-images = refl

pub bitmap-bits : 8 * block_size ≡ most_blocks
bitmap-bits = refl

pub inode-records : inodes_per_block * inode_size ≡ block_size
inode-records = refl

pub inode-table : inode_start + inode_count / inodes_per_block ≡ data_start
inode-table = refl

pub node-slots : slots_per_node * slot_size ≡ block_size
node-slots = refl

pub file-blocks : max_file_blocks * block_size ≡ max_file_size
file-blocks = refl
