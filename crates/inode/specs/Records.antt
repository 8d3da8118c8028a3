-- Records in a block of the table as code holds it: a lent slice, zeros past its end.
use Rattle.std.specs.Prelude.{ℕ, ◌-◌, Bool, true, false, List, take}
use Rattle.std.specs.Prelude.{Option as Returned, Some, None}
-- a record as the code tells it
pub use Rattle.block.specs.Places.{found_at as found_of}
use Rattle.spec.specs.Bytes.{exactly, part, same, lowest}
use Rattle.spec.specs.declared.Area.{Area}
use Rattle.spec.specs.declared.Area.TheVariants.{Header, Log, Bitmap, Inodes, Data}
use Rattle.spec.specs.Disk.{area_of}
use Rattle.spec.specs.Inode.{place_of_inode}
use Rattle.inode.specs.declared.number.InodeNumber.{InodeNumber}

-- n bytes from a place of the block
unfoldable pub bytes_in : List ℕ → ℕ → ℕ → List ℕ
bytes_in block at n = part at n (exactly 512 block)

-- record i, of the block that holds it
abbrev pub record_in : List ℕ → ℕ → List ℕ
record_in table i = bytes_in table (place_of_inode i) 32

-- whether record i has this name
unfoldable pub named : List ℕ → List ℕ → ℕ → Bool
named table name i = same (take 8 (record_in table i)) name

-- the lowest number from i up to n that passes
unfoldable pub lowest_to : ℕ → (ℕ → Bool) → ℕ → Returned ℕ
lowest_to n f i = found_of (lowest i (n - i) f)

-- the number of a record as the code tells it
abbrev pub number_told : Returned InodeNumber → Returned ℕ
number_told None = None
number_told (Some i) = Some i.n

-- file records lie in the fourth area
abbrev pub is_table_area : Area → Bool
is_table_area Header = false
is_table_area Log = false
is_table_area Bitmap = false
is_table_area Inodes = true
is_table_area Data = false

-- whether a block is one of the table
abbrev pub is_table : ℕ → Bool
is_table b = is_table_area (area_of b)
