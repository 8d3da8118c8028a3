-- What a change does to a file and what it stages, from document 01's sentences alone: nothing here is shared with the calls but the layout of a device.
use Rattle.std.specs.Prelude.{ℕ, suc, ◌+◌, ◌*◌, ◌-◌, ◌/◌, ◌%◌, max, Bool, cond, not, ◌&&◌, ◌||◌, List, [], ◌∷◌, ◌++◌, length, take, drop, get_or, eqb, ltb}
use Rattle.std.specs.Bool.{beq}
use Rattle.std.proofs.Math.Option.{Option}
use Rattle.spec.specs.Layout.{block_size, bitmap_block, data_start, inode_start, inodes_per_block, name_size, slots_per_inode, slots_per_node}
use Rattle.spec.specs.Bytes.{any, keep, member, up_from, same, zeros, exactly, quotient_up}
use Rattle.spec.specs.Disk.{Disk}
use Rattle.spec.specs.Inode.{inode_at, name_at, find, find_empty, data_of, nodes_of, reached, runs, bytes_of_slots}
use Rattle.spec.specs.Calls.{Change, Create, Remove, Rename, Write, SetSize}

-- ---- files

-- a file as its record and tree tell it: name, size, data blocks in file order, extent blocks in order
pub record File : Type 0 where
  pub name : List ℕ
  pub size : ℕ
  pub blocks : List ℕ
  pub nodes : List ℕ

abbrev pub file_at : Disk → ℕ → File
file_at v i = record { name = name_at v i; size = (inode_at v i).size; blocks = data_of v (inode_at v i); nodes = nodes_of v (inode_at v i) }

-- an empty record
abbrev pub no_file : File
no_file = record { name = zeros name_size; size = 0; blocks = []; nodes = [] }

-- "Create takes the lowest empty record"; any other change is about the record with the file's name
abbrev pub record_for : Disk → Change → Option ℕ
record_for v (Create name) = find_empty v
record_for v (Remove name) = find v name
record_for v (Rename name new) = find v name
record_for v (Write name x bytes) = find v name
record_for v (SetSize name size) = find v name

-- "the size becomes the larger of the old size and x plus the data length"; for refusals 16 and 17 the other calls want no more than is held
abbrev pub size_for : ℕ → Change → ℕ
size_for old (Create name) = old
size_for old (Remove name) = old
size_for old (Rename name new) = old
size_for old (Write name x bytes) = max old (x + length bytes)
size_for old (SetSize name size) = size

-- ---- blocks

-- the numbers from 42 to N-1 that no file reaches, ascending
abbrev pub free_list : ℕ → Disk → List ℕ
free_list N v = keep (λ b. not (member b (reached v))) (up_from data_start (N - data_start))

-- "A file of size s has s/512 blocks, rounded up.": "Data blocks .. wanted beyond those held"
abbrev pub more_blocks : File → ℕ → ℕ
more_blocks f size = quotient_up size block_size - length f.blocks

-- the data blocks then: those held, or their front, and behind them the first free ones
abbrev pub blocks_then : ℕ → Disk → File → ℕ → List ℕ
blocks_then N v f size = take (quotient_up size block_size) f.blocks ++ take (more_blocks f size) (free_list N v)

-- extents: one, and one more at each block that does not follow on from the one before it
abbrev pub breaks : ℕ → List ℕ → ℕ
breaks a [] = 0
breaks a (b ∷ bs) = cond (eqb b (suc a)) 0 1 + breaks b bs

abbrev pub extent_count : List ℕ → ℕ
extent_count [] = 0
extent_count (b ∷ bs) = 1 + breaks b bs

-- "Extent blocks are one for each 128 extents begun, when there are more than 4."
abbrev pub nodes_wanted : ℕ → ℕ
nodes_wanted extents = cond (ltb slots_per_inode extents) (quotient_up extents slots_per_node) 0

abbrev pub more_nodes : ℕ → Disk → File → ℕ → ℕ
more_nodes N v f size = nodes_wanted (extent_count (blocks_then N v f size)) - length f.nodes

-- "then extent blocks likewise": the free ones behind those taken for data
abbrev pub nodes_then : ℕ → Disk → File → ℕ → List ℕ
nodes_then N v f size =
    take (nodes_wanted (extent_count (blocks_then N v f size))) f.nodes
    ++ take (more_nodes N v f size) (drop (more_blocks f size) (free_list N v))

-- ---- the file after the call

abbrev pub sized_to : ℕ → Disk → File → ℕ → File
sized_to N v f size = record { name = f.name; size = size; blocks = blocks_then N v f size; nodes = nodes_then N v f size }

abbrev pub file_then : ℕ → Disk → File → Change → File
file_then N v f (Create name) = record { name = name; size = 0; blocks = []; nodes = [] }
file_then N v f (Remove name) = no_file
file_then N v f (Rename name new) = record { name = new; size = f.size; blocks = f.blocks; nodes = f.nodes }
file_then N v f (Write name x bytes) = sized_to N v f (max f.size (x + length bytes))
file_then N v f (SetSize name size) = sized_to N v f size

-- ---- "A call stages": f is the file before, g the file after

-- the byte places of the data
abbrev pub data_places : Change → List ℕ
data_places (Create name) = []
data_places (Remove name) = []
data_places (Rename name new) = []
data_places (Write name x bytes) = up_from x (length bytes)
data_places (SetSize name size) = []

-- "each data block holding a byte of the data": the byte at place q is in the block at place q / 512
abbrev pub holds_byte : File → Change → ℕ → Bool
holds_byte g c b = any (λ q. eqb (get_or g.blocks (q / block_size) 0) b) (data_places c)

-- "each new data or extent block"
abbrev pub reaches : File → ℕ → Bool
reaches f b = member b f.blocks || member b f.nodes

abbrev pub is_new : File → File → ℕ → Bool
is_new f g b = reaches g b && not (reaches f b)

-- "each extent block whose content changes": the one at place j holds the extents from 128 j on, as 128 slots
abbrev pub node_content : File → ℕ → List ℕ
node_content g j = exactly block_size (bytes_of_slots (take slots_per_node (drop (slots_per_node * j) (runs g.blocks))))

abbrev pub node_changes : Disk → File → ℕ → Bool
node_changes v g b = any (λ j. eqb (get_or g.nodes j 0) b && not (same (node_content g j) (v b))) (up_from 0 (length g.nodes))

-- "block 33 when a bit changes": a block from 42 to N-1 is reached before and not after, or after and not before
abbrev pub bit_changes : ℕ → File → File → Bool
bit_changes N f g = any (λ b. not (beq (reaches f b) (reaches g b))) (up_from data_start (N - data_start))

-- "the record's block when the record changes": the name, the size, or the blocks that its slots tell
abbrev pub record_changes : File → File → Bool
record_changes f g =
    not (same f.name g.name && eqb f.size g.size && same f.blocks g.blocks && same f.nodes g.nodes)

-- "on shortening to a size not divisible by 512, the last kept block"; a removed file keeps none
abbrev pub shortens : File → File → ℕ → Bool
shortens f g b = ltb g.size f.size && not (eqb (g.size % block_size) 0) && eqb (get_or g.blocks (g.size / block_size) 0) b

unfoldable pub call_stages : ℕ → Disk → ℕ → Change → ℕ → Bool
call_stages N v i c b =
    let f = file_at v i in
    let g = file_then N v f c in
    holds_byte g c b
    || is_new f g b
    || node_changes v g b
    || eqb b bitmap_block && bit_changes N f g
    || eqb b (inode_start + i / inodes_per_block) && record_changes f g
    || shortens f g b

-- the blocks from 33 to N-1 that the call stages, ascending
abbrev pub staged_by : ℕ → Disk → ℕ → Change → List ℕ
staged_by N v i c = keep (call_stages N v i c) (up_from bitmap_block (N - bitmap_block))

-- opens what this module seals
unfoldable pub open-Sentences : Unit {0}
unfolding call_stages
open-Sentences = tt
