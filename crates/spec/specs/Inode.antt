-- Inodes (document 01: file records), their slots, and the tree of extents that an inode names, over any disk v.
use Rattle.std.specs.Prelude.{ℕ, zero, suc, ◌+◌, ◌*◌, ◌/◌, ◌%◌, min, Bool, cond, not, ◌&&◌, List, [], ◌∷◌, ◌++◌, map, length, take, drop, get_or, eqb, leb}
use Rattle.std.proofs.Math.Option.{Option}
use Rattle.spec.specs.Layout.{block_size, inode_start, inode_count, inode_size, inodes_per_block, name_size, slot_size, slots_per_inode, slots_per_node, max_depth, max_file_blocks}
use Rattle.spec.specs.Bytes.{part, number2, number4, bytes2, bytes4, exactly, same, all_zero, leading, concat, sum, up_from, lowest, quotient_up}
use Rattle.spec.specs.Disk.{Disk}
pub use Rattle.spec.specs.declared.Extent.{Extent}

-- ---- records and slots

-- "A slot is a block number (2 bytes) and a count (2 bytes)"
abbrev pub extent : ℕ → ℕ → Extent
extent b n = record { first = b; count = n }

-- n slots, one after the other
unfoldable pub slots_in : ℕ → List ℕ → List Extent
slots_in zero xs = []
slots_in (suc n) xs = extent (number2 0 xs) (number2 2 xs) ∷ slots_in n (drop slot_size xs)

-- "used slots come first": the leading ones that have a count
abbrev pub used : List Extent → List Extent
used slots = leading (λ e. not (eqb e.count 0)) slots

abbrev pub bytes_of_slots : List Extent → List ℕ
bytes_of_slots [] = []
bytes_of_slots (e ∷ es) = bytes2 e.first ++ (bytes2 e.count ++ bytes_of_slots es)

-- "Bytes 0 to 7 name; 8 to 11 size in bytes; 12 depth, 0 or 1; 13 to 15 zero; 16 to 31 four slots."
pub record Inode : Type 0 where
  pub name : List ℕ
  pub size : ℕ
  pub depth : ℕ
  pub slots : List Extent

unfoldable pub inode_of : List ℕ → Inode
inode_of xs = record { name = take name_size xs; size = number4 8 xs; depth = get_or xs 12 0; slots = slots_in slots_per_inode (drop 16 xs) }

unfoldable pub bytes_of_inode : Inode → List ℕ
bytes_of_inode n = n.name ++ (bytes4 n.size ++ (n.depth ∷ 0 ∷ 0 ∷ 0 ∷ exactly 16 (bytes_of_slots n.slots)))

-- "128 file records of 32 bytes, 16 to a block"
abbrev pub block_of_inode : ℕ → ℕ
block_of_inode i = inode_start + i / inodes_per_block

abbrev pub place_of_inode : ℕ → ℕ
place_of_inode i = inode_size * (i % inodes_per_block)

unfoldable pub inode_bytes : Disk → ℕ → List ℕ
inode_bytes v i = part (place_of_inode i) inode_size (v (block_of_inode i))

abbrev pub inode_at : Disk → ℕ → Inode
inode_at v i = inode_of (inode_bytes v i)

abbrev pub name_at : Disk → ℕ → List ℕ
name_at v i = take name_size (inode_bytes v i)

-- 3. "Name not 8 bytes, or all zero"
unfoldable pub is_name : List ℕ → Bool
is_name name = eqb (length name) name_size && not (all_zero name)

-- "all zero: record empty"
abbrev pub is_empty : Disk → ℕ → Bool
is_empty v i = all_zero (name_at v i)

-- the record with this name, and the lowest empty one
unfoldable pub find : Disk → List ℕ → Option ℕ
find v name = lowest 0 inode_count (λ i. same (name_at v i) name)

unfoldable pub find_empty : Disk → Option ℕ
find_empty v = lowest 0 inode_count (is_empty v)

-- ---- a tree as it stands on a disk

-- "An extent block is 128 slots."
unfoldable pub slots_at : Disk → ℕ → List Extent
slots_at v b = slots_in slots_per_node (v b)

-- one level down: the used slots of the nodes that some slots name
abbrev pub below : Disk → List Extent → List Extent
below v slots = concat (map (λ e. used (slots_at v e.first)) slots)

-- "At depth 0 a slot is an extent ... At depth 1 a slot names an extent block"
abbrev pub extents_below : Disk → ℕ → List Extent → List Extent
extents_below v zero slots = slots
extents_below v (suc d) slots = extents_below v d (below v slots)

-- the nodes of each level, the lowest level first
abbrev pub levels_below : Disk → ℕ → List Extent → List (List ℕ)
levels_below v zero slots = []
levels_below v (suc d) slots = levels_below v d (below v slots) ++ (map (λ e. e.first) slots ∷ [])

-- the depth to which a tree is read: on a device that is not sound a record may tell more than the deepest there is
abbrev pub tree_depth : Inode → ℕ
tree_depth n = min n.depth max_depth

unfoldable pub extents_of : Disk → Inode → List Extent
extents_of v n = extents_below v (tree_depth n) (used n.slots)

unfoldable pub levels_of : Disk → Inode → List (List ℕ)
levels_of v n = levels_below v (tree_depth n) (used n.slots)

abbrev pub nodes_of : Disk → Inode → List ℕ
nodes_of v n = concat (levels_of v n)

-- "a first block and how many follow on from there": the blocks of extents, one by one
unfoldable pub blocks_in : List Extent → List ℕ
blocks_in es = concat (map (λ e. up_from e.first e.count) es)

-- a file's data blocks in file order; no sound file has more than a file's most blocks
unfoldable pub data_of : Disk → Inode → List ℕ
data_of v n = take max_file_blocks (blocks_in (extents_of v n))

-- every block reached from record i, as data or extent block, and from all records
unfoldable pub reached_from : Disk → ℕ → List ℕ
reached_from v i = cond (is_empty v i) [] (data_of v (inode_at v i) ++ nodes_of v (inode_at v i))

unfoldable pub reached : Disk → List ℕ
reached v = concat (map (reached_from v) (up_from 0 inode_count))

-- ---- a tree as it is built

-- "A file of size s has s/512 blocks, rounded up."
abbrev pub blocks_for : ℕ → ℕ
blocks_for size = quotient_up size block_size

-- the extents of a list of blocks: its maximal runs
abbrev pub prepend : ℕ → List Extent → List Extent
prepend b [] = extent b 1 ∷ []
prepend b (e ∷ es) = cond (eqb e.first (suc b)) (extent b (suc e.count) ∷ es) (extent b 1 ∷ e ∷ es)

unfoldable pub runs : List ℕ → List Extent
runs [] = []
runs (b ∷ bs) = prepend b (runs bs)

-- "Extent blocks are one for each 128 extents begun, when there are more than 4.": how many on each level
abbrev pub level_sizes : ℕ → ℕ → List ℕ
level_sizes zero n = []
level_sizes (suc d) n = cond (leb n slots_per_inode) [] (quotient_up n slots_per_node ∷ level_sizes d (quotient_up n slots_per_node))

unfoldable pub levels_for : ℕ → List ℕ
levels_for extents = level_sizes max_depth extents

abbrev pub nodes_for : ℕ → ℕ
nodes_for extents = sum (levels_for extents)

abbrev pub counts : List Extent → ℕ
counts es = sum (map (λ e. e.count) es)

-- "At depth 1 a slot names an extent block and counts the data blocks below it": the slots that name a level's nodes
abbrev pub node_slots : List ℕ → List Extent → List Extent
node_slots [] es = []
node_slots (b ∷ bs) es = extent b (counts (take slots_per_node es)) ∷ node_slots bs (drop slots_per_node es)

-- the slots of the record, above all levels
abbrev pub top_slots : List (List ℕ) → List Extent → List Extent
top_slots [] es = es
top_slots (bs ∷ ls) es = top_slots ls (node_slots bs es)

-- the record of a file with these extents and these nodes
abbrev pub inode_with : List ℕ → ℕ → List Extent → List (List ℕ) → Inode
inode_with name size es levels = record { name = name; size = size; depth = length levels; slots = top_slots levels es }

-- the content of a node that holds some slots
abbrev pub node_bytes : List Extent → List ℕ
node_bytes slots = exactly block_size (bytes_of_slots slots)

-- opens what this module seals
unfoldable pub open-Inode : Unit {0}
unfolding slots_in inode_of bytes_of_inode inode_bytes is_name find find_empty slots_at extents_of levels_of blocks_in data_of reached_from reached runs levels_for
open-Inode = tt
