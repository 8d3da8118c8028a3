-- A sound device: S1 to S8, one test for each record and one for each block.
use Rattle.std.specs.Prelude.{ℕ, zero, suc, ◌+◌, ◌-◌, ◌/◌, ◌%◌, Bool, true, false, cond, not, ◌&&◌, List, [], ◌∷◌, length, take, drop, get_or, eqb, leb, ltb}
use Rattle.std.specs.Bool.{beq}
use Rattle.std.proofs.Math.Option.{Option, none, some}
use Rattle.spec.specs.Layout.{block_size, header_block, bitmap_block, inode_count, slots_per_inode, slots_per_node, data_start, max_depth, max_file_size}
use Rattle.spec.specs.Bytes.{found, part, all_zero, all, occurs, lowest, is_some}
use Rattle.spec.specs.Disk.{Disk, in_data}
use Rattle.spec.specs.Bitmap.{bits_of}
use Rattle.spec.specs.Inode.{Extent, Inode, inode_of, inode_bytes, name_at, is_empty, find, used, slots_at, below, tree_depth, extents_of, levels_of, nodes_of, data_of, reached, blocks_for, nodes_for, counts}

-- S2. "Names differ pairwise": no record before i has the name of i
abbrev pub first_of_name : Disk → ℕ → Bool
first_of_name v i = found (find v (name_at v i)) false (λ j. eqb j i)

-- S3. "Size and depth are within their limits, bytes 13 to 15 zero."
abbrev pub limits_hold : List ℕ → Bool
limits_hold bytes = leb (inode_of bytes).size max_file_size && leb (inode_of bytes).depth max_depth && all_zero (part 13 3 bytes)

-- S4. "Used slots come first and have a count of at least 1; the others are zero."
abbrev pub slots_packed : List Extent → Bool
slots_packed slots = all (λ e. eqb e.first 0 && eqb e.count 0) (drop (length (used slots)) slots)

-- S4. "Extents and extent blocks stay within 42 to N-1."
abbrev pub extent_inside : ℕ → Extent → Bool
extent_inside N e = in_data N e.first && in_data N (e.first + (e.count - 1))

-- S5. "Counts at each level add up to the counts above": each slot and the node it names, level by level
abbrev pub counts_agree : Disk → ℕ → List Extent → Bool
counts_agree v zero slots = true
counts_agree v (suc d) slots = all (λ e. eqb e.count (counts (used (slots_at v e.first)))) slots && counts_agree v d (below v slots)

-- S6. "No extent begins where the one before it ends."
abbrev pub apart : List Extent → Bool
apart [] = true
apart (e ∷ []) = true
apart (e ∷ f ∷ es) = not (eqb f.first (e.first + e.count)) && apart (f ∷ es)

-- S6. "extent blocks are then packed, 128 to each but the last"
abbrev pub level_packed : Disk → List ℕ → Bool
level_packed v nodes = all (λ b. eqb (length (used (slots_at v b))) slots_per_node) (take (length nodes - 1) nodes)

-- S8. "Bytes after the size in a file's last block are zero."
abbrev pub tail_zero : Disk → Inode → Bool
tail_zero v n =
    cond (eqb (n.size % block_size) 0) true
    (all_zero (drop (n.size % block_size) (v (get_or (data_of v n) (n.size / block_size) 0))))

-- S3 to S6 and S8 of the file that these bytes of a record tell
unfoldable pub file_sound : ℕ → Disk → List ℕ → Bool
file_sound N v bytes =
    let n = inode_of bytes in
    limits_hold bytes
    && slots_packed n.slots && all (λ b. in_data N b && slots_packed (slots_at v b)) (nodes_of v n)
    && all (extent_inside N) (extents_of v n)
    && counts_agree v (tree_depth n) (used n.slots) && eqb (counts (used n.slots)) (blocks_for n.size)
    && apart (extents_of v n)
    && beq (eqb n.depth 1) (ltb slots_per_inode (length (extents_of v n)))
    && eqb (length (nodes_of v n)) (nodes_for (length (extents_of v n))) && all (level_packed v) (levels_of v n)
    && tail_zero v n

-- one record. S2. "empty records are all zero"
unfoldable pub inode_sound : ℕ → Disk → ℕ → Bool
inode_sound N v i = cond (is_empty v i) (all_zero (inode_bytes v i)) (first_of_name v i && file_sound N v (inode_bytes v i))

-- the lowest record that is not sound
unfoldable pub inode_fault : ℕ → Disk → Option ℕ
inode_fault N v = lowest 0 inode_count (λ i. not (inode_sound N v i))

-- one block and its bit. S1. "Bits 0 to 41 and all bits from N up are 1." S7. "Every block from 42 to N-1 is reached at most once, as data
-- or extent block, and its bit is 1 exactly when it is reached."
abbrev pub block_sound : ℕ → List ℕ → ℕ → ℕ → Bool
block_sound N reach b bit = cond (in_data N b) (eqb (occurs b reach) bit) (eqb bit 1)

-- the lowest block that is not sound, among those whose bits these are, from b on
abbrev pub bit_fault : ℕ → List ℕ → ℕ → List ℕ → Option ℕ
bit_fault N reach b [] = none
bit_fault N reach b (x ∷ xs) = let r = bit_fault N reach (suc b) xs in cond (block_sound N reach b x) r (some b)

unfoldable pub block_fault : ℕ → Disk → Option ℕ
block_fault N v = bit_fault N (reached v) 0 (bits_of (v bitmap_block))

-- S1 to S8
unfoldable pub volume_sound : ℕ → Disk → Bool
volume_sound N v = not (is_some (inode_fault N v)) && not (is_some (block_fault N v))

-- "Block 0 is all zero, and" S1 to S8
abbrev pub sound : ℕ → Disk → Bool
sound N v = all_zero (v header_block) && volume_sound N v

-- "Free blocks are N - 42 less the data and extent blocks of all files, counted from the trees of the working copy."
abbrev pub free_blocks : ℕ → Disk → ℕ
free_blocks N v = N - data_start - length (reached v)

-- opens what this module seals
unfoldable pub open-Sound : Unit {0}
unfolding file_sound inode_sound inode_fault block_fault volume_sound
open-Sound = tt
