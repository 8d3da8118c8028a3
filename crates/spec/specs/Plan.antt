-- What a change does to a file: the blocks it takes and gives back, what it stages and with which content.
use Rattle.std.specs.Prelude.{ℕ, zero, suc, ◌+◌, ◌*◌, ◌-◌, ◌/◌, ◌%◌, Bool, cond, not, ◌&&◌, ◌||◌, List, [], ◌∷◌, ◌++◌, map, length, take, drop, get_or, eqb, leb, ltb}
use Rattle.spec.specs.Layout.{block_size, bitmap_block, inode_size, slots_per_node, max_extents}
use Rattle.spec.specs.Bytes.{exactly, zeros, patch, same, keep, up_from}
use Rattle.spec.specs.Disk.{Disk}
use Rattle.spec.specs.Bitmap.{bits_of, bytes_of, free_bits, mark, picks}
use Rattle.spec.specs.Inode.{Extent, Inode, inode_at, block_of_inode, place_of_inode, bytes_of_inode, data_of, levels_of, nodes_of, blocks_for, levels_for, runs, node_slots, node_bytes, inode_with}
use Rattle.spec.specs.Answers.{NoSpace, TooManyExtents, Result, accept, require, ◌>>=◌, ◌>>◌}
use Rattle.spec.specs.Transaction.{BlockStore, put}

-- ---- blocks taken and given back

-- a file's tree after a change: its data blocks, their runs, its nodes by level; the blocks taken for data, those taken for nodes, those given back
pub record Tree : Type 0 where
  pub blocks : List ℕ
  pub extents : List Extent
  pub levels : List (List ℕ)
  pub new_data : List ℕ
  pub new_nodes : List ℕ
  pub dropped : List ℕ

-- the nodes that a level holds; none where the tree has no such level
abbrev pub lowest_level : List (List ℕ) → List ℕ
lowest_level [] = []
lowest_level (bs ∷ ls) = bs

-- each level keeps the front of what it holds, and takes what it lacks from the new nodes
abbrev pub dealt : List ℕ → List (List ℕ) → List ℕ → List (List ℕ)
dealt [] held new = []
dealt (n ∷ ns) held new =
    let lack = n - length (lowest_level held) in
    (take n (lowest_level held) ++ take lack new) ∷ dealt ns (drop 1 held) (drop lack new)

-- how many nodes the levels lack
abbrev pub lacking : List ℕ → List (List ℕ) → ℕ
lacking [] held = 0
lacking (n ∷ ns) held = (n - length (lowest_level held)) + lacking ns (drop 1 held)

-- the nodes that the levels no longer need
abbrev pub surplus : List ℕ → List (List ℕ) → List ℕ
surplus ns [] = []
surplus [] (bs ∷ ls) = bs ++ surplus [] ls
surplus (n ∷ ns) (bs ∷ ls) = drop n bs ++ surplus ns ls

-- "New blocks: first the data blocks in file order, each the lowest free one in the working bit table, then extent blocks likewise."
-- "give back every data and extent block no longer needed"
unfoldable pub resized : List ℕ → List ℕ → List (List ℕ) → ℕ → Tree
resized bits held levels wanted =
    let new_data = picks bits (wanted - length held) in
    let blocks = take wanted held ++ new_data in
    let sizes = levels_for (length (runs blocks)) in
    let new_nodes = picks (mark 1 new_data bits) (lacking sizes levels) in
    record {
      blocks = blocks;
      extents = runs blocks;
      levels = dealt sizes levels new_nodes;
      new_data = new_data;
      new_nodes = new_nodes;
      dropped = drop wanted held ++ surplus sizes levels;
    }

-- 16. "Data blocks plus extent blocks wanted beyond those held exceed the free ones." "When 16 fires on data blocks alone, extents are
-- not counted." 17. "More than 512 extents."
unfoldable pub fits : List ℕ → List ℕ → List (List ℕ) → ℕ → Result Tree
fits bits held levels wanted = do
  require (leb (wanted - length held) (free_bits bits)) NoSpace
  t ← accept (resized bits held levels wanted)
  require (leb (length t.new_data + length t.new_nodes) (free_bits bits)) NoSpace
  require (leb (length t.extents) max_extents) TooManyExtents
  accept t

abbrev pub tree_for : Disk → Inode → ℕ → Result Tree
tree_for v n size = fits (bits_of (v bitmap_block)) (data_of v n) (levels_of v n) (blocks_for size)

-- ---- what is staged

-- one block to stage, and its new content from its old one
pub record Edit : Type 0 where
  pub block : ℕ
  pub change : List ℕ → List ℕ

abbrev pub edit : ℕ → (List ℕ → List ℕ) → Edit
edit b f = record { block = b; change = f }

-- an edit that is staged only where it changes the block
abbrev pub if_changed : Disk → Edit → List Edit
if_changed v e = cond (same (e.change (v e.block)) (v e.block)) [] (e ∷ [])

abbrev pub stores_of : Disk → List Edit → List BlockStore
stores_of v es = map (λ e. put e.block (e.change (v e.block))) es

-- "block 33 when a bit changes": these blocks' bits made 1, those made 0
abbrev pub bitmap_edit : List ℕ → List ℕ → Edit
bitmap_edit new dropped = edit bitmap_block (λ old. bytes_of (mark 0 dropped (mark 1 new (bits_of old))))

-- "the record's block when the record changes"
abbrev pub inode_edit : ℕ → List ℕ → Edit
inode_edit i bytes = edit (block_of_inode i) (patch (place_of_inode i) bytes)

-- "each new .. extent block; each extent block whose content changes": the nodes of one level, whose slots are these, of which the first `held` are not new
abbrev pub node_edits : Disk → ℕ → List ℕ → List Extent → List Edit
node_edits v held [] slots = []
node_edits v zero (b ∷ bs) slots = edit b (λ old. node_bytes (take slots_per_node slots)) ∷ node_edits v zero bs (drop slots_per_node slots)
node_edits v (suc held) (b ∷ bs) slots =
    if_changed v (edit b (λ old. node_bytes (take slots_per_node slots))) ++ node_edits v held bs (drop slots_per_node slots)

-- the same of all levels, from the lowest up
abbrev pub level_edits : Disk → List (List ℕ) → List (List ℕ) → List Extent → List Edit
level_edits v held [] slots = []
level_edits v held (bs ∷ ls) slots = node_edits v (length (lowest_level held)) bs slots ++ level_edits v (drop 1 held) ls (node_slots bs slots)

-- byte by byte: the data's where the data has a byte at that place in the file, else the old one; `at` is the place of the first byte of old
abbrev pub overlay : ℕ → List ℕ → ℕ → List ℕ → List ℕ
overlay x bytes at [] = []
overlay x bytes at (o ∷ old) = cond (leb x at && ltb at (x + length bytes)) (get_or bytes (at - x) 0) o ∷ overlay x bytes (suc at) old

-- the bytes from a size on made zero in the block at place p
abbrev pub clear_tail : ℕ → ℕ → List ℕ → List ℕ
clear_tail size p old = exactly block_size (take (size - block_size * p) old)

-- "each data block holding a byte of the data"
abbrev pub holds_data : ℕ → List ℕ → ℕ → Bool
holds_data x bytes p = ltb 0 (length bytes) && ltb x (block_size * (p + 1)) && ltb (block_size * p) (x + length bytes)

-- "on shortening to a size not divisible by 512, the last kept block"
abbrev pub is_last_kept : ℕ → ℕ → ℕ → Bool
is_last_kept old_size size p = ltb size old_size && not (eqb (size % block_size) 0) && eqb p (size / block_size)

-- what becomes of the data blocks of a file that held so many blocks and had an old size: its new size, and bytes laid over it at x
module _ (held old_size size x : ℕ) (bytes : List ℕ) where
  -- "each data block holding a byte of the data; each new data .. block; .. the last kept block"
  abbrev pub is_staged : ℕ → Bool
  is_staged p = leb held p || holds_data x bytes p || is_last_kept old_size size p

  -- a new block starts from zeros
  abbrev pub new_content : ℕ → List ℕ → List ℕ
  new_content p old =
      overlay x bytes (block_size * p)
      (cond (leb held p) (zeros block_size) (cond (is_last_kept old_size size p) (clear_tail size p old) old))

  abbrev pub data_edits : List ℕ → List Edit
  data_edits blocks =
      map (λ p. edit (get_or blocks p 0) (new_content p)) (keep is_staged (up_from 0 (length blocks)))

-- write and set-size: record i becomes a file of this name and size, with bytes laid over it at x
unfoldable pub rewrites : Disk → ℕ → List ℕ → ℕ → ℕ → List ℕ → Tree → List BlockStore
rewrites v i name size x bytes t =
    let n = inode_at v i in
    stores_of v (if_changed v (bitmap_edit (t.new_data ++ t.new_nodes) t.dropped)
    ++ (if_changed v (inode_edit i (bytes_of_inode (inode_with name size t.extents t.levels)))
    ++ (level_edits v (levels_of v n) t.levels t.extents
    ++ data_edits (length (data_of v n)) n.size size x bytes t.blocks)))

-- "Create takes the lowest empty record": record i with a name and nothing else
unfoldable pub creates : Disk → ℕ → List ℕ → List BlockStore
creates v i name = stores_of v (if_changed v (inode_edit i (bytes_of_inode (inode_with name 0 [] []))))

-- "Remove .. give back every data and extent block": record i emptied
unfoldable pub removes : Disk → ℕ → List BlockStore
removes v i =
    let n = inode_at v i in
    stores_of v (if_changed v (bitmap_edit [] (data_of v n ++ nodes_of v n)) ++ if_changed v (inode_edit i (zeros inode_size)))

-- "Rename keeps the record in its place."
unfoldable pub renames : Disk → ℕ → List ℕ → List BlockStore
renames v i name = stores_of v (if_changed v (inode_edit i name))

-- opens what this module seals
unfoldable pub open-Plan : Unit {0}
unfolding resized fits rewrites creates removes renames
open-Plan = tt
