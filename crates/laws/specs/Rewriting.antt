-- A write or a change of size that fits: the tree it makes, and the edits it is told in. Assumes nothing.
use Rattle.std.specs.Prelude.{ℕ, zero, suc, ◌+◌, ◌*◌, ◌≤◌, ◌<◌, ◌≡◌, Bool, List, ◌++◌, length, get_or}
use Rattle.std.proofs.Math.Path.{refl, ap}
use Rattle.std.proofs.Common.{◌∙◌, arith}
use Rattle.std.proofs.Math.Bool.{true, false}
use Rattle.std.proofs.Math.Option.{some}
use Rattle.spec.specs.Layout.{block_size, bitmap_block, data_start, fewest_blocks, most_blocks, inode_count, inode_size, name_size, max_file_size, max_extents}
use Rattle.spec.specs.Bytes.{concat, occurs}
use Rattle.spec.specs.Disk.{Disk, in_data}
use Rattle.spec.specs.Bitmap.{bits_of, free_bits}
use Rattle.spec.specs.Inode.{is_name, inode_bytes, inode_at, inode_with, bytes_of_inode, top_slots, name_at, is_empty, find, data_of, levels_of, reached_from, blocks_for}
use Rattle.spec.specs.Map.{content_of}
use Rattle.spec.specs.Transaction.{BlockStore, ascending}
use Rattle.spec.specs.Plan.{Tree, Edit, stores_of, resized, level_edits, is_staged, new_content, data_edits}
use Rattle.spec.specs.Sentences.{file_at, more_blocks, blocks_then, extent_count, more_nodes}
use Rattle.logs.specs.Stores.{Whole, applied}
use Rattle.bitmap.proofs.Laws.{occurs-append}
use Rattle.laws.specs.Soundness.{Inside, FileSound, inside_of, outside_of}
use Rattle.laws.specs.Volume.{bit, bit_count, find-some}
use Rattle.laws.specs.Good.{Good}
use Rattle.laws.specs.Tree.{data-length}
use Rattle.laws.specs.Content.{content-length}
use Rattle.laws.specs.Reached.{bit-count, name-used, reached-used, reach-inside, reach-bit}
use Rattle.laws.specs.Records.{name-length}
use Rattle.laws.specs.Marks.{Exchange, after-once}
use Rattle.laws.specs.Resized.{tree-length, tree-held, tree-extents, tree-exchange, extents-are}
use Rattle.laws.specs.Readback.{length-written}
use Rattle.laws.specs.TreeEdits.{placed-long}
use Rattle.laws.specs.WrittenFile.{Fitting}
use Rattle.laws.specs.NewContent.{new-length}
use Rattle.laws.specs.AfterContent.{held-byte}
use Rattle.laws.specs.Changing.{Own, edits}
use Rattle.laws.specs.Rewrite.{more-own}

-- the file of this name, in record i, made this size with bytes laid over it at x: 4, 13, 16 and 17 do not refuse it
pub record Rewriting (N : ℕ) (v : Disk) (name : List ℕ) (i size x : ℕ) (bytes : List ℕ) : Type 0 where
  pub fewest : fewest_blocks ≤ N
  pub most : N ≤ most_blocks
  pub whole : Whole v
  pub good : Good N v
  pub named : is_name name ≡ true
  pub known : find v name ≡ some i
  pub limit : size ≤ max_file_size
  pub fits : x + length bytes ≤ size
  pub room : more_blocks (file_at v i) size + more_nodes N v (file_at v i) size ≤ free_bits (bits_of (v bitmap_block))
  pub few : extent_count (blocks_then N v (file_at v i) size) ≤ max_extents

module _ {N : ℕ} {v : Disk} {name : List ℕ} {i size x : ℕ} {bytes : List ℕ} (r : Rewriting N v name i size x bytes) where
  -- ---- the file before

  pub is-inode : i < inode_count
  is-inode = (find-some v name i r.known).0

  pub name-was : name_at v i ≡ name
  name-was = (find-some v name i r.known).1

  pub used : is_empty v i ≡ false
  used = name-used v i name r.named name-was

  pub low : data_start ≤ N
  low = omega (arith, r.fewest)

  pub in_table : N ≤ bit_count v
  in_table = omega (arith, bit-count v r.whole, r.most)

  pub eight : length (name_at v i) ≡ name_size
  eight = ap length name-was ∙ name-length name r.named

  pub sound : FileSound N v (inode_bytes v i)
  sound = r.good.sound.files i is-inode used

  pub old-length : length (content_of v (inode_at v i)) ≡ (inode_at v i).size
  old-length = content-length N v (inode_bytes v i) r.whole sound

  pub held-length : length (data_of v (inode_at v i)) ≡ blocks_for (inode_at v i).size
  held-length = data-length N v (inode_bytes v i) sound

  -- ---- its tree then

  abbrev pub tree : Tree
  tree = resized (bits_of (v bitmap_block)) (data_of v (inode_at v i)) (levels_of v (inode_at v i)) (blocks_for size)

  pub data-room : more_blocks (file_at v i) size ≤ free_bits (bits_of (v bitmap_block))
  data-room = omega (arith, r.room)

  abbrev pub new : List ℕ
  new = tree.new_data ++ tree.new_nodes

  pub exchange : Exchange (bits_of (v bitmap_block)) new tree.dropped (reached_from v i) (tree.blocks ++ concat tree.levels)
  unfolding bit
  exchange =
      rw (reached-used v i used)
      (tree-exchange N v i low r.most r.whole r.good.sound sound size data-room r.room
      (λ b. omega (arith, reach-bit N v r.good.sound in_table i b is-inode, ap (occurs b) (reached-used v i used))))

  pub once : (b : ℕ) → occurs b (tree.blocks ++ concat tree.levels) ≤ 1
  once = after-once (bits_of (v bitmap_block)) new tree.dropped (reached_from v i) (tree.blocks ++ concat tree.levels) exchange

  pub new-inside : (b : ℕ) → 1 ≤ occurs b new → Inside N b
  unfolding bit bit_count
  new-inside b o = go (in_data N b) refl
    where
      go : (t : Bool) → in_data N b ≡ t → Inside N b
      go true e = inside_of N b e
      go false e = absurd (omega (arith, exchange.fresh b, r.good.sound.outside b (exchange.within b o) (outside_of N b e)))

  pub inside : (b : ℕ) → 1 ≤ occurs b (tree.blocks ++ concat tree.levels) → Inside N b
  inside b o = go (occurs b new) refl
    where
      go : (k : ℕ) → occurs b new ≡ k → Inside N b
      go (suc k) q = new-inside b (omega arith)
      go zero q = reach-inside N v r.good.sound i b is-inode (omega (arith, exchange.balance b))

  pub fitting : Fitting N size tree.blocks
  fitting =
      record {
        device = r.most;
        size_fits = r.limit;
        long = tree-length N v i low r.most r.whole r.good.sound sound size data-room;
        inside = λ b o. inside b (omega (arith, occurs-append b tree.blocks (concat tree.levels)));
        few = omega (
          arith,
          r.few,
          tree-extents N v i low r.most r.whole r.good.sound sound size data-room,
          ap length (extents-are N v i low r.most r.whole r.good.sound sound size),
        );
      }

  -- ---- its edits

  abbrev pub told : List ℕ
  told = bytes_of_inode (inode_with (name_at v i) size tree.extents tree.levels)

  pub told-length : length told ≡ inode_size
  told-length = length-written (name_at v i) size (length tree.levels) (top_slots tree.levels tree.extents) eight

  pub short : length told ≤ inode_size
  short = omega (arith, told-length)

  abbrev pub more : List Edit
  more =
      level_edits v (levels_of v (inode_at v i)) tree.levels tree.extents
      ++ data_edits (length (data_of v (inode_at v i))) (inode_at v i).size size x bytes tree.blocks

  pub was : (p : ℕ) → p < length (data_of v (inode_at v i)) → p < length tree.blocks → (k : ℕ) → k < block_size
      → get_or (v (get_or tree.blocks p 0)) k 0 ≡ get_or (content_of v (inode_at v i)) (block_size * p + k) 0
  was p h l k m =
      ap (λ b. get_or (v b) k 0) (tree-held N v i low r.most r.whole r.good.sound sound size data-room p h (omega (arith, fitting.long)))
      ∙ held-byte N v (inode_bytes v i) r.whole sound p k h m

  pub own : Own N v i more
  own =
      more-own N v i (levels_of v (inode_at v i)) tree.levels tree.extents tree.blocks (length (data_of v (inode_at v i))) (inode_at v i).size size x bytes once
      new tree.dropped exchange inside
      (placed-long v (λ p. get_or tree.blocks p 0) (new_content (length (data_of v (inode_at v i))) (inode_at v i).size size x bytes)
      (is_staged (length (data_of v (inode_at v i))) (inode_at v i).size size x bytes) 0 (length tree.blocks)
      (λ p l u. new-length (length (data_of v (inode_at v i))) (inode_at v i).size size x bytes (content_of v (inode_at v i)) old-length held-length r.fits
      p (v (get_or tree.blocks p 0)) (r.whole (get_or tree.blocks p 0)) (λ h. was p h (omega arith))))

  abbrev pub ws : List BlockStore
  ws = stores_of v (edits v i new tree.dropped told more)

  -- the disk then
  abbrev pub w : Disk
  w = applied (ascending ws) v
