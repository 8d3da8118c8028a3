-- A file that keeps its size wants no block: refusals 16 and 17 do not fire. Assumes nothing.
use Rattle.std.specs.Prelude.{ℕ, ◌+◌, ◌-◌, ◌≤◌, ◌≡◌, true, false, ◌||◌, List, ◌++◌, ltb, length, take, drop}
use Rattle.std.proofs.Common.{sym, ap, ap₂, ◌∙◌, append-nil, take_all, arith, le-ltb}
use Rattle.spec.specs.Layout.{block_size, max_extents}
use Rattle.spec.specs.Bytes.{quotient_up, all_zero}
use Rattle.spec.specs.Disk.{Disk}
use Rattle.spec.specs.Inode.{inode_of, inode_bytes, inode_at, data_of, extents_of}
use Rattle.spec.specs.Transaction.{State, view}
use Rattle.spec.specs.Calls.{Change}
use Rattle.spec.specs.Sentences.{File, file_at, size_for, free_list, more_blocks, blocks_then, extent_count, nodes_wanted, more_nodes, nodes_then}
use Rattle.spec.specs.Refusals.{lacks_room, is_scattered}
use Rattle.laws.specs.Soundness.{FileSound}
use Rattle.laws.specs.Tree.{data-length}
use Rattle.laws.specs.Runs.{runs-data, count_runs, nodes-wanted, few-extents}
use Rattle.laws.specs.Records.{bare-data, bare-nodes, zero-bare}

-- a file has the blocks and nodes that its size and its extents ask for
pub record Fitted (f : File) : Type 0 where
  pub blocks : length f.blocks ≡ quotient_up f.size block_size
  pub nodes : length f.nodes ≡ nodes_wanted (extent_count f.blocks)
  pub few : extent_count f.blocks ≤ max_extents

pub sound-extents : (N : ℕ) (v : Disk) (bytes : List ℕ) → FileSound N v bytes → extent_count (data_of v (inode_of bytes)) ≡ length (extents_of v (inode_of bytes))
sound-extents N v bytes s = count_runs (data_of v (inode_of bytes)) ∙ ap length (runs-data N v bytes s)

pub sound-fitted : (N : ℕ) (v : Disk) (i : ℕ) → FileSound N v (inode_bytes v i) → Fitted (file_at v i)
sound-fitted N v i s =
    let e = sound-extents N v (inode_bytes v i) s in
    record {
      blocks = data-length N v (inode_bytes v i) s;
      nodes = s.node_count ∙ sym (nodes-wanted (length (extents_of v (inode_at v i)))) ∙ ap nodes_wanted (sym e);
      few = rw e (few-extents v (inode_bytes v i) s.depth_limit);
    }

pub empty-fitted : (v : Disk) (i : ℕ) → all_zero (inode_bytes v i) ≡ true → Fitted (file_at v i)
empty-fitted v i h =
    let bare = zero-bare (inode_bytes v i) h in
    let d = bare-data v (inode_bytes v i) bare in
    let z = bare.size in
    record {
      blocks = rw (d, z);
      nodes = rw (d, bare-nodes v (inode_bytes v i) bare);
      few = rw d (omega arith);
    }

module _ (N : ℕ) (v : Disk) (f : File) (t : Fitted f) where
  own-more : more_blocks f f.size ≡ 0
  own-more = omega (arith, t.blocks)

  pub own-blocks : blocks_then N v f f.size ≡ f.blocks
  own-blocks =
      ap₂ (λ (x y : List ℕ). x ++ y) (take_all (quotient_up f.size block_size) f.blocks (omega (arith, t.blocks)))
      (ap (λ k. take k (free_list N v)) own-more) ∙ append-nil f.blocks

  own-nodes : more_nodes N v f f.size ≡ 0
  own-nodes = ap (λ (bs : List ℕ). nodes_wanted (extent_count bs) - length f.nodes) own-blocks ∙ (let e : nodes_wanted (extent_count f.blocks) - length f.nodes ≡ 0 = omega (arith, t.nodes) in e)

  pub own-then : nodes_then N v f f.size ≡ f.nodes
  own-then =
      ap₂ (λ (x y : List ℕ). x ++ y)
      (ap (λ (bs : List ℕ). take (nodes_wanted (extent_count bs)) f.nodes) own-blocks ∙ take_all (nodes_wanted (extent_count f.blocks)) f.nodes (omega (arith, t.nodes)))
      (ap (λ k. take k (drop (more_blocks f f.size) (free_list N v))) own-nodes) ∙ append-nil f.nodes

module _ (N : ℕ) (s : State) (i : ℕ) (c : Change) (keeps : size_for (file_at (view s) i).size c ≡ (file_at (view s) i).size) (t : Fitted (file_at (view s) i)) where
  abbrev f : File
  f = file_at (view s) i

  pub own_room : lacks_room N s i c ≡ false
  own_room =
      let free = length (free_list N (view s)) in
      ap (λ k. ltb free (more_blocks f k) || ltb free (more_blocks f k + more_nodes N (view s) f k)) keeps
      ∙ ap₂ (λ (a b : ℕ). ltb free a || ltb free (a + b)) (own-more N (view s) f t) (own-nodes N (view s) f t)
      ∙ ap₂ ◌||◌ (le-ltb free 0 (omega arith)) (le-ltb free (0 + 0) (omega arith))

  pub own-extents : is_scattered N s i c ≡ false
  own-extents =
      ap (λ k. ltb max_extents (extent_count (blocks_then N (view s) f k))) keeps
      ∙ ap (λ (bs : List ℕ). ltb max_extents (extent_count bs)) (own-blocks N (view s) f t) ∙ le-ltb max_extents (extent_count f.blocks) t.few
