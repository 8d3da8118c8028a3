-- The tree of a sound file: its levels, its data blocks, and that none of them is cut off or lies outside. Assumes nothing.
use Rattle.std.specs.Prelude.{ℕ, zero, suc, ◌+◌, ◌≤◌, ◌<◌, ◌≡◌, refl, ◌⊎◌, List, [], ◌∷◌, map, length}
use Rattle.std.proofs.Common.{sym, ap, ap₂, ◌∙◌, inl, inr, append-nil, not-suc-le-zero, eq-or-lt_of_le, arith}
use Rattle.std.proofs.Math.Seq.{take_all}
use Rattle.spec.specs.Layout.{max_depth, max_file_blocks}
use Rattle.spec.specs.Bytes.{occurs, concat, up_from}
use Rattle.spec.specs.Disk.{Disk}
use Rattle.spec.specs.declared.Extent.{Extent}
use Rattle.spec.specs.Inode.{Inode, inode_of, used, slots_at, below, extents_below, tree_depth, extents_of, levels_of, nodes_of, blocks_in, data_of, blocks_for, counts}
use Rattle.lists.specs.Counts.{occurs-take, occurs-up_from}
use Rattle.lists.specs.Extents.{counts-append, length-blocks}
use Rattle.lists.specs.All.{All}
use Rattle.bitmap.proofs.Laws.{occurs-append}
use Rattle.laws.specs.Soundness.{Inside, ExtentInside, Counted, CountsAgree, FileSound}

-- ---- depth 0 and depth 1

pub depth-cases : (n : Inode) → n.depth ≤ max_depth → (n.depth ≡ 0) ⊎ (n.depth ≡ 1)
depth-cases n h = go (eq-or-lt_of_le h)
  where
    go : (n.depth ≡ 1) ⊎ (n.depth < 1) → (n.depth ≡ 0) ⊎ (n.depth ≡ 1)
    go (inl e) = inr e
    go (inr l) = inl (omega arith)

module _ (v : Disk) (n : Inode) where
  pub extents-flat : n.depth ≡ 0 → extents_of v n ≡ used n.slots
  unfolding extents_of
  extents-flat e = rw e

  pub extents-deep : n.depth ≡ 1 → extents_of v n ≡ below v (used n.slots)
  unfolding extents_of
  extents-deep e = rw e

  pub levels-flat : n.depth ≡ 0 → levels_of v n ≡ []
  unfolding levels_of
  levels-flat e = rw e

  pub levels-deep : n.depth ≡ 1 → levels_of v n ≡ map (λ e. e.first) (used n.slots) ∷ []
  unfolding levels_of
  levels-deep e = rw e

  -- at most one level
  pub levels-few : n.depth ≤ max_depth → length (levels_of v n) ≡ n.depth
  levels-few h = go (depth-cases n h)
    where
      go : (n.depth ≡ 0) ⊎ (n.depth ≡ 1) → length (levels_of v n) ≡ n.depth
      go (inl e) = ap length (levels-flat e) ∙ sym e
      go (inr e) = ap length (levels-deep e) ∙ sym e

  pub nodes-flat : n.depth ≡ 0 → nodes_of v n ≡ []
  nodes-flat e = ap concat (levels-flat e)

  pub nodes-deep : n.depth ≡ 1 → nodes_of v n ≡ map (λ e. e.first) (used n.slots)
  nodes-deep e = ap concat (levels-deep e) ∙ append-nil (map (λ e. e.first) (used n.slots))

-- ---- how many data blocks

counts-below : (v : Disk) (slots : List Extent) → All (Counted v) slots → counts (below v slots) ≡ counts slots
counts-below v [] c = refl
counts-below v (e ∷ es) c =
    counts-append (used (slots_at v e.first)) (below v es) ∙ ap₂ (λ (x y : ℕ). x + y) (sym c.0) (counts-below v es c.1)

counts-tree : (v : Disk) (d : ℕ) (slots : List Extent) → CountsAgree v d slots → counts (extents_below v d slots) ≡ counts slots
counts-tree v zero slots c = refl
counts-tree v (suc d) slots c = counts-tree v d (below v slots) c.1 ∙ counts-below v slots c.0

module _ (N : ℕ) (v : Disk) (bytes : List ℕ) (s : FileSound N v bytes) where
  pub extents-count : counts (extents_of v (inode_of bytes)) ≡ blocks_for (inode_of bytes).size
  unfolding extents_of
  extents-count = counts-tree v (tree_depth (inode_of bytes)) (used (inode_of bytes).slots) s.counts_below ∙ s.counts_top

  -- no data block is cut off
  pub data-uncut : data_of v (inode_of bytes) ≡ blocks_in (extents_of v (inode_of bytes))
  unfolding data_of
  data-uncut =
      take_all max_file_blocks (blocks_in (extents_of v (inode_of bytes)))
      (omega (arith, length-blocks (extents_of v (inode_of bytes)), extents-count, s.size_limit))

  pub data-length : length (data_of v (inode_of bytes)) ≡ blocks_for (inode_of bytes).size
  data-length = ap length data-uncut ∙ length-blocks (extents_of v (inode_of bytes)) ∙ extents-count

-- ---- data blocks are inside

pub blocks-inside : (N : ℕ) (es : List Extent) (b : ℕ) → All (ExtentInside N) es → 1 ≤ occurs b (blocks_in es) → Inside N b
unfolding blocks_in
blocks-inside N [] b s o = absurd (not-suc-le-zero o)
blocks-inside N (e ∷ es) b s o = go (occurs b (up_from e.first e.count)) refl (blocks-inside N es b s.1)
  where
    go : (k : ℕ) → occurs b (up_from e.first e.count) ≡ k → (1 ≤ occurs b (blocks_in es) → Inside N b) → Inside N b
    go zero q ih = ih (omega (arith, occurs-append b (up_from e.first e.count) (blocks_in es)))
    go (suc k) q ih =
        let r = occurs-up_from b e.first e.count (omega arith) in
        record { low = omega (arith, s.0.begin.low); high = omega (arith, s.0.end.high) }

pub data-inside : (N : ℕ) (v : Disk) (bytes : List ℕ) (b : ℕ) → FileSound N v bytes → 1 ≤ occurs b (data_of v (inode_of bytes)) → Inside N b
unfolding data_of
data-inside N v bytes b s o =
    blocks-inside N (extents_of v (inode_of bytes)) b s.extents_inside
    (omega (arith, occurs-take b max_file_blocks (blocks_in (extents_of v (inode_of bytes)))))
