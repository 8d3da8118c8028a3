-- When write and set-size stage block 33 and the record's block. Assumes nothing.
use Rattle.std.specs.Prelude.{ℕ, ◌+◌, ◌≤◌, ◌<◌, ◌≡◌, Bool, ◌&&◌, ◌⊎◌, eqb, length, drop}
use Rattle.std.proofs.Math.Path.{refl, ap}
use Rattle.std.proofs.Common.{sym, ap₂, ◌∙◌, inl, inr, arith, eqb-true, eq-eqb}
use Rattle.std.proofs.Math.Bool.{true, false, not}
use mathlib.Core.List.{List, [], ◌∷◌}
use Rattle.std.proofs.lemmas.Bool.{not-false}
use Rattle.spec.specs.Layout.{bitmap_block, data_start, most_blocks, inode_size, name_size, slots_per_inode}
use Rattle.spec.specs.Bytes.{concat, patch, part, same}
use Rattle.spec.specs.Disk.{Disk}
use Rattle.spec.specs.declared.Extent.{Extent}
use Rattle.spec.specs.Bitmap.{bits_of, free_bits}
use Rattle.spec.specs.Inode.{inode_bytes, inode_of, inode_at, inode_with, bytes_of_inode, name_at, block_of_inode, place_of_inode, data_of, levels_of, nodes_of, extents_of, runs, blocks_for}
use Rattle.spec.specs.Plan.{Tree, resized}
use Rattle.spec.specs.Sentences.{File, file_at, more_blocks, blocks_then, more_nodes, nodes_then, sized_to, record_changes}
use Rattle.lists.specs.Tests.{and_both, both_true, not-both, false_of}
use Rattle.logs.specs.Stores.{Whole}
use Rattle.block.proofs.Laws.{same_self, same_true}
use Rattle.bitmap.specs.Words.{Below}
use Rattle.laws.specs.Bytes.{same_of}
use Rattle.laws.specs.Soundness.{FileSound}
use Rattle.laws.specs.Volume.{VolumeSound}
use Rattle.laws.specs.Tree.{depth-cases, levels-flat, levels-deep, nodes-deep}
use Rattle.laws.specs.Runs.{runs-data}
use Rattle.laws.specs.Patch.{patch-part}
use Rattle.laws.specs.OwnSize.{Fitted, sound-fitted, own-blocks, own-then}
use Rattle.laws.specs.RecordBytes.{record-bytes}
use Rattle.laws.specs.Resized.{tree-blocks, tree-nodes, tree-levels, extents-are}

module _ (N : ℕ) (v : Disk) (i : ℕ) (low : data_start ≤ N) (most : N ≤ most_blocks) (whole : Whole v) (s : VolumeSound N v) (sound : FileSound N v (inode_bytes v i))
    (small : Below 256 (drop name_size (inode_bytes v i))) (size : ℕ)
    (room : more_blocks (file_at v i) size + more_nodes N v (file_at v i) size ≤ free_bits (bits_of (v bitmap_block)))
  where
    abbrev f : File
    f = file_at v i

    abbrev h : File
    h = sized_to N v (file_at v i) size

    abbrev tree : Tree
    tree = resized (bits_of (v bitmap_block)) (data_of v (inode_at v i)) (levels_of v (inode_at v i)) (blocks_for size)

    abbrev told : List ℕ
    told = bytes_of_inode (inode_with (name_at v i) size tree.extents tree.levels)

    fitted : Fitted f
    fitted = sound-fitted N v i sound

    -- ---- at its own size the tree is the one held

    module _ (e : (inode_at v i).size ≡ size) where
      then-blocks : blocks_then N v f size ≡ f.blocks
      then-blocks = ap (blocks_then N v f) (sym e) ∙ own-blocks N v f fitted

      then-nodes : nodes_then N v f size ≡ f.nodes
      then-nodes = ap (nodes_then N v f) (sym e) ∙ own-then N v f fitted

      tree-runs : tree.extents ≡ extents_of v (inode_at v i)
      tree-runs =
          extents-are N v i low most whole s sound size
          ∙ ap runs (tree-blocks N v i low most whole s sound size (omega arith) ∙ then-blocks) ∙ runs-data N v (inode_bytes v i) sound

      levels-same : tree.levels ≡ levels_of v (inode_at v i)
      levels-same = go (tree-levels N v i low most whole s sound size (omega arith)) (depth-cases (inode_at v i) sound.depth_limit)
        where
          nodes-same : concat tree.levels ≡ nodes_of v (inode_at v i)
          nodes-same = tree-nodes N v i low most whole s sound size (omega arith) room ∙ then-nodes

          go : ((tree.levels ≡ []) × (length tree.extents ≤ slots_per_inode)) ⊎ ((tree.levels ≡ concat tree.levels ∷ []) × (slots_per_inode < length tree.extents))
              → ((inode_at v i).depth ≡ 0) ⊎ ((inode_at v i).depth ≡ 1) → tree.levels ≡ levels_of v (inode_at v i)
          go (inl a) (inl d) = a.0 ∙ sym (levels-flat v (inode_at v i) d)
          go (inl a) (inr d) = absurd (let z = sound.deep d in omega (arith, a.1, ap length tree-runs))
          go (inr a) (inl d) = absurd (let z = sound.many (omega (arith, a.1, ap length tree-runs)) in omega arith)
          go (inr a) (inr d) =
              a.0 ∙ ap (λ (ns : List ℕ). ns ∷ []) (nodes-same ∙ nodes-deep v (inode_at v i) d) ∙ sym (levels-deep v (inode_at v i) d)

      told_same : told ≡ inode_bytes v i
      told_same =
          ap₂ (λ (es : List Extent) (ls : List (List ℕ)). bytes_of_inode (inode_with (name_at v i) size es ls)) tree-runs levels-same
          ∙ ap (λ k. bytes_of_inode (inode_with (name_at v i) k (extents_of v (inode_at v i)) (levels_of v (inode_at v i)))) (sym e)
          ∙ record-bytes N v i whole small sound

      unchanged : record_changes f h ≡ false
      unchanged =
          ap not
          (and_both (same f.name f.name && eqb f.size size && same f.blocks h.blocks) (same f.nodes h.nodes)
          (and_both (same f.name f.name && eqb f.size size) (same f.blocks h.blocks)
          (and_both (same f.name f.name) (eqb f.size size) (same_self f.name) (eq-eqb f.size size e))
          (same_of f.blocks h.blocks (sym then-blocks)))
          (same_of f.nodes h.nodes (sym then-nodes)))

    -- ---- "the record's block when the record changes"

    told-size : record_changes f h ≡ false → (inode_at v i).size ≡ size
    told-size q =
        let a = both_true (same f.name f.name && eqb f.size size && same f.blocks h.blocks) (same f.nodes h.nodes)
        (not-false (same f.name f.name && eqb f.size size && same f.blocks h.blocks && same f.nodes h.nodes) q) in
        let b = both_true (same f.name f.name && eqb f.size size) (same f.blocks h.blocks) a.0 in
        eqb-true f.size size (both_true (same f.name f.name) (eqb f.size size) b.0).1

    pub record-changes : (w : Disk) → w (block_of_inode i) ≡ patch (place_of_inode i) told (v (block_of_inode i)) → (inode_at w i).size ≡ size
        → not (same (patch (place_of_inode i) told (v (block_of_inode i))) (v (block_of_inode i))) ≡ record_changes f h
    unfolding inode_bytes
    record-changes w own is-size = go (record_changes f h) refl
      where
        go : (t : Bool) → record_changes f h ≡ t → not (same (patch (place_of_inode i) told (v (block_of_inode i))) (v (block_of_inode i))) ≡ t
        go false q =
            ap not (same_of (patch (place_of_inode i) told (v (block_of_inode i))) (v (block_of_inode i))
            (ap (λ (t : List ℕ). patch (place_of_inode i) t (v (block_of_inode i))) (told_same (told-size q))
            ∙ patch-part (place_of_inode i) inode_size (v (block_of_inode i)) (omega (arith, whole (block_of_inode i)))))
        go true q =
            ap not (false_of (same (patch (place_of_inode i) told (v (block_of_inode i))) (v (block_of_inode i)))
            (λ z.
            let e : w (block_of_inode i) ≡ v (block_of_inode i) = own ∙ same_true (patch (place_of_inode i) told (v (block_of_inode i))) (v (block_of_inode i)) z in
            not-both q (unchanged (ap (λ (t : List ℕ). (inode_of (part (place_of_inode i) inode_size t)).size) (sym e) ∙ is-size))))
