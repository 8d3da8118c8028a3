-- The edits of write and set-size: where they go, and what they leave at each block. Assumes nothing.
use Prim.Native.Nat.{ℕ, zero, suc, ◌≤◌, ◌<◌}
use Rattle.std.specs.Prelude.{◌≡◌, cond, List, [], ◌∷◌, ◌++◌, length, get_or}
use Rattle.std.proofs.Math.Path.{refl}
use Rattle.std.proofs.Common.{ap, ◌∙◌, append-nil, arith}
use Rattle.spec.specs.Layout.{bitmap_block}
use Rattle.spec.specs.Bytes.{concat, occurs}
use Rattle.spec.specs.Disk.{Disk}
use Rattle.spec.specs.declared.Extent.{Extent}
use Rattle.spec.specs.Bitmap.{bits_of}
use Rattle.spec.specs.Inode.{reached_from}
use Rattle.spec.specs.Plan.{Edit, stores_of, lowest_level, node_edits, level_edits, is_staged, new_content, data_edits}
use Rattle.lists.specs.Counts.{occurs-at}
use Rattle.logs.specs.Stores.{Long, over, targets_of}
use Rattle.bitmap.proofs.Laws.{occurs-append}
use Rattle.laws.specs.Soundness.{Inside}
use Rattle.laws.specs.Volume.{bit}
use Rattle.laws.specs.Edits.{blocks_of}
use Rattle.laws.specs.Readback.{Filled}
use Rattle.laws.specs.Marks.{Exchange}
use Rattle.laws.specs.Distinct.{fresh-none, targets_by, places-differ, over-left, over-right, long-append}
use Rattle.laws.specs.TreeEdits.{filled-agree, nodes-filled, stores-append, occurs-edits, levels-occur, levels-long, placed-over, placed-occurs, map-places}
use Rattle.laws.specs.Changing.{Own}

module _ (N : ℕ) (v : Disk) (i : ℕ) (held-levels levels : List (List ℕ)) (es : List Extent) (blocks : List ℕ)
    (held old_size size x : ℕ) (bytes : List ℕ)
    (once : (b : ℕ) → occurs b (blocks ++ concat levels) ≤ 1)
  where
    abbrev pub nodes_first : List Edit
    nodes_first = level_edits v held-levels levels es

    abbrev pub data_last : List Edit
    data_last = data_edits held old_size size x bytes blocks

    data-occur : (b : ℕ) → occurs b (blocks_of v data_last) ≤ occurs b blocks
    data-occur b =
        omega (arith, placed-occurs v (λ p. get_or blocks p 0) (new_content held old_size size x bytes) (is_staged held old_size size x bytes) b 0 (length blocks), ap (occurs b) (map-places blocks))

    pub more-occur : (b : ℕ) → occurs b (blocks_of v (nodes_first ++ data_last)) ≤ occurs b (blocks ++ concat levels)
    more-occur b =
        omega (arith, occurs-edits v nodes_first data_last b, data-occur b, levels-occur v held-levels levels es b, occurs-append b blocks (concat levels))

    -- they go to the file's own blocks and to free ones
    pub more-own : (new dropped : List ℕ) → Exchange (bits_of (v bitmap_block)) new dropped (reached_from v i) (blocks ++ concat levels)
        → ((b : ℕ) → 1 ≤ occurs b (blocks ++ concat levels) → Inside N b)
        → Long (stores_of v data_last) → Own N v i (nodes_first ++ data_last)
    unfolding bit
    more-own new dropped e inside long =
        record {
          targets = targets_by N (blocks_of v (nodes_first ++ data_last)) (λ b. omega (arith, more-occur b, once b)) (λ b o. inside b (omega (arith, more-occur b)));
          low = λ b h. fresh-none b (blocks_of v (nodes_first ++ data_last)) (none b (λ k. omega (arith, k.low)));
          apart = λ b inn o nz. fresh-none b (blocks_of v (nodes_first ++ data_last)) (omega (arith, more-occur b, e.balance b, untaken b nz));
          long = rw (stores-append v nodes_first data_last) (long-append (stores_of v nodes_first) (stores_of v data_last) (levels-long v held-levels levels es) long);
        }
      where
        untaken : (b : ℕ) → (bit v b ≡ 0 → ⊥) → occurs b new ≡ 0
        untaken b nz = go (occurs b new) refl
          where
            go : (k : ℕ) → occurs b new ≡ k → k ≡ 0
            go zero q = refl
            go (suc k) q = absurd (nz (omega (arith, e.fresh b)))

        none : (b : ℕ) → (Inside N b → ⊥) → occurs b (blocks_of v (nodes_first ++ data_last)) ≡ 0
        none b out = go (occurs b (blocks ++ concat levels)) refl
          where
            go : (k : ℕ) → occurs b (blocks ++ concat levels) ≡ k → occurs b (blocks_of v (nodes_first ++ data_last)) ≡ 0
            go zero q = omega (arith, more-occur b)
            go (suc k) q = absurd (out (inside b (omega arith)))

    -- ---- what they leave

    -- at a data block
    pub data-then : (p : ℕ) → p < length blocks
        → over (stores_of v (nodes_first ++ data_last)) v (get_or blocks p 0)
        ≡ cond (is_staged held old_size size x bytes p) (new_content held old_size size x bytes p (v (get_or blocks p 0))) (v (get_or blocks p 0))
    data-then p h =
        let b = get_or blocks p 0 in
        let o = occurs-at blocks p h in
        ap (λ (ws : List _). over ws v b) (stores-append v nodes_first data_last)
        ∙ over-right v b (stores_of v nodes_first) (stores_of v data_last)
        (fresh-none b (targets_of (stores_of v nodes_first)) (omega (arith, levels-occur v held-levels levels es b, once b, occurs-append b blocks (concat levels))))
        ∙ placed-over v (λ p. get_or blocks p 0) (new_content held old_size size x bytes) (is_staged held old_size size x bytes) 0 (length blocks) p
        (λ q r a c d e z. places-differ blocks q r (λ b. omega (arith, once b, occurs-append b blocks (concat levels))) (omega arith) (omega arith) z) (omega arith) (omega arith)

    -- at the nodes of the one level
    pub nodes-then : (ns : List ℕ) → levels ≡ ns ∷ [] → Filled (over (stores_of v (nodes_first ++ data_last)) v) ns es
    nodes-then ns q =
        filled-agree (over (stores_of v (node_edits v (length (lowest_level held-levels)) ns es)) v) (over (stores_of v (nodes_first ++ data_last)) v) ns es
        (λ b o.
        ap (λ (ws : List _). over ws v b) (stores-append v nodes_first data_last)
        ∙ over-left v b (stores_of v nodes_first) (stores_of v data_last)
        (fresh-none b (targets_of (stores_of v data_last)) (omega (arith, data-occur b, once b, occurs-append b blocks (concat levels), node_in b)))
        ∙ ap (λ (l : List Edit). over (stores_of v l) v b) (ap (λ (ls : List (List ℕ)). level_edits v held-levels ls es) q ∙ append-nil (node_edits v (length (lowest_level held-levels)) ns es)))
        (nodes-filled v (length (lowest_level held-levels)) ns es (λ b. omega (arith, once b, occurs-append b blocks (concat levels), node_in b)))
      where
        node_in : (b : ℕ) → occurs b (concat levels) ≡ occurs b ns
        node_in b = ap (occurs b) (ap concat q ∙ append-nil ns)
