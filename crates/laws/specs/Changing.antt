-- A change of record i: bits for what is taken and given back, the record, and more edits at its own and free blocks. Assumes nothing.
use Rattle.std.specs.Prelude.{ℕ, zero, suc, ◌+◌, ◌*◌, ◌≤◌, ◌<◌, ◌≡◌, refl, true, false, not, ◌&&◌, ◌||◌, eqb, drop}
use Rattle.std.proofs.Math.Path.{ap}
use Rattle.std.proofs.Common.{◌∙◌, arith}
use mathlib.Core.List.{List, ◌++◌, map}
use Rattle.std.proofs.Math.ListN.{length, get_or}
use Rattle.spec.specs.Layout.{block_size, bitmap_block, data_start, inode_count, inode_size, most_blocks}
use Rattle.spec.specs.Bytes.{patch, occurs, same, member, all_zero, pieces}
use Rattle.spec.specs.Disk.{Disk}
use Rattle.spec.specs.Bitmap.{bits_of, byte_of, bytes_of}
use Rattle.spec.specs.Inode.{inode_bytes, name_at, is_empty, block_of_inode, place_of_inode, reached_from}
use Rattle.spec.specs.Transaction.{BlockStore, ascending}
use Rattle.spec.specs.Plan.{Edit, if_changed, stores_of, bitmap_edit, inode_edit}
use Rattle.logs.specs.Targets.{Fresh, Targets}
use Rattle.logs.specs.Stores.{Whole, Long, applied, over, targets_of, sorted}
use Rattle.block.proofs.Laws.{length-patch}
use Rattle.bitmap.specs.Words.{Below}
use Rattle.bitmap.proofs.Laws.{length-bits, bits-binary, bits-bytes}
use Rattle.laws.specs.Bytes.{bytes_small}
use Rattle.laws.specs.Soundness.{Inside, FileSound}
use Rattle.laws.specs.Volume.{bit, bit_count, VolumeSound}
use Rattle.laws.specs.Reached.{reach-inside, reach-marked, reach-apart}
use Rattle.laws.specs.Replace.{Replaced}
use Rattle.laws.specs.Patch.{inode-other}
use Rattle.laws.specs.Edits.{blocks_of, changed-member, changed-targets, changed-fresh, changed-long, changed-own, changed-other, over-fresh}
use Rattle.laws.specs.Marks.{Exchange, bits_then, exchange-count, then-length, then-binary}

length-bytes : (m : ℕ) (bits : List ℕ) → length (map byte_of (pieces m 8 bits)) ≡ m
length-bytes zero bits = refl
length-bytes (suc m) bits = ap suc (length-bytes m (drop 8 bits))

pub length-table : (bits : List ℕ) → length (bytes_of bits) ≡ block_size
unfolding bytes_of
length-table bits = length-bytes block_size bits

abbrev pub edits : Disk → ℕ → List ℕ → List ℕ → List ℕ → List Edit → List Edit
edits v i new dropped bytes more = if_changed v (bitmap_edit new dropped) ++ (if_changed v (inode_edit i bytes) ++ more)

-- edits at record i's own blocks and at free ones
pub record Own (N : ℕ) (v : Disk) (i : ℕ) (more : List Edit) : Type 0 where
  pub targets : Targets N (blocks_of v more)
  pub low : (b : ℕ) → b < data_start → Fresh b (blocks_of v more)
  pub apart : (b : ℕ) → Inside N b → occurs b (reached_from v i) ≡ 0 → (bit v b ≡ 0 → ⊥) → Fresh b (blocks_of v more)
  pub long : Long (stores_of v more)

module _ (N : ℕ) (v : Disk) (i : ℕ) (low : data_start ≤ N) (most : N ≤ most_blocks) (hi : i < inode_count) (whole : Whole v)
    (new dropped bytes : List ℕ) (more : List Edit) (short : length bytes ≤ inode_size) (own : Own N v i more)
  where
    abbrev pub stores : List BlockStore
    stores = stores_of v (edits v i new dropped bytes more)

    abbrev pub after : Disk
    after = applied (ascending (stores_of v (edits v i new dropped bytes more))) v

    record-fresh : Fresh bitmap_block (blocks_of v (if_changed v (inode_edit i bytes) ++ more))
    record-fresh = changed-fresh v bitmap_block (inode_edit i bytes) more (λ q. omega arith) (own.low bitmap_block (omega arith))

    pub change-targets : Targets N (targets_of stores)
    change-targets =
        changed-targets v N (bitmap_edit new dropped) (if_changed v (inode_edit i bytes) ++ more) (omega arith) (omega arith) record-fresh
        (changed-targets v N (inode_edit i bytes) more (omega arith) (omega arith) (own.low (block_of_inode i) (omega arith)) own.targets)

    pub change-long : Long stores
    change-long =
        changed-long v (bitmap_edit new dropped) (if_changed v (inode_edit i bytes) ++ more) (length-table (bits_then (bits_of (v bitmap_block)) new dropped))
        (changed-long v (inode_edit i bytes) more
        (length-patch (place_of_inode i) bytes (v (block_of_inode i)) (omega (arith, whole (block_of_inode i))) ∙ whole (block_of_inode i)) own.long)

    laid : (b : ℕ) → after b ≡ over stores v b
    laid b = ap (λ (d : Disk). d b) ((sorted N stores change-targets).applied v)

    pub change-table : after bitmap_block ≡ bytes_of (bits_then (bits_of (v bitmap_block)) new dropped)
    change-table = laid bitmap_block ∙ changed-own v (bitmap_edit new dropped) (if_changed v (inode_edit i bytes) ++ more) record-fresh

    behind : (b : ℕ) → (b ≡ bitmap_block → ⊥) → after b ≡ over (stores_of v (if_changed v (inode_edit i bytes) ++ more)) v b
    behind b h = laid b ∙ changed-other v (bitmap_edit new dropped) (if_changed v (inode_edit i bytes) ++ more) b h

    pub change-record : after (block_of_inode i) ≡ patch (place_of_inode i) bytes (v (block_of_inode i))
    change-record = behind (block_of_inode i) (λ q. omega arith) ∙ changed-own v (inode_edit i bytes) more (own.low (block_of_inode i) (omega arith))

    pub change-rest : (b : ℕ) → (b ≡ bitmap_block → ⊥) → (b ≡ block_of_inode i → ⊥) → after b ≡ over (stores_of v more) v b
    change-rest b p q = behind b p ∙ changed-other v (inode_edit i bytes) more b q

    pub change-member : (b : ℕ) → member b (targets_of stores)
        ≡ ((eqb bitmap_block b && not (same (bytes_of (bits_then (bits_of (v bitmap_block)) new dropped)) (v bitmap_block)))
        || ((eqb (block_of_inode i) b && not (same (patch (place_of_inode i) bytes (v (block_of_inode i))) (v (block_of_inode i)))) || member b (blocks_of v more)))
    change-member b =
        changed-member v (bitmap_edit new dropped) (if_changed v (inode_edit i bytes) ++ more) b
        ∙ ap (λ t. (eqb bitmap_block b && not (same (bytes_of (bits_then (bits_of (v bitmap_block)) new dropped)) (v bitmap_block))) || t)
        (changed-member v (inode_edit i bytes) more b)

    pub change-others : (j : ℕ) → j < inode_count → (j ≡ i → ⊥) → inode_bytes after j ≡ inode_bytes v j
    change-others j hj ne =
        inode-other v after i bytes whole short change-record j ne
        (λ d. change-rest (block_of_inode j) (λ q. omega arith) d ∙ over-fresh v (block_of_inode j) (stores_of v more) (own.low (block_of_inode j) (omega arith)))

    module _ (s : VolumeSound N v) (e : Exchange (bits_of (v bitmap_block)) new dropped (reached_from v i) (reached_from after i))
        (inside : (b : ℕ) → 1 ≤ occurs b new → Inside N b)
      where
        then-bits : bits_of (after bitmap_block) ≡ bits_then (bits_of (v bitmap_block)) new dropped
        then-bits =
            ap bits_of change-table
            ∙ bits-bytes (bits_then (bits_of (v bitmap_block)) new dropped)
            (then-length (bits_of (v bitmap_block)) new dropped (reached_from v i) (reached_from after i) e ∙ length-bits (v bitmap_block) ∙ ap (λ k. 8 * k) (whole bitmap_block))
            (then-binary (bits_of (v bitmap_block)) new dropped (reached_from v i) (reached_from after i) e (bits-binary (v bitmap_block)))

        pub change-bytes : Below 256 (after bitmap_block)
        change-bytes =
            rw change-table
            (bytes_small (bits_then (bits_of (v bitmap_block)) new dropped)
            (then-binary (bits_of (v bitmap_block)) new dropped (reached_from v i) (reached_from after i) e (bits-binary (v bitmap_block))))

        count : (b : ℕ) → bit after b + occurs b (reached_from v i) ≡ bit v b + occurs b (reached_from after i)
        unfolding bit
        count b =
            ap (λ (l : List ℕ). get_or l b 0 + occurs b (reached_from v i)) then-bits
            ∙ exchange-count (bits_of (v bitmap_block)) new dropped (reached_from v i) (reached_from after i) e b

        -- nothing is taken or given back outside
        fixed : (b : ℕ) → (Inside N b → ⊥) → bit after b ≡ bit v b
        fixed b out = go (occurs b new) refl (occurs b (reached_from v i)) refl
          where
            go : (k : ℕ) → occurs b new ≡ k → (m : ℕ) → occurs b (reached_from v i) ≡ m → bit after b ≡ bit v b
            go (suc k) p m q = absurd (out (inside b (omega arith)))
            go zero p (suc m) q = absurd (out (reach-inside N v s i b hi (omega arith)))
            go zero p zero q = omega (arith, count b, e.balance b)

        pub change-replaced : (is_empty after i ≡ true → all_zero (inode_bytes after i) ≡ true) → (is_empty after i ≡ false → FileSound N after (inode_bytes after i))
            → (is_empty after i ≡ false → (j : ℕ) → j < inode_count → (j ≡ i → ⊥) → name_at v j ≡ name_at after i → ⊥) → Replaced N v after i
        unfolding bit_count
        change-replaced emptied filed fresh =
            record {
              others = change-others;
              kept = λ b inn o nz. change-rest b (λ q. omega arith) (λ q. omega arith) ∙ over-fresh v b (stores_of v more) (own.apart b inn o nz);
              emptied = emptied;
              filed = filed;
              fresh = fresh;
              table = ap length then-bits ∙ then-length (bits_of (v bitmap_block)) new dropped (reached_from v i) (reached_from after i) e;
              fixed = λ b up out. fixed b out;
              balance = λ b inn. count b;
            }

    -- a block that another file reaches is not among those staged
    pub others_apart : VolumeSound N v → N ≤ bit_count v → (j b : ℕ) → j < inode_count → (j ≡ i → ⊥) → 1 ≤ occurs b (reached_from v j) → Fresh b (targets_of stores)
    others_apart s table j b hj ne o =
        let inn = reach-inside N v s j b hj o in
        let high = inn.low in
        changed-fresh v b (bitmap_edit new dropped) (if_changed v (inode_edit i bytes) ++ more) (λ q. omega arith)
        (changed-fresh v b (inode_edit i bytes) more (λ q. omega arith)
        (own.apart b inn (reach-apart N v s table j i b hj hi ne o) (λ z. omega (arith, reach-marked N v s table j b hj o))))
