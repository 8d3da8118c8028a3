-- Bytes laid over one record, staged where they change its block: create and rename. Assumes nothing.
use Rattle.std.specs.Prelude.{ℕ, ◌≤◌, ◌<◌, ◌≡◌, false, not, ◌&&◌, eqb}
use Rattle.std.proofs.Math.Path.{ap}
use Rattle.std.proofs.Common.{◌∙◌, arith}
use Rattle.std.proofs.Math.Bool.{or-false}
use mathlib.Core.List.{List, [], ◌++◌}
use Rattle.std.proofs.Math.ListN.{length, get_or}
use Rattle.spec.specs.Layout.{bitmap_block, data_start, inode_count, inode_size}
use Rattle.spec.specs.Bytes.{patch, occurs, same, member}
use Rattle.spec.specs.Disk.{Disk}
use Rattle.spec.specs.Bitmap.{bits_of}
use Rattle.spec.specs.Inode.{inode_bytes, name_at, is_empty, block_of_inode, place_of_inode, reached_from}
use Rattle.spec.specs.Transaction.{BlockStore, ascending}
use Rattle.spec.specs.Plan.{if_changed, stores_of, inode_edit}
use Rattle.lists.specs.Tests.{not-both}
use Rattle.logs.specs.Targets.{Targets}
use Rattle.logs.specs.Stores.{Whole, Long, applied, over, targets_of, sorted}
use Rattle.block.proofs.Laws.{length-patch}
use Rattle.laws.specs.Soundness.{Inside, FileSound}
use Rattle.laws.specs.Volume.{bit, bit_count}
use Rattle.laws.specs.Replace.{Replaced}
use Rattle.laws.specs.Patch.{inode-other}
use Rattle.laws.specs.Edits.{changed-member, changed-targets, changed-long, changed-own, changed-other}

abbrev pub laid_over : Disk → ℕ → List ℕ → List BlockStore
laid_over v i new = stores_of v (if_changed v (inode_edit i new) ++ [])

module _ (N : ℕ) (v : Disk) (i : ℕ) (new : List ℕ) (low : data_start ≤ N) (hi : i < inode_count) (whole : Whole v) (short : length new ≤ inode_size) where
  abbrev pub after : Disk
  after = applied (ascending (laid_over v i new)) v

  pub one-targets : Targets N (targets_of (laid_over v i new))
  one-targets = changed-targets v N (inode_edit i new) [] (omega arith) (omega arith) tt tt

  pub one-long : Long (laid_over v i new)
  one-long =
      changed-long v (inode_edit i new) []
      (length-patch (place_of_inode i) new (v (block_of_inode i)) (omega (arith, whole (block_of_inode i))) ∙ whole (block_of_inode i)) tt

  laid : (b : ℕ) → after b ≡ over (laid_over v i new) v b
  laid b = ap (λ (d : Disk). d b) ((sorted N (laid_over v i new) one-targets).applied v)

  pub one-own : after (block_of_inode i) ≡ patch (place_of_inode i) new (v (block_of_inode i))
  one-own = laid (block_of_inode i) ∙ changed-own v (inode_edit i new) [] tt

  pub one-rest : (b : ℕ) → (b ≡ block_of_inode i → ⊥) → after b ≡ v b
  one-rest b h = laid b ∙ changed-other v (inode_edit i new) [] b h

  pub one-member : (b : ℕ) → member b (targets_of (laid_over v i new))
      ≡ (eqb (block_of_inode i) b && not (same (patch (place_of_inode i) new (v (block_of_inode i))) (v (block_of_inode i))))
  one-member b = changed-member v (inode_edit i new) [] b ∙ or-false (eqb (block_of_inode i) b && not (same (patch (place_of_inode i) new (v (block_of_inode i))) (v (block_of_inode i))))

  pub one-others : (j : ℕ) → (j ≡ i → ⊥) → inode_bytes after j ≡ inode_bytes v j
  one-others j ne = inode-other v after i new whole short one-own j ne (λ d. one-rest (block_of_inode j) d)

  pub one_inside : (b : ℕ) → Inside N b → after b ≡ v b
  one_inside b inn = one-rest b (λ q. omega arith)

  pub one_table : after bitmap_block ≡ v bitmap_block
  one_table = one-rest bitmap_block (λ q. omega arith)

  pub one-replaced : is_empty after i ≡ false → FileSound N after (inode_bytes after i)
      → ((j : ℕ) → j < inode_count → (j ≡ i → ⊥) → name_at v j ≡ name_at after i → ⊥)
      → reached_from after i ≡ reached_from v i → Replaced N v after i
  unfolding bit bit_count
  one-replaced used file fresh reach =
      record {
        others = λ j hj ne. one-others j ne;
        kept = λ b inn o nz. one_inside b inn;
        emptied = λ e. absurd (not-both e used);
        filed = λ e. file;
        fresh = λ e. fresh;
        table = ap (λ (l : List ℕ). length (bits_of l)) one_table;
        fixed = λ b up out. ap (λ (l : List ℕ). get_or (bits_of l) b 0) one_table;
        balance = λ b inn.
            let e : get_or (bits_of (after bitmap_block)) b 0 ≡ get_or (bits_of (v bitmap_block)) b 0 = ap (λ (l : List ℕ). get_or (bits_of l) b 0) one_table in
            omega (arith, ap (occurs b) reach);
      }
