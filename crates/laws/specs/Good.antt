-- What files keep true of a volume beside S1 to S8: what it tells in numbers is told in bytes. Names and data are as the caller gave them. Assumes nothing.
use Rattle.std.specs.Prelude.{ℕ, ◌≤◌, ◌<◌, ◌≡◌, false, drop}
use Rattle.std.proofs.Common.{sym, ap, ◌∙◌}
use Rattle.spec.specs.Layout.{bitmap_block, inode_count, name_size}
use Rattle.spec.specs.Bytes.{occurs}
use Rattle.spec.specs.Disk.{Disk}
use Rattle.spec.specs.Inode.{inode_bytes, inode_at, is_empty, nodes_of, reached_from}
use Rattle.bitmap.specs.Words.{Below}
use Rattle.laws.specs.Volume.{VolumeSound}
use Rattle.laws.specs.Frame.{Agree, nodes-frame}
use Rattle.laws.specs.Reached.{kept-empty, kept-inode, kept-nodes}

-- record i behind its name, and its nodes
pub record InBytes (v : Disk) (i : ℕ) : Type 0 where
  pub record-bytes : Below 256 (drop name_size (inode_bytes v i))
  pub node-bytes : is_empty v i ≡ false → (b : ℕ) → 1 ≤ occurs b (nodes_of v (inode_at v i)) → Below 256 (v b)

pub record Good (N : ℕ) (v : Disk) : Type 0 where
  pub sound : VolumeSound N v
  pub table : Below 256 (v bitmap_block)
  pub files : (i : ℕ) → i < inode_count → InBytes v i

pub kept-bytes : (v w : Disk) (j : ℕ) → inode_bytes w j ≡ inode_bytes v j → Agree v w (reached_from v j) → InBytes v j → InBytes w j
unfolding Agree
kept-bytes v w j bytes blocks s =
    record {
      record-bytes = rw bytes s.record-bytes;
      node-bytes = λ e b o.
          let u : is_empty v j ≡ false = sym (kept-empty v w j bytes) ∙ e in
          let a = kept-nodes v w j bytes blocks u in
          let n : nodes_of w (inode_at w j) ≡ nodes_of v (inode_at v j) = ap (nodes_of w) (kept-inode v w j bytes) ∙ nodes-frame v w (inode_at v j) a in
          let p : 1 ≤ occurs b (nodes_of v (inode_at v j)) = rw n at o in
          rw (a b p) (s.node-bytes u b p);
    }
