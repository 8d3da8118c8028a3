-- The content of a file is as long as its size. Assumes nothing.
use Rattle.std.specs.Prelude.{ℕ, zero, suc, ◌*◌, ◌<◌, ◌≡◌, refl, Bool, true, false, List, [], ◌∷◌, map, eqb, length, get_or}
use Rattle.std.proofs.Common.{◌∙◌, length-append, length-take, arith, eqb-true}
use Rattle.std.proofs.Math.Option.{some}
use Rattle.spec.specs.Layout.{block_size, inode_count}
use Rattle.spec.specs.Bytes.{concat, all_zero}
use Rattle.spec.specs.Disk.{Disk}
use Rattle.spec.specs.Inode.{Inode, inode_of, inode_bytes, inode_at, is_empty, find, data_of}
use Rattle.spec.specs.Map.{content_of}
use Rattle.lists.specs.Tests.{both_true}
use Rattle.logs.specs.Stores.{Whole}
use Rattle.laws.specs.Soundness.{FileSound}
use Rattle.laws.specs.Volume.{VolumeSound, find-some}
use Rattle.laws.specs.Tree.{data-length}

pub length-joined : (v : Disk) (bs : List ℕ) → Whole v → length (concat (map v bs)) ≡ block_size * length bs
length-joined v [] whole = refl
length-joined v (b ∷ bs) whole = length-append (v b) (concat (map v bs)) ∙ omega (arith, whole b, length-joined v bs whole)

pub content-length : (N : ℕ) (v : Disk) (bytes : List ℕ) → Whole v → FileSound N v bytes → length (content_of v (inode_of bytes)) ≡ (inode_of bytes).size
unfolding content_of
content-length N v bytes whole s =
    length-take (inode_of bytes).size (concat (map v (data_of v (inode_of bytes))))
    ∙ omega (arith, length-joined v (data_of v (inode_of bytes)) whole, data-length N v bytes s)

-- ---- an empty record has no bytes

pub zero-byte : (xs : List ℕ) (i : ℕ) → all_zero xs ≡ true → get_or xs i 0 ≡ 0
zero-byte [] i h = refl
zero-byte (x ∷ xs) zero h = eqb-true x 0 (both_true (eqb x 0) (all_zero xs) h).0
zero-byte (x ∷ xs) (suc i) h = zero-byte xs i (both_true (eqb x 0) (all_zero xs) h).1

pub zero-size : (bytes : List ℕ) → all_zero bytes ≡ true → (inode_of bytes).size ≡ 0
unfolding inode_of
zero-size bytes h = omega (arith, zero-byte bytes 8 h, zero-byte bytes 9 h, zero-byte bytes 10 h, zero-byte bytes 11 h)

empty-content : (v : Disk) (n : Inode) → n.size ≡ 0 → length (content_of v n) ≡ n.size
unfolding content_of
empty-content v n z = length-take n.size (concat (map v (data_of v n))) ∙ omega arith

pub file-length : (N : ℕ) (v : Disk) → Whole v → VolumeSound N v → (name : List ℕ) (i : ℕ) → find v name ≡ some i
    → length (content_of v (inode_at v i)) ≡ (inode_at v i).size
file-length N v whole s name i h = go (is_empty v i) refl
  where
    up : i < inode_count
    up = (find-some v name i h).0

    go : (t : Bool) → is_empty v i ≡ t → length (content_of v (inode_at v i)) ≡ (inode_at v i).size
    go true e = empty-content v (inode_at v i) (zero-size (inode_bytes v i) (s.empties i up e))
    go false e = content-length N v (inode_bytes v i) whole (s.files i up e)
