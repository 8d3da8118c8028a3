-- What the records of a volume reach: all of it inside, each block once. A record that is kept, with its blocks, reaches and holds what it did. Assumes nothing.
use Rattle.std.specs.Prelude.{ℕ, zero, suc, ◌+◌, ◌*◌, ◌≤◌, ◌<◌, ◌≡◌, refl, Bool, true, false, not, List, [], ◌++◌, eqb, length, take}
use Rattle.std.proofs.Common.{sym, ap, ap₂, ◌∙◌, not-suc-le-zero, arith}
use Rattle.std.proofs.Math.Option.{none, some}
use Rattle.std.proofs.lemmas.Bool.{not-true}
use Rattle.spec.specs.Layout.{bitmap_block, inode_count, name_size, most_blocks}
use Rattle.spec.specs.Bytes.{found, occurs, all_zero}
use Rattle.spec.specs.Disk.{Disk}
use Rattle.spec.specs.Inode.{Inode, is_name, inode_bytes, inode_of, inode_at, name_at, is_empty, find, data_of, nodes_of, reached_from, reached}
use Rattle.spec.specs.Map.{content_of, files_of}
use Rattle.lists.specs.Tests.{both_true}
use Rattle.logs.specs.Stores.{Whole}
use Rattle.bitmap.proofs.Laws.{occurs-append, length-bits, bits-binary}
use Rattle.laws.specs.Joined.{occurs-one, occurs-two, joined_same, occurs-replace, joined-some}
use Rattle.laws.specs.Soundness.{Inside, FileSound}
use Rattle.laws.specs.Volume.{bit, bit_count, VolumeSound}
use Rattle.laws.specs.Tree.{data-inside}
use Rattle.laws.specs.Frame.{Agree, agree_left, agree_right, nodes-frame, data-frame, content-frame, file-frame}

-- ---- bits

pub bit-small : (v : Disk) (b : ℕ) → bit v b < 2
unfolding bit
bit-small v b = bits-binary (v bitmap_block) b

pub bit-count : (v : Disk) → Whole v → bit_count v ≡ most_blocks
unfolding bit_count
bit-count v whole = length-bits (v bitmap_block) ∙ ap (λ n. 8 * n) (whole bitmap_block)

-- ---- names and files

pub name-used : (v : Disk) (i : ℕ) (name : List ℕ) → is_name name ≡ true → name_at v i ≡ name → is_empty v i ≡ false
unfolding is_name
name-used v i name h e = ap all_zero e ∙ not-true (all_zero name) (both_true (eqb (length name) name_size) (not (all_zero name)) h).1

pub files-named : (v : Disk) (name : List ℕ) → is_name name ≡ true → files_of v name ≡ found (find v name) none (λ i. some (content_of v (inode_at v i)))
unfolding files_of
files-named v name h = rw h

pub files-unnamed : (v : Disk) (name : List ℕ) → is_name name ≡ false → files_of v name ≡ none
unfolding files_of
files-unnamed v name h = rw h

-- ---- what a record reaches, and what all of them

pub reached-empty : (v : Disk) (i : ℕ) → is_empty v i ≡ true → reached_from v i ≡ []
unfolding reached_from
reached-empty v i e = rw e

pub reached-used : (v : Disk) (i : ℕ) → is_empty v i ≡ false → reached_from v i ≡ data_of v (inode_at v i) ++ nodes_of v (inode_at v i)
unfolding reached_from
reached-used v i e = rw e

module _ (v : Disk) (b : ℕ) where
  pub reached-one : (i : ℕ) → i < inode_count → occurs b (reached_from v i) ≤ occurs b (reached v)
  unfolding reached
  reached-one i h = occurs-one b (reached_from v) 0 inode_count i (omega arith) h

  pub reached-two : (i j : ℕ) → i < inode_count → j < inode_count → (i ≡ j → ⊥) → occurs b (reached_from v i) + occurs b (reached_from v j) ≤ occurs b (reached v)
  unfolding reached
  reached-two i j h k ne = occurs-two b (reached_from v) 0 inode_count i j (omega arith) h (omega arith) k ne

  pub reached-replace : (w : Disk) (i : ℕ) → i < inode_count → ((j : ℕ) → j < inode_count → (j ≡ i → ⊥) → reached_from w j ≡ reached_from v j)
      → occurs b (reached w) + occurs b (reached_from v i) ≡ occurs b (reached v) + occurs b (reached_from w i)
  unfolding reached
  reached-replace w i h others = occurs-replace b (reached_from v) (reached_from w) 0 inode_count i (omega arith) h (λ j lo up ne. others j up ne)

  pub reached-by : (P : Type 0) → 1 ≤ occurs b (reached v) → ((i : ℕ) → i < inode_count → 1 ≤ occurs b (reached_from v i) → P) → P
  unfolding reached
  reached-by P o k = joined-some b (reached_from v) 0 inode_count P o (λ i lo up h. k i up h)

pub reached-same : (v w : Disk) → ((j : ℕ) → j < inode_count → reached_from w j ≡ reached_from v j) → reached w ≡ reached v
unfolding reached
reached-same v w h = joined_same (reached_from v) (reached_from w) 0 inode_count (λ j lo up. h j up)

-- ---- sound files, and a sound volume

module _ (N : ℕ) (v : Disk) (files : (i : ℕ) → i < inode_count → is_empty v i ≡ false → FileSound N v (inode_bytes v i)) where
  pub file-inside : (i b : ℕ) → i < inode_count → 1 ≤ occurs b (reached_from v i) → Inside N b
  file-inside i b h o = go (is_empty v i) refl
    where
      own : (e : is_empty v i ≡ false) → (k : ℕ) → occurs b (data_of v (inode_at v i)) ≡ k → Inside N b
      own e zero q =
          (files i h e).nodes_inside b
          (let z = rw (reached-used v i e) at o in omega (arith, occurs-append b (data_of v (inode_at v i)) (nodes_of v (inode_at v i))))
      own e (suc k) q = data-inside N v (inode_bytes v i) b (files i h e) (omega arith)

      go : (t : Bool) → is_empty v i ≡ t → Inside N b
      go true e = absurd (not-suc-le-zero (rw (reached-empty v i e) at o))
      go false e = own e (occurs b (data_of v (inode_at v i))) refl

  pub files-inside : (b : ℕ) → 1 ≤ occurs b (reached v) → Inside N b
  files-inside b o = reached-by v b (Inside N b) o (λ i up h. file-inside i b up h)

module _ (N : ℕ) (v : Disk) (s : VolumeSound N v) where
  pub reach-inside : (i b : ℕ) → i < inode_count → 1 ≤ occurs b (reached_from v i) → Inside N b
  reach-inside = file-inside N v s.files

  pub all-inside : (b : ℕ) → 1 ≤ occurs b (reached v) → Inside N b
  all-inside = files-inside N v s.files

  module _ (table : N ≤ bit_count v) where
    -- a block that a record reaches is marked, reached by that record once and by no other
    pub reach-marked : (i b : ℕ) → i < inode_count → 1 ≤ occurs b (reached_from v i) → bit v b ≡ 1
    reach-marked i b h o =
        let inn = reach-inside i b h o in
        omega (arith, s.counted b (omega arith) inn, reached-one v b i h, bit-small v b)

    pub reach-once : (i b : ℕ) → i < inode_count → occurs b (reached_from v i) ≤ 1
    reach-once i b h = go (occurs b (reached_from v i)) refl
      where
        go : (k : ℕ) → occurs b (reached_from v i) ≡ k → k ≤ 1
        go zero q = omega arith
        go (suc k) q =
            let inn = reach-inside i b h (omega arith) in
            omega (arith, s.counted b (omega arith) inn, reached-one v b i h, bit-small v b)

    pub reach-bit : (i b : ℕ) → i < inode_count → occurs b (reached_from v i) ≤ bit v b
    reach-bit i b h = go (occurs b (reached_from v i)) refl
      where
        go : (k : ℕ) → occurs b (reached_from v i) ≡ k → k ≤ bit v b
        go zero q = omega arith
        go (suc k) q = omega (arith, reach-marked i b h (omega arith), reach-once i b h)

    pub reach-apart : (i j b : ℕ) → i < inode_count → j < inode_count → (i ≡ j → ⊥) → 1 ≤ occurs b (reached_from v i) → occurs b (reached_from v j) ≡ 0
    reach-apart i j b h k ne o =
        let inn = reach-inside i b h o in
        omega (arith, s.counted b (omega arith) inn, reached-two v b i j h k ne, bit-small v b)

-- ---- a record that is kept

module _ (v w : Disk) (j : ℕ) (bytes : inode_bytes w j ≡ inode_bytes v j) where
  pub kept-name : name_at w j ≡ name_at v j
  kept-name = ap (take name_size) bytes

  pub kept-empty : is_empty w j ≡ is_empty v j
  kept-empty = ap all_zero kept-name

  pub kept-inode : inode_at w j ≡ inode_at v j
  kept-inode = ap inode_of bytes

  module _ (blocks : Agree v w (reached_from v j)) where
    pub kept-data : is_empty v j ≡ false → Agree v w (data_of v (inode_at v j))
    kept-data e = agree_left v w (data_of v (inode_at v j)) (nodes_of v (inode_at v j)) (rw (reached-used v j e) at blocks)

    pub kept-nodes : is_empty v j ≡ false → Agree v w (nodes_of v (inode_at v j))
    kept-nodes e = agree_right v w (data_of v (inode_at v j)) (nodes_of v (inode_at v j)) (rw (reached-used v j e) at blocks)

    pub kept-reach : reached_from w j ≡ reached_from v j
    kept-reach = go (is_empty v j) refl
      where
        go : (t : Bool) → is_empty v j ≡ t → reached_from w j ≡ reached_from v j
        go true e = reached-empty w j (kept-empty ∙ e) ∙ sym (reached-empty v j e)
        go false e =
            reached-used w j (kept-empty ∙ e)
            ∙ ap (λ (n : Inode). data_of w n ++ nodes_of w n) kept-inode
            ∙ ap₂ (λ (x y : List ℕ). x ++ y) (data-frame v w (inode_at v j) (kept-nodes e)) (nodes-frame v w (inode_at v j) (kept-nodes e))
            ∙ sym (reached-used v j e)

    pub kept-content : is_empty v j ≡ false → content_of w (inode_at w j) ≡ content_of v (inode_at v j)
    kept-content e = ap (content_of w) kept-inode ∙ content-frame v w (inode_at v j) (kept-nodes e) (kept-data e)

    pub kept-file : (N : ℕ) → is_empty v j ≡ false → FileSound N v (inode_bytes v j) → FileSound N w (inode_bytes w j)
    kept-file N e s = rw bytes (file-frame N v w (inode_bytes v j) (kept-nodes e) (kept-data e) s)
