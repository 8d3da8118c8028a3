-- "A call stages": the bit table, the record's block and blocks that the file then reaches, and no block of another file. From the sentences alone. Assumes nothing.
use Rattle.std.specs.Prelude.{ℕ, ◌+◌, ◌-◌, ◌/◌, ◌%◌, ◌≤◌, ◌<◌, max, ◌≡◌, refl, Bool, true, false, not, ◌&&◌, ◌||◌, ◌⊎◌, List, ◌++◌, eqb, ltb, length, take, drop, get_or}
use Rattle.std.proofs.Common.{sym, ◌∙◌, subst, arith, eqb-true}
use Rattle.std.proofs.lemmas.Bool.{false≢true, eqb-false, not-true}
use Rattle.std.proofs.Math.Logic.{inl, inr}
use Rattle.spec.specs.Layout.{block_size, bitmap_block, inode_count, data_start}
use Rattle.spec.specs.Bytes.{member, occurs, same, up_from, quotient_up}
use Rattle.spec.specs.Disk.{Disk}
use Rattle.spec.specs.Inode.{block_of_inode, inode_bytes, inode_at, is_empty, nodes_of, data_of, reached_from, reached}
use Rattle.spec.specs.Calls.{Change, Create, Remove, Rename, Write, SetSize}
use Rattle.spec.specs.Sentences.{File, file_at, free_list, more_blocks, blocks_then, extent_count, nodes_wanted, more_nodes, nodes_then, file_then, holds_byte, reaches, is_new, node_content, node_changes, bit_changes, record_changes, shortens, call_stages}
use Rattle.lists.specs.Tests.{both_true, or_cases, or-first, or-second, not-both, false_of}
use Rattle.lists.specs.Counts.{occurs-take, occurs-drop}
use Rattle.lists.specs.Members.{member-append, member-at, member-occurs, occurs-member}
use Rattle.lists.specs.All.{any_some}
use Rattle.logs.specs.Staging.{member-keep}
use Rattle.bitmap.proofs.Laws.{occurs-append}
use Rattle.laws.specs.Soundness.{Inside}
use Rattle.laws.specs.Volume.{bit_count, VolumeSound}
use Rattle.laws.specs.Reached.{reached-used, reached-one, reach-inside, reach-apart}
use Rattle.laws.specs.Records.{bare-data, bare-nodes, zero-bare}

-- what a record tells is what it reaches
pub reaches-from : (N : ℕ) (v : Disk) → VolumeSound N v → (i : ℕ) → i < inode_count → (b : ℕ) → reaches (file_at v i) b ≡ true → 1 ≤ occurs b (reached_from v i)
reaches-from N v s i h b r = go (is_empty v i) refl
  where
    go : (t : Bool) → is_empty v i ≡ t → 1 ≤ occurs b (reached_from v i)
    go true e =
        let bare = zero-bare (inode_bytes v i) (s.empties i h e) in
        absurd (false≢true (rw (bare-data v (inode_bytes v i) bare, bare-nodes v (inode_bytes v i) bare) at r))
    go false e = rw (reached-used v i e) (either (or_cases (member b (data_of v (inode_at v i))) (member b (nodes_of v (inode_at v i))) r))
      where
        either : (member b (data_of v (inode_at v i)) ≡ true) ⊎ (member b (nodes_of v (inode_at v i)) ≡ true) → 1 ≤ occurs b (data_of v (inode_at v i) ++ nodes_of v (inode_at v i))
        either (inl m) = omega (arith, member-occurs b (data_of v (inode_at v i)) m, occurs-append b (data_of v (inode_at v i)) (nodes_of v (inode_at v i)))
        either (inr m) = omega (arith, member-occurs b (nodes_of v (inode_at v i)) m, occurs-append b (data_of v (inode_at v i)) (nodes_of v (inode_at v i)))

-- any of six clauses
clauses : (P : Type 0) (d n e t x r y k : Bool) → (d || n || e || t && x || r && y || k) ≡ true
    → (d ≡ true → P) → (n ≡ true → P) → (e ≡ true → P) → (t ≡ true → P) → (r ≡ true → P) → (k ≡ true → P) → P
clauses P true n e t x r y k h f1 f2 f3 f4 f5 f6 = f1 refl
clauses P false true e t x r y k h f1 f2 f3 f4 f5 f6 = f2 refl
clauses P false false true t x r y k h f1 f2 f3 f4 f5 f6 = f3 refl
clauses P false false false true x r y k h f1 f2 f3 f4 f5 f6 = f4 refl
clauses P false false false false x true y k h f1 f2 f3 f4 f5 f6 = f5 refl
clauses P false false false false x false y true h f1 f2 f3 f4 f5 f6 = f6 refl
clauses P false false false false x false y false h f1 f2 f3 f4 f5 f6 = absurd (false≢true h)

member-part : (b k : ℕ) (xs : List ℕ) → member b (take k xs) ≡ true → member b xs ≡ true
member-part b k xs h = occurs-member b xs (omega (arith, member-occurs b (take k xs) h, occurs-take b k xs))

member-behind : (b k : ℕ) (xs : List ℕ) → member b (drop k xs) ≡ true → member b xs ≡ true
member-behind b k xs h = occurs-member b xs (omega (arith, member-occurs b (drop k xs) h, occurs-drop b k xs))

module _ (N : ℕ) (v : Disk) (i : ℕ) (c : Change) where
  abbrev f : File
  f = file_at v i

  abbrev g : File
  g = file_then N v (file_at v i) c

  -- ---- the blocks that a call may stage

  abbrev pub Own : ℕ → Type 0
  Own b = (b ≡ bitmap_block) ⊎ ((b ≡ block_of_inode i) ⊎ (reaches g b ≡ true))

  block_at : (p b : ℕ) → p < length g.blocks → eqb (get_or g.blocks p 0) b ≡ true → reaches g b ≡ true
  block_at p b l e =
      or-first (member b g.blocks) (member b g.nodes)
      (subst (λ (x : ℕ). member x g.blocks ≡ true) (eqb-true (get_or g.blocks p 0) b e) (member-at g.blocks p l))

  own-node : (b : ℕ) → node_changes v g b ≡ true → reaches g b ≡ true
  own-node b h =
      any_some (λ j. eqb (get_or g.nodes j 0) b && not (same (node_content g j) (v b))) 0 (length g.nodes) (reaches g b ≡ true) h (λ j lo up e.
      or-second (member b g.blocks) (member b g.nodes)
      (subst (λ (x : ℕ). member x g.nodes ≡ true) (eqb-true (get_or g.nodes j 0) b (both_true (eqb (get_or g.nodes j 0) b) _ e).0) (member-at g.nodes j (omega arith))))

  module _ (fitted : length g.blocks ≡ quotient_up g.size block_size) where
    own-short : (b : ℕ) → shortens f g b ≡ true → reaches g b ≡ true
    own-short b h =
        let a = both_true (ltb g.size f.size && not (eqb (g.size % block_size) 0)) (eqb (get_or g.blocks (g.size / block_size) 0) b) h in
        let z = both_true (ltb g.size f.size) (not (eqb (g.size % block_size) 0)) a.0 in
        let n = eqb-false (g.size % 512) 0 (not-true (eqb (g.size % 512) 0) z.1) in
        block_at (g.size / 512) b (omega (arith, fitted, n)) a.1

    own-told : (b : ℕ) → call_stages N v i c b ≡ true → (holds_byte g c b ≡ true → reaches g b ≡ true) → Own b
    unfolding call_stages
    own-told b h byte =
        clauses (Own b) (holds_byte g c b) (is_new f g b) (node_changes v g b) (eqb b bitmap_block) (bit_changes N f g) (eqb b (block_of_inode i)) (record_changes f g) (shortens f g b) h
        (λ e. inr (inr (byte e))) (λ e. inr (inr (both_true (reaches g b) (not (reaches f b)) e).0)) (λ e. inr (inr (own-node b e)))
        (λ e. inl (eqb-true b bitmap_block e)) (λ e. inr (inl (eqb-true b (block_of_inode i) e))) (λ e. inr (inr (own-short b e)))

-- "each data block holding a byte of the data"
own-byte : (N : ℕ) (v : Disk) (i : ℕ) (c : Change) → length (file_then N v (file_at v i) c).blocks ≡ quotient_up (file_then N v (file_at v i) c).size block_size
    → (b : ℕ) → holds_byte (file_then N v (file_at v i) c) c b ≡ true → reaches (file_then N v (file_at v i) c) b ≡ true
own-byte N v i (Create name) q b h = absurd (false≢true h)
own-byte N v i (Remove name) q b h = absurd (false≢true h)
own-byte N v i (Rename name new) q b h = absurd (false≢true h)
own-byte N v i (Write name x bytes) q b h =
    let gs = file_then N v (file_at v i) (Write name x bytes) in
    any_some (λ p. eqb (get_or gs.blocks (p / block_size) 0) b) x (length bytes) (reaches gs b ≡ true) h (λ p lo up e. block_at N v i (Write name x bytes) (p / block_size) b (omega (arith, q)) e)
own-byte N v i (SetSize name size) q b h = absurd (false≢true h)

-- ---- its file's blocks are those it held and free ones

module _ (N : ℕ) (v : Disk) (f : File) (b : ℕ) where
  abbrev HeldOrFree : Type 0
  HeldOrFree = (reaches f b ≡ true) ⊎ (member b (free_list N v) ≡ true)

  joined : (xs ys : List ℕ) → (member b xs ≡ true → HeldOrFree) → (member b ys ≡ true → HeldOrFree) → member b (xs ++ ys) ≡ true → HeldOrFree
  joined xs ys p q h = go (or_cases (member b xs) (member b ys) (sym (member-append b xs ys) ∙ h))
    where
      go : (member b xs ≡ true) ⊎ (member b ys ≡ true) → HeldOrFree
      go (inl m) = p m
      go (inr m) = q m

  of-file : (g : File) → (member b g.blocks ≡ true → HeldOrFree) → (member b g.nodes ≡ true → HeldOrFree) → reaches g b ≡ true → HeldOrFree
  of-file g p q h = go (or_cases (member b g.blocks) (member b g.nodes) h)
    where
      go : (member b g.blocks ≡ true) ⊎ (member b g.nodes ≡ true) → HeldOrFree
      go (inl m) = p m
      go (inr m) = q m

  sized : (size : ℕ) (name : List ℕ) → reaches (record { name = name; size = size; blocks = blocks_then N v f size; nodes = nodes_then N v f size }) b ≡ true → HeldOrFree
  sized size name =
      of-file (record { name = name; size = size; blocks = blocks_then N v f size; nodes = nodes_then N v f size })
      (joined (take (quotient_up size block_size) f.blocks) (take (more_blocks f size) (free_list N v))
      (λ m. inl (or-first (member b f.blocks) (member b f.nodes) (member-part b (quotient_up size block_size) f.blocks m)))
      (λ m. inr (member-part b (more_blocks f size) (free_list N v) m)))
      (joined (take (nodes_wanted (extent_count (blocks_then N v f size))) f.nodes) (take (more_nodes N v f size) (drop (more_blocks f size) (free_list N v)))
      (λ m. inl (or-second (member b f.blocks) (member b f.nodes) (member-part b (nodes_wanted (extent_count (blocks_then N v f size))) f.nodes m)))
      (λ m. inr (member-behind b (more_blocks f size) (free_list N v) (member-part b (more_nodes N v f size) (drop (more_blocks f size) (free_list N v)) m))))

  held-or-free : (c : Change) → reaches (file_then N v f c) b ≡ true → HeldOrFree
  held-or-free (Create name) h = absurd (false≢true h)
  held-or-free (Remove name) h = absurd (false≢true h)
  held-or-free (Rename name new) h = inl h
  held-or-free (Write name x bytes) h = sized (max f.size (x + length bytes)) f.name h
  held-or-free (SetSize name size) h = sized size f.name h

-- ---- no block of another file

module _ (N : ℕ) (v : Disk) (s : VolumeSound N v) (table : N ≤ bit_count v) (i : ℕ) (hi : i < inode_count) (c : Change)
    (fitted : length (file_then N v (file_at v i) c).blocks ≡ quotient_up (file_then N v (file_at v i) c).size block_size)
  where
    pub stages-own : (b : ℕ) → call_stages N v i c b ≡ true → Own N v i c b
    stages-own b h = own-told N v i c fitted b h (own-byte N v i c fitted b)

    pub others-unstaged : (j : ℕ) → j < inode_count → (j ≡ i → ⊥) → (b : ℕ) → 1 ≤ occurs b (reached_from v j) → call_stages N v i c b ≡ false
    others-unstaged j hj ne b o = false_of (call_stages N v i c b) (λ h. no (stages-own b h))
      where
        inn : Inside N b
        inn = reach-inside N v s j b hj o

        free-or-own : (reaches (file_at v i) b ≡ true) ⊎ (member b (free_list N v) ≡ true) → ⊥
        free-or-own (inl r) = let z = reach-apart N v s table j i b hj hi ne o in let w = reaches-from N v s i hi b r in omega (arith, z, w)
        free-or-own (inr m) =
            not-both (occurs-member b (reached v) (omega (arith, reached-one v b j hj))) (not-true (member b (reached v)) (member-keep b (λ x. not (member x (reached v))) (up_from data_start (N - data_start)) m))

        no : Own N v i c b → ⊥
        no (inl e) = let l = inn.low in omega (arith, e, l)
        no (inr (inl e)) = let l = inn.low in omega (arith, e, l)
        no (inr (inr r)) = free-or-own (held-or-free N v (file_at v i) b c r)
