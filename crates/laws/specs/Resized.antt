-- A file's tree at a new size: its blocks and nodes are those of the sentences, and refusals 16 and 17 fire as they tell. Assumes nothing.
use Rattle.std.specs.Prelude.{ℕ, zero, suc, ◌+◌, ◌-◌, ◌≤◌, ◌<◌, ◌≡◌, Bool, true, false, ◌||◌, ◌⊎◌, leb, ltb, get_or}
use Rattle.std.proofs.Math.Path.{refl, ap}
use Rattle.std.proofs.Common.{sym, ap₂, ◌∙◌, inl, inr, take-append-drop, take_all, le-leb, le-ltb, lt-ltb}
use mathlib.Core.List.{List, [], ◌∷◌, ◌++◌, append-nil}
use Rattle.std.proofs.Math.ListN.{length, take, drop, length-append, length-take, get_or-append}
use Rattle.std.proofs.Math.Seq.{get_or-take}
use Rattle.std.proofs.Math.Nat.{zero-sub}
use native.Mathlib.Omega.{arith}
use Rattle.std.proofs.lemmas.Bool.{lt-leb}
use Rattle.spec.specs.Layout.{bitmap_block, data_start, most_blocks, slots_per_inode, slots_per_node, max_extents}
use Rattle.spec.specs.Bytes.{concat, occurs, quotient_up}
use Rattle.spec.specs.Disk.{Disk}
use Rattle.spec.specs.Bitmap.{bits_of, free_bits, mark, picks}
use Rattle.spec.specs.Inode.{inode_bytes, inode_at, data_of, levels_of, runs, blocks_for, levels_for}
use Rattle.spec.specs.declared.Refusal.TheVariants.{NoSpace, TooManyExtents}
use Rattle.spec.specs.Answers.{Result, refuse, accept, require, ◌>>=◌, ◌>>◌}
use Rattle.spec.specs.Plan.{Tree, lowest_level, dealt, lacking, surplus, resized, fits, tree_for}
use Rattle.spec.specs.Sentences.{File, file_at, free_list, more_blocks, blocks_then, extent_count, nodes_wanted, more_nodes, nodes_then}
use Rattle.logs.specs.Stores.{Whole}
use Rattle.block.proofs.Laws.{lt-or-le}
use Rattle.bitmap.proofs.Laws.{occurs-append, bits-binary}
use Rattle.laws.specs.Soundness.{FileSound}
use Rattle.laws.specs.Volume.{VolumeSound}
use Rattle.laws.specs.Tree.{levels-few}
use Rattle.laws.specs.Runs.{count_runs}
use Rattle.laws.specs.Marks.{Exchange}
use Rattle.laws.specs.Picks.{picks-fresh, picks-within, picks-append}
use Rattle.lists.specs.Bits.{length-picks}
use Rattle.laws.specs.FreeList.{free-length, picks-free, picks-behind}

-- ---- at most one level

pub low-is : (ls : List (List ℕ)) → length ls ≤ 1 → lowest_level ls ≡ concat ls
low-is [] h = refl
low-is (ns ∷ []) h = sym (append-nil ns)
low-is (ns ∷ ms ∷ ls) h = absurd (omega arith)

-- no level, or one
pub level-sizes : (k : ℕ) → ((levels_for k ≡ []) × (nodes_wanted k ≡ 0)) ⊎ (levels_for k ≡ nodes_wanted k ∷ [])
unfolding levels_for
level-sizes k = go (lt-or-le slots_per_inode k)
  where
    go : (slots_per_inode < k) ⊎ (k ≤ slots_per_inode) → ((levels_for k ≡ []) × (nodes_wanted k ≡ 0)) ⊎ (levels_for k ≡ nodes_wanted k ∷ [])
    go (inl l) = inr (rw (lt-ltb 4 k l, lt-leb k 4 l))
    go (inr l) = inl (rw (le-leb k 4 l), rw (le-ltb 4 k l))

levels-none : (k : ℕ) → k ≤ slots_per_inode → levels_for k ≡ []
unfolding levels_for
levels-none k l = rw (le-leb k 4 l)

levels-one : (k : ℕ) → slots_per_inode < k → levels_for k ≡ quotient_up k slots_per_node ∷ []
unfolding levels_for
levels-one k l = rw (lt-leb k 4 l)

module _ (k : ℕ) (ls : List (List ℕ)) (few : length ls ≤ 1) where
  lacking-is : lacking (levels_for k) ls ≡ nodes_wanted k - length (concat ls)
  lacking-is = go (level-sizes k)
    where
      go : ((levels_for k ≡ []) × (nodes_wanted k ≡ 0)) ⊎ (levels_for k ≡ nodes_wanted k ∷ []) → lacking (levels_for k) ls ≡ nodes_wanted k - length (concat ls)
      go (inl e) = ap (λ (ns : List ℕ). lacking ns ls) e.0 ∙ sym (ap (λ n. n - length (concat ls)) e.1 ∙ zero-sub (length (concat ls)))
      go (inr e) =
          ap (λ (ns : List ℕ). lacking ns ls) e
          ∙ (let z : (nodes_wanted k - length (lowest_level ls)) + 0 ≡ nodes_wanted k - length (concat ls) = omega (arith, ap length (low-is ls few)) in z)

  dealt-is : (new : List ℕ) → length new ≡ nodes_wanted k - length (concat ls) → concat (dealt (levels_for k) ls new) ≡ take (nodes_wanted k) (concat ls) ++ new
  dealt-is new n = go (level-sizes k)
    where
      none : (xs : List ℕ) → length xs ≡ 0 → xs ≡ []
      none [] h = refl
      none (x ∷ xs) h = absurd (omega arith)

      go : ((levels_for k ≡ []) × (nodes_wanted k ≡ 0)) ⊎ (levels_for k ≡ nodes_wanted k ∷ []) → concat (dealt (levels_for k) ls new) ≡ take (nodes_wanted k) (concat ls) ++ new
      go (inl e) =
          ap (λ (ns : List ℕ). concat (dealt ns ls new)) e.0
          ∙ sym (ap₂ (λ (m : ℕ) (xs : List ℕ). take m (concat ls) ++ xs) e.1 (none new (n ∙ ap (λ m. m - length (concat ls)) e.1 ∙ zero-sub (length (concat ls)))))
      go (inr e) =
          ap (λ (ns : List ℕ). concat (dealt ns ls new)) e
          ∙ append-nil (take (nodes_wanted k) (lowest_level ls) ++ take (nodes_wanted k - length (lowest_level ls)) new)
          ∙ ap₂ (λ (xs ys : List ℕ). take (nodes_wanted k) xs ++ ys) (low-is ls few)
          (ap (λ (xs : List ℕ). take (nodes_wanted k - length xs) new) (low-is ls few) ∙ take_all (nodes_wanted k - length (concat ls)) new (omega (arith, n)))

  surplus-is : surplus (levels_for k) ls ≡ drop (nodes_wanted k) (concat ls)
  surplus-is = go (level-sizes k) ls few
    where
      empty : (m : ℕ) → ◌≡◌ {A = List ℕ} (drop m []) []
      empty zero = refl
      empty (suc m) = refl

      go : ((levels_for k ≡ []) × (nodes_wanted k ≡ 0)) ⊎ (levels_for k ≡ nodes_wanted k ∷ []) → (ls : List (List ℕ)) → length ls ≤ 1 → surplus (levels_for k) ls ≡ drop (nodes_wanted k) (concat ls)
      go d [] h = nothing (levels_for k) ∙ sym (empty (nodes_wanted k))
        where
          nothing : (ns : List ℕ) → surplus ns [] ≡ []
          nothing [] = refl
          nothing (n ∷ ns) = refl
      go (inl e) (ns ∷ []) h = ap (λ (ms : List ℕ). surplus ms (ns ∷ [])) e.0 ∙ sym (ap (λ m. drop m (ns ++ [])) e.1)
      go (inr e) (ns ∷ []) h = ap (λ (ms : List ℕ). surplus ms (ns ∷ [])) e ∙ append-nil (drop (nodes_wanted k) ns) ∙ ap (drop (nodes_wanted k)) (sym (append-nil ns))
      go d (ns ∷ ms ∷ ls) h = absurd (omega arith)

-- ---- the tree

occurs-split : (b k : ℕ) (xs : List ℕ) → occurs b (take k xs) + occurs b (drop k xs) ≡ occurs b xs
occurs-split b k xs = sym (occurs-append b (take k xs) (drop k xs)) ∙ ap (occurs b) (take-append-drop k xs)

module _ (N : ℕ) (v : Disk) (i : ℕ) (low : data_start ≤ N) (most : N ≤ most_blocks) (whole : Whole v) (s : VolumeSound N v) (sound : FileSound N v (inode_bytes v i)) (size : ℕ) where
  abbrev bits : List ℕ
  bits = bits_of (v bitmap_block)

  abbrev f : File
  f = file_at v i

  abbrev pub tree_at : Tree
  tree_at = resized (bits_of (v bitmap_block)) (data_of v (inode_at v i)) (levels_of v (inode_at v i)) (blocks_for size)

  few-levels : length (levels_of v (inode_at v i)) ≤ 1
  few-levels = omega (arith, levels-few v (inode_at v i) sound.depth_limit, sound.depth_limit)

  new-data : tree_at.new_data ≡ picks bits (more_blocks f size)
  unfolding resized
  new-data = refl

  pub extents-are : tree_at.extents ≡ runs tree_at.blocks
  unfolding resized
  extents-are = refl

  -- "the data blocks then"
  module _ (room : more_blocks f size ≤ free_bits bits) where
    pub tree-blocks : tree_at.blocks ≡ blocks_then N v f size
    unfolding resized
    tree-blocks = ap (λ (xs : List ℕ). take (blocks_for size) f.blocks ++ xs) (picks-free N v low most whole s (more_blocks f size) room)

    pub tree-length : length tree_at.blocks ≡ blocks_for size
    unfolding resized
    tree-length =
        length-append (take (blocks_for size) f.blocks) tree_at.new_data
        ∙ omega (arith, length-take (blocks_for size) f.blocks, length-picks bits (more_blocks f size))

    -- the blocks held stay in their places
    pub tree-held : (p : ℕ) → p < length f.blocks → p < blocks_for size → get_or tree_at.blocks p 0 ≡ get_or f.blocks p 0
    unfolding resized
    tree-held p h k =
        get_or-append (take (blocks_for size) f.blocks) tree_at.new_data 0 p (omega (arith, length-take (blocks_for size) f.blocks))
        ∙ get_or-take (blocks_for size) f.blocks p 0 k

    pub tree-extents : length tree_at.extents ≡ extent_count (blocks_then N v f size)
    tree-extents = ap length extents-are ∙ sym (count_runs tree_at.blocks) ∙ ap extent_count tree-blocks

    wanted-is : lacking (levels_for (length tree_at.extents)) (levels_of v (inode_at v i)) ≡ more_nodes N v f size
    wanted-is = lacking-is (length tree_at.extents) (levels_of v (inode_at v i)) few-levels ∙ ap (λ k. nodes_wanted k - length f.nodes) tree-extents

    new-nodes : tree_at.new_nodes ≡ picks (mark 1 (picks bits (more_blocks f size)) bits) (more_nodes N v f size)
    unfolding resized
    new-nodes = ap (picks (mark 1 (picks bits (more_blocks f size)) bits)) wanted-is

    pub length-new : length tree_at.new_data + length tree_at.new_nodes ≡ more_blocks f size + more_nodes N v f size
    length-new =
        ap₂ (λ (a b : ℕ). a + b) (ap length new-data ∙ length-picks bits (more_blocks f size))
        (ap length new-nodes ∙ length-picks (mark 1 (picks bits (more_blocks f size)) bits) (more_nodes N v f size))

    pub new-are : tree_at.new_data ++ tree_at.new_nodes ≡ picks bits (more_blocks f size + more_nodes N v f size)
    new-are = ap₂ (λ (a b : List ℕ). a ++ b) new-data new-nodes ∙ sym (picks-append bits (more_blocks f size) (more_nodes N v f size))

    levels-are : concat tree_at.levels ≡ take (nodes_wanted (length tree_at.extents)) f.nodes ++ tree_at.new_nodes
    unfolding resized
    levels-are =
        dealt-is (length tree_at.extents) (levels_of v (inode_at v i)) few-levels tree_at.new_nodes
        (ap length new-nodes ∙ length-picks (mark 1 (picks bits (more_blocks f size)) bits) (more_nodes N v f size) ∙ ap (λ k. nodes_wanted k - length f.nodes) (sym tree-extents))

    -- no level where the record holds all extents, else one
    pub tree-levels : ((tree_at.levels ≡ []) × (length tree_at.extents ≤ slots_per_inode))
        ⊎ ((tree_at.levels ≡ concat tree_at.levels ∷ []) × (slots_per_inode < length tree_at.extents))
    unfolding resized
    tree-levels = go (lt-or-le slots_per_inode (length tree_at.extents))
      where
        one : (ls : List ℕ) (k : ℕ) (ns : List ℕ) → ls ≡ k ∷ [] → (held : List (List ℕ)) → dealt ls held ns ≡ concat (dealt ls held ns) ∷ []
        one ls k ns e held =
            rw e (ap (λ (xs : List ℕ). xs ∷ []) (sym (append-nil (take k (lowest_level held) ++ take (k - length (lowest_level held)) ns))))

        go : (slots_per_inode < length tree_at.extents) ⊎ (length tree_at.extents ≤ slots_per_inode)
            → ((tree_at.levels ≡ []) × (length tree_at.extents ≤ slots_per_inode)) ⊎ ((tree_at.levels ≡ concat tree_at.levels ∷ []) × (slots_per_inode < length tree_at.extents))
        go (inl l) = inr (one (levels_for (length tree_at.extents)) (quotient_up (length tree_at.extents) slots_per_node) tree_at.new_nodes (levels-one (length tree_at.extents) l) (levels_of v (inode_at v i)), l)
        go (inr l) = inl (ap (λ (ns : List ℕ). dealt ns (levels_of v (inode_at v i)) tree_at.new_nodes) (levels-none (length tree_at.extents) l), l)

    pub dropped-are : tree_at.dropped ≡ drop (blocks_for size) f.blocks ++ drop (nodes_wanted (length tree_at.extents)) f.nodes
    unfolding resized
    dropped-are = ap (λ (xs : List ℕ). drop (blocks_for size) f.blocks ++ xs) (surplus-is (length tree_at.extents) (levels_of v (inode_at v i)) few-levels)

    -- "then extent blocks likewise"
    module _ (all_room : more_blocks f size + more_nodes N v f size ≤ free_bits bits) where
      pub tree-nodes : concat tree_at.levels ≡ nodes_then N v f size
      tree-nodes =
          levels-are
          ∙ ap₂ (λ (k : ℕ) (xs : List ℕ). take (nodes_wanted k) f.nodes ++ xs) tree-extents
          (new-nodes ∙ picks-behind N v low most whole s (more_blocks f size) (more_nodes N v f size) all_room)

      pub tree-many : slots_per_inode < length tree_at.extents → length (concat tree_at.levels) ≡ quotient_up (length tree_at.extents) slots_per_node
      tree-many l =
          let k = length tree_at.extents in
          let e : nodes_wanted k ≡ quotient_up k slots_per_node = rw (lt-ltb 4 k l) in
          ap length levels-are ∙ length-append (take (nodes_wanted k) f.nodes) tree_at.new_nodes
          ∙ (let z : length (take (nodes_wanted k) f.nodes) + length tree_at.new_nodes ≡ quotient_up k slots_per_node =
          omega (
            arith,
            e,
            length-take (nodes_wanted k) f.nodes,
            ap length new-nodes ∙ length-picks (mark 1 (picks bits (more_blocks f size)) bits) (more_nodes N v f size) ∙ ap (λ k. nodes_wanted k - length f.nodes) (sym tree-extents),
          ) in z)

      -- what is taken and given back
      pub tree-exchange : ((x : ℕ) → occurs x (f.blocks ++ f.nodes) ≤ get_or bits x 0)
          → Exchange bits (tree_at.new_data ++ tree_at.new_nodes) tree_at.dropped (f.blocks ++ f.nodes) (tree_at.blocks ++ concat tree_at.levels)
      unfolding resized
      tree-exchange marked =
          let k = nodes_wanted (length tree_at.extents) in
          let held : (x : ℕ) → occurs x (f.blocks ++ f.nodes) ≡ occurs x f.blocks + occurs x f.nodes = λ x. occurs-append x f.blocks f.nodes in
          let gone : (x : ℕ) → occurs x tree_at.dropped ≡ occurs x (drop (blocks_for size) f.blocks) + occurs x (drop k f.nodes) =
          λ x. ap (occurs x) dropped-are ∙ occurs-append x (drop (blocks_for size) f.blocks) (drop k f.nodes)
          in
          record {
            fresh = λ x. rw new-are (picks-fresh bits (more_blocks f size + more_nodes N v f size) all_room (bits-binary (v bitmap_block)) x);
            within = λ x o. picks-within bits (more_blocks f size + more_nodes N v f size) all_room x (rw new-are at o);
            marked = marked;
            part = λ x. omega (arith, held x, gone x, occurs-split x (blocks_for size) f.blocks, occurs-split x k f.nodes);
            balance = λ x.
                omega (
                  arith,
                  held x,
                  gone x,
                  occurs-split x (blocks_for size) f.blocks,
                  occurs-split x k f.nodes,
                  occurs-append x tree_at.blocks (concat tree_at.levels),
                  occurs-append x (take (blocks_for size) f.blocks) tree_at.new_data,
                  ap (occurs x) levels-are,
                  occurs-append x (take k f.nodes) tree_at.new_nodes,
                  occurs-append x tree_at.new_data tree_at.new_nodes,
                );
          }

  -- ---- refusals 16 and 17

  abbrev pub lacks : Bool
  lacks = ltb (length (free_list N v)) (more_blocks (file_at v i) size) || ltb (length (free_list N v)) (more_blocks (file_at v i) size + more_nodes N v (file_at v i) size)

  abbrev pub scattered : Bool
  scattered = ltb max_extents (extent_count (blocks_then N v (file_at v i) size))

  pub data Fit : Type 0 where
    no-space : lacks ≡ true → tree_for v (inode_at v i) size ≡ refuse NoSpace → Fit
    too_many : lacks ≡ false → scattered ≡ true → tree_for v (inode_at v i) size ≡ refuse TooManyExtents → Fit
    fitting : lacks ≡ false → scattered ≡ false → more_blocks (file_at v i) size + more_nodes N v (file_at v i) size ≤ free_bits (bits_of (v bitmap_block))
        → extent_count (blocks_then N v (file_at v i) size) ≤ max_extents → tree_for v (inode_at v i) size ≡ accept tree_at → Fit

  abbrev chain : Bool → Bool → Bool → Result Tree
  chain a b c = require a NoSpace >> (accept tree_at >>= (λ t. require b NoSpace >> (require c TooManyExtents >> accept t)))

  tree-for : tree_for v (inode_at v i) size
      ≡ chain (leb (more_blocks f size) (free_bits bits)) (leb (length tree_at.new_data + length tree_at.new_nodes) (free_bits bits)) (leb (length tree_at.extents) max_extents)
  unfolding fits
  tree-for = refl

  pub tree-fits : Fit
  tree-fits = go (lt-or-le (free_bits bits) (more_blocks f size))
    where
      free : length (free_list N v) ≡ free_bits bits
      free = free-length N v low most whole s

      go : (free_bits bits < more_blocks f size) ⊎ (more_blocks f size ≤ free_bits bits) → Fit
      go (inl l) =
          no-space (ap (λ t. t || ltb (length (free_list N v)) (more_blocks f size + more_nodes N v f size)) (lt-ltb (length (free_list N v)) (more_blocks f size) (omega (arith, free))))
          (tree-for ∙ ap (λ t. chain t (leb (length tree_at.new_data + length tree_at.new_nodes) (free_bits bits)) (leb (length tree_at.extents) max_extents)) (lt-leb (more_blocks f size) (free_bits bits) l))
      go (inr l) = next (lt-or-le (free_bits bits) (more_blocks f size + more_nodes N v f size))
        where
          first : ltb (length (free_list N v)) (more_blocks f size) ≡ false
          first = le-ltb (length (free_list N v)) (more_blocks f size) (omega (arith, free))

          passed : tree_for v (inode_at v i) size ≡ chain true (leb (more_blocks f size + more_nodes N v f size) (free_bits bits)) (leb (extent_count (blocks_then N v f size)) max_extents)
          passed =
              tree-for ∙ ap (λ t. chain t (leb (length tree_at.new_data + length tree_at.new_nodes) (free_bits bits)) (leb (length tree_at.extents) max_extents)) (le-leb (more_blocks f size) (free_bits bits) l)
              ∙ ap₂ (λ (m n : ℕ). chain true (leb m (free_bits bits)) (leb n max_extents)) (length-new l) (tree-extents l)

          next : (free_bits bits < more_blocks f size + more_nodes N v f size) ⊎ (more_blocks f size + more_nodes N v f size ≤ free_bits bits) → Fit
          next (inl m) =
              no-space (ap₂ ◌||◌ first (lt-ltb (length (free_list N v)) (more_blocks f size + more_nodes N v f size) (omega (arith, free))))
              (passed ∙ ap (λ t. chain true t (leb (extent_count (blocks_then N v f size)) max_extents)) (lt-leb (more_blocks f size + more_nodes N v f size) (free_bits bits) m))
          next (inr m) = last (lt-or-le max_extents (extent_count (blocks_then N v f size)))
            where
              enough : lacks ≡ false
              enough = ap₂ ◌||◌ first (le-ltb (length (free_list N v)) (more_blocks f size + more_nodes N v f size) (omega (arith, free)))

              so_far : tree_for v (inode_at v i) size ≡ chain true true (leb (extent_count (blocks_then N v f size)) max_extents)
              so_far = passed ∙ ap (λ t. chain true t (leb (extent_count (blocks_then N v f size)) max_extents)) (le-leb (more_blocks f size + more_nodes N v f size) (free_bits bits) m)

              last : (max_extents < extent_count (blocks_then N v f size)) ⊎ (extent_count (blocks_then N v f size) ≤ max_extents) → Fit
              last (inl n) = too_many enough (lt-ltb max_extents (extent_count (blocks_then N v f size)) n) (so_far ∙ ap (chain true true) (lt-leb (extent_count (blocks_then N v f size)) max_extents n))
              last (inr n) = fitting enough (le-ltb max_extents (extent_count (blocks_then N v f size)) n) m n (so_far ∙ ap (chain true true) (le-leb (extent_count (blocks_then N v f size)) max_extents n))
