-- A sound record written anew from its own tree is the same 32 bytes. Assumes nothing.
use Rattle.std.specs.Prelude.{ℕ, suc, ◌+◌, ◌*◌, ◌/◌, ◌%◌, ◌<◌, ◌≡◌, refl, true, ◌&&◌, ◌⊎◌, eqb, get_or}
use Rattle.std.proofs.Common.{sym, ◌∙◌, subst, inl, inr, take_all, take_at, drop_at, mod-eq_of_lt, zero-add, eqb-true}
use Rattle.std.proofs.Math.Path.{ap, ap₂}
use mathlib.Core.List.{List, [], ◌∷◌, ◌++◌, map, append-nil}
use Rattle.std.proofs.Math.ListN.{length, take, drop, length-drop, take-append-drop}
use Rattle.std.proofs.Math.Seq.{drop-drop, get_or-drop}
use Rattle.std.proofs.Math.Nat.{add-mul-mod_self_left, add-mul-div_left, div-eq_of_lt}
use native.Mathlib.Omega.{arith}
use Rattle.spec.specs.Layout.{name_size, slots_per_inode, slots_per_node}
use Rattle.spec.specs.Bytes.{all_zero, number4, bytes4, exactly}
use Rattle.spec.specs.Disk.{Disk}
use Rattle.spec.specs.declared.Extent.{Extent}
use Rattle.spec.specs.Inode.{extent, tree_depth, inode_of, inode_at, inode_bytes, inode_with, bytes_of_inode, top_slots, slots_in, slots_at, used, below, bytes_of_slots, extents_of, levels_of, node_slots, counts}
use Rattle.spec.specs.Sound.{slots_packed}
use Rattle.lists.specs.Tests.{both_true}
use Rattle.lists.specs.All.{All}
use Rattle.logs.specs.Stores.{Whole}
use Rattle.bitmap.specs.Words.{Below}
use Rattle.laws.specs.Soundness.{Counted, CountsAgree, LevelPacked, FileSound}
use Rattle.laws.specs.Tree.{depth-cases, extents-flat, extents-deep, levels-flat, levels-deep, levels-few}
use Rattle.laws.specs.Runs.{length-node}
use Rattle.laws.specs.Patch.{length-record}
use Rattle.laws.specs.Nodes.{low_byte, high_byte, slots-bytes, Full, full}

low_half : (a b : ℕ) → a < 65536 → (a + 65536 * b) % 65536 ≡ a
low_half a b h = add-mul-mod_self_left a 65536 b ∙ mod-eq_of_lt h

high_half : (a b : ℕ) → a < 65536 → (a + 65536 * b) / 65536 ≡ b
high_half a b h = add-mul-div_left a b {y = 65536} (omega arith) ∙ ap (λ n. n + b) (div-eq_of_lt h) ∙ zero-add b

-- ---- the slots of a packed tree

pub node-slots : (v : Disk) (us : List Extent) → All (Counted v) us → Full v us → node_slots (map (λ e. e.first) us) (below v us) ≡ us
node-slots v [] c h = refl
node-slots v (u ∷ []) c h =
    let e : take slots_per_node (used (slots_at v u.first) ++ []) ≡ used (slots_at v u.first) =
    ap (take slots_per_node) (append-nil (used (slots_at v u.first))) ∙ take_all slots_per_node (used (slots_at v u.first)) (length-node v u.first)
    in
    ap (λ (z : List Extent). extent u.first (counts z) ∷ []) e ∙ ap (λ k. extent u.first k ∷ []) (sym c.0)
node-slots v (u ∷ w ∷ us) c h =
    let own = used (slots_at v u.first) in
    let e = take_at own (below v (w ∷ us)) slots_per_node h.0 in
    let d = drop_at own (below v (w ∷ us)) slots_per_node h.0 in
    ap₂ (λ (k : ℕ) (z : List Extent). extent u.first k ∷ node_slots (map (λ e. e.first) (w ∷ us)) z) (ap counts e ∙ sym c.0) d
    ∙ ap (λ (z : List Extent). u ∷ z) (node-slots v (w ∷ us) c.1 h.1)

-- ---- the record

tail-bytes : (zs : List ℕ) (size depth : ℕ) → length zs ≡ 24 → Below 256 zs → number4 0 zs ≡ size → get_or zs 4 0 ≡ depth → all_zero (take 3 (drop 5 zs)) ≡ true
    → slots_packed (slots_in slots_per_inode (drop 8 zs)) ≡ true → bytes4 size ++ (depth ∷ 0 ∷ 0 ∷ 0 ∷ exactly 16 (bytes_of_slots (used (slots_in slots_per_inode (drop 8 zs))))) ≡ zs
tail-bytes (a ∷ b ∷ c ∷ d ∷ e ∷ p ∷ q ∷ r ∷ ws) size depth l y s k z h =
    let la = y 0 in
    let lb = y 1 in
    let lc = y 2 in
    let ld = y 3 in
    let sz : size ≡ (a + 256 * b) + 65536 * (c + 256 * d) = sym s in
    let lo : size % 65536 ≡ a + 256 * b = ap (λ k. k % 65536) sz ∙ low_half (a + 256 * b) (c + 256 * d) (omega arith) in
    let hi : size / 65536 ≡ c + 256 * d = ap (λ k. k / 65536) sz ∙ high_half (a + 256 * b) (c + 256 * d) (omega arith) in
    let ea : size % 65536 % 256 ≡ a = ap (λ k. k % 256) lo ∙ low_byte a b la in
    let eb : size % 65536 / 256 % 256 ≡ b = ap (λ k. k / 256 % 256) lo ∙ high_byte a b la lb in
    let ec : size / 65536 % 256 ≡ c = ap (λ k. k % 256) hi ∙ low_byte c d lc in
    let ed : size / 65536 / 256 % 256 ≡ d = ap (λ k. k / 256 % 256) hi ∙ high_byte c d lc ld in
    let z0 = both_true (eqb p 0) (eqb q 0 && (eqb r 0 && true)) z in
    let z1 = both_true (eqb q 0) (eqb r 0 && true) z0.1 in
    let ep : 0 ≡ p = sym (eqb-true p 0 z0.0) in
    let eq : 0 ≡ q = sym (eqb-true q 0 z1.0) in
    let er : 0 ≡ r = sym (eqb-true r 0 (both_true (eqb r 0) true z1.1).0) in
    let ew = slots-bytes 4 ws (omega arith) (λ i. y (suc (suc (suc (suc (suc (suc (suc (suc i))))))))) h in
    let goal : size % 65536 % 256 ∷ size % 65536 / 256 % 256 ∷ size / 65536 % 256 ∷ size / 65536 / 256 % 256 ∷ depth ∷ 0 ∷ 0 ∷ 0 ∷ exactly 16 (bytes_of_slots (used (slots_in 4 ws)))
    ≡ a ∷ b ∷ c ∷ d ∷ e ∷ p ∷ q ∷ r ∷ ws = cc in
    goal
tail-bytes [] size depth l y s k z h = absurd (omega arith)
tail-bytes (a ∷ []) size depth l y s k z h = absurd (omega arith)
tail-bytes (a ∷ b ∷ []) size depth l y s k z h = absurd (omega arith)
tail-bytes (a ∷ b ∷ c ∷ []) size depth l y s k z h = absurd (omega arith)
tail-bytes (a ∷ b ∷ c ∷ d ∷ []) size depth l y s k z h = absurd (omega arith)
tail-bytes (a ∷ b ∷ c ∷ d ∷ e ∷ []) size depth l y s k z h = absurd (omega arith)
tail-bytes (a ∷ b ∷ c ∷ d ∷ e ∷ p ∷ []) size depth l y s k z h = absurd (omega arith)
tail-bytes (a ∷ b ∷ c ∷ d ∷ e ∷ p ∷ q ∷ []) size depth l y s k z h = absurd (omega arith)

module _ (N : ℕ) (v : Disk) (i : ℕ) (whole : Whole v) (small : Below 256 (drop name_size (inode_bytes v i))) (s : FileSound N v (inode_bytes v i)) where
  abbrev xs : List ℕ
  xs = inode_bytes v i

  -- the slots above all levels are the record's
  tops : top_slots (levels_of v (inode_at v i)) (extents_of v (inode_at v i)) ≡ used (inode_at v i).slots
  tops = go (depth-cases (inode_at v i) s.depth_limit)
    where
      go : ((inode_at v i).depth ≡ 0) ⊎ ((inode_at v i).depth ≡ 1) → top_slots (levels_of v (inode_at v i)) (extents_of v (inode_at v i)) ≡ used (inode_at v i).slots
      go (inl e) = ap₂ top_slots (levels-flat v (inode_at v i) e) (extents-flat v (inode_at v i) e)
      go (inr e) =
          let us = used (inode_at v i).slots in
          let c : CountsAgree v 1 us = subst (λ k. CountsAgree v k us) (let z : tree_depth (inode_at v i) ≡ 1 = omega arith in z) s.counts_below in
          let f : Full v us = full v us (subst (λ (ls : List (List ℕ)). All (LevelPacked v) ls) (levels-deep v (inode_at v i) e) s.nodes_full).0 in
          ap₂ top_slots (levels-deep v (inode_at v i) e) (extents-deep v (inode_at v i) e) ∙ node-slots v us c.0 f

  tail-is : bytes4 (inode_at v i).size ++ ((inode_at v i).depth ∷ 0 ∷ 0 ∷ 0 ∷ exactly 16 (bytes_of_slots (used (inode_at v i).slots))) ≡ drop name_size xs
  unfolding inode_of
  tail-is =
      let d8 : drop 8 (drop 8 xs) ≡ drop 16 xs = drop-drop 8 8 xs in
      let d5 : drop 5 (drop 8 xs) ≡ drop 13 xs = drop-drop 5 8 xs in
      let g0 = get_or-drop 8 xs 0 0 in
      let g1 = get_or-drop 8 xs 1 0 in
      let g2 = get_or-drop 8 xs 2 0 in
      let g3 = get_or-drop 8 xs 3 0 in
      let sz : number4 0 (drop 8 xs) ≡ number4 8 xs = omega arith in
      let l : length (drop 8 xs) ≡ 24 = length-drop 8 xs ∙ (let z = length-record v i whole in omega arith) in
      ap (λ (z : List ℕ). bytes4 (number4 8 xs) ++ (get_or xs 12 0 ∷ 0 ∷ 0 ∷ 0 ∷ exactly 16 (bytes_of_slots (used (slots_in 4 z))))) (sym d8)
      ∙ tail-bytes (drop 8 xs) (number4 8 xs) (get_or xs 12 0) l small sz (get_or-drop 8 xs 4 0)
      (ap (λ (z : List ℕ). all_zero (take 3 z)) d5 ∙ s.reserved) (ap (λ (z : List ℕ). slots_packed (slots_in 4 z)) d8 ∙ s.top_packed)

  pub record-bytes : bytes_of_inode (inode_with (take name_size (inode_bytes v i)) (inode_at v i).size (extents_of v (inode_at v i)) (levels_of v (inode_at v i))) ≡ inode_bytes v i
  unfolding bytes_of_inode
  record-bytes =
      ap₂ (λ (k : ℕ) (ss : List Extent). take name_size xs ++ (bytes4 (inode_at v i).size ++ (k ∷ 0 ∷ 0 ∷ 0 ∷ exactly 16 (bytes_of_slots ss)))) (levels-few v (inode_at v i) s.depth_limit) tops
      ∙ ap (λ (z : List ℕ). take name_size xs ++ z) tail-is
      ∙ take-append-drop name_size xs
