-- The nodes of a sound file hold its extents, 128 to each but the last, and nothing else. Assumes nothing.
use Rattle.std.specs.Prelude.{ℕ, zero, suc, ◌+◌, ◌*◌, ◌-◌, ◌/◌, ◌%◌, ◌≤◌, ◌<◌, ◌≡◌, refl, Bool, true, false, cond, not, ◌&&◌, ◌⊎◌, List, [], ◌∷◌, ◌++◌, map, eqb, length, take, drop, get_or}
use Rattle.std.proofs.Common.{sym, ap, ◌∙◌, subst, inl, inr, append-nil, take_all, take_at, drop_at, drop-drop, mod-eq_of_lt, zero-add, mul-suc, add_comm, arith, eqb-true}
use Rattle.std.proofs.Math.Nat.{add-mul-mod_self_left, add-mul-div_left, div-eq_of_lt}
use Rattle.spec.specs.Layout.{block_size, slots_per_node}
use Rattle.spec.specs.Bytes.{all, exactly, occurs}
use Rattle.spec.specs.Disk.{Disk}
use Rattle.spec.specs.declared.Extent.{Extent}
use Rattle.spec.specs.Inode.{extent, inode_bytes, inode_at, slots_in, slots_at, used, below, bytes_of_slots, nodes_of}
use Rattle.spec.specs.Sound.{slots_packed}
use Rattle.spec.specs.Sentences.{file_at, node_content}
use Rattle.lists.specs.Tests.{both_true}
use Rattle.lists.specs.Counts.{occurs-head, occurs-at}
use Rattle.lists.specs.All.{All}
use Rattle.bitmap.specs.Words.{Below}
use Rattle.laws.specs.Soundness.{LevelPacked, FileSound}
use Rattle.laws.specs.Tree.{depth-cases, extents-deep, levels-deep, nodes-flat, nodes-deep}
use Rattle.laws.specs.Runs.{length-node, runs-data}

-- ---- slots written as they were read

pub low_byte : (a b : ℕ) → a < 256 → (a + 256 * b) % 256 ≡ a
low_byte a b h = add-mul-mod_self_left a 256 b ∙ mod-eq_of_lt h

pub high_byte : (a b : ℕ) → a < 256 → b < 256 → (a + 256 * b) / 256 % 256 ≡ b
high_byte a b h k = ap (λ n. n % 256) (add-mul-div_left a b {y = 256} (omega arith) ∙ ap (λ n. n + b) (div-eq_of_lt h) ∙ zero-add b) ∙ mod-eq_of_lt k

abbrev is_blank : Extent → Bool
is_blank e = eqb e.first 0 && eqb e.count 0

four : (m : ℕ) → 4 * suc m ≡ suc (suc (suc (suc (4 * m))))
four m = omega arith

zero-slots : (m : ℕ) (ws : List ℕ) → length ws ≡ 4 * m → all is_blank (slots_in m ws) ≡ true → exactly (4 * m) [] ≡ ws
unfolding slots_in
zero-slots zero [] q h = refl
zero-slots zero (x ∷ ws) q h = absurd (omega arith)
zero-slots (suc m) [] q h = absurd (omega arith)
zero-slots (suc m) (a ∷ []) q h = absurd (omega arith)
zero-slots (suc m) (a ∷ b ∷ []) q h = absurd (omega arith)
zero-slots (suc m) (a ∷ b ∷ c ∷ []) q h = absurd (omega arith)
zero-slots (suc m) (a ∷ b ∷ c ∷ d ∷ ws) q h =
    let k = both_true (eqb (a + 256 * b) 0 && eqb (c + 256 * d) 0) (all is_blank (slots_in m ws)) h in
    let z = both_true (eqb (a + 256 * b) 0) (eqb (c + 256 * d) 0) k.0 in
    let f = eqb-true (a + 256 * b) 0 z.0 in
    let e = eqb-true (c + 256 * d) 0 z.1 in
    let ih = zero-slots m ws (omega arith) k.1 in
    let ea : 0 ≡ a = omega arith in
    let eb : 0 ≡ b = omega arith in
    let ec : 0 ≡ c = omega arith in
    let ed : 0 ≡ d = omega arith in
    ap (λ k. exactly k []) (four m) ∙ (let z : 0 ∷ 0 ∷ 0 ∷ 0 ∷ exactly (4 * m) [] ≡ a ∷ b ∷ c ∷ d ∷ ws = cc in z)

pub slots-bytes : (m : ℕ) (ws : List ℕ) → length ws ≡ 4 * m → Below 256 ws → slots_packed (slots_in m ws) ≡ true → exactly (4 * m) (bytes_of_slots (used (slots_in m ws))) ≡ ws
unfolding slots_in
slots-bytes zero [] q y h = refl
slots-bytes zero (x ∷ ws) q y h = absurd (omega arith)
slots-bytes (suc m) [] q y h = absurd (omega arith)
slots-bytes (suc m) (a ∷ []) q y h = absurd (omega arith)
slots-bytes (suc m) (a ∷ b ∷ []) q y h = absurd (omega arith)
slots-bytes (suc m) (a ∷ b ∷ c ∷ []) q y h = absurd (omega arith)
slots-bytes (suc m) (a ∷ b ∷ c ∷ d ∷ ws) q y h = go (eqb (c + 256 * d) 0) h (slots-bytes m ws (omega arith) (λ i. y (suc (suc (suc (suc i))))))
  where
    go : (t : Bool) → all is_blank (drop (length (cond (not t) (extent (a + 256 * b) (c + 256 * d) ∷ used (slots_in m ws)) [])) (extent (a + 256 * b) (c + 256 * d) ∷ slots_in m ws)) ≡ true
        → (slots_packed (slots_in m ws) ≡ true → exactly (4 * m) (bytes_of_slots (used (slots_in m ws))) ≡ ws)
        → exactly (4 * suc m) (bytes_of_slots (cond (not t) (extent (a + 256 * b) (c + 256 * d) ∷ used (slots_in m ws)) [])) ≡ a ∷ b ∷ c ∷ d ∷ ws
    go true k ih = zero-slots (suc m) (a ∷ b ∷ c ∷ d ∷ ws) q k
    go false k ih =
        let r = ih k in
        let la = y 0 in
        let lb = y 1 in
        let lc = y 2 in
        let ld = y 3 in
        let ea : (a + 256 * b) % 256 ≡ a = low_byte a b la in
        let eb : (a + 256 * b) / 256 % 256 ≡ b = high_byte a b la lb in
        let ec : (c + 256 * d) % 256 ≡ c = low_byte c d lc in
        let ed : (c + 256 * d) / 256 % 256 ≡ d = high_byte c d lc ld in
        ap (λ k. exactly k (bytes_of_slots (extent (a + 256 * b) (c + 256 * d) ∷ used (slots_in m ws)))) (four m)
        ∙ (let z : (a + 256 * b) % 256 ∷ (a + 256 * b) / 256 % 256 ∷ (c + 256 * d) % 256 ∷ (c + 256 * d) / 256 % 256 ∷ exactly (4 * m) (bytes_of_slots (used (slots_in m ws))) ≡ a ∷ b ∷ c ∷ d ∷ ws = cc in z)

-- ---- the extents below packed nodes

module _ (v : Disk) where
  abbrev tops : List Extent → List ℕ
  tops us = map (λ e. e.first) us

  abbrev under : Extent → List Extent
  under e = used (slots_at v e.first)

  -- all but the last are full
  abbrev pub Full : List Extent → Type 0
  Full [] = Unit {0}
  Full (u ∷ []) = Unit {0}
  Full (u ∷ w ∷ us) = (length (used (slots_at v u.first)) ≡ slots_per_node) × Full (w ∷ us)

  pub full : (us : List Extent) → LevelPacked v (tops us) → Full us
  full [] h = tt
  full (u ∷ []) h = tt
  full (u ∷ w ∷ us) h =
      let k : suc (suc (length (tops us))) - 1 ≡ suc (length (tops us)) = omega arith in
      let j : suc (length (tops us)) - 1 ≡ length (tops us) = omega arith in (
        h u.first (subst (λ m. 1 ≤ occurs u.first (take m (tops (u ∷ w ∷ us)))) (sym k) (occurs-head u.first (take (length (tops us)) (tops (w ∷ us))))),
        full (w ∷ us) (λ b o. h b (subst (λ m. 1 ≤ occurs b (take m (tops (u ∷ w ∷ us)))) (sym k)
            (let z : 1 ≤ occurs b (take (length (tops us)) (tops (w ∷ us))) = subst (λ m. 1 ≤ occurs b (take m (tops (w ∷ us)))) j o in omega arith))),
      )

  pub group : (us : List Extent) (j : ℕ) → Full us → j < length (tops us) → take slots_per_node (drop (slots_per_node * j) (below v us)) ≡ used (slots_at v (get_or (tops us) j 0))
  group [] j h l = absurd (omega arith)
  group (u ∷ []) zero h l = ap (take slots_per_node) (append-nil (under u)) ∙ take_all slots_per_node (under u) (length-node v u.first)
  group (u ∷ []) (suc j) h l = absurd (omega arith)
  group (u ∷ w ∷ us) zero h l = take_at (under u) (below v (w ∷ us)) slots_per_node h.0
  group (u ∷ w ∷ us) (suc j) h l =
      let e : slots_per_node * suc j ≡ slots_per_node + slots_per_node * j = mul-suc slots_per_node j ∙ add_comm (slots_per_node * j) slots_per_node in
      ap (λ k. take slots_per_node (drop k (under u ++ below v (w ∷ us)))) e
      ∙ ap (take slots_per_node) (sym (drop-drop (slots_per_node * j) slots_per_node (under u ++ below v (w ∷ us))) ∙ ap (drop (slots_per_node * j)) (drop_at (under u) (below v (w ∷ us)) slots_per_node h.0))
      ∙ group (w ∷ us) j h.1 (omega arith)

-- a node as the sentences tell it is the block that stands there
node_block : (v : Disk) (b : ℕ) → length (v b) ≡ block_size → Below 256 (v b) → slots_packed (slots_at v b) ≡ true → exactly block_size (bytes_of_slots (used (slots_at v b))) ≡ v b
unfolding slots_at
node_block v b l y h = slots-bytes slots_per_node (v b) l y h

pub node-held : (N : ℕ) (v : Disk) (i : ℕ) → FileSound N v (inode_bytes v i) → ((b : ℕ) → length (v b) ≡ block_size)
    → ((b : ℕ) → 1 ≤ occurs b (nodes_of v (inode_at v i)) → Below 256 (v b))
    → (j : ℕ) → j < length (nodes_of v (inode_at v i)) → node_content (file_at v i) j ≡ v (get_or (nodes_of v (inode_at v i)) j 0)
node-held N v i s whole small j l = go (depth-cases (inode_at v i) s.depth_limit)
  where
    go : ((inode_at v i).depth ≡ 0) ⊎ ((inode_at v i).depth ≡ 1) → node_content (file_at v i) j ≡ v (get_or (nodes_of v (inode_at v i)) j 0)
    go (inl e) = absurd (let z = ap length (nodes-flat v (inode_at v i) e) in omega arith)
    go (inr e) =
        let us = used (inode_at v i).slots in
        let ns = nodes-deep v (inode_at v i) e in
        let b = get_or (nodes_of v (inode_at v i)) j 0 in
        let o = occurs-at (nodes_of v (inode_at v i)) j l in
        let f : Full v us = full v us (subst (λ (ls : List (List ℕ)). All (LevelPacked v) ls) (levels-deep v (inode_at v i) e) s.nodes_full).0 in
        ap (λ (es : List Extent). exactly block_size (bytes_of_slots (take slots_per_node (drop (slots_per_node * j) es)))) (runs-data N v (inode_bytes v i) s ∙ extents-deep v (inode_at v i) e)
        ∙ ap (λ (es : List Extent). exactly block_size (bytes_of_slots es)) (group v us j f (subst (λ (k : ℕ). j < k) (ap length ns) l) ∙ ap (λ (xs : List ℕ). used (slots_at v (get_or xs j 0))) (sym ns))
        ∙ node_block v b (whole b) (small b o) (s.nodes_packed b o)
