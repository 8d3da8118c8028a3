-- Laws of the walk over a file's tree. Assumes nothing.
use Prim.Native.Nat.{ℕ, zero, suc, ◌+◌, ◌-◌, ◌*◌, ◌/◌, ◌<◌, ◌≤◌, min}
use mathlib.Core.Path.{◌≡◌, refl, sym, ap, ◌∙◌}
use mathlib.Core.Bool.{Bool, true, false, not, true≢false}
use mathlib.Core.List.{List, [], ◌∷◌, append-nil}
use native.Mathlib.Omega.{arith}
use lib.ListN.{length, take, drop, get_or, get_or-eq_default, length-drop, length-take}
use Rattle.std.specs.Simd.{first_chunks}
use Rattle.std.proofs.lemmas.List.{take_min, drop_min}
use Rattle.std.proofs.Math.Nat.{mul-suc}
use lib.Seq.{get_or-take, get_or-drop, drop-drop, take_all}
use lib.Dec.{eqb, ltb}
use borrow.Author.Tests.{eqb-true, eqb-false, ltb-true, eq-eqb, ne_eqb, lt-ltb, not-true}
use Rattle.lists.specs.Tests.{both_true}
use Rattle.spec.specs.declared.Extent.{Extent}
use Rattle.spec.specs.Bytes.{exactly}
use Rattle.spec.specs.Disk.{Disk}
use Rattle.spec.specs.Inode.{extent, slots_in, slots_at, used, inode_of, inode_bytes, inode_at, block_of_inode, place_of_inode, tree_depth, extents_of, levels_of, nodes_of}
use Rattle.block.proofs.Laws.{exactly-byte}
use Rattle.inode.specs.declared.Cursor.{Cursor}
use Rattle.inode.specs.Records.{record_in}
use Rattle.inode.specs.Walk.{slot_in, Slot, whole_slots, live, leaf, rest, rest_nodes, weight, behind, Onward, Inward, Ended, start_of}
use Rattle.inode.proofs.Laws.{field-slots, inode-at}

-- ---- one slot

-- the slot at a byte of a block, read from its bytes
module _ (block : List ℕ) (at : ℕ) (few : length block ≤ 512) where
  byte_of : (i : ℕ) → get_or block i 0 ≡ get_or (exactly 512 block) i 0
  byte_of i = sym (exactly-byte 512 block i ∙ ap (λ (l : List ℕ). get_or l i 0) (take_all 512 block few))

  -- from a copy of its four bytes
  pub slot_read : (bytes : List ℕ) (e : Extent) → at < length block → (e ≡ slot_in 0 bytes) × (e.first < 65536) × (e.count < 65536)
      → ((i : ℕ) → i < 4 → get_or bytes i 0 ≡ get_or block (at + i) 0) → Slot (exactly 512 block) at e
  slot_read bytes e h f g =
      let z : at + 0 ≡ at = omega arith in
      let y : at + (2 + 1) ≡ at + 2 + 1 = omega arith in
      record {
        is = f.0 ∙ rw (g 0 (omega arith), g 1 (omega arith), g 2 (omega arith), g (2 + 1) (omega arith), z, y, byte_of at, byte_of (at + 1), byte_of (at + 2), byte_of (at + 2 + 1));
        first = f.1;
        count = f.2;
        inside = λ k. omega arith;
      }

  pub slot-part : (bytes : List ℕ) (e : Extent) → at < length block → bytes ≡ take 4 (take (length block - at) (drop at block))
      → (e ≡ slot_in 0 bytes) × (e.first < 65536) × (e.count < 65536) → Slot (exactly 512 block) at e
  slot-part bytes e h same f =
      let rest-of : take (length block - at) (drop at block) ≡ drop at block = take_all (length block - at) (drop at block) (rw length-drop (omega arith)) in
      slot_read bytes e h f (λ i k. rw (same, rest-of) (get_or-take 4 (drop at block) i 0 k ∙ get_or-drop at block i 0))

  -- one that the block cuts
  pub slot-cut : (e : Extent) (p q r s : ℕ) → at < length block → p ≡ get_or block at 0 → q ≡ get_or block (at + 1) 0 → r ≡ get_or block (at + 2) 0 → s ≡ get_or block (at + 3) 0
      → (e ≡ slot_in 0 (p ∷ q ∷ r ∷ s ∷ [])) × (e.first < 65536) × (e.count < 65536) → Slot (exactly 512 block) at e
  slot-cut e p q r s h a b c d f = slot_read (p ∷ q ∷ r ∷ s ∷ []) e h f go
    where
      go : (i : ℕ) → i < 4 → get_or (p ∷ q ∷ r ∷ s ∷ []) i 0 ≡ get_or block (at + i) 0
      go zero k = let z : at + 0 ≡ at = omega arith in rw z a
      go (suc zero) k = b
      go (suc (suc zero)) k = c
      go (suc (suc (suc zero))) k = d
      go (suc (suc (suc (suc i)))) k = absurd (omega arith)

  pub slot-past : length block ≤ at → Slot (exactly 512 block) at (extent 0 0)
  slot-past h =
      let zero-at : (i : ℕ) → length block ≤ i → get_or (exactly 512 block) i 0 ≡ 0 = λ i k. sym (byte_of i) ∙ get_or-eq_default block 0 k in
      record {
        is = rw (zero-at at h, zero-at (at + 1) (omega arith), zero-at (at + 2) (omega arith), zero-at (at + 2 + 1) (omega arith));
        first = omega arith;
        count = omega arith;
        inside = λ k. absurd (omega arith);
      }

-- ---- whole slots

-- from a place that is taken to the end of the bytes at most
pub slots-whole : (block : List ℕ) (at most a n : ℕ) (all : List (List ℕ)) → a ≡ min at (length block)
    → all ≡ first_chunks 4 (length (take (length block - a) (drop a block)) / 4) (take (length block - a) (drop a block))
    → n ≡ min most (length all) → take n all ≡ whole_slots most at block
slots-whole block at most a n all h front few =
    let z : take (length block - a) (drop a block) ≡ drop at block
    = take_all (length block - a) (drop a block) (rw length-drop (omega (arith, h))) ∙ ap (λ (k : ℕ). drop k block) h ∙ drop_min at block in
    ap (λ (k : ℕ). take k all) few ∙ take_min most all ∙ ap (take most) (rw z at front)

-- the chunks of n elements that a list begins with
chunk-at : {X : Type 0} (n k w : ℕ) (t : List X) (d : List X) → w < k → get_or (first_chunks n k t) w d ≡ take n (drop (n * w) t)
chunk-at n zero w t d h = absurd (omega arith)
chunk-at n (suc k) zero t d h = let z : n * 0 ≡ 0 = omega arith in rw z
chunk-at n (suc k) (suc w) t d h =
    let e : n + n * w ≡ n * suc w = omega (arith, mul-suc n w) in
    chunk-at n k w (drop n t) d (omega arith) ∙ ap (take n) (drop-drop (n * w) n t ∙ ap (λ (j : ℕ). drop j t) e)

chunks-many : {X : Type 0} (n k : ℕ) (t : List X) → length (first_chunks n k t) ≡ k
chunks-many n zero t = refl
chunks-many n (suc k) t = ap suc (chunks-many n k (drop n t))

-- no more of them than are asked for, and than lie in the block
pub slots-many : (block : List ℕ) (at most n : ℕ) → length block ≤ 512 → (slots : List (List ℕ)) → slots ≡ whole_slots most at block → n ≤ length slots
    → (n ≤ most) × (4 * n ≤ 512 - at)
slots-many block at most n few slots s h =
    let m = length (drop at block) / 4 in
    let z : length slots ≡ min most (length (first_chunks 4 m (drop at block))) = ap length s ∙ length-take most (first_chunks 4 m (drop at block)) in
    let y : length (first_chunks 4 m (drop at block)) ≡ (length block - at) / 4 = chunks-many 4 m (drop at block) ∙ ap (λ (k : ℕ). k / 4) (length-drop at block) in
    (omega (arith, z, h), omega (arith, z, y, h))

-- one of the slots, by its bytes
module _ (block : List ℕ) (at most k : ℕ) (few : length block ≤ 512) (l : k < length (whole_slots most at block)) where
  slots-few : (k < most) × (k < (length block - at) / 4)
  slots-few =
      let n = length (drop at block) / 4 in
      let z : length (whole_slots most at block) ≡ min most (length (first_chunks 4 n (drop at block))) = length-take most (first_chunks 4 n (drop at block)) in
      let y : length (first_chunks 4 n (drop at block)) ≡ (length block - at) / 4 = chunks-many 4 n (drop at block) ∙ ap (λ (m : ℕ). m / 4) (length-drop at block) in
      (omega (arith, z, l), omega (arith, z, y, l))

  slot-bytes : get_or (whole_slots most at block) k [] ≡ take 4 (drop (at + 4 * k) block)
  slot-bytes =
      let n = length (drop at block) / 4 in
      let y : n ≡ (length block - at) / 4 = ap (λ (m : ℕ). m / 4) (length-drop at block) in
      get_or-take most (first_chunks 4 n (drop at block)) k [] slots-few.0
      ∙ chunk-at 4 n k (drop at block) [] (omega (arith, y, slots-few.1))
      ∙ ap (take 4) (drop-drop (4 * k) at block)

  pub slot-whole : (e : Extent) → (e ≡ slot_in 0 (get_or (whole_slots most at block) k [])) × (e.first < 65536) × (e.count < 65536) → Slot (exactly 512 block) (at + 4 * k) e
  slot-whole e f =
      slot_read block (at + 4 * k) few (get_or (whole_slots most at block) k []) e (omega (arith, slots-few.1)) f
      (λ i h. ap (λ (l : List ℕ). get_or l i 0) slot-bytes ∙ get_or-take 4 (drop (at + 4 * k) block) i 0 h ∙ get_or-drop (at + 4 * k) block i 0)

-- the same of the block of a disk that these bytes are
pub slot_of : (X Y : List ℕ) (at : ℕ) (e : Extent) → X ≡ Y → Slot X at e → Slot Y at e
slot_of X Y at e q s = rw q at s

-- a slot that is live is there, lies in the block and has a count
pub live-left : (n : ℕ) (e : Extent) (r : Bool) → r ≡ live n e → r ≡ true → 0 < n
unfolding live
live-left n e r l h = ltb-true 0 n (both_true (ltb 0 n) (not (eqb e.count 0)) (sym l ∙ h)).0

live-count : (n : ℕ) (e : Extent) → live n e ≡ true → 0 < e.count
unfolding live
live-count n e h = omega (arith, eqb-false e.count 0 (not-true (eqb e.count 0) (both_true (ltb 0 n) (not (eqb e.count 0)) h).1))

pub live_inside : (X : List ℕ) (at n : ℕ) (e : Extent) (r : Bool) → Slot X at e → r ≡ live n e → r ≡ true → at < 512
live_inside X at n e r s l h = s.inside (live-count n e (sym l ∙ h))

live-is : (n : ℕ) (e : Extent) → 0 < n → 0 < e.count → live n e ≡ true
unfolding live
live-is n e h k = rw (lt-ltb 0 n h, ne_eqb e.count 0 (λ z. omega (arith, z, k)))

not_live : (m : ℕ) (e : Extent) → live (suc m) e ≡ false → e.count ≡ 0
unfolding live
not_live m e h = go (eqb e.count 0) refl
  where
    go : (t : Bool) → eqb e.count 0 ≡ t → e.count ≡ 0
    go true z = eqb-true e.count 0 z
    go false z = let k = rw (lt-ltb 0 (suc m) (omega arith), z) at h in absurd (true≢false k)

-- the first of some slots
pub slots-first : (m at : ℕ) (xs : List ℕ) → slots_in (suc m) (drop at xs) ≡ slot_in at xs ∷ slots_in m (drop (at + 4) xs)
unfolding slots_in
slots-first m at xs =
    let z : at + 0 ≡ at = omega arith in
    let y : at + (2 + 1) ≡ at + 2 + 1 = omega arith in
    rw (get_or-drop at xs 0 0, get_or-drop at xs 1 0, get_or-drop at xs 2 0, get_or-drop at xs (2 + 1) 0, drop-drop 4 at xs, z, y)

leaf-more : (v : Disk) (b at n : ℕ) → live n (slot_in at (v b)) ≡ true → leaf v b at n ≡ slot_in at (v b) ∷ leaf v b (at + 4) (n - 1)
unfolding leaf
leaf-more v b at zero h = absurd (omega (arith, live-left 0 (slot_in at (v b)) (live 0 (slot_in at (v b))) refl h))
leaf-more v b at (suc m) h =
    let z : suc m - 1 ≡ m = omega arith in
    let ne : (slot_in at (v b)).count ≡ 0 → ⊥ = λ q. omega (arith, live-count (suc m) (slot_in at (v b)) h, q) in
    rw z (ap used (slots-first m at (v b)) ∙ rw (ne_eqb (slot_in at (v b)).count 0 ne))

leaf-end : (v : Disk) (b at n : ℕ) → live n (slot_in at (v b)) ≡ false → leaf v b at n ≡ []
unfolding leaf slots_in
leaf-end v b at zero h = refl
leaf-end v b at (suc m) h = ap used (slots-first m at (v b)) ∙ rw (eq-eqb (slot_in at (v b)).count 0 (not_live m (slot_in at (v b)) h))

leaf-node : (v : Disk) (b : ℕ) → leaf v b 0 128 ≡ used (slots_at v b)
unfolding leaf slots_at
leaf-node v b = refl

-- ---- the three kinds of step

-- a test of a slot, as the code makes it
slot-live : (X : List ℕ) (at n : ℕ) (e : Extent) (r t : Bool) → Slot X at e → r ≡ live n e → r ≡ t → live n (slot_in at X) ≡ t
slot-live X at n e r t s l h = ap (live n) (sym s.is) ∙ sym l ∙ h

-- no leaf slot is left
pub no-leaf : (v : Disk) (b at n : ℕ) (e : Extent) (r : Bool) → Slot (v b) at e → r ≡ live n e → r ≡ false → leaf v b at n ≡ []
no-leaf v b at n e r s l h = leaf-end v b at n (slot-live (v b) at n e r false s l h)

module _ (v : Disk) (tb : ℕ) (c : Cursor) where
  pub step-leaf : (e : Extent) (r : Bool) → Slot (v c.block) c.at e → r ≡ live c.left e → r ≡ true
      → Onward v tb c e (record { block = c.block; at = c.at + 4; left = c.left - 1; top = c.top; tops = c.tops })
  unfolding rest rest_nodes
  step-leaf e r s l h =
      let k : leaf v c.block c.at c.left ≡ e ∷ leaf v c.block (c.at + 4) (c.left - 1) =
      leaf-more v c.block c.at c.left (slot-live (v c.block) c.at c.left e r true s l h) ∙ rw s.is
      in
      let p : 0 < c.left = live-left c.left e r l h in
      record {
        extents = rw k;
        nodes = refl;
        less = omega arith;
        first = s.first;
        some = live-count c.left e (sym l ∙ h);
        count = s.count;
      }

  pub step-node : (t : Extent) (r : Bool) → leaf v c.block c.at c.left ≡ [] → Slot (v tb) c.top t → r ≡ live c.tops t → r ≡ true
      → Inward v tb c t.first (record { block = t.first; at = 0; left = 128; top = c.top + 4; tops = c.tops - 1 })
  unfolding rest rest_nodes
  step-node t r k s l h =
      let j : leaf v tb c.top c.tops ≡ t ∷ leaf v tb (c.top + 4) (c.tops - 1) =
      leaf-more v tb c.top c.tops (slot-live (v tb) c.top c.tops t r true s l h) ∙ rw s.is
      in
      let p : 0 < c.tops = live-left c.tops t r l h in
      record { extents = rw (k, j, leaf-node v t.first); nodes = rw j; less = omega arith }

  pub step_end : (t : Extent) (r : Bool) → leaf v c.block c.at c.left ≡ [] → Slot (v tb) c.top t → r ≡ live c.tops t → r ≡ false → Ended v tb c
  unfolding rest rest_nodes
  step_end t r k s l h =
      let j : leaf v tb c.top c.tops ≡ [] = leaf-end v tb c.top c.tops (slot-live (v tb) c.top c.tops t r false s l h) in
      record { extents = rw (k, j); nodes = rw j }
  -- a step by its kind

-- a step over one of the whole slots, behind k others
module _ (v : Disk) (tb : ℕ) (c : Cursor) (block : List ℕ) (k : ℕ) where
  pub step-whole : (e : Extent) → length block ≤ 512 → exactly 512 block ≡ v c.block → k < length (whole_slots c.left c.at block)
      → (e ≡ slot_in 0 (get_or (whole_slots c.left c.at block) k [])) × (e.first < 65536) × (e.count < 65536) → 0 < e.count
      → Onward v tb (behind c k) e (behind c (k + 1))
  step-whole e few x l f some =
      let s = slot_of (exactly 512 block) (v c.block) (c.at + 4 * k) e x (slot-whole block c.at c.left k few l e f) in
      let g = step-leaf v tb (behind c k) e true s (sym (live-is (c.left - k) e (omega (arith, slots-few block c.at c.left k few l)) some)) refl in
      let z : c.at + 4 * k + 4 ≡ c.at + 4 * (k + 1) = omega arith in
      let y : c.left - k - 1 ≡ c.left - (k + 1) = omega arith in
      rw (z, y) at g

-- ---- the start

module _ (v : Disk) (t : List ℕ) (i tb p x : ℕ) (b : tb ≡ block_of_inode i) (q : p ≡ place_of_inode i)
    (e : exactly 512 t ≡ v (block_of_inode i)) (d : x ≡ (inode_of (record_in t i)).depth) where
  depth_is : (inode_at v i).depth ≡ x
  depth_is = sym (d ∙ ap (λ n. n.depth) (inode-at v t i e))

  pub start-flat : x ≡ 0 → record { block = tb; at = p + 16; left = 4; top = 0; tops = 0 } ≡ start_of v i
  unfolding start_of
  start-flat z = rw (eq-eqb (inode_at v i).depth 0 (depth_is ∙ z), b, q)

  pub start-deep : (x ≡ 0 → ⊥) → record { block = tb; at = 0; left = 0; top = p + 16; tops = 4 } ≡ start_of v i
  unfolding start_of
  start-deep z = rw (ne_eqb (inode_at v i).depth 0 (λ y. z (sym depth_is ∙ y)), b, q)

-- at the start nothing is passed: the extents and nodes of record i are left
module _ (v : Disk) (i : ℕ) where
  leaf-start : leaf v (block_of_inode i) (place_of_inode i + 16) 4 ≡ used (inode_at v i).slots
  unfolding leaf inode_of inode_bytes
  leaf-start = ap used (sym (field-slots (v (block_of_inode i)) (place_of_inode i) 32 16 4 (omega arith)))

  leaf-none : (b at : ℕ) → leaf v b at 0 ≡ []
  unfolding leaf slots_in
  leaf-none b at = refl

  flat : (d : ℕ) → d ≡ 0 → min d 1 ≡ 0
  flat d h = omega arith

  deep : (d : ℕ) → (d ≡ 0 → ⊥) → min d 1 ≡ 1
  deep d h = omega arith

  -- whichever the depth
  record Begun : Type 0 where
    extents : rest v (block_of_inode i) (start_of v i) ≡ extents_of v (inode_at v i)
    nodes : rest_nodes v (block_of_inode i) (start_of v i) ≡ nodes_of v (inode_at v i)
    block : (start_of v i).block ≡ block_of_inode i
    light : weight (start_of v i) ≤ 516

  begun : Begun
  unfolding start_of rest rest_nodes extents_of levels_of
  begun = go (eqb (inode_at v i).depth 0) refl
    where
      go : (t : Bool) → eqb (inode_at v i).depth 0 ≡ t → Begun
      go true z =
          let d : tree_depth (inode_at v i) ≡ 0 = flat (inode_at v i).depth (eqb-true (inode_at v i).depth 0 z) in
          record {
            extents = rw (z, d, leaf-none (block_of_inode i) 0, leaf-start, append-nil);
            nodes = rw (z, d, leaf-none (block_of_inode i) 0);
            block = rw z;
            light = rw z (omega arith);
          }
      go false z =
          let d : tree_depth (inode_at v i) ≡ 1 = deep (inode_at v i).depth (eqb-false (inode_at v i).depth 0 z) in
          record {
            extents = rw (z, d, leaf-none (block_of_inode i) 0, leaf-start);
            nodes = rw (z, d, leaf-start) (sym (append-nil _));
            block = rw z;
            light = rw z (omega arith);
          }

  pub extents-start : rest v (block_of_inode i) (start_of v i) ≡ extents_of v (inode_at v i)
  extents-start = begun.extents

  pub nodes-start : rest_nodes v (block_of_inode i) (start_of v i) ≡ nodes_of v (inode_at v i)
  nodes-start = begun.nodes

  -- the walk begins in the record's block
  pub block_start : (start_of v i).block ≡ block_of_inode i
  block_start = begun.block

  pub weight-start : weight (start_of v i) ≤ 516
  weight-start = begun.light
