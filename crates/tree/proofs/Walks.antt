-- The loops over slots, step by step: what they find and what they mark. Assumes nothing.
use Prim.Native.Nat.{ℕ, zero, suc, ◌+◌, ◌*◌, ◌-◌, ◌<◌, ◌≤◌, min}
use mathlib.Core.Path.{◌≡◌, refl, sym, ap, ◌∙◌}
use mathlib.Core.Bool.{Bool, ◌&&◌}
use mathlib.Core.List.{List, [], ◌∷◌, ◌++◌, map, append-nil, append_assoc}
use native.Mathlib.Omega.{arith}
use lib.Dec.{eqb}
use lib.ListN.{length, take, drop}
use lib.Seq.{take-nil}
use Rattle.spec.specs.declared.Extent.{Extent}
use Rattle.spec.specs.Bytes.{occurs, up_from}
use Rattle.spec.specs.Disk.{Disk, in_data}
use Rattle.spec.specs.Inode.{slots_in, slots_at, used, below, blocks_in, counts}
use Rattle.spec.specs.Sound.{slots_packed}
use Rattle.lists.specs.Extents.{blocks-append, length-blocks}
use Rattle.bitmap.proofs.Laws.{occurs-append}
use Rattle.marks.specs.declared.Marks.{Marks}
use Rattle.marks.specs.Marks.{Kept}
use Rattle.marks.proofs.Laws.{Split, kept-start, kept_on, kept-end}
use Rattle.tree.specs.declared.ExtentTests.{ExtentTests}
use Rattle.tree.specs.declared.NodeTests.{NodeTests}
use Rattle.tree.specs.Runs.{with_extent, over_extents, with_node, over_nodes, no_nodes}
use Rattle.tree.specs.Reached.{blocks_from, tree_from}
use Rattle.tree.proofs.Runs.{over-extents, over-blocks, nodes-run, nodes-tops, nodes-counts}
use Rattle.tree.proofs.Reading.{used-first}

-- ---- blocks of extents

take-parts : (k : ℕ) (xs ys : List ℕ) → take k (xs ++ ys) ≡ take k xs ++ take (k - length xs) ys
take-parts zero xs ys = let z : 0 - length xs ≡ 0 = omega arith in rw z
take-parts (suc k) [] ys = let z : suc k - 0 ≡ suc k = omega arith in rw z
take-parts (suc k) (x ∷ xs) ys = let z : suc k - suc (length xs) ≡ k - length xs = omega arith in rw z (ap (λ (l : List ℕ). x ∷ l) (take-parts k xs ys))

take-run : (k a n : ℕ) → take k (up_from a n) ≡ up_from a (min n k)
take-run zero a n = let z : min n 0 ≡ 0 = omega arith in rw z
take-run (suc k) a zero = let z : min 0 (suc k) ≡ 0 = omega arith in rw z
take-run (suc k) a (suc n) = let z : min (suc n) (suc k) ≡ suc (min n k) = omega arith in rw z (ap (λ (l : List ℕ). a ∷ l) (take-run k (suc a) n))

pub blocks-none : (n : ℕ) → [] ≡ blocks_from n []
unfolding blocks_from blocks_in
blocks-none n = sym (take-nil (2048 - n))

-- of one extent
pub blocks_one : (n m : ℕ) (e : Extent) → m ≡ min e.count (2048 - n) → up_from e.first m ≡ blocks_from n (e ∷ [])
unfolding blocks_from blocks_in
blocks_one n m e q = rw (q, append-nil) (sym (take-run (2048 - n) e.first e.count))

blocks-from : (n : ℕ) (es fs : List Extent) → blocks_from n (es ++ fs) ≡ blocks_from n es ++ blocks_from (n + counts es) fs
unfolding blocks_from
blocks-from n es fs =
    let w : 2048 - n - length (blocks_in es) ≡ 2048 - (n + counts es) = omega (arith, length-blocks es) in
    ap (take (2048 - n)) (blocks-append es fs) ∙ take-parts (2048 - n) (blocks_in es) (blocks_in fs)
    ∙ ap (λ (m : ℕ). take (2048 - n) (blocks_in es) ++ take m (blocks_in fs)) w

blocks-split : (n m : ℕ) (es fs : List Extent) → m ≡ n + counts es → Split (blocks_from n (es ++ fs)) (blocks_from n es) (blocks_from m fs)
blocks-split n m es fs q x = rw q (ap (occurs x) (blocks-from n es fs) ∙ occurs-append x (blocks_from n es) (blocks_from (n + counts es) fs))

-- ---- and of the nodes above them

below-append : (v : Disk) (ss ts : List Extent) → below v (ss ++ ts) ≡ below v ss ++ below v ts
below-append v [] ts = refl
below-append v (s ∷ ss) ts = rw (below-append v ss ts) (sym (append_assoc (used (slots_at v s.first)) (below v ss) (below v ts)))

firsts-append : (x : ℕ) (ss ts : List Extent) → occurs x (map (λ e. e.first) (ss ++ ts)) ≡ occurs x (map (λ e. e.first) ss) + occurs x (map (λ e. e.first) ts)
firsts-append x [] ts = omega arith
firsts-append x (s ∷ ss) ts = let h = firsts-append x ss ts in omega arith

tree-split : (v : Disk) (n m : ℕ) (ss ts : List Extent) → m ≡ n + counts (below v ss) → Split (tree_from v n (ss ++ ts)) (tree_from v n ss) (tree_from v m ts)
unfolding tree_from
tree-split v n m ss ts q x =
    let a = ap (λ (es : List Extent). occurs x (blocks_from n es)) (below-append v ss ts) ∙ blocks-split n m (below v ss) (below v ts) q x in
    omega (
      arith,
      a,
      firsts-append x ss ts,
      occurs-append x (blocks_from n (below v (ss ++ ts))) (map (λ e. e.first) (ss ++ ts)),
      occurs-append x (blocks_from n (below v ss)) (map (λ e. e.first) ss),
      occurs-append x (blocks_from m (below v ts)) (map (λ e. e.first) ts),
    )

pub tree-none : (v : Disk) (n : ℕ) → [] ≡ tree_from v n []
unfolding tree_from
tree-none v n = blocks-none n ∙ sym (append-nil (blocks_from n []))

-- one node marked, then the blocks below it
pub node-marked : (N : ℕ) (v : Disk) (n : ℕ) (e : Extent) (us : List Extent) (m₂ m₁ m : Marks) → us ≡ used (slots_at v e.first)
    → Kept N m₁ [] m (e.first ∷ []) → Kept N m₂ [] m₁ (blocks_from n us) → Kept N m₂ [] m (tree_from v n (e ∷ []))
unfolding tree_from
node-marked N v n e us m₂ m₁ m q a b =
    let B = blocks_from n us in
    let w : tree_from v n (e ∷ []) ≡ B ++ (e.first ∷ []) = rw (append-nil, q) in
    kept_on N m₁ B m (tree_from v n (e ∷ []))
    (kept_on N m (B ++ (e.first ∷ [])) m (tree_from v n (e ∷ [])) (kept-start N m (B ++ (e.first ∷ [])) (tree_from v n (e ∷ [])) (sym w)) m₁ (e.first ∷ []) B
    (λ x. omega (arith, occurs-append x B (e.first ∷ []))) a)
    m₂ B [] (λ x. omega arith) b

-- ---- the loop over extents

-- with these slots left, all before them used, and q so far: with what is left it comes to what all the slots make of r, and so do the marks
pub record Going (N k : ℕ) (m : Marks) (q : ExtentTests) (left : List Extent) (m₀ : Marks) (r : ExtentTests) (slots : List Extent) (n : ℕ) : Type 0 where
  pub whole : over_extents N k q (used left) ≡ over_extents N k r (used slots)
  pub marks : Kept N m (blocks_from q.blocks (used left)) m₀ (blocks_from r.blocks (used slots))
  pub few : q.extents + length left ≤ r.extents + n
  pub small : q.blocks + 65536 * length left ≤ r.blocks + 65536 * n

-- what the loop leaves
abbrev Gone : ℕ → ℕ → Marks → ExtentTests → Marks → ExtentTests → List Extent → ℕ → Type 0
Gone N k m q m₀ r slots n =
    (q ≡ over_extents N k r (used slots)) × (q.extents ≤ r.extents + n) × (q.blocks ≤ r.blocks + 65536 * n)
    × Kept N m [] m₀ (blocks_from r.blocks (used slots))

pub going_start : (N k : ℕ) (m : Marks) (r : ExtentTests) (left slots : List Extent) (n : ℕ) → left ≡ slots → length slots ≡ n → Going N k m r left m r slots n
going_start N k m r left slots n e l =
    let z : length left ≡ n = ap length e ∙ l in
    record {
      whole = ap (λ (es : List Extent). over_extents N k r (used es)) e;
      marks = kept-start N m _ _ (ap (λ (es : List Extent). blocks_from r.blocks (used es)) e);
      few = omega arith;
      small = omega arith;
    }

module _ (N k : ℕ) (m : Marks) (q : ExtentTests) (left : List Extent) (m₀ : Marks) (r : ExtentTests) (slots : List Extent) (n : ℕ) (g : Going N k m q left m₀ r slots n) where
  pub going_over : used left ≡ [] → Gone N k m q m₀ r slots n
  unfolding over_extents
  going_over e = (
    ap (over_extents N k q) (sym e) ∙ g.whole,
    omega (arith, g.few),
    omega (arith, g.small),
    kept-end N m _ m₀ _ g.marks _ (ap (blocks_from q.blocks) e ∙ sym (blocks-none q.blocks)) refl,
  )

  module _ (e : Extent) (es : List Extent) (first : left ≡ e ∷ es) where
    pub going_more : (u : ExtentTests) (m₁ : Marks) → 0 < e.count → e.count < 65536 → u ≡ with_extent N k q e
        → Kept N m₁ [] m (blocks_from q.blocks (e ∷ [])) → Going N k m₁ u es m₀ r slots n
    unfolding over_extents
    going_more u m₁ some c iu h =
        let j : used left ≡ e ∷ used es = ap used first ∙ used-first e es some in
        let l : length left ≡ suc (length es) = ap length first in
        let x : u.extents ≡ q.extents + 1 = ap (λ (z : ExtentTests). z.extents) iu ∙ over-extents N k q (e ∷ []) in
        let y : u.blocks ≡ q.blocks + counts (e ∷ []) = ap (λ (z : ExtentTests). z.blocks) iu ∙ over-blocks N k q (e ∷ []) in
        let f = g.few in let s = g.small in
        record {
          whole = ap (λ (z : ExtentTests). over_extents N k z (used es)) iu ∙ ap (over_extents N k q) (sym j) ∙ g.whole;
          marks = kept_on N m (blocks_from q.blocks (used left)) m₀ (blocks_from r.blocks (used slots)) g.marks m₁
              (blocks_from q.blocks (e ∷ [])) (blocks_from u.blocks (used es)) (rw j (blocks-split q.blocks u.blocks (e ∷ []) (used es) y)) h;
          few = omega arith;
          small = omega arith;
        }

-- ---- one node

module _ (N k : ℕ) (v : Disk) (f : NodeTests) (e : Extent) (r : ExtentTests) (X : List ℕ) (i : X ≡ v e.first)
    (h : r ≡ over_extents N k f.run (used (slots_in 128 (drop 0 X)))) where
  pub node-slots : slots_in 128 (drop 0 X) ≡ slots_at v e.first
  unfolding slots_at
  node-slots = ap (slots_in 128) i

  pub node_used : r.extents ≡ f.run.extents + length (used (slots_at v e.first))
  node_used = ap (λ (z : ExtentTests). z.extents) h ∙ over-extents N k f.run _ ∙ ap (λ (es : List Extent). f.run.extents + length (used es)) node-slots

  pub node_count : r.blocks ≡ f.run.blocks + counts (used (slots_at v e.first))
  node_count = ap (λ (z : ExtentTests). z.blocks) h ∙ over-blocks N k f.run _ ∙ ap (λ (es : List Extent). f.run.blocks + counts (used es)) node-slots

  -- of the slots themselves
  pub node_many : r.extents - f.run.extents ≡ length (used (slots_in 128 (drop 0 X)))
  node_many = let u = node_used in let z : r.extents - f.run.extents ≡ length (used (slots_at v e.first)) = omega arith in z ∙ ap (λ (es : List Extent). length (used es)) (sym node-slots)

  pub node_is : (p d : Bool) → p ≡ slots_packed (slots_in 128 (drop 0 X)) → d ≡ in_data N e.first
      → record {
        run = r;
        sound = f.sound && (d && p);
        agree = f.agree && eqb e.count (r.blocks - f.run.blocks);
        filled = f.filled && f.full;
        full = eqb (r.extents - f.run.extents) 128;
        tops = f.tops + 1;
        counts = f.counts + e.count;
      }
      ≡ with_node N k v f e
  unfolding with_node
  node_is p d ep ed =
      let u : r.extents - f.run.extents ≡ length (used (slots_at v e.first)) = omega (arith, node_used) in
      let w : r.blocks - f.run.blocks ≡ counts (used (slots_at v e.first)) = omega (arith, node_count) in
      let q : p ≡ slots_packed (slots_at v e.first) = ep ∙ ap slots_packed node-slots in
      let g : r ≡ over_extents N k f.run (used (slots_at v e.first)) = h ∙ ap (λ (es : List Extent). over_extents N k f.run (used es)) node-slots in
      rw (q, ed, u, w, g)

  -- marked: the node, then the blocks below it
  pub node_marks : (m₂ m₁ m : Marks) → Kept N m₁ [] m (e.first ∷ [])
      → Kept N m₂ [] m₁ (blocks_from f.run.blocks (used (slots_in 128 (drop 0 X)))) → Kept N m₂ [] m (tree_from v f.run.blocks (e ∷ []))
  node_marks m₂ m₁ m a b = node-marked N v f.run.blocks e _ m₂ m₁ m (ap used node-slots) a b

-- ---- the loop over nodes

pub record Noding (N k : ℕ) (v : Disk) (m : Marks) (f : NodeTests) (left : List Extent) (m₀ : Marks) (slots : List Extent) : Type 0 where
  pub whole : over_nodes N k v f (used left) ≡ over_nodes N k v no_nodes (used slots)
  pub marks : Kept N m (tree_from v f.run.blocks (used left)) m₀ (tree_from v 0 (used slots))
  pub few : f.run.extents + 128 * length left ≤ 512
  pub small : f.run.blocks + 8388608 * length left ≤ 33554432
  pub tops : f.tops + length left ≤ 4
  pub counts : f.counts + 65536 * length left ≤ 262144

-- what the loop leaves
pub record Noded (N k : ℕ) (v : Disk) (m : Marks) (f : NodeTests) (m₀ : Marks) (slots : List Extent) : Type 0 where
  pub is : f ≡ over_nodes N k v no_nodes (used slots)
  pub tops : f.tops ≡ length (used slots)
  pub marks : Kept N m [] m₀ (tree_from v 0 (used slots))

pub noding_start : (N k : ℕ) (v : Disk) (m : Marks) (f : NodeTests) (left slots : List Extent) → f ≡ no_nodes → left ≡ slots → length slots ≡ 4 → Noding N k v m f left m slots
noding_start N k v m f left slots i e l =
    let z : length left ≡ 4 = ap length e ∙ l in
    rw i (record {
      whole = ap (λ (es : List Extent). over_nodes N k v no_nodes (used es)) e;
      marks = kept-start N m _ _ (ap (λ (es : List Extent). tree_from v 0 (used es)) e);
      few = omega arith;
      small = omega arith;
      tops = omega arith;
      counts = omega arith;
    })

module _ (N k : ℕ) (v : Disk) (m : Marks) (f : NodeTests) (left : List Extent) (m₀ : Marks) (slots : List Extent) (g : Noding N k v m f left m₀ slots) where
  pub noding_over : used left ≡ [] → Noded N k v m f m₀ slots
  unfolding over_nodes
  noding_over e =
      let w : f ≡ over_nodes N k v no_nodes (used slots) = ap (over_nodes N k v f) (sym e) ∙ g.whole in
      record {
        is = w;
        tops = ap (λ (z : NodeTests). z.tops) w ∙ nodes-tops N k v no_nodes (used slots) ∙ omega arith;
        marks = kept-end N m _ m₀ _ g.marks _ (ap (tree_from v f.run.blocks) e ∙ sym (tree-none v f.run.blocks)) refl;
      }

  module _ (e : Extent) (es : List Extent) (first : left ≡ e ∷ es) where
    pub noding_more : (u : NodeTests) (m₁ : Marks) → 0 < e.count → e.count < 65536
        → u ≡ with_node N k v f e → u.run.extents ≤ f.run.extents + 128 → u.run.blocks ≤ f.run.blocks + 8388608
        → Kept N m₁ [] m (tree_from v f.run.blocks (e ∷ [])) → Noding N k v m₁ u es m₀ slots
    unfolding over_nodes
    noding_more u m₁ some c iu few small h =
        let A = e ∷ [] in
        let j : used left ≡ e ∷ used es = ap used first ∙ used-first e es some in
        let l : length left ≡ suc (length es) = ap length first in
        let y : u.run.blocks ≡ f.run.blocks + counts (below v A) =
        ap (λ (z : NodeTests). z.run.blocks) iu ∙ ap (λ (z : ExtentTests). z.blocks) (nodes-run N k v f A) ∙ over-blocks N k f.run (below v A) in
        let w : u.tops ≡ f.tops + length A = ap (λ (z : NodeTests). z.tops) iu ∙ nodes-tops N k v f A in
        let x : u.counts ≡ f.counts + counts A = ap (λ (z : NodeTests). z.counts) iu ∙ nodes-counts N k v f A in
        let gf = g.few in let gs = g.small in let gt = g.tops in let gc = g.counts in
        record {
          whole = ap (λ (z : NodeTests). over_nodes N k v z (used es)) iu ∙ ap (over_nodes N k v f) (sym j) ∙ g.whole;
          marks = kept_on N m (tree_from v f.run.blocks (used left)) m₀ (tree_from v 0 (used slots)) g.marks m₁
              (tree_from v f.run.blocks A) (tree_from v u.run.blocks (used es)) (rw j (tree-split v f.run.blocks u.run.blocks A (used es) y)) h;
          few = omega arith;
          small = omega arith;
          tops = omega arith;
          counts = omega arith;
        }
