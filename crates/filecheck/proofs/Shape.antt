-- The tests of one record, by the running results. Assumes nothing.
use Prim.Native.Nat.{ℕ, zero, suc, ◌+◌, ◌-◌, ◌/◌, ◌%◌, ◌≤◌, min}
use mathlib.Core.Path.{◌≡◌, refl, sym, ap, ◌∙◌}
use mathlib.Core.Bool.{Bool, true, false, ◌&&◌, beq, true≢false}
use mathlib.Core.List.{List, [], ◌∷◌, map, append-nil}
use native.Mathlib.Omega.{arith}
use Rattle.std.proofs.lemmas.Bool.{and_parts}
use Rattle.spec.specs.declared.Extent.{Extent}
use borrow.Author.Tests.{eqb-true, eqb-false, eq-eqb, ne_eqb, leb-true, ltb-true, ltb-false}
use lib.Dec.{eqb, leb, ltb}
use lib.ListN.{length, take, drop, get_or, length-drop, length-map}
use lib.Seq.{take_all, take-nil, drop-nil, take-take, drop-drop, get_or-take}
use Rattle.spec.specs.Bytes.{exactly, part, all, all_zero, concat}
use Rattle.spec.specs.Disk.{Disk, in_data}
use Rattle.spec.specs.Inode.{Inode, inode_of, inode_bytes, inode_at, block_of_inode, place_of_inode, slots_in, slots_at, used, below, blocks_in, counts, tree_depth, extents_below, extents_of, levels_of, nodes_of, data_of, blocks_for, nodes_for}
use Rattle.spec.specs.Sound.{limits_hold, slots_packed, extent_inside, counts_agree, apart, level_packed, tail_zero, file_sound}
use Rattle.block.proofs.Laws.{length-exactly}
use Rattle.inode.specs.Records.{bytes_in}
use Rattle.inode.proofs.Laws.{drop-take, field-slots, record-at}
use Rattle.marks.specs.declared.Marks.{Marks}
use Rattle.marks.specs.Marks.{Kept}
use Rattle.marks.proofs.Laws.{kept-end}
use Rattle.filecheck.specs.File.{last_clear, tail_clear, tree_sound, file_blocks, Walked, Marked}
use Rattle.tree.specs.Reached.{blocks_from, tree_from}
use Rattle.tree.specs.declared.ExtentTests.{ExtentTests}
use Rattle.tree.specs.declared.NodeTests.{NodeTests}
use Rattle.tree.specs.Runs.{over_extents, no_run, flat, over_nodes, no_nodes}
use Rattle.tree.proofs.Runs.{and_right, over-inside, over-extents, over-blocks, run-apart, run-tail, run-no-tail, agree-counts, nodes-run, nodes-sound, nodes-agree, nodes-tops, nodes-counts, all-filled}

-- ---- bytes of a block that are zero

zero-exactly : (n m : ℕ) (t : List ℕ) → n ≤ m → all_zero (take n (exactly m t)) ≡ all_zero (take n t)
zero-exactly zero m t h = refl
zero-exactly (suc n) zero t h = absurd (omega arith)
zero-exactly (suc n) (suc m) [] h = zero-exactly n m [] (omega arith) ∙ ap all_zero (take-nil {A = ℕ} n)
zero-exactly (suc n) (suc m) (x ∷ xs) h = ap (λ (r : Bool). eqb x 0 && r) (zero-exactly n m xs (omega arith))

zero-part : (a n m : ℕ) (t : List ℕ) → a + n ≤ m → all_zero (take n (drop a (exactly m t))) ≡ all_zero (take n (drop a t))
zero-part zero n m t h = zero-exactly n m t (omega arith)
zero-part (suc a) n zero t h = absurd (omega arith)
zero-part (suc a) n (suc m) [] h = zero-part a n m [] (omega arith) ∙ ap (λ (l : List ℕ). all_zero (take n l)) (drop-nil {A = ℕ} a)
zero-part (suc a) n (suc m) (x ∷ xs) h = zero-part a n m xs (omega arith)

-- a part of the block tested, as far as the block reaches
module _ (t : List ℕ) (from end : ℕ) (h : from ≤ end) (k : end ≤ 512) where
  pub clear_within : (r : Bool) → r ≡ all_zero (take (end - from) (drop from t)) → r ≡ all_zero (bytes_in t from (end - from))
  unfolding bytes_in
  clear_within r e = e ∙ sym (zero-part from (end - from) 512 t (omega arith))

-- ---- limits

part-part : (xs : List ℕ) (a n o m : ℕ) → o + m ≤ n → part o m (part a n xs) ≡ part (a + o) m xs
part-part xs a n o m h =
    ap (take m) (drop-take n o (drop a xs)) ∙ take-take m (n - o) (drop o (drop a xs)) (omega arith) ∙ ap (take m) (drop-drop o a xs)

pub limits_by : (v : Disk) (t : List ℕ) (i at size depth : ℕ) (c : Bool) → exactly 512 t ≡ v (block_of_inode i) → at ≡ place_of_inode i
    → size ≡ (inode_at v i).size → depth ≡ (inode_at v i).depth → c ≡ all_zero (bytes_in t (at + 13) (at + 16 - (at + 13)))
    → leb size 1048576 && leb depth 1 && c ≡ limits_hold (inode_bytes v i)
unfolding bytes_in
limits_by v t i at size depth c h ea es ed ec =
    let z : at + 16 - (at + 13) ≡ 3 = omega arith in
    rw (es, ed, ec, z, ea, ← record-at v t i h, part-part (exactly 512 t) (place_of_inode i) 32 13 3 (omega arith))

pub limits-say : (n : Inode) (c : Bool) → leb n.size 1048576 && leb n.depth 1 && c ≡ true → (n.size ≤ 1048576) × (n.depth ≤ 1)
limits-say n c h = let p = both _ _ (both _ c h).0 in (leb-true n.size 1048576 p.0, leb-true n.depth 1 p.1)
  where
    both : (a b : Bool) → a && b ≡ true → (a ≡ true) × (b ≡ true)
    both true b q = (refl, q)
    both false b q = absurd (true≢false (sym q))

-- ---- the tail

pub clear_whole : (v : Disk) (size b : ℕ) → size % 512 ≡ 0 → true ≡ last_clear v size b
unfolding last_clear
clear_whole v size b h = rw (eq-eqb (size % 512) 0 h)

pub clear_part : (v : Disk) (t : List ℕ) (size b : ℕ) (r : Bool) → (size % 512 ≡ 0 → ⊥) → exactly 512 t ≡ v b
    → r ≡ all_zero (bytes_in t (size % 512) (512 - size % 512)) → r ≡ last_clear v size b
unfolding last_clear bytes_in
clear_part v t size b r ne e h =
    let l : length (drop (size % 512) (exactly 512 t)) ≤ 512 - size % 512 = omega (arith, length-drop (size % 512) (exactly 512 t), length-exactly 512 t) in
    rw (ne_eqb (size % 512) 0 ne, ← e) (h ∙ ap all_zero (take_all (512 - size % 512) (drop (size % 512) (exactly 512 t)) l))

whole-tail : (v : Disk) (n : Inode) → n.size % 512 ≡ 0 → true ≡ tail_zero v n
whole-tail v n h = rw (eq-eqb (n.size % 512) 0 h)

tail-is : (v : Disk) (n : Inode) (b : ℕ) → n.size ≤ 1048576 → b ≡ get_or (blocks_in (extents_of v n)) (n.size / 512) 0 → last_clear v n.size b ≡ tail_zero v n
unfolding last_clear data_of
tail-is v n b l e = go (eqb (n.size % 512) 0) refl
  where
    go : (t : Bool) → eqb (n.size % 512) 0 ≡ t → last_clear v n.size b ≡ tail_zero v n
    go true q = rw q
    go false q =
        let ne = eqb-false (n.size % 512) 0 q in
        rw (q, e, get_or-take 2048 (blocks_in (extents_of v n)) (n.size / 512) 0 (omega arith))

-- the tail found over the extents, if their blocks are as many as the size asks
tail-of : (N : ℕ) (v : Disk) (n : Inode) → n.size ≤ 1048576 → counts (extents_of v n) ≡ blocks_for n.size → tail_clear v n.size (over_extents N (n.size / 512) no_run (extents_of v n)).tail ≡ tail_zero v n
tail-of N v n l e = go (ltb (n.size / 512) (counts (extents_of v n))) refl
  where
    E : List Extent
    E = extents_of v n

    go : (t : Bool) → ltb (n.size / 512) (counts E) ≡ t → tail_clear v n.size (over_extents N (n.size / 512) no_run E).tail ≡ tail_zero v n
    go true q = rw (run-tail N (n.size / 512) E (ltb-true (n.size / 512) (counts E) q)) (tail-is v n _ l refl)
    go false q = rw (run-no-tail N (n.size / 512) E (ltb-false (n.size / 512) (counts E) q)) (whole-tail v n (omega (arith, ltb-false (n.size / 512) (counts E) q)))

-- ---- the slots of record i, in its block of the table

slots_at_lem : (v : Disk) (i : ℕ) (X : List ℕ) → X ≡ v (block_of_inode i) → slots_in 4 (drop (place_of_inode i + 16) X) ≡ (inode_at v i).slots
unfolding inode_of inode_bytes
slots_at_lem v i X e = rw e (sym (field-slots (v (block_of_inode i)) (place_of_inode i) 32 16 4 (omega arith)))

-- ---- what the walk over a tree finds

-- depth against the number of extents
deep-or : (d e : ℕ) (x y : Bool) → d ≡ e → x ≡ y → beq (eqb d 1) x ≡ beq (eqb e 1) y
deep-or d e x y p q = rw (p, q)

-- in the slots of record i
module _ (v : Disk) (i at : ℕ) (X : List ℕ) (lend : X ≡ v (block_of_inode i)) (place : at ≡ place_of_inode i) where
  used-at : used (slots_in 4 (drop (at + 16) X)) ≡ used (inode_at v i).slots
  used-at = rw place (ap used (slots_at_lem v i X lend))

  pub packed-at : (p : Bool) → p ≡ slots_packed (slots_in 4 (drop (at + 16) X)) → p ≡ slots_packed (inode_at v i).slots
  packed-at p e = e ∙ rw place (ap slots_packed (slots_at_lem v i X lend))

module _ (N k : ℕ) (v : Disk) (i at : ℕ) (X : List ℕ) (lend : X ≡ v (block_of_inode i)) (place : at ≡ place_of_inode i) where
  used-here : used (slots_in 4 (drop (at + 16) X)) ≡ used (inode_at v i).slots
  used-here = used-at v i at X lend place

  module _ (depth : (inode_at v i).depth ≡ 0) where
    depth-0 : tree_depth (inode_at v i) ≡ 0
    depth-0 = ap (λ (d : ℕ). min d 1) depth

    flat-extents : extents_of v (inode_at v i) ≡ used (inode_at v i).slots
    unfolding extents_of
    flat-extents = rw depth-0

    flat-levels : levels_of v (inode_at v i) ≡ []
    unfolding levels_of
    flat-levels = rw depth-0

    flat-blocks : blocks_from 0 (used (inode_at v i).slots) ≡ file_blocks v i
    unfolding file_blocks data_of blocks_from
    flat-blocks = rw (flat-extents, flat-levels, append-nil)

    module _ (z r : ExtentTests) (ez : z ≡ no_run) (er : r ≡ over_extents N k z (used (slots_in 4 (drop (at + 16) X)))) where
      pub flat-walked : (f : NodeTests) → f ≡ flat r → (j : ℕ) → k ≡ j → Walked N j v (inode_at v i) f
      flat-walked f e j ej = rw (e, ← ej) (record {
        run = er ∙ rw (ez, used-here, flat-extents);
        sound = rw flat-levels;
        agree = rw depth-0;
        counted = ap (λ (q : ExtentTests). q.blocks) er ∙ rw (ez, used-here) (over-blocks N k no_run _ ∙ omega arith);
        tops = rw flat-levels;
        filled = rw flat-levels;
      })

      -- one slot for each extent
      pub flat-many : r.extents ≡ length (used (slots_in 4 (drop (at + 16) X)))
      flat-many = ap (λ (q : ExtentTests). q.extents) er ∙ rw ez (over-extents N k no_run _ ∙ omega arith)

      pub flat-marks : (m m₀ : Marks) → Kept N m [] m₀ (blocks_from z.blocks (used (slots_in 4 (drop (at + 16) X)))) → Kept N m [] m₀ (file_blocks v i)
      flat-marks m m₀ k = kept-end N m [] m₀ _ k _ refl (rw (ez, used-here) flat-blocks)

  module _ (depth : (inode_at v i).depth ≡ 1) where
    depth-1 : tree_depth (inode_at v i) ≡ 1
    depth-1 = ap (λ (d : ℕ). min d 1) depth

    deep-extents : extents_of v (inode_at v i) ≡ below v (used (inode_at v i).slots)
    unfolding extents_of
    deep-extents = rw depth-1

    deep-levels : levels_of v (inode_at v i) ≡ map (λ e. e.first) (used (inode_at v i).slots) ∷ []
    unfolding levels_of
    deep-levels = rw depth-1

    deep-nodes : nodes_of v (inode_at v i) ≡ map (λ e. e.first) (used (inode_at v i).slots)
    deep-nodes = ap concat deep-levels ∙ append-nil _

    deep-blocks : tree_from v 0 (used (inode_at v i).slots) ≡ file_blocks v i
    unfolding file_blocks data_of tree_from blocks_from
    deep-blocks = rw (deep-extents, deep-nodes)

    pub deep-walked : (f : NodeTests) → f ≡ over_nodes N k v no_nodes (used (slots_in 4 (drop (at + 16) X))) → (j : ℕ) → k ≡ j → Walked N j v (inode_at v i) f
    deep-walked f e j ej =
        let T = used (inode_at v i).slots in
        let g : f ≡ over_nodes N k v no_nodes T = e ∙ rw used-here in
        rw (← ej) (record {
          run = ap (λ (q : NodeTests). q.run) g ∙ nodes-run N k v no_nodes T ∙ ap (over_extents N k no_run) (sym deep-extents);
          sound = ap (λ (q : NodeTests). q.sound) g ∙ nodes-sound N k v no_nodes T ∙ ap (all (λ b. in_data N b && slots_packed (slots_at v b))) (sym deep-nodes);
          agree = ap (λ (q : NodeTests). q.agree) g ∙ nodes-agree N k v no_nodes T ∙ rw depth-1 (sym (and_right _));
          counted = ap (λ (q : NodeTests). q.counts) g ∙ nodes-counts N k v no_nodes T ∙ omega arith;
          tops = ap (λ (q : NodeTests). q.tops) g ∙ nodes-tops N k v no_nodes T ∙ (let z : 0 + length T ≡ length T = omega arith in z) ∙ sym (ap length deep-nodes ∙ length-map T (λ e. e.first));
          filled = ap (λ (q : NodeTests). q.filled) g ∙ all-filled N k v T ∙ sym (ap (all (level_packed v)) deep-levels ∙ and_right _);
        })

    pub deep-marks : (m m₀ : Marks) → Kept N m [] m₀ (tree_from v 0 (used (slots_in 4 (drop (at + 16) X)))) → Kept N m [] m₀ (file_blocks v i)
    deep-marks m m₀ k = kept-end N m [] m₀ _ k _ refl (rw used-here deep-blocks)

-- ---- S4 to S6 and S8

-- where slots count what is below them, they count the blocks of the extents
counts-below : (v : Disk) (d : ℕ) (ts : List Extent) → counts_agree v d ts ≡ true → counts ts ≡ counts (extents_below v d ts)
counts-below v zero ts h = refl
counts-below v (suc d) ts h = let p = and_parts _ _ h in agree-counts v ts p.0 ∙ counts-below v d (below v ts) p.1

blocks-below : (v : Disk) (n : Inode) → counts_agree v (tree_depth n) (used n.slots) ≡ true → counts (used n.slots) ≡ counts (extents_of v n)
unfolding extents_of
blocks-below v n h = counts-below v (tree_depth n) (used n.slots) h

-- the test of the tail is the one defined where the slots count what is below them, and that is what the size asks
with-tail : (P Q I A C S D M F Z T : Bool) → (A ≡ true → C ≡ true → Z ≡ T) → P && Q && I && A && C && S && D && M && F && Z ≡ P && Q && I && A && C && S && D && M && F && T
with-tail P Q I A C S D M F Z T h = grind arith

module _ (N k : ℕ) (v : Disk) (n : Inode) (f : NodeTests) (h : Walked N k v n f) where
  walked-extents : f.run.extents ≡ length (extents_of v n)
  walked-extents = ap (λ (q : ExtentTests). q.extents) h.run ∙ over-extents N k no_run _ ∙ omega arith

  pub tree-marked : (size depth want m : ℕ) (p c : Bool) (o o₀ : Marks) (bs : List ℕ) → n.size ≤ 1048576 → size ≡ n.size → depth ≡ n.depth → k ≡ n.size / 512
      → p ≡ slots_packed n.slots → c ≡ tail_clear v size f.run.tail → want ≡ blocks_for size → m ≡ nodes_for f.run.extents
      → Kept N o [] o₀ bs
      → Marked N (p && f.sound && f.run.inside && f.agree && eqb f.counts want && f.run.apart && beq (eqb depth 1) (ltb 4 f.run.extents) && eqb f.tops m && f.filled && c)
      (tree_sound N v n) o o₀ bs
  unfolding tree_sound
  tree-marked size depth want m p c o o₀ bs most es ed ek ep ec ew em g =
      let E = extents_of v n in
      let p_i : f.run.inside ≡ all (extent_inside N) E = ap (λ (q : ExtentTests). q.inside) h.run ∙ over-inside N k no_run E in
      let p_w : want ≡ blocks_for n.size = ew ∙ ap blocks_for es in
      let p_s : f.run.apart ≡ apart E = ap (λ (q : ExtentTests). q.apart) h.run ∙ run-apart N k E in
      let p_d : beq (eqb depth 1) (ltb 4 f.run.extents) ≡ beq (eqb n.depth 1) (ltb 4 (length E)) = deep-or depth n.depth _ _ ed (ap (ltb 4) walked-extents) in
      let p_m : m ≡ nodes_for (length E) = em ∙ ap nodes_for walked-extents in
      let p_c : c ≡ tail_clear v n.size (over_extents N (n.size / 512) no_run E).tail =
      ec ∙ ap (λ (z : ℕ). tail_clear v z f.run.tail) es ∙ ap (λ (q : ExtentTests). tail_clear v n.size q.tail) (h.run ∙ ap (λ (z : ℕ). over_extents N z no_run E) ek) in
      record {
        answer = rw (ep, h.sound, p_i, h.agree, h.counted, p_w, p_s, p_d, h.tops, p_m, h.filled, p_c)
            (with-tail (slots_packed n.slots) (all (λ b. in_data N b && slots_packed (slots_at v b)) (nodes_of v n)) (all (extent_inside N) E) (counts_agree v (tree_depth n) (used n.slots)) (eqb (counts (used n.slots)) (blocks_for n.size)) (apart E)
            (beq (eqb n.depth 1) (ltb 4 (length E))) (eqb (length (nodes_of v n)) (nodes_for (length E))) (all (level_packed v) (levels_of v n)) _ _ (λ a q.
            tail-of N v n most (sym (blocks-below v n a) ∙ eqb-true (counts (used n.slots)) (blocks_for n.size) q)));
        marks = λ _. g;
      }

-- ---- S2 to S6 and S8

-- a test that does not pass has marked what it likes
pub not-marked : (N : ℕ) (d : Bool) (m m₀ : Marks) (bs : List ℕ) → false ≡ d → Marked N false d m m₀ bs
not-marked N d m m₀ bs e = record { answer = e; marks = λ h. absurd (true≢false (sym h)) }

file-tests : (L P A I C Q S D M F T : Bool) → L && (P && A && I && C && Q && S && D && M && F && T) ≡ L && P && A && I && C && Q && S && D && M && F && T
file-tests true P A I C Q S D M F T = refl
file-tests false P A I C Q S D M F T = refl

file-is : (N : ℕ) (v : Disk) (bytes : List ℕ) → limits_hold bytes && tree_sound N v (inode_of bytes) ≡ file_sound N v bytes
unfolding file_sound tree_sound
file-is N v bytes = file-tests (limits_hold bytes) _ _ _ _ _ _ _ _ _ _

module _ (N : ℕ) (v : Disk) (i : ℕ) (l : Bool) (el : l ≡ limits_hold (inode_bytes v i)) where
  pub limits-in : l ≡ true → ((inode_at v i).size ≤ 1048576) × ((inode_at v i).depth ≤ 1)
  limits-in h = limits-say (inode_at v i) (all_zero (part 13 3 (inode_bytes v i))) (sym el ∙ h)

  pub file-off : (m : Marks) (bs : List ℕ) → l ≡ false → Marked N false (file_sound N v (inode_bytes v i)) m m bs
  file-off m bs h = not-marked N (file_sound N v (inode_bytes v i)) m m bs (sym (sym (file-is N v (inode_bytes v i)) ∙ rw (← el, h)))

  pub file-on : (r : Bool) (m₁ m₀ : Marks) (bs : List ℕ) → l ≡ true → Marked N r (tree_sound N v (inode_at v i)) m₁ m₀ bs → Marked N r (file_sound N v (inode_bytes v i)) m₁ m₀ bs
  file-on r m₁ m₀ bs h m = record { answer = m.answer ∙ sym (sym (file-is N v (inode_bytes v i)) ∙ rw (← el, h)); marks = m.marks }
