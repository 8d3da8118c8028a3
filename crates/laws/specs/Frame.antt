-- A file rests on its record's bytes and on its own blocks alone. Assumes nothing.
use Rattle.std.specs.Prelude.{ℕ, zero, suc, ◌+◌, ◌-◌, ◌/◌, ◌≤◌, ◌<◌, ◌≡◌, refl, get_or}
use Rattle.std.proofs.Common.{sym, ap₂, ◌∙◌}
use Rattle.std.proofs.Math.Path.{ap}
use mathlib.Core.List.{List, [], ◌∷◌, ◌++◌, map}
use Rattle.std.proofs.Math.ListN.{length, take}
use native.Mathlib.Omega.{arith}
use Rattle.spec.specs.Layout.{block_size}
use Rattle.spec.specs.Bytes.{occurs, concat}
use Rattle.spec.specs.Disk.{Disk}
use Rattle.spec.specs.declared.Extent.{Extent}
use Rattle.spec.specs.Inode.{Inode, inode_of, used, slots_in, slots_at, below, extents_below, levels_below, tree_depth, extents_of, levels_of, nodes_of, data_of, blocks_in, counts}
use Rattle.spec.specs.Sound.{slots_packed}
use Rattle.spec.specs.Map.{content_of}
use Rattle.lists.specs.Counts.{occurs-head, occurs-take, occurs-at}
use Rattle.lists.specs.All.{All}
use Rattle.bitmap.proofs.Laws.{occurs-append}
use Rattle.laws.specs.Soundness.{Counted, CountsAgree, LevelPacked, FileSound}
use Rattle.laws.specs.Tree.{data-length}

-- ---- two disks that agree on some blocks

unfoldable pub Agree : Disk → Disk → List ℕ → Type 0
Agree v w xs = (b : ℕ) → 1 ≤ occurs b xs → w b ≡ v b

pub agree_left : (v w : Disk) (xs ys : List ℕ) → Agree v w (xs ++ ys) → Agree v w xs
unfolding Agree
agree_left v w xs ys a b o = a b (omega (arith, occurs-append b xs ys))

pub agree_right : (v w : Disk) (xs ys : List ℕ) → Agree v w (xs ++ ys) → Agree v w ys
unfolding Agree
agree_right v w xs ys a b o = a b (omega (arith, occurs-append b xs ys))

pub agree-head : (v w : Disk) (x : ℕ) (xs : List ℕ) → Agree v w (x ∷ xs) → w x ≡ v x
unfolding Agree
agree-head v w x xs a = a x (occurs-head x xs)

pub agree-tail : (v w : Disk) (x : ℕ) (xs : List ℕ) → Agree v w (x ∷ xs) → Agree v w xs
unfolding Agree
agree-tail v w x xs a b o = a b (omega arith)

pub agree-map : (v w : Disk) (xs : List ℕ) → Agree v w xs → map w xs ≡ map v xs
agree-map v w [] a = refl
agree-map v w (x ∷ xs) a =
    ap₂ (λ (y : List ℕ) (l : List (List ℕ)). y ∷ l) (agree-head v w x xs a) (agree-map v w xs (agree-tail v w x xs a))

pub slots-agree : (v w : Disk) (b : ℕ) → w b ≡ v b → slots_at w b ≡ slots_at v b
unfolding slots_at
slots-agree v w b e = ap (slots_in 128) e

-- ---- the tree

concat-append : (xs ys : List (List ℕ)) (b : ℕ) → occurs b (concat (xs ++ ys)) ≡ occurs b (concat xs) + occurs b (concat ys)
concat-append [] ys b = omega arith
concat-append (x ∷ xs) ys b = omega (arith, occurs-append b x (concat (xs ++ ys)), occurs-append b x (concat xs), concat-append xs ys b)

module _ (v w : Disk) where
  abbrev tops : List Extent → List ℕ
  tops slots = map (λ e. e.first) slots

  agree-below : (d : ℕ) (slots : List Extent) → Agree v w (concat (levels_below v (suc d) slots)) → Agree v w (concat (levels_below v d (below v slots)))
  unfolding Agree
  agree-below d slots a b o = a b (omega (arith, concat-append (levels_below v d (below v slots)) (tops slots ∷ []) b))

  agree-tops : (d : ℕ) (slots : List Extent) → Agree v w (concat (levels_below v (suc d) slots)) → Agree v w (tops slots)
  unfolding Agree
  agree-tops d slots a b o =
      a b (omega (arith, concat-append (levels_below v d (below v slots)) (tops slots ∷ []) b, occurs-append b (tops slots) []))

  below-frame : (slots : List Extent) → Agree v w (tops slots) → below w slots ≡ below v slots
  below-frame [] a = refl
  below-frame (e ∷ es) a =
      ap₂ (λ (x y : List Extent). x ++ y) (ap used (slots-agree v w e.first (agree-head v w e.first (tops es) a)))
      (below-frame es (agree-tail v w e.first (tops es) a))

  extents-below : (d : ℕ) (slots : List Extent) → Agree v w (concat (levels_below v d slots)) → extents_below w d slots ≡ extents_below v d slots
  extents-below zero slots a = refl
  extents-below (suc d) slots a = ap (extents_below w d) (below-frame slots (agree-tops d slots a)) ∙ extents-below d (below v slots) (agree-below d slots a)

  levels-below : (d : ℕ) (slots : List Extent) → Agree v w (concat (levels_below v d slots)) → levels_below w d slots ≡ levels_below v d slots
  levels-below zero slots a = refl
  levels-below (suc d) slots a =
      ap (λ (ls : List (List ℕ)). ls ++ (tops slots ∷ []))
      (ap (levels_below w d) (below-frame slots (agree-tops d slots a)) ∙ levels-below d (below v slots) (agree-below d slots a))

  counted-each : (slots : List Extent) → Agree v w (tops slots) → All (Counted v) slots → All (Counted w) slots
  counted-each [] a c = tt
  counted-each (e ∷ es) a c = (
    c.0 ∙ ap (λ (l : List Extent). counts (used l)) (sym (slots-agree v w e.first (agree-head v w e.first (tops es) a))),
    counted-each es (agree-tail v w e.first (tops es) a) c.1,
  )

  counts-frame : (d : ℕ) (slots : List Extent) → Agree v w (concat (levels_below v d slots)) → CountsAgree v d slots → CountsAgree w d slots
  counts-frame zero slots a c = tt
  counts-frame (suc d) slots a c = (
    counted-each slots (agree-tops d slots a) c.0,
    rw (below-frame slots (agree-tops d slots a)) (counts-frame d (below v slots) (agree-below d slots a) c.1),
  )

  packed-frame : (levels : List (List ℕ)) → Agree v w (concat levels) → All (LevelPacked v) levels → All (LevelPacked w) levels
  unfolding Agree
  packed-frame [] a p = tt
  packed-frame (ns ∷ levels) a p = (
    λ b o.
        ap (λ (l : List Extent). length (used l))
        (slots-agree v w b (a b (omega (arith, occurs-take b (length ns - 1) ns, occurs-append b ns (concat levels)))))
        ∙ p.0 b o,
    packed-frame levels (λ b o. a b (omega (arith, occurs-append b ns (concat levels)))) p.1,
  )

  module _ (n : Inode) (a : Agree v w (nodes_of v n)) where
    pub extents-frame : extents_of w n ≡ extents_of v n
    unfolding extents_of levels_of
    extents-frame = extents-below (tree_depth n) (used n.slots) a

    pub levels-frame : levels_of w n ≡ levels_of v n
    unfolding levels_of
    levels-frame = levels-below (tree_depth n) (used n.slots) a

    pub nodes-frame : nodes_of w n ≡ nodes_of v n
    nodes-frame = ap concat levels-frame

    pub data-frame : data_of w n ≡ data_of v n
    unfolding data_of
    data-frame = ap (λ (es : List Extent). take 2048 (blocks_in es)) extents-frame

    pub content-frame : Agree v w (data_of v n) → content_of w n ≡ content_of v n
    unfolding content_of
    content-frame d = rw data-frame (ap (λ (l : List (List ℕ)). take n.size (concat l)) (agree-map v w (data_of v n) d))

-- ---- soundness of a file

tree-counts : (v w : Disk) (n : Inode) → Agree v w (nodes_of v n) → CountsAgree v (tree_depth n) (used n.slots) → CountsAgree w (tree_depth n) (used n.slots)
unfolding levels_of
tree-counts v w n a c = counts-frame v w (tree_depth n) (used n.slots) a c

module _ (N : ℕ) (v w : Disk) (bytes : List ℕ) (a : Agree v w (nodes_of v (inode_of bytes))) (d : Agree v w (data_of v (inode_of bytes))) where
  pub file-frame : FileSound N v bytes → FileSound N w bytes
  unfolding Agree
  file-frame s =
      let n = inode_of bytes in
      let el = levels-frame v w n a in
      let ee = extents-frame v w n a in
      let ed = data-frame v w n a in
      record {
        size_limit = s.size_limit;
        depth_limit = s.depth_limit;
        reserved = s.reserved;
        top_packed = s.top_packed;
        nodes_inside = λ b o. s.nodes_inside b (rw el at o);
        nodes_packed = λ b o. let p = rw el at o in ap slots_packed (slots-agree v w b (a b p)) ∙ s.nodes_packed b p;
        extents_inside = rw ee s.extents_inside;
        counts_below = tree-counts v w n a s.counts_below;
        counts_top = s.counts_top;
        maximal = rw ee s.maximal;
        deep = λ q. rw ee (s.deep q);
        many = λ q. s.many (rw ee at q);
        node_count = rw (ee, el) s.node_count;
        nodes_full = rw el (packed-frame v w (levels_of v n) a s.nodes_full);
        tail = λ q.
            let l = data-length N v bytes s in
            let k : n.size / block_size < length (data_of v n) = omega arith in
            rw (ed, d (get_or (data_of v n) (n.size / 512) 0) (occurs-at (data_of v n) (n.size / block_size) k)) (s.tail q);
      }
