-- S3 to S6 and S8 of one file as propositions, and that the tests decide them. Assumes nothing.
use Rattle.std.specs.Prelude.{ℕ, zero, suc, ◌+◌, ◌-◌, ◌/◌, ◌%◌, ◌≤◌, ◌<◌, ◌≡◌, refl, Bool, true, false, cond, ◌&&◌, List, eqb, leb, ltb, length, take, drop, get_or}
use Rattle.std.proofs.Common.{sym, ◌∙◌, arith, eqb-true, eq-eqb, ne_eqb, ltb-true, ltb-false, lt-ltb, le-ltb, leb-true, le-leb}
use Rattle.std.specs.Bool.{beq}
use Rattle.std.proofs.lemmas.Bool.{false≢true, eqb-false}
use Rattle.spec.specs.Layout.{block_size, data_start, slots_per_inode, slots_per_node, max_depth, max_file_size}
use Rattle.spec.specs.Bytes.{part, all, occurs, all_zero}
use Rattle.spec.specs.Disk.{Disk, area_of, is_data_area, in_data}
use Rattle.spec.specs.declared.Area.TheVariants.{Header, Log, Bitmap, Inodes, Data}
use Rattle.spec.specs.declared.Extent.{Extent}
use Rattle.spec.specs.Inode.{Inode, inode_of, used, slots_at, below, tree_depth, extents_of, levels_of, nodes_of, data_of, blocks_for, nodes_for, counts}
use Rattle.spec.specs.Sound.{limits_hold, slots_packed, extent_inside, counts_agree, apart, level_packed, tail_zero, file_sound}
use Rattle.lists.specs.Tests.{and_both, both_true, both_ways, not-both, false_of, beq-true, beq-of}
use Rattle.lists.specs.All.{All, all-All, All-all, all-at, all_of}

-- ---- blocks inside

-- "within 42 to N-1"
pub record Inside (N b : ℕ) : Type 0 where
  pub low : data_start ≤ b
  pub high : b < N

pub inside_of : (N b : ℕ) → in_data N b ≡ true → Inside N b
unfolding in_data area_of
inside_of N b h = go (ltb b 1) (ltb b 33) (ltb b 34) (ltb b 42) (ltb b N) refl refl h
  where
    go : (p q r s t : Bool) → ltb b 42 ≡ s → ltb b N ≡ t
        → is_data_area (cond p Header (cond q Log (cond r Bitmap (cond s Inodes Data)))) && t ≡ true → Inside N b
    go true q r s t k l h = absurd (false≢true h)
    go false true r s t k l h = absurd (false≢true h)
    go false false true s t k l h = absurd (false≢true h)
    go false false false true t k l h = absurd (false≢true h)
    go false false false false true k l h = record { low = ltb-false b 42 k; high = ltb-true b N l }
    go false false false false false k l h = absurd (false≢true h)

pub inside-test : (N b : ℕ) → Inside N b → in_data N b ≡ true
unfolding in_data area_of
inside-test N b h =
    rw (le-ltb b 1 (omega arith), le-ltb b 33 (omega arith), le-ltb b 34 (omega arith), le-ltb b 42 (omega arith)) (lt-ltb b N h.high)

pub outside_of : (N b : ℕ) → in_data N b ≡ false → Inside N b → ⊥
outside_of N b h i = not-both (inside-test N b i) h

pub outside-test : (N b : ℕ) → (Inside N b → ⊥) → in_data N b ≡ false
outside-test N b h = false_of (in_data N b) (λ e. h (inside_of N b e))

pub record ExtentInside (N : ℕ) (e : Extent) : Type 0 where
  pub begin : Inside N e.first
  pub end : Inside N (e.first + (e.count - 1))

extent-of : (N : ℕ) (e : Extent) → extent_inside N e ≡ true → ExtentInside N e
extent-of N e h =
    let t = both_true (in_data N e.first) (in_data N (e.first + (e.count - 1))) h in
    record { begin = inside_of N e.first t.0; end = inside_of N (e.first + (e.count - 1)) t.1 }

extent-test : (N : ℕ) (e : Extent) → ExtentInside N e → extent_inside N e ≡ true
extent-test N e h =
    and_both (in_data N e.first) (in_data N (e.first + (e.count - 1))) (inside-test N e.first h.begin) (inside-test N (e.first + (e.count - 1)) h.end)

-- ---- a file

-- S5. a slot counts the data blocks below it, on each level
abbrev pub Counted : Disk → Extent → Type 0
Counted v e = e.count ≡ counts (used (slots_at v e.first))

abbrev pub CountsAgree : Disk → ℕ → List Extent → Type 0
CountsAgree v zero slots = Unit {0}
CountsAgree v (suc d) slots = All (Counted v) slots × CountsAgree v d (below v slots)

-- S6. all nodes of a level but the last are full
abbrev pub LevelPacked : Disk → List ℕ → Type 0
LevelPacked v nodes = (b : ℕ) → 1 ≤ occurs b (take (length nodes - 1) nodes) → length (used (slots_at v b)) ≡ slots_per_node

-- S3 to S6 and S8 of the file that these bytes of a record tell
pub record FileSound (N : ℕ) (v : Disk) (bytes : List ℕ) : Type 0 where
  -- S3
  pub size_limit : (inode_of bytes).size ≤ max_file_size
  pub depth_limit : (inode_of bytes).depth ≤ max_depth
  pub reserved : all_zero (part 13 3 bytes) ≡ true
  -- S4
  pub top_packed : slots_packed (inode_of bytes).slots ≡ true
  pub nodes_inside : (b : ℕ) → 1 ≤ occurs b (nodes_of v (inode_of bytes)) → Inside N b
  pub nodes_packed : (b : ℕ) → 1 ≤ occurs b (nodes_of v (inode_of bytes)) → slots_packed (slots_at v b) ≡ true
  pub extents_inside : All (ExtentInside N) (extents_of v (inode_of bytes))
  -- S5
  pub counts_below : CountsAgree v (tree_depth (inode_of bytes)) (used (inode_of bytes).slots)
  pub counts_top : counts (used (inode_of bytes).slots) ≡ blocks_for (inode_of bytes).size
  -- S6
  pub maximal : apart (extents_of v (inode_of bytes)) ≡ true
  pub deep : (inode_of bytes).depth ≡ 1 → slots_per_inode < length (extents_of v (inode_of bytes))
  pub many : slots_per_inode < length (extents_of v (inode_of bytes)) → (inode_of bytes).depth ≡ 1
  pub node_count : length (nodes_of v (inode_of bytes)) ≡ nodes_for (length (extents_of v (inode_of bytes)))
  pub nodes_full : All (LevelPacked v) (levels_of v (inode_of bytes))
  -- S8
  pub tail : ((inode_of bytes).size % block_size ≡ 0 → ⊥)
      → all_zero (drop ((inode_of bytes).size % block_size) (v (get_or (data_of v (inode_of bytes)) ((inode_of bytes).size / block_size) 0))) ≡ true

-- ---- each test says its sentence

-- eleven tests in a row
record Eleven (a b c d e f g h i j k : Bool) : Type 0 where
  ta : a ≡ true
  tb : b ≡ true
  tc : c ≡ true
  td : d ≡ true
  te : e ≡ true
  tf : f ≡ true
  tg : g ≡ true
  th : h ≡ true
  ti : i ≡ true
  tj : j ≡ true
  tk : k ≡ true

eleven-of : (a b c d e f g h i j k : Bool) → (a && b && c && d && e && f && g && h && i && j && k) ≡ true → Eleven a b c d e f g h i j k
eleven-of a b c d e f g h i j k z =
    let zk = both_true (a && b && c && d && e && f && g && h && i && j) k z in
    let zj = both_true (a && b && c && d && e && f && g && h && i) j zk.0 in
    let zi = both_true (a && b && c && d && e && f && g && h) i zj.0 in
    let zh = both_true (a && b && c && d && e && f && g) h zi.0 in
    let zg = both_true (a && b && c && d && e && f) g zh.0 in
    let zf = both_true (a && b && c && d && e) f zg.0 in
    let ze = both_true (a && b && c && d) e zf.0 in
    let zd = both_true (a && b && c) d ze.0 in
    let zc = both_true (a && b) c zd.0 in
    let zb = both_true a b zc.0 in
    record { ta = zb.0; tb = zb.1; tc = zc.1; td = zd.1; te = ze.1; tf = zf.1; tg = zg.1; th = zh.1; ti = zi.1; tj = zj.1; tk = zk.1 }

of-eleven : (a b c d e f g h i j k : Bool) → Eleven a b c d e f g h i j k → (a && b && c && d && e && f && g && h && i && j && k) ≡ true
of-eleven a b c d e f g h i j k z = rw (z.ta, z.tb, z.tc, z.td, z.te, z.tf, z.tg, z.th, z.ti, z.tj) z.tk

-- S5
counts_of : (v : Disk) (d : ℕ) (slots : List Extent) → counts_agree v d slots ≡ true → CountsAgree v d slots
counts_of v zero slots h = tt
counts_of v (suc d) slots h =
    let test : Extent → Bool = λ e. eqb e.count (counts (used (slots_at v e.first))) in
    let t = both_true (all test slots) (counts_agree v d (below v slots)) h in
    (all-All (Counted v) test slots (λ e k. eqb-true e.count (counts (used (slots_at v e.first))) k) t.0, counts_of v d (below v slots) t.1)

counts-test : (v : Disk) (d : ℕ) (slots : List Extent) → CountsAgree v d slots → counts_agree v d slots ≡ true
counts-test v zero slots h = refl
counts-test v (suc d) slots h =
    let test : Extent → Bool = λ e. eqb e.count (counts (used (slots_at v e.first))) in
    and_both (all test slots) (counts_agree v d (below v slots))
    (All-all (Counted v) test slots (λ e k. eq-eqb e.count (counts (used (slots_at v e.first))) k) h.0) (counts-test v d (below v slots) h.1)

-- S6
pub packed-of : (v : Disk) (nodes : List ℕ) → level_packed v nodes ≡ true → LevelPacked v nodes
packed-of v nodes h b o =
    eqb-true (length (used (slots_at v b))) slots_per_node (all-at (λ b. eqb (length (used (slots_at v b))) slots_per_node) (take (length nodes - 1) nodes) b h o)

packed-test : (v : Disk) (nodes : List ℕ) → LevelPacked v nodes → level_packed v nodes ≡ true
packed-test v nodes h =
    all_of (λ b. eqb (length (used (slots_at v b))) slots_per_node) (take (length nodes - 1) nodes) (λ b o. eq-eqb (length (used (slots_at v b))) slots_per_node (h b o))

module _ (v : Disk) (n : Inode) where
  abbrev last_zero : Bool
  last_zero = all_zero (drop (n.size % block_size) (v (get_or (data_of v n) (n.size / block_size) 0)))

  -- S8
  tail_of : tail_zero v n ≡ true → (n.size % block_size ≡ 0 → ⊥) → last_zero ≡ true
  tail_of h d = rw (ne_eqb (n.size % 512) 0 d) at h

  tail-test : ((n.size % block_size ≡ 0 → ⊥) → last_zero ≡ true) → tail_zero v n ≡ true
  tail-test h = go (eqb (n.size % block_size) 0) refl
    where
      go : (t : Bool) → eqb (n.size % block_size) 0 ≡ t → cond t true last_zero ≡ true
      go true e = refl
      go false e = h (eqb-false (n.size % block_size) 0 e)

-- ---- all of them

module _ (N : ℕ) (v : Disk) (bytes : List ℕ) where
  abbrev n : Inode
  n = inode_of bytes

  abbrev node_test : ℕ → Bool
  node_test b = in_data N b && slots_packed (slots_at v b)

  abbrev Tests : Type 0
  Tests = Eleven (limits_hold bytes) (slots_packed n.slots) (all node_test (nodes_of v n)) (all (extent_inside N) (extents_of v n))
      (counts_agree v (tree_depth n) (used n.slots))
      (eqb (counts (used n.slots)) (blocks_for n.size))
      (apart (extents_of v n))
      (beq (eqb n.depth 1) (ltb slots_per_inode (length (extents_of v n))))
      (eqb (length (nodes_of v n)) (nodes_for (length (extents_of v n))))
      (all (level_packed v) (levels_of v n)) (tail_zero v n)

  tests-of : file_sound N v bytes ≡ true → Tests
  unfolding file_sound
  tests-of h =
      eleven-of (limits_hold bytes) (slots_packed n.slots) (all node_test (nodes_of v n)) (all (extent_inside N) (extents_of v n))
      (counts_agree v (tree_depth n) (used n.slots))
      (eqb (counts (used n.slots)) (blocks_for n.size))
      (apart (extents_of v n))
      (beq (eqb n.depth 1) (ltb slots_per_inode (length (extents_of v n))))
      (eqb (length (nodes_of v n)) (nodes_for (length (extents_of v n))))
      (all (level_packed v) (levels_of v n)) (tail_zero v n) h

  of-tests : Tests → file_sound N v bytes ≡ true
  unfolding file_sound
  of-tests z =
      of-eleven (limits_hold bytes) (slots_packed n.slots) (all node_test (nodes_of v n)) (all (extent_inside N) (extents_of v n))
      (counts_agree v (tree_depth n) (used n.slots))
      (eqb (counts (used n.slots)) (blocks_for n.size))
      (apart (extents_of v n))
      (beq (eqb n.depth 1) (ltb slots_per_inode (length (extents_of v n))))
      (eqb (length (nodes_of v n)) (nodes_for (length (extents_of v n))))
      (all (level_packed v) (levels_of v n)) (tail_zero v n) z

  pub file-of : file_sound N v bytes ≡ true → FileSound N v bytes
  file-of h =
      let z = tests-of h in
      let l = both_true (leb n.size max_file_size && leb n.depth max_depth) (all_zero (part 13 3 bytes)) z.ta in
      let m = both_true (leb n.size max_file_size) (leb n.depth max_depth) l.0 in
      let d = beq-true (eqb n.depth 1) (ltb slots_per_inode (length (extents_of v n))) z.th in
      let node : (b : ℕ) → 1 ≤ occurs b (nodes_of v n) → (in_data N b ≡ true) × (slots_packed (slots_at v b) ≡ true) =
      λ b o. both_true (in_data N b) (slots_packed (slots_at v b)) (all-at node_test (nodes_of v n) b z.tc o)
      in
      record {
        size_limit = leb-true n.size max_file_size m.0;
        depth_limit = leb-true n.depth max_depth m.1;
        reserved = l.1;
        top_packed = z.tb;
        nodes_inside = λ b o. inside_of N b (node b o).0;
        nodes_packed = λ b o. (node b o).1;
        extents_inside = all-All (ExtentInside N) (extent_inside N) (extents_of v n) (extent-of N) z.td;
        counts_below = counts_of v (tree_depth n) (used n.slots) z.te;
        counts_top = eqb-true (counts (used n.slots)) (blocks_for n.size) z.tf;
        maximal = z.tg;
        deep = λ e. ltb-true slots_per_inode (length (extents_of v n)) (sym d ∙ eq-eqb n.depth 1 e);
        many = λ l. eqb-true n.depth 1 (d ∙ lt-ltb slots_per_inode (length (extents_of v n)) l);
        node_count = eqb-true (length (nodes_of v n)) (nodes_for (length (extents_of v n))) z.ti;
        nodes_full = all-All (LevelPacked v) (level_packed v) (levels_of v n) (packed-of v) z.tj;
        tail = tail_of v n z.tk;
      }

  pub file-test : FileSound N v bytes → file_sound N v bytes ≡ true
  file-test s =
      of-tests
      (record {
        ta = and_both (leb n.size max_file_size && leb n.depth max_depth) (all_zero (part 13 3 bytes))
            (and_both (leb n.size max_file_size) (leb n.depth max_depth) (le-leb n.size max_file_size s.size_limit) (le-leb n.depth max_depth s.depth_limit))
            s.reserved;
        tb = s.top_packed;
        tc = all_of node_test (nodes_of v n)
            (λ b o. and_both (in_data N b) (slots_packed (slots_at v b)) (inside-test N b (s.nodes_inside b o)) (s.nodes_packed b o));
        td = All-all (ExtentInside N) (extent_inside N) (extents_of v n) (extent-test N) s.extents_inside;
        te = counts-test v (tree_depth n) (used n.slots) s.counts_below;
        tf = eq-eqb (counts (used n.slots)) (blocks_for n.size) s.counts_top;
        tg = s.maximal;
        th = beq-of (eqb n.depth 1) (ltb slots_per_inode (length (extents_of v n)))
            (both_ways (eqb n.depth 1) (ltb slots_per_inode (length (extents_of v n)))
            (λ h. lt-ltb slots_per_inode (length (extents_of v n)) (s.deep (eqb-true n.depth 1 h)))
            (λ h. eq-eqb n.depth 1 (s.many (ltb-true slots_per_inode (length (extents_of v n)) h))));
        ti = eq-eqb (length (nodes_of v n)) (nodes_for (length (extents_of v n))) s.node_count;
        tj = All-all (LevelPacked v) (level_packed v) (levels_of v n) (packed-test v) s.nodes_full;
        tk = tail-test v n s.tail;
      })
