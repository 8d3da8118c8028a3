-- Laws of the agenda of a change, entry by entry. Assumes nothing.
use Prim.Native.Nat.{ℕ, zero, suc, ◌+◌, ◌*◌, ◌-◌, ◌<◌, ◌≤◌}
use mathlib.Core.Path.{◌≡◌, refl, sym, ap, ap₂, ◌∙◌}
use mathlib.Core.Bool.{Bool, true, false, cond}
use mathlib.Core.List.{List, [], ◌∷◌, ◌++◌, map}
use mathlib.Core.Logic.{◌⊎◌, inl, inr}
use native.Mathlib.Omega.{arith}
use native.Mathlib.Nat.{add-zero, sub-zero}
use native.Mathlib.Numerals.{add-one}
use lib.ListN.{length, take, drop, get_or}
use lib.Seq.{drop-cons, drop-drop, drop-length}
use Rattle.spec.specs.declared.Extent.{Extent}
use Rattle.spec.specs.Bytes.{same, keep, up_from, patch}
use Rattle.spec.specs.Disk.{Disk}
use Rattle.spec.specs.Inode.{blocks_in, block_of_inode, place_of_inode, node_bytes}
use Rattle.spec.specs.Answers.{done_of}
use Rattle.spec.specs.Calls.{Outcome, outcome}
use Rattle.spec.specs.Transaction.{State, BlockStore, put, insert, ascending}
use Rattle.spec.specs.Plan.{Edit, edit, if_changed, stores_of, inode_edit, node_edits, data_edits, is_staged, new_content}
use Rattle.runs.specs.Runs.{nodes_in}
use Rattle.std.specs.Prelude.{Ok, Err, Result}
use Rattle.std.specs.Result.{IsErrAnd}
use Rattle.spec.specs.declared.Refusal.{Refusal}
use Rattle.spec.specs.declared.Refusal.TheVariants.{TooManyStaged}
use Rattle.agenda.specs.declared.Content.{Content}
use Rattle.agenda.specs.declared.Content.TheVariants.{Bitmap, Record, Node, Data}
use Rattle.agenda.specs.declared.Planned.{Planned}
use Rattle.agenda.specs.Agenda.{Lists, Told}
use Rattle.agenda.proofs.Laws.{longer-told}
use Rattle.block.proofs.Laws.{lt-or-le}
use Rattle.change.specs.Change.{Change, change_stores}
use Rattle.change.specs.Contents.{content_of, content_in, with_changed, data_stores, node_stores, record_stores}
use Rattle.change.proofs.Contents.{content-bitmap, content-record, content-node, content-data}

pub ascending-more : (w : BlockStore) (ws : List BlockStore) → insert w (ascending ws) ≡ ascending (w ∷ ws)
unfolding ascending
ascending-more w ws = refl

-- an error passed on
pub passed-on : (s : State) (o : Outcome) (t : Result Unit Refusal) (e : Refusal) → IsErrAnd t (λ r. r ≡ e) → outcome s (done_of (Err e)) ≡ o → outcome s (done_of t) ≡ o
passed-on s o (Ok u) e h q = elim h [ ]
passed-on s o (Err r) e h q = rw h q

pub told-err : (t : Result Unit Refusal) (e : Refusal) (f : ℕ → Content → List ℕ) (a : List Planned) (ws : List BlockStore)
    → IsErrAnd t (λ r. r ≡ e) → e ≡ TooManyStaged → 32 < length ws → Told t f a ws
told-err (Ok u) e f a ws h q l = elim h [ ]
told-err (Err r) e f a ws h q l = (h ∙ q, l)

-- more than 32 ascending stores are as many behind one more
longer-first : (w : BlockStore) (ws : List BlockStore) → 32 < length (ascending ws) → 32 < length (ascending (w ∷ ws))
unfolding ascending
longer-first w ws h = longer-told w (ascending ws) h

-- ---- a block whose content changes

longer-changed : (v : Disk) (new : List ℕ) (b : ℕ) (ws : List BlockStore) → 32 < length (ascending ws) → 32 < length (ascending (with_changed v new b ws))
unfolding with_changed
longer-changed v new b ws h = go (same new (v b)) refl
  where
    go : (t : Bool) → same new (v b) ≡ t → 32 < length (ascending (cond (same new (v b)) ws (put b new ∷ ws)))
    go true q = rw q h
    go false q = rw q (longer-first (put b new) ws h)

module _ (f : ℕ → Content → List ℕ) (v : Disk) (a : List Planned) (b : ℕ) (tag : Content) (ws : List BlockStore) (h : Lists f a (ascending ws)) (r : Bool) (e : r ≡ same (f b tag) (v b)) where
  pub changed-not : r ≡ true → Lists f a (ascending (with_changed v (f b tag) b ws))
  unfolding with_changed
  changed-not q = let z : same (f b tag) (v b) ≡ true = sym e ∙ q in rw z h

  pub changed-is : (t : Result Unit Refusal) (q : List Planned) → r ≡ false → (Lists f a (ascending ws) → Told t f q (insert (put b (f b tag)) (ascending ws)))
      → Told t f q (ascending (with_changed v (f b tag) b ws))
  unfolding with_changed ascending
  changed-is t q p g = let z : same (f b tag) (v b) ≡ false = sym e ∙ p in rw z (g h)

-- ---- data blocks

module _ (v : Disk) (F : ℕ → Edit) (f : ℕ → Bool) (p n : ℕ) where
  keep-skip : f p ≡ false → stores_of v (map F (keep f (up_from p (suc n)))) ≡ stores_of v (map F (keep f (up_from (suc p) n)))
  keep-skip h = rw h

  keep_one : f p ≡ true → stores_of v (map F (keep f (up_from p (suc n)))) ≡ put (F p).block ((F p).change (v (F p).block)) ∷ stores_of v (map F (keep f (up_from (suc p) n)))
  keep_one h = rw h

module _ (v : Disk) (i : ℕ) (c : Change) where
  blocks : List ℕ
  blocks = blocks_in c.tree.extents

  staged : ℕ → Bool
  staged p = is_staged c.tree.held c.old c.size c.x c.bytes p

  data_edit : ℕ → Edit
  data_edit q = edit (get_or blocks q 0) (new_content c.tree.held c.old c.size c.x c.bytes q)

  module _ (p b : ℕ) (h : p < length (blocks_in c.tree.extents)) (e : b ≡ get_or (blocks_in c.tree.extents) p 0) where
    -- the places from p on: p, and those behind it
    from : stores_of v (map data_edit (keep staged (up_from p (length blocks - p)))) ≡ stores_of v (map data_edit (keep staged (up_from p (suc (length blocks - (p + 1))))))
    unfolding blocks
    from =
        let n : length (blocks_in c.tree.extents) - p ≡ suc (length (blocks_in c.tree.extents) - (p + 1)) = omega arith in
        ap (λ (m : ℕ). stores_of v (map data_edit (keep staged (up_from p m)))) n

    behind : stores_of v (map data_edit (keep staged (up_from (suc p) (length blocks - (p + 1))))) ≡ data_stores v c (p + 1)
    unfolding blocks staged data_edit data_stores
    behind = ap (λ (m : ℕ). stores_of v (map data_edit (keep staged (up_from m (length blocks - (p + 1)))))) (sym (add-one p))

    pub data-skip : is_staged c.tree.held c.old c.size c.x c.bytes p ≡ false → data_stores v c p ≡ data_stores v c (p + 1)
    unfolding blocks staged data_edit data_stores
    data-skip s = from ∙ keep-skip v data_edit staged p (length blocks - (p + 1)) s ∙ behind

    pub data-one : is_staged c.tree.held c.old c.size c.x c.bytes p ≡ true
        → data_stores v c p ≡ put b (content_in v i c b (Data (record { 0 = p }))) ∷ data_stores v c (p + 1)
    unfolding blocks staged data_edit data_stores content_in
    data-one s =
        let w : put (get_or blocks p 0) (new_content c.tree.held c.old c.size c.x c.bytes p (v (get_or blocks p 0))) ≡ put b (content_of i c (Data (record { 0 = p })) (v b)) =
        ap (λ (d : ℕ). put d (new_content c.tree.held c.old c.size c.x c.bytes p (v d))) (sym e) ∙ ap (put b) (sym (content-data i c (v b) (record { 0 = p })))
        in
        from ∙ keep_one v data_edit staged p (length blocks - (p + 1)) s ∙ ap₂ (λ (y : BlockStore) (l : List BlockStore). y ∷ l) w behind

    module _ (r : Bool) (is : r ≡ is_staged c.tree.held c.old c.size c.x c.bytes p) (q : List Planned) where
      pub place-left : r ≡ false → Lists (content_in v i c) q (ascending (data_stores v c (p + 1))) → Lists (content_in v i c) q (ascending (data_stores v c p))
      place-left s l = rw (data-skip (sym is ∙ s)) l

      pub place-taken : (t : Result Unit Refusal) → r ≡ true
          → Told t (content_in v i c) q (insert (put b (content_in v i c b (Data (record { 0 = p })))) (ascending (data_stores v c (p + 1))))
          → Told t (content_in v i c) q (ascending (data_stores v c p))
      place-taken t s l = rw (data-one (sym is ∙ s)) (rw (← ascending-more (put b (content_in v i c b (Data (record { 0 = p })))) (data_stores v c (p + 1))) l)

  pub data-cast : (a : List Planned) (m n : ℕ) → m ≡ n → Lists (content_in v i c) a (ascending (data_stores v c m)) → Lists (content_in v i c) a (ascending (data_stores v c n))
  data-cast a m n e l = rw (← e) l

  pub data-none : (p : ℕ) → length (blocks_in c.tree.extents) ≤ p → data_stores v c p ≡ []
  unfolding data_stores
  data-none p h = let n : length (blocks_in c.tree.extents) - p ≡ 0 = omega arith in rw n

  -- d places at which nothing is staged
  pub data-gap : (d m : ℕ) → ((p : ℕ) → m ≤ p → p < m + d → is_staged c.tree.held c.old c.size c.x c.bytes p ≡ false)
      → data_stores v c m ≡ data_stores v c (m + d)
  data-gap zero m h = ap (data_stores v c) (sym (add-zero m))
  data-gap (suc d) m h =
      one (lt-or-le m (length (blocks_in c.tree.extents))) (data-gap d (m + 1) (λ p a b. h p (omega arith) (omega arith)))
    where
      one : (m < length (blocks_in c.tree.extents)) ⊎ (length (blocks_in c.tree.extents) ≤ m)
          → data_stores v c (m + 1) ≡ data_stores v c (m + 1 + d) → data_stores v c m ≡ data_stores v c (m + suc d)
      one (inl l) g =
          let z : m + 1 + d ≡ m + suc d = omega arith in
          data-skip m (get_or (blocks_in c.tree.extents) m 0) l refl (h m (omega arith) (omega arith)) ∙ g ∙ ap (data_stores v c) z
      one (inr l) g = data-none m l ∙ sym (data-none (m + suc d) (omega arith))

  pub gap-lists : (a : List Planned) (m n : ℕ) → m ≤ n → ((p : ℕ) → m ≤ p → p < n → is_staged c.tree.held c.old c.size c.x c.bytes p ≡ false)
      → Lists (content_in v i c) a (ascending (data_stores v c n)) → Lists (content_in v i c) a (ascending (data_stores v c m))
  gap-lists a m n h g l =
      let z : m + (n - m) ≡ n = omega arith in
      rw (data-gap (n - m) m (λ p q r. g p q (omega arith)) ∙ ap (data_stores v c) z) l

  pub told-gap : (t : Result Unit Refusal) (a : List Planned) (m n : ℕ) → m ≤ n → ((p : ℕ) → m ≤ p → p < n → is_staged c.tree.held c.old c.size c.x c.bytes p ≡ false)
      → Told t (content_in v i c) a (ascending (data_stores v c n)) → Told t (content_in v i c) a (ascending (data_stores v c m))
  told-gap t a m n h g l =
      let z : m + (n - m) ≡ n = omega arith in
      rw (data-gap (n - m) m (λ p q r. g p q (omega arith)) ∙ ap (data_stores v c) z) l

  -- more than 32 stay more than 32 further down
  pub data-longer : (d m : ℕ) → 32 < length (ascending (data_stores v c (m + d))) → 32 < length (ascending (data_stores v c m))
  data-longer zero m h = rw (← add-zero m) h
  data-longer (suc d) m h =
      let z : m + suc d ≡ m + 1 + d = omega arith in
      let g : 32 < length (ascending (data_stores v c (m + 1 + d))) = rw (← z) h in
      one (lt-or-le m (length (blocks_in c.tree.extents))) (data-longer d (m + 1) g)
    where
      inside : m < length (blocks_in c.tree.extents) → (t : Bool) → is_staged c.tree.held c.old c.size c.x c.bytes m ≡ t
          → 32 < length (ascending (data_stores v c (m + 1))) → 32 < length (ascending (data_stores v c m))
      inside k true s g =
          rw (data-one m (get_or (blocks_in c.tree.extents) m 0) k refl s)
          (longer-first (put (get_or (blocks_in c.tree.extents) m 0) (content_in v i c (get_or (blocks_in c.tree.extents) m 0) (Data (record { 0 = m })))) (data_stores v c (m + 1)) g)
      inside k false s g = rw (data-skip m (get_or (blocks_in c.tree.extents) m 0) k refl s) g

      one : (m < length (blocks_in c.tree.extents)) ⊎ (length (blocks_in c.tree.extents) ≤ m)
          → 32 < length (ascending (data_stores v c (m + 1))) → 32 < length (ascending (data_stores v c m))
      one (inl k) g = inside k (is_staged c.tree.held c.old c.size c.x c.bytes m) refl g
      one (inr k) g = rw (data-none m k ∙ sym (data-none (m + 1) (omega arith))) g

  pub data-below : (m n : ℕ) → m ≤ n → 32 < length (ascending (data_stores v c n)) → 32 < length (ascending (data_stores v c m))
  data-below m n l h = let z : m + (n - m) ≡ n = omega arith in data-longer (n - m) m (rw z h)

  pub data-all : data_stores v c 0 ≡ stores_of v (data_edits c.tree.held c.old c.size c.x c.bytes (blocks_in c.tree.extents))
  unfolding data_stores
  data-all = rw (sub-zero (length (blocks_in c.tree.extents)))

  -- ---- nodes

  after : List Edit
  after = data_edits c.tree.held c.old c.size c.x c.bytes (blocks_in c.tree.extents)

  -- one edit before others, where it changes the block
  changed-front : (b : ℕ) (tag : Content) (g : List ℕ → List ℕ) (es : List Edit) → content_in v i c b tag ≡ g (v b)
      → stores_of v (if_changed v (edit b g) ++ es) ≡ with_changed v (content_in v i c b tag) b (stores_of v es)
  unfolding with_changed
  changed-front b tag g es e = go (same (g (v b)) (v b)) refl
    where
      go : (t : Bool) → same (g (v b)) (v b) ≡ t
          → stores_of v (if_changed v (edit b g) ++ es) ≡ cond (same (content_in v i c b tag) (v b)) (stores_of v es) (put b (content_in v i c b tag) ∷ stores_of v es)
      go true q = rw (e, q)
      go false q = rw (e, q)

  append-edits : (es fs gs : List Edit) → stores_of v ((es ++ fs) ++ gs) ≡ stores_of v (es ++ (fs ++ gs))
  append-edits [] fs gs = refl
  append-edits (e ∷ es) fs gs = ap (λ (l : List BlockStore). put e.block (e.change (v e.block)) ∷ l) (append-edits es fs gs)

  module _ (j : ℕ) (h : j < length (nodes_in c.tree)) where
    next-node : drop j (nodes_in c.tree) ≡ get_or (nodes_in c.tree) j 0 ∷ drop (j + 1) (nodes_in c.tree)
    next-node = drop-cons (nodes_in c.tree) j 0 h ∙ rw (add-one j)

    next-slots : drop 128 (drop (128 * j) c.tree.extents) ≡ drop (128 * (j + 1)) c.tree.extents
    next-slots =
        let z : 128 * j + 128 ≡ 128 * (j + 1) = omega arith in
        drop-drop 128 (128 * j) c.tree.extents ∙ ap (λ (n : ℕ). drop n c.tree.extents) z

    own : content_in v i c (get_or (nodes_in c.tree) j 0) (Node j) ≡ node_bytes (take 128 (drop (128 * j) c.tree.extents))
    unfolding content_in
    own = content-node i c (v (get_or (nodes_in c.tree) j 0)) j

    b : ℕ
    b = get_or (nodes_in c.tree) j 0

    slots : List Extent
    slots = drop (128 * j) c.tree.extents

    -- a node that was held
    pub node-held : j < c.tree.before
        → node_stores v c j ≡ with_changed v (content_in v i c (get_or (nodes_in c.tree) j 0) (Node j)) (get_or (nodes_in c.tree) j 0) (node_stores v c (j + 1))
    unfolding node_stores after b slots
    node-held k =
        let n : c.tree.before - j ≡ suc (c.tree.before - (j + 1)) = omega arith in
        let g : List ℕ → List ℕ = λ old. node_bytes (take 128 slots) in
        let rest = node_edits v (c.tree.before - (j + 1)) (drop (j + 1) (nodes_in c.tree)) (drop 128 slots) in
        ap₂ (λ (m : ℕ) (l : List ℕ). stores_of v (node_edits v m l slots ++ after)) n next-node
        ∙ append-edits (if_changed v (edit b g)) rest after
        ∙ changed-front b (Node j) g (rest ++ after) own
        ∙ ap (λ (s : List Extent). with_changed v (content_in v i c b (Node j)) b (stores_of v (node_edits v (c.tree.before - (j + 1)) (drop (j + 1) (nodes_in c.tree)) s ++ after))) next-slots

    -- a new one
    pub node-new : c.tree.before ≤ j
        → node_stores v c j ≡ put (get_or (nodes_in c.tree) j 0) (content_in v i c (get_or (nodes_in c.tree) j 0) (Node j)) ∷ node_stores v c (j + 1)
    unfolding node_stores after b slots
    node-new k =
        let n : c.tree.before - j ≡ 0 = omega arith in
        let m : 0 ≡ c.tree.before - (j + 1) = omega arith in
        ap₂ (λ (m : ℕ) (l : List ℕ). stores_of v (node_edits v m l slots ++ after)) n next-node
        ∙ ap₂ (λ (y : List ℕ) (s : List Extent). put b y ∷ stores_of v (node_edits v 0 (drop (j + 1) (nodes_in c.tree)) s ++ after)) (sym own) next-slots
        ∙ ap (λ (m : ℕ). put b (content_in v i c b (Node j)) ∷ stores_of v (node_edits v m (drop (j + 1) (nodes_in c.tree)) (drop (128 * (j + 1)) c.tree.extents) ++ after)) m

    module _ (d : ℕ) (e : d ≡ get_or (nodes_in c.tree) j 0) (t : Result Unit Refusal) (q : List Planned) where
      pub held-lists : j < c.tree.before
          → Told t (content_in v i c) q (ascending (with_changed v (content_in v i c d (Node j)) d (node_stores v c (j + 1))))
          → Told t (content_in v i c) q (ascending (node_stores v c j))
      held-lists k g = rw (node-held k, ← e) g

      pub new-lists : c.tree.before ≤ j
          → Told t (content_in v i c) q (insert (put d (content_in v i c d (Node j))) (ascending (node_stores v c (j + 1))))
          → Told t (content_in v i c) q (ascending (node_stores v c j))
      new-lists k g = rw (node-new k, ← e) (rw (← ascending-more (put d (content_in v i c d (Node j))) (node_stores v c (j + 1))) g)

    node-more : 32 < length (ascending (node_stores v c (j + 1))) → 32 < length (ascending (node_stores v c j))
    node-more g = go (lt-or-le j c.tree.before)
      where
        go : (j < c.tree.before) ⊎ (c.tree.before ≤ j) → 32 < length (ascending (node_stores v c j))
        go (inl k) = rw (node-held k) (longer-changed v (content_in v i c (get_or (nodes_in c.tree) j 0) (Node j)) (get_or (nodes_in c.tree) j 0) (node_stores v c (j + 1)) g)
        go (inr k) = rw (node-new k) (longer-first (put (get_or (nodes_in c.tree) j 0) (content_in v i c (get_or (nodes_in c.tree) j 0) (Node j))) (node_stores v c (j + 1)) g)

  -- more than 32 from some node on are more than 32 from the first
  pub nodes-longer : (j : ℕ) → j ≤ length (nodes_in c.tree) → 32 < length (ascending (node_stores v c j)) → 32 < length (ascending (node_stores v c 0))
  nodes-longer zero h g = g
  nodes-longer (suc j) h g = nodes-longer j (omega arith) (node-more j (omega arith) (rw (add-one j) g))

  pub node-cast : (a : List Planned) (m n : ℕ) → m ≡ n → Lists (content_in v i c) a (ascending (node_stores v c m)) → Lists (content_in v i c) a (ascending (node_stores v c n))
  node-cast a m n e l = rw (← e) l

  pub nodes-none : node_stores v c (length (nodes_in c.tree)) ≡ data_stores v c 0
  unfolding node_stores
  nodes-none = rw (drop-length (nodes_in c.tree)) (sym data-all)

  -- ---- the record and the bitmap

  pub record-changed : record_stores v i c ≡ with_changed v (content_in v i c (block_of_inode i) Record) (block_of_inode i) (node_stores v c 0)
  unfolding record_stores node_stores content_in after
  record-changed =
      changed-front (block_of_inode i) Record (patch (place_of_inode i) c.record) (node_edits v c.tree.before (nodes_in c.tree) c.tree.extents ++ after)
      (content-record i c (v (block_of_inode i)))
      ∙ rw (sub-zero c.tree.before)

  pub bitmap-changed : change_stores v i c ≡ with_changed v (content_in v i c 33 Bitmap) 33 (record_stores v i c)
  unfolding change_stores record_stores content_in after
  bitmap-changed =
      changed-front 33 Bitmap (λ old. c.tree.table)
      (if_changed v (inode_edit i c.record) ++ (node_edits v c.tree.before (nodes_in c.tree) c.tree.extents ++ after))
      (content-bitmap i c (v 33))

  -- ---- all of it, step by step

  pub data-start : (a : List Planned) (m : ℕ) → m ≡ length (blocks_in c.tree.extents) → Lists (content_in v i c) a [] → Lists (content_in v i c) a (ascending (data_stores v c m))
  unfolding ascending
  data-start a m e l = rw (data-none m (omega arith)) l

  pub nodes-start : (a : List Planned) → Lists (content_in v i c) a (ascending (data_stores v c 0)) → Lists (content_in v i c) a (ascending (node_stores v c (length (nodes_in c.tree))))
  nodes-start a l = rw nodes-none l

  module _ (t : Result Unit Refusal) (a : List Planned) where
    pub record-lists : Told t (content_in v i c) a (ascending (with_changed v (content_in v i c (block_of_inode i) Record) (block_of_inode i) (node_stores v c 0)))
        → Told t (content_in v i c) a (ascending (record_stores v i c))
    record-lists l = rw record-changed l

    pub change-lists : Told t (content_in v i c) a (ascending (with_changed v (content_in v i c 33 Bitmap) 33 (record_stores v i c)))
        → Told t (content_in v i c) a (ascending (change_stores v i c))
    change-lists l = rw bitmap-changed l

  -- more than 32 on the way are more than 32 in all
  pub over-record : 32 < length (ascending (record_stores v i c)) → 32 < length (ascending (change_stores v i c))
  over-record h = rw bitmap-changed (longer-changed v (content_in v i c 33 Bitmap) 33 (record_stores v i c) h)

  pub over-nodes : 32 < length (ascending (node_stores v c 0)) → 32 < length (ascending (change_stores v i c))
  over-nodes h = over-record (rw record-changed (longer-changed v (content_in v i c (block_of_inode i) Record) (block_of_inode i) (node_stores v c 0) h))

  pub over-data : 32 < length (ascending (data_stores v c 0)) → 32 < length (ascending (change_stores v i c))
  over-data h = over-nodes (nodes-longer (length (nodes_in c.tree)) (omega arith) (rw nodes-none h))
