-- Laws of stretches and their maximal runs. Assumes nothing.
use Prim.Native.Nat.{ℕ, zero, suc, ◌+◌, ◌-◌, ◌*◌, ◌<◌, ◌≤◌, min}
use mathlib.Core.Path.{◌≡◌, refl, sym, ap, ◌∙◌}
use mathlib.Core.Bool.{Bool, true, false, cond, ◌||◌, true≢false}
use mathlib.Core.Logic.{◌⊎◌, inl, inr}
use mathlib.Core.List.{List, [], ◌∷◌, ◌++◌, append-nil, append_assoc}
use native.Mathlib.Omega.{arith}
use borrow.Author.Tests.{eq-eqb, ne_eqb, eqb-false, ltb-false, le-leb, lt-leb}
use lib.Dec.{eqb, ltb, leb}
use lib.ListN.{length, take, drop, get_or, get_elem?, length-append, length-take, length-drop}
use lib.Seq.{take-nil, drop-nil}
use Rattle.spec.specs.declared.Extent.{Extent}
use Rattle.spec.specs.Bytes.{exactly, up_from}
use Rattle.spec.specs.Disk.{Disk}
use Rattle.spec.specs.Inode.{extent, inode_at, block_of_inode, blocks_in, extents_of, data_of, prepend, runs}
use Rattle.spec.specs.Transaction.{State, view}
use Rattle.spec.specs.Calls.{runs_of}
use Rattle.lists.specs.Counts.{length-up_from}
use Rattle.block.proofs.Laws.{lt-or-le}
use Rattle.block.proofs.Lists.{up_from-append}
use Rattle.transaction.specs.Volumes.{working, Shows}
use Rattle.transaction.specs.declared.volume.Volume.{Volume}
use Rattle.transaction.proofs.Laws.{shows-view}
use Rattle.inode.specs.declared.Cursor.{Cursor}
use Rattle.inode.specs.Walk.{slot_in, whole_slots, behind, rest, start_of, Onward, Inward, Ended}
use Rattle.inode.proofs.Laws.{drop-take}
use Rattle.inode.proofs.Walk.{extents-start, block_start, step-whole}
use Rattle.extents.specs.declared.Scan.{Scan}
use Rattle.extents.specs.declared.piece.Piece.{Piece}
use Rattle.extents.specs.declared.pieces.Pieces.{Pieces}
use Rattle.extents.specs.Pieces.{pieces_left}
use Rattle.std.specs.Prelude.{Option as Returned, Some, None, MatchOption, slice_get, option_map}
use Rattle.std.specs.Option.{ForSome}
use Rattle.std.specs.Iterator.{YieldsFirst, MakesProgress, item_count}
use Rattle.extents.specs.Stretches.{run_of, held_blocks, held_count}
use Rattle.extents.specs.Stretches.{Held, pending, Starts, blocks_at, pieces, left_at, TakesPiece, GoesOn, Passes, runs_in}

-- ---- lists of numbers in a row

drop-inside : (a n k : ℕ) (ys : List ℕ) → k ≤ n → drop k (up_from a n ++ ys) ≡ up_from (a + k) (n - k) ++ ys
drop-inside a n zero ys h = let y : a + 0 ≡ a = omega arith in let z : n - 0 ≡ n = omega arith in rw (y, z)
drop-inside a zero (suc k) ys h = absurd (omega arith)
drop-inside a (suc n) (suc k) ys h =
    let y : a + suc k ≡ suc a + k = omega arith in
    let z : suc n - suc k ≡ n - k = omega arith in
    rw (y, z) (drop-inside (suc a) n k ys (omega arith))

drop_past : (a n k : ℕ) (ys : List ℕ) → n ≤ k → drop k (up_from a n ++ ys) ≡ drop (k - n) ys
drop_past a zero k ys h = let z : k - 0 ≡ k = omega arith in rw z
drop_past a (suc n) zero ys h = absurd (omega arith)
drop_past a (suc n) (suc k) ys h = let z : suc k - suc n ≡ k - n = omega arith in rw z (drop_past (suc a) n k ys (omega arith))

take-up : (a n r m : ℕ) (ys : List ℕ) → m ≡ min n r → take r (up_from a n ++ ys) ≡ up_from a m ++ take (r - m) ys
take-up a zero r m ys e = let y : m ≡ 0 = omega arith in let z : r - 0 ≡ r = omega arith in rw (y, z)
take-up a (suc n) zero m ys e = let y : m ≡ 0 = omega arith in rw y
take-up a (suc n) (suc r) m ys e =
    let y : m ≡ suc (min n r) = omega arith in
    let z : suc r - suc (min n r) ≡ r - min n r = omega arith in
    rw (y, z) (ap (λ (l : List ℕ). a ∷ l) (take-up (suc a) n r (min n r) ys refl))

-- a stretch of a list that is cut
take-both : (n m : ℕ) (xs : List ℕ) → take n (take m xs) ≡ take (min n m) xs
take-both zero m xs = let z : min 0 m ≡ 0 = omega arith in rw z
take-both (suc n) zero xs = let z : min (suc n) 0 ≡ 0 = omega arith in rw z
take-both (suc n) (suc m) [] = let z : min (suc n) (suc m) ≡ suc (min n m) = omega arith in rw z
take-both (suc n) (suc m) (x ∷ xs) = let z : min (suc n) (suc m) ≡ suc (min n m) = omega arith in rw z (ap (λ (l : List ℕ). x ∷ l) (take-both n m xs))

-- a file's data blocks from block p on, and n of them, read from its start
data-from : (v : Disk) (i p : ℕ) → drop p (data_of v (inode_at v i)) ≡ take (2048 - p) (drop p (blocks_in (rest v (block_of_inode i) (start_of v i))))
unfolding data_of
data-from v i p =
    drop-take 2048 p (blocks_in (extents_of v (inode_at v i)))
    ∙ ap (λ (es : List Extent). take (2048 - p) (drop p (blocks_in es))) (sym (extents-start v i))

data-stretch : (v : Disk) (i p n : ℕ)
    → take n (drop p (data_of v (inode_at v i))) ≡ take (min n (2048 - p)) (drop p (blocks_in (rest v (block_of_inode i) (start_of v i))))
data-stretch v i p n = ap (take n) (data-from v i p) ∙ take-both n (2048 - p) (drop p (blocks_in (rest v (block_of_inode i) (start_of v i))))

-- ---- one block

module _ (v : Disk) (i p : ℕ) where
  pub held-past : 2048 ≤ p → drop p (data_of v (inode_at v i)) ≡ []
  held-past h = data-from v i p ∙ (let z : 2048 - p ≡ 0 = omega arith in rw z)

  -- where the walk has come from the start c₀ to the cursor c, k blocks before block p
  module _ (tb : ℕ) (b : tb ≡ block_of_inode i) (c₀ : Cursor) (s : c₀ ≡ start_of v i) (k : ℕ) (c : Cursor) (h : drop k (blocks_in (rest v tb c)) ≡ drop p (blocks_in (rest v tb c₀))) where
    module _ (e : Extent) (d : Cursor) (o : Onward v tb c e d) where
      begins : drop p (blocks_in (rest v tb c₀)) ≡ drop k (up_from e.first e.count ++ blocks_in (rest v tb d))
      unfolding blocks_in
      begins = sym h ∙ ap (λ (es : List Extent). drop k (blocks_in es)) o.extents

      pub seek-hit : p < 2048 → k < e.count → Held v i p e k
      seek-hit low l =
          let z = begins ∙ drop-inside e.first e.count k (blocks_in (rest v tb d)) (omega arith) in
          record {
            follow = λ m a f.
                let x : min m (2048 - p) ≡ m = omega arith in
                let y : m ≡ min (e.count - k) m = omega arith in
                let w : m - m ≡ 0 = omega arith in
                data-stretch v i p m ∙ rw (x, ← s, ← b, z, take-up (e.first + k) (e.count - k) m m (blocks_in (rest v tb d)) y, w) (append-nil (up_from (e.first + k) m));
            inside = l;
            low = low;
            first = o.first;
            count = o.count;
          }

      pub seek-past : e.count ≤ k → drop (k - e.count) (blocks_in (rest v tb d)) ≡ drop p (blocks_in (rest v tb c₀))
      seek-past l = sym (begins ∙ drop_past e.first e.count k (blocks_in (rest v tb d)) l)

    pub seek-end : Ended v tb c → drop p (data_of v (inode_at v i)) ≡ []
    unfolding blocks_in
    seek-end n =
        let z : drop p (blocks_in (rest v tb c₀)) ≡ [] = sym h ∙ ap (λ (es : List Extent). drop k (blocks_in es)) n.extents ∙ drop-nil k in
        data-from v i p ∙ rw (← s, ← b, z) (take-nil (2048 - p))

-- ---- pieces of a stretch

module _ (v : Disk) (i from n : ℕ) (c : Scan) where
  pub stretch-start : c.at ≡ start_of v i → c.skip ≡ from → c.room ≡ min n (2048 - from) → Starts v i from n c
  unfolding pending
  stretch-start a k r = record { blocks = rw (a, k, r) (sym (data-stretch v i from n)); room = omega arith; block = ap (λ (x : Cursor). x.block) a ∙ block_start v i }

-- extents cut to a stretch
cut-none : (skip : ℕ) (es : List Extent) → pieces skip 0 es ≡ []
unfolding pieces
cut-none skip [] = refl
cut-none skip (e ∷ es) = go (leb e.count skip) (pieces (skip - e.count) 0 es) (cut-none (skip - e.count) es)
  where
    go : (t : Bool) (xs : List Extent) → xs ≡ [] → cond t xs [] ≡ []
    go true xs h = h
    go false xs h = refl

cut-past : (skip room : ℕ) (e : Extent) (es : List Extent) → e.count ≤ skip → pieces skip room (e ∷ es) ≡ pieces (skip - e.count) room es
unfolding pieces
cut-past skip room e es h = rw (le-leb e.count skip h)

cut-in : (skip room m : ℕ) (e : Extent) (es : List Extent) → skip < e.count → 0 < room → m ≡ min (e.count - skip) room
    → pieces skip room (e ∷ es) ≡ extent (e.first + skip) m ∷ pieces 0 (room - m) es
unfolding pieces
cut-in skip room m e es h k q = rw (lt-leb e.count skip h, ne_eqb room 0 (λ z. omega arith), q)

-- their blocks are the stretch: one extent more
module _ (skip room : ℕ) (e : Extent) (es : List Extent)
    (ih : (k r : ℕ) → blocks_in (pieces k r es) ≡ take r (drop k (blocks_in es))) where
  cut-more : (skip < e.count) ⊎ (e.count ≤ skip) → (0 < room) ⊎ (room ≤ 0) → blocks_in (pieces skip room (e ∷ es)) ≡ take room (drop skip (blocks_in (e ∷ es)))
  unfolding blocks_in
  cut-more (inr h) k =
      ap blocks_in (cut-past skip room e es h) ∙ ih (skip - e.count) room
      ∙ ap (take room) (sym (drop_past e.first e.count skip (blocks_in es) h))
  cut-more (inl h) (inr k) = let z : room ≡ 0 = omega arith in rw z (ap blocks_in (cut-none skip (e ∷ es)))
  cut-more (inl h) (inl k) =
      let m = min (e.count - skip) room in
      ap blocks_in (cut-in skip room m e es h k refl)
      ∙ ap (λ (bs : List ℕ). up_from (e.first + skip) m ++ bs) (ih 0 (room - m))
      ∙ sym (ap (take room) (drop-inside e.first e.count skip (blocks_in es) (omega arith)) ∙ take-up (e.first + skip) (e.count - skip) room m (blocks_in es) refl)

cut-blocks : (es : List Extent) (skip room : ℕ) → blocks_in (pieces skip room es) ≡ take room (drop skip (blocks_in es))
unfolding pieces blocks_in
cut-blocks [] skip room = sym (ap (take room) (drop-nil skip) ∙ take-nil room)
cut-blocks (e ∷ es) skip room = cut-more skip room e es (cut-blocks es) (lt-or-le skip e.count) (lt-or-le 0 room)

module _ (v : Disk) (tb : ℕ) (c : Scan) where
  pub blocks-left : blocks_in (left_at v tb c) ≡ pending v tb c
  unfolding left_at pending
  blocks-left = cut-blocks (rest v tb c.at) c.skip c.room

  pub no_room : c.room ≡ 0 → left_at v tb c ≡ []
  unfolding left_at
  no_room h = rw h (cut-none c.skip (rest v tb c.at))

-- where a walk begins
pub left-start : (v : Disk) (i from n tb : ℕ) (c : Scan) → tb ≡ block_of_inode i → Starts v i from n c → blocks_in (left_at v tb c) ≡ blocks_at v i from n
left-start v i from n tb c t s = rw t (blocks-left v (block_of_inode i) c ∙ s.blocks)

-- ---- one slot or node of a stretch

module _ (v : Disk) (tb : ℕ) (c : Scan) where
  -- over the first slot
  module _ (e : Extent) (d : Cursor) (o : Onward v tb c.at e d) where
    pub slot-piece : d.block ≡ c.at.block → c.skip < e.count → 0 < c.room → (m : ℕ) → m ≡ min (e.count - c.skip) c.room
        → TakesPiece v tb c (extent (e.first + c.skip) m) (record { at = d; skip = 0; room = c.room - m })
    unfolding left_at
    slot-piece b k p m q = record { pieces = rw o.extents (cut-in c.skip c.room m e (rest v tb d) k p q); some = omega arith; room = omega arith; less = o.less; block = b }

    pub slot-passed : e.count ≤ c.skip → GoesOn v tb c (record { at = d; skip = c.skip - e.count; room = c.room })
    unfolding left_at
    slot-passed k = record { pieces = rw o.extents (cut-past c.skip c.room e (rest v tb d) k); room = refl; less = o.less }

  pub node-next : (b : ℕ) (d : Cursor) → Inward v tb c.at b d → GoesOn v tb c (record { at = d; skip = c.skip; room = c.room })
  unfolding left_at
  node-next b d i = record { pieces = ap (λ (es : List Extent). pieces c.skip c.room es) i.extents; room = refl; less = i.less }

  pub node-none : Ended v tb c.at → left_at v tb c ≡ []
  unfolding left_at pieces
  node-none i = ap (λ (es : List Extent). pieces c.skip c.room es) i.extents

-- over the whole slots of a leaf
neither : (a b : Bool) → (a || b) ≡ false → (a ≡ false) × (b ≡ false)
neither false b h = (refl, h)
neither true b h = absurd (true≢false h)

module _ (v : Disk) (tb : ℕ) (c : Scan) where
  pub whole_none : Passes v tb c (record { at = behind c.at 0; skip = c.skip; room = c.room })
  whole_none =
      let z : c.at.at + 4 * 0 ≡ c.at.at = omega arith in
      let y : c.at.left - 0 ≡ c.at.left = omega arith in
      rw (z, y) (record { pieces = refl; room = refl; less = omega arith; block = refl })

  -- one more, behind k that are passed
  pub whole-passed : (block : List ℕ) (k skip : ℕ) (e : Extent) → length block ≤ 512 → exactly 512 block ≡ v c.at.block
      → Passes v tb c (record { at = behind c.at k; skip = skip; room = c.room }) → k < length (whole_slots c.at.left c.at.at block)
      → (e ≡ slot_in 0 (get_or (whole_slots c.at.left c.at.at block) k [])) × (e.first < 65536) × (e.count < 65536) → (eqb e.count 0 || ltb skip e.count) ≡ false
      → Passes v tb c (record { at = behind c.at (k + 1); skip = skip - e.count; room = c.room })
  whole-passed block k skip e few x p l f h =
      let q = neither (eqb e.count 0) (ltb skip e.count) h in
      let some : 0 < e.count = omega (arith, eqb-false e.count 0 q.0) in
      let o = step-whole v tb c.at block k e few x l f some in
      let g = slot-passed v tb (record { at = behind c.at k; skip = skip; room = c.room }) e (behind c.at (k + 1)) o (ltb-false skip e.count q.1) in
      record { pieces = p.pieces ∙ g.pieces; room = g.room ∙ p.room; less = omega (arith, p.less, g.less); block = refl }

-- the first piece of a stretch that has room for all that follows block p holds it
module _ (v : Disk) (i p n : ℕ) (ps qs : List Extent) (q : Piece) where
  pub piece-held : blocks_in ps ≡ blocks_at v i p n → ps ≡ q.extent ∷ qs → 0 < q.extent.count → 2048 ≤ p + n
      → Held v i p (extent (q.extent.first - (q.extent.first - 65535)) (q.extent.count + (q.extent.first - 65535))) (q.extent.first - 65535)
  unfolding blocks_in data_of
  piece-held h t z r =
      let e = q.extent in
      let x : blocks_at v i p n ≡ up_from e.first e.count ++ blocks_in qs = sym h ∙ ap blocks_in t in
      let l : length (blocks_at v i p n) ≤ 2048 - p = simp (length-take, length-drop) (omega arith) in
      record {
        follow = λ m a b.
            let y : min m n ≡ m = omega (arith, r) in
            let w : e.first - (e.first - 65535) + (e.first - 65535) ≡ e.first = omega arith in
            let g : m - m ≡ 0 = omega arith in
            sym (ap (λ (k : ℕ). take k (drop p (data_of v (inode_at v i)))) y)
            ∙ sym (take-both m n (drop p (data_of v (inode_at v i))))
            ∙ ap (take m) x
            ∙ take-up e.first e.count m m (blocks_in qs) (omega (arith, a))
            ∙ rw (w, g) (append-nil (up_from e.first m));
        inside = omega (arith, z);
        low = omega (arith, l, ap length x, length-append (up_from e.first e.count) (blocks_in qs), length-up_from e.first e.count, z);
        first = omega (arith, q.first, q.end);
        count = omega (arith, q.end, q.count);
      }

-- a walk that has gone from p to q: the same pieces are left, of the same tree
pub record Walked (p q : Pieces) : Type 0 where
  pub left : pieces_left p ≡ pieces_left q
  pub room : q.scan.room ≡ p.scan.room
  pub copy : q.copy ≡ p.copy
  pub tree : q.record_block ≡ p.record_block

-- ---- maximal runs

-- a run that goes on
pub run-joined : (a n m : ℕ) (ys : List ℕ) → up_from a n ++ (up_from (a + n) m ++ ys) ≡ up_from a (n + m) ++ ys
run-joined a n m ys = sym (append_assoc (up_from a n) (up_from (a + n) m) ys) ∙ rw (up_from-append a n m)

-- a run that ends: its last block does not join what follows
run-front : (a n : ℕ) (ys : List ℕ) → prepend (a + n) (runs ys) ≡ extent (a + n) 1 ∷ runs ys → runs (up_from a (suc n) ++ ys) ≡ extent a (suc n) ∷ runs ys
unfolding runs
run-front a zero ys h = let z : a + 0 ≡ a = omega arith in rw z at h
run-front a (suc n) ys h =
    let z : a + suc n ≡ suc a + n = omega arith in
    rw (run-front (suc a) n ys (rw z at h), eq-eqb (suc a) (suc a) refl)

prepend-apart : (b x : ℕ) (es : List Extent) → (x ≡ suc b → ⊥) → prepend b (prepend x es) ≡ extent b 1 ∷ prepend x es
prepend-apart b x [] h = rw (ne_eqb x (suc b) h)
prepend-apart b x (e ∷ es) h = go (eqb e.first (suc x)) refl
  where
    go : (t : Bool) → eqb e.first (suc x) ≡ t → prepend b (prepend x (e ∷ es)) ≡ extent b 1 ∷ prepend x (e ∷ es)
    go true q = rw (q, ne_eqb x (suc b) h)
    go false q = rw (q, ne_eqb x (suc b) h)

pub run-apart : (a n x m : ℕ) (ys : List ℕ) → 0 < n → 0 < m → (a + n ≡ x → ⊥)
    → runs (up_from a n ++ (up_from x m ++ ys)) ≡ extent a n ∷ runs (up_from x m ++ ys)
unfolding runs
run-apart a zero x m ys p q h = absurd (omega arith)
run-apart a (suc n) x zero ys p q h = absurd (omega arith)
run-apart a (suc n) x (suc m) ys p q h =
    run-front a n (up_from x (suc m) ++ ys) (prepend-apart (a + n) x (runs (up_from (suc x) m ++ ys)) (λ e. h (omega arith)))

pub run-last : (a n : ℕ) → 0 < n → runs (up_from a n ++ []) ≡ extent a n ∷ []
unfolding runs
run-last a zero p = absurd (omega arith)
run-last a (suc n) p = run-front a n [] refl

-- the blocks of the first piece and of the others
pub piece-counts : (ps : List Extent) (e : Extent) (qs : List Extent) → ps ≡ e ∷ qs → length (blocks_in ps) ≡ e.count + length (blocks_in qs)
unfolding blocks_in
piece-counts ps e qs h = rw h (length-append (up_from e.first e.count) (blocks_in qs) ∙ ap (λ (k : ℕ). k + length (blocks_in qs)) (length-up_from e.first e.count))

-- an extent that an Option is said to hold
pub first-held : {e x : Extent} → Some e ≡ Some x → e.first ≡ x.first
first-held h = ap first_of h
  where
    first_of : Returned Extent → ℕ
    first_of None = 0
    first_of (Some e) = e.first

pub count-held : {e x : Extent} → Some e ≡ Some x → e.count ≡ x.count
count-held h = ap held_count h

-- the first piece fits where a run begins with it
pub piece-fits : (o : Returned Extent) (q : Piece) (ps qs : List Extent) → ps ≡ q.extent ∷ qs → 0 < q.extent.count → held_count o + length (blocks_in ps) ≤ 2048
    → ForSome (Some q.extent) (λ e. e.first < 131072) × (ForSome (Some q.extent) (λ e. 0 < e.count) × (held_count (Some q.extent) + length (blocks_in qs) ≤ 2048))
piece-fits o q ps qs t z f =
    (λ x h. omega (arith, first-held h, q.first), (λ x h. omega (arith, count-held h, z), omega (arith, piece-counts ps q.extent qs t, f)))

-- the runs of a run that may be held and of the pieces behind it
abbrev runs_on : Returned Extent → List Extent → List Extent
runs_on o ps = runs (held_blocks o ++ blocks_in ps)

module _ (o : Returned Extent) (ps : List Extent) where
  -- the pieces begin with e, which goes on with the run or not
  module _ (e : Extent) (qs : List Extent) (h : ps ≡ e ∷ qs) where
    pub run-begins : o ≡ None → runs_on o ps ≡ runs_on (Some e) qs
    unfolding blocks_in
    run-begins n = rw (n, h) refl

    module _ (run : Extent) (s : o ≡ Some run) where
      pub run-goes_on : run.first + run.count ≡ e.first → runs_on o ps ≡ runs_on (Some (extent run.first (run.count + e.count))) qs
      unfolding blocks_in
      run-goes_on q = rw (s, h, ← q) (ap runs (run-joined run.first run.count e.count (blocks_in qs)))

      pub run-ends : 0 < run.count → 0 < e.count → (run.first + run.count ≡ e.first → ⊥) → runs_on o ps ≡ run ∷ runs_on (Some e) qs
      unfolding blocks_in
      run-ends z p q = rw (s, h) (run-apart run.first run.count e.first e.count (blocks_in qs) z p q)

  -- no piece is left: the last run, and none behind it
  module _ (qs : List Extent) (h : ps ≡ []) (k : qs ≡ []) where
    pub last-told : (r n : Returned Extent) → ForSome o (λ e. 0 < e.count) → r ≡ o → n ≡ None
        → MatchOption r ((runs_on o ps ≡ []) × (runs_on n qs ≡ [])) (λ e. runs_on o ps ≡ e ∷ runs_on n qs)
    unfolding blocks_in runs
    last-told r n z q m = rw (q, m, h, k) (go o z)
      where
        go : (o : Returned Extent) → ForSome o (λ e. 0 < e.count)
            → MatchOption o ((runs_on o [] ≡ []) × (runs_on None [] ≡ [])) (λ e. runs_on o [] ≡ e ∷ runs_on None [])
        go None z = (refl, refl)
        go (Some e) z = run-last e.first e.count (z e refl)

-- a step over the list of what is left goes on
pub list-step : {S A : Type 0} (rest : S → List A) (s t : S) (r : Returned A) → YieldsFirst rest s r t → MakesProgress (λ _. Unit {0}) (item_count rest) s r t
list-step rest s t None y = record { on = λ _. tt; keeps = tt; rests = λ _. tt }
list-step rest s t (Some e) y = record { on = λ _. (tt, tt, omega (arith, ap length y)); keeps = tt; rests = λ _. tt }

-- no list has more runs than numbers
pub runs-few : (xs : List ℕ) → length (runs xs) ≤ length xs
unfolding runs
runs-few [] = omega arith
runs-few (x ∷ xs) = go (runs xs) (runs-few xs)
  where
    go : (es : List Extent) → length es ≤ length xs → length (prepend x es) ≤ suc (length xs)
    go [] h = omega arith
    go (e ∷ es) h = join (eqb e.first (suc x)) h
      where
        join : (t : Bool) → length (e ∷ es) ≤ length xs → length (cond t (extent x (suc e.count) ∷ es) (extent x 1 ∷ e ∷ es)) ≤ suc (length xs)
        join true h = omega arith
        join false h = omega arith

-- at the start, with no run held, all runs of the stretch are left
pub record BegunIn (v : Disk) (i from n : ℕ) (ps : List Extent) : Type 0 where
  pub runs : runs (blocks_in ps) ≡ runs_in v i from n
  pub some : length (runs_in v i from n) ≤ 2048
  pub few : length (blocks_in ps) ≤ 2048

pub begin-in : (v : Disk) (i from n : ℕ) (ps : List Extent) → blocks_in ps ≡ blocks_at v i from n → BegunIn v i from n ps
unfolding runs_in data_of
begin-in v i from n ps h =
    let p : length (blocks_at v i from n) ≤ 2048 = simp (length-take, length-drop) (omega arith) in
    record {
      runs = ap runs h;
      some = omega (arith, runs-few (blocks_at v i from n), p);
      few = omega (arith, ap length h, p);
    }

-- the same of a state
pub runs_of_lem : (s : State) (i from n : ℕ) → runs_in (view s) i from n ≡ runs_of s i from n
unfolding runs_in runs_of
runs_of_lem s i from n = refl

-- of a state that is seen
pub runs-seen : (v : Volume) (s : State) (i from n : ℕ) → Shows v s → runs_in (working v.copy) i from n ≡ runs_of s i from n
runs-seen v s i from n e = ap (λ (d : Disk). runs_in d i from n) (shows-view v s e) ∙ runs_of_lem s i from n

-- ---- the k-th of them, as code tells it

pub as-given : (o : Returned Extent) → o ≡ option_map (λ (x : Extent). x) o
as-given None = refl
as-given (Some e) = refl

pub nth-told : (es : List Extent) (k : ℕ) → slice_get es k ≡ run_of (get_elem? es k)
nth-told [] k = refl
nth-told (e ∷ es) zero = refl
nth-told (e ∷ es) (suc k) = nth-told es k
