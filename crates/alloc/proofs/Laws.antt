-- Laws of blocks taken and given back. Assumes nothing.
use Prim.Native.Nat.{ℕ, zero, suc, ◌+◌, ◌*◌, ◌-◌, ◌/◌, ◌<◌, ◌≤◌}
use mathlib.Core.Path.{◌≡◌, refl, sym, ap, ◌∙◌}
use mathlib.Core.Bool.{Bool, true, false}
use mathlib.Core.List.{List, [], ◌∷◌, ◌++◌, append_assoc, append-nil}
use native.Mathlib.Nat.{add-zero}
use native.Mathlib.Numerals.{add-one}
use native.Mathlib.Omega.{arith}
use lib.ListN.{length, take, drop, set, length-append, length-take, length-drop, drop_of_length-le}
use lib.Seq.{take_all, take-append_seam, drop-append_seam}
use Rattle.spec.specs.Bytes.{up_from, place}
use Rattle.spec.specs.Disk.{Disk}
use Rattle.spec.specs.Bitmap.{bits_of, free_bits, mark, pick, picks}
use Rattle.spec.specs.declared.DiskBlock.{DiskBlock}
use Rattle.spec.specs.declared.Extent.{Extent}
use Rattle.spec.specs.Inode.{inode_at, data_of, block_of_inode, blocks_in, runs, slots_in}
use lib.Dec.{eqb}
use Rattle.std.specs.Prelude.{Some, None, Option as Returned}
use Rattle.std.specs.Borrow.{Bor}
use Rattle.std.specs.Iterator.{Yields}
use Rattle.std.specs.Iterator.Adapters.{skip_count, skip_source, skip_steps}
use Rattle.std.specs.Slice.Iter.{iter_rest, iter_steps}
use Rattle.std.specs.declared.slice.Iter.{Iter}
use Rattle.std.specs.declared.iter.Skip.{Skip}
use Rattle.std.specs.Option.{is_some}
use Rattle.bitmap.specs.Words.{Table, found_of}
use Rattle.bitmap.proofs.Laws.{none_free, next-free}
use Rattle.bitmap.proofs.Runs.{mark-more}
use mathlib.Core.Option.{Option, none, some}
use Rattle.inode.specs.declared.Cursor.{Cursor}
use Rattle.inode.specs.Walk.{Slot, live, leaf, rest_nodes, start_of}
use Rattle.inode.proofs.Walk.{live-left, nodes-start, weight-start, step-node, step_end}
use Rattle.extents.specs.Stretches.{blocks_at}
use Rattle.extents.proofs.Laws.{piece-counts}
use Rattle.runs.specs.declared.ExtentList.{ExtentList}
use Rattle.runs.specs.Push.{Holds, Small, Pushed}
use Rattle.runs.proofs.Laws.{pushed-blocks}
use Rattle.lists.specs.Bits.{mark-append, length-picks}
use Rattle.lists.specs.Counts.{length-up_from}
use Rattle.alloc.specs.Parts.{data_at, nodes_at, Picked, KeptOf, GaveBack, TookNodes}

-- ---- picks and marks

picks_more : (bits : List ℕ) (k : ℕ) → picks bits (suc k) ≡ picks bits k ++ (pick (mark 1 (picks bits k) bits) ∷ [])
unfolding picks mark
picks_more bits zero = refl
picks_more bits (suc k) = ap (λ (l : List ℕ). pick bits ∷ l) (picks_more (set bits (pick bits) 1) k)

pub mark-none : (v : ℕ) (bits : List ℕ) → bits ≡ mark v [] bits
unfolding mark
mark-none v bits = refl

-- ---- one block

pub picked : (t u : List ℕ) (b : DiskBlock) → Table t → Some b ≡ found_of (place 0 (bits_of t)) → bits_of u ≡ set (bits_of t) b.0 1 → Picked t u b.0
unfolding pick
picked t u b table e q =
    let n = next-free t b table e in
    record {
      is = rw n.is-place;
      within = n.within;
      bits = q;
      fewer = rw q n.fewer;
      below = rw q n.below;
    }

pub some-free : (t : List ℕ) (r : Returned DiskBlock) → 0 < free_bits (bits_of t) → r ≡ found_of (place 0 (bits_of t)) → is_some r ≡ true
some-free t r h e = rw e (go (place 0 (bits_of t)) refl)
  where
    go : (o : Option ℕ) → place 0 (bits_of t) ≡ o → is_some (found_of o) ≡ true
    go none q = absurd (omega (arith, h, none_free (bits_of t) q))
    go (some i) q = refl

-- ---- the blocks of a stretch, piece by piece

-- n of the blocks `all` have passed, and the blocks of these pieces are left
pub record Passed (all : List ℕ) (ps : List Extent) (n : ℕ) : Type 0 where
  pub within : n ≤ length all
  pub rest : blocks_in ps ≡ drop n all
  pub few : length all ≤ 2048

pub pass-start : (v : Disk) (i from n : ℕ) (ps : List Extent) → blocks_in ps ≡ blocks_at v i from n → Passed (blocks_at v i from n) ps 0
unfolding data_of
pass-start v i from n ps s = record { within = omega arith; rest = s; few = simp (length-take, length-drop) (omega arith) }

-- a front that goes on
record Split (all xs ys : List ℕ) (n m : ℕ) : Type 0 where
  front : take m all ≡ take n all ++ xs
  back : drop m all ≡ ys

split : (n m : ℕ) (all xs ys : List ℕ) → m ≡ n + length xs → n ≤ length all → drop n all ≡ xs ++ ys → Split all xs ys n m
split zero m all xs ys q h e = let z : m ≡ length xs = omega arith in rw (e, z) (record { front = take-append_seam xs ys; back = drop-append_seam xs ys })
split (suc n) m [] xs ys q h e = absurd (omega arith)
split (suc n) zero (a ∷ rest) xs ys q h e = absurd (omega arith)
split (suc n) (suc m) (a ∷ rest) xs ys q h e =
    let r = split n m rest xs ys (omega arith) (omega arith) e in
    record { front = ap (λ (l : List ℕ). a ∷ l) r.front; back = r.back }

module _ (all : List ℕ) (ps : List Extent) (n : ℕ) (p : Passed all ps n) where
  module _ (e : Extent) (qs : List Extent) (h : ps ≡ e ∷ qs) where
    blocks : blocks_in ps ≡ up_from e.first e.count ++ blocks_in qs
    unfolding blocks_in
    blocks = rw h

    more : Split all (up_from e.first e.count) (blocks_in qs) n (n + e.count)
    more =
        split n (n + e.count) all (up_from e.first e.count) (blocks_in qs) (omega (arith, length-up_from e.first e.count)) p.within
        (sym p.rest ∙ blocks)

    left : length (drop n all) ≡ e.count + length (blocks_in qs)
    left = ap length (sym p.rest) ∙ piece-counts ps e qs h

    pub pass-taken : take (n + e.count) all ≡ take n all ++ up_from e.first e.count
    pass-taken = more.front

    -- no number grows past its type
    pub pass-few : n + e.count ≤ 2048
    pass-few = omega (arith, p.within, p.few, left, length-drop n all)

    pub pass-more : Passed all qs (n + e.count)
    pass-more = record { within = omega (arith, p.within, left, length-drop n all); rest = sym more.back; few = p.few }

  module _ (s : ps ≡ []) where
    nothing : drop n all ≡ []
    unfolding blocks_in
    nothing = sym p.rest ∙ rw s

    pub pass-count : n ≡ length all
    pass-count = omega (arith, ap length nothing, length-drop n all, p.within)

    pub pass_all : take n all ≡ all
    pass_all = take_all n all (omega (arith, pass-count))

-- ---- blocks kept

pub record Keeping (all : List ℕ) (ps : List Extent) (q : ExtentList) (n : ℕ) : Type 0 where
  pub passed : Passed all ps n
  pub holds : Holds q (runs (take n all))
  pub small : Small q n

pub keep-start : (v : Disk) (i wanted : ℕ) (ps : List Extent) (q : ExtentList) → blocks_in ps ≡ blocks_at v i 0 wanted → Holds q [] → Small q 0
    → Keeping (take wanted (data_at v i)) ps q 0
unfolding runs
keep-start v i wanted ps q s h k = record { passed = pass-start v i 0 wanted ps s; holds = h; small = k }

pub keep-more : (all : List ℕ) (ps : List Extent) (q : ExtentList) (n : ℕ) → Keeping all ps q n
    → (e : Extent) (qs : List Extent) → ps ≡ e ∷ qs → 0 < e.count → e.first < 131072 → (u : ExtentList) → Pushed q e.first e.count u → Keeping all qs u (n + e.count)
keep-more all ps q n k e qs h z first u p =
    record {
      passed = pass-more all ps n k.passed e qs h;
      holds = rw (pass-taken all ps n k.passed e qs h) (pushed-blocks q u e.first e.count p z (take n all) k.holds);
      small = p.small n k.small first z;
    }

pub keep-end : (wanted : ℕ) (blocks : List ℕ) (ps : List Extent) (q : ExtentList) (n : ℕ) → Keeping (take wanted blocks) ps q n → ps ≡ [] → KeptOf blocks wanted q n
keep-end wanted blocks ps q n k e =
    record {
      holds = rw (← pass_all (take wanted blocks) ps n k.passed e) k.holds;
      count = pass-count (take wanted blocks) ps n k.passed e;
      few = omega (arith, k.passed.within, k.passed.few);
      small = k.small;
    }

-- ---- data blocks given back

pub back_more : (all : List ℕ) (ps : List Extent) (n : ℕ) → Passed all ps n → (e : Extent) (qs : List Extent) → ps ≡ e ∷ qs
    → (bits x y : List ℕ) → x ≡ mark 0 (take n all) bits → y ≡ mark 0 (up_from e.first e.count) x → y ≡ mark 0 (take (n + e.count) all) bits
back_more all ps n p e qs s bits x y h k =
    k ∙ rw (h, pass-taken all ps n p e qs s) (sym (mark-append 0 (take n all) (up_from e.first e.count) bits))

data-rest : (v : Disk) (i from : ℕ) → take 2048 (drop from (data_at v i)) ≡ drop from (data_at v i)
unfolding data_of
data-rest v i from =
    take_all 2048 (drop from (data_at v i)) (let l : length (drop from (data_at v i)) ≤ 2048 = simp (length-drop, length-take) (omega arith) in l)

-- nothing where not even so many blocks were there to keep
pub back_none : (blocks : List ℕ) (from kept : ℕ) → kept ≡ length (take from blocks) → kept < from → (t : List ℕ) → GaveBack (drop from blocks) t t 0
unfolding mark
back_none blocks from kept e h t =
    let z : drop from blocks ≡ [] = drop_of_length-le blocks {i = from} (omega (arith, length-take from blocks)) in
    rw z (record { many = refl; bits = refl })

pub back_end : (v : Disk) (i from n : ℕ) (ps : List Extent) → Passed (take 2048 (drop from (data_at v i))) ps n → ps ≡ []
    → (before after : List ℕ) → bits_of after ≡ mark 0 (take n (take 2048 (drop from (data_at v i)))) (bits_of before)
    → GaveBack (drop from (data_at v i)) before after n
back_end v i from n ps p e before after h =
    let all = take 2048 (drop from (data_at v i)) in
    record {
      many = pass-count all ps n p e ∙ ap length (data-rest v i from);
      bits = h ∙ ap (λ (bs : List ℕ). mark 0 bs (bits_of before)) (pass_all all ps n p e ∙ data-rest v i from);
    }

-- ---- blocks taken

pub record Taking (t₀ t : List ℕ) (q₀ q : ExtentList) (from n k : ℕ) : Type 0 where
  pub within : k ≤ n
  pub bits : bits_of t ≡ mark 1 (picks (bits_of t₀) k) (bits_of t₀)
  pub free : free_bits (bits_of t) + k ≡ free_bits (bits_of t₀)
  pub below : free_bits (take (64 * from) (bits_of t)) ≡ 0
  pub holds : (blocks : List ℕ) → Holds q₀ (runs blocks) → Holds q (runs (blocks ++ picks (bits_of t₀) k))
  pub small : (m : ℕ) → Small q₀ m → Small q (m + k)

pub take-start : (t : List ℕ) (q : ExtentList) (n : ℕ) → Taking t t q q 0 n 0
unfolding picks mark
take-start t q n =
    record {
      within = omega arith;
      bits = refl;
      free = omega arith;
      below = refl;
      holds = λ bs h. rw (append-nil bs) h;
      small = λ m s. rw (add-zero m) s;
    }

-- one pick more
picked_more : (t₀ t : List ℕ) (k b : ℕ) → bits_of t ≡ mark 1 (picks (bits_of t₀) k) (bits_of t₀) → b ≡ pick (bits_of t) → picks (bits_of t₀) (suc k) ≡ picks (bits_of t₀) k ++ (b ∷ [])
picked_more t₀ t k b e p = rw (picks_more (bits_of t₀) k, p, e)

marked_more : (t₀ t u : List ℕ) (k b : ℕ) → bits_of t ≡ mark 1 (picks (bits_of t₀) k) (bits_of t₀) → Picked t u b → bits_of u ≡ mark 1 (picks (bits_of t₀) (suc k)) (bits_of t₀)
marked_more t₀ t u k b e p = p.bits ∙ rw (picked_more t₀ t k b e p.is, mark-more 1 (picks (bits_of t₀) k) b (bits_of t₀), e)

pub take_more : (t₀ t : List ℕ) (q₀ q : ExtentList) (from n k : ℕ) → Taking t₀ t q₀ q from n k → k < n
    → (u : List ℕ) (b : ℕ) (r : ExtentList) → Picked t u b → Pushed q b 1 r → Taking t₀ u q₀ r (b / 64) n (k + 1)
take_more t₀ t q₀ q from n k s l u b r p h =
    rw (add-one k)
    (record {
      within = omega arith;
      bits = marked_more t₀ t u k b s.bits p;
      free = omega (arith, p.fewer, s.free);
      below = p.below;
      holds = λ bs o.
          rw (picked_more t₀ t k b s.bits p.is, ← append_assoc bs (picks (bits_of t₀) k) (b ∷ []))
          (pushed-blocks q r b 1 h (omega arith) (bs ++ picks (bits_of t₀) k) (s.holds bs o));
      small = λ m o. let z : m + suc k ≡ m + k + 1 = omega arith in rw z (h.small (m + k) (s.small m o) (omega (arith, p.within)) (omega arith));
    })

-- ---- nodes held

-- slots for nodes alone: so many, from a byte of the record's block on
abbrev nodes_from : ℕ → ℕ → Cursor
nodes_from top tops = record { block = 0; at = 0; left = 0; top = top; tops = tops }

pub record Gathering (v : Disk) (tb : ℕ) (nodes : List ℕ) (top tops : ℕ) (node : List ℕ) : Type 0 where
  pub few : length node + tops ≤ 4
  pub is : node ++ rest_nodes v tb (nodes_from top tops) ≡ nodes

nodes-only : (v : Disk) (tb : ℕ) (c : Cursor) → rest_nodes v tb (nodes_from c.top c.tops) ≡ rest_nodes v tb c
unfolding rest_nodes
nodes-only v tb c = refl

pub gather-start : (v : Disk) (i : ℕ) (c : Cursor) (node : List ℕ) → c ≡ start_of v i → node ≡ [] → Gathering v (block_of_inode i) (nodes_at v i) (c.top + 0) (c.tops - 0) node
gather-start v i c node e z =
    let x : c.top + 0 ≡ c.top = omega arith in
    let y : c.tops - 0 ≡ c.tops = omega arith in
    rw (x, y, z) (record { few = let w = weight-start v i in rw e (omega arith); is = rw (nodes-only v (block_of_inode i) c, e) (nodes-start v i) })

-- all nodes, where none is behind those in the list
gathered : (v : Disk) (tb : ℕ) (nodes : List ℕ) (top tops : ℕ) (node : List ℕ) → Gathering v tb nodes top tops node → rest_nodes v tb (nodes_from top tops) ≡ [] → node ≡ nodes
gathered v tb nodes top tops node g end = sym (append-nil node) ∙ ap (λ (xs : List ℕ). node ++ xs) (sym end) ∙ g.is

module _ (v : Disk) (tb : ℕ) (nodes : List ℕ) (top tops : ℕ) (node : List ℕ) (g : Gathering v tb nodes top tops node)
    (xs : List ℕ) (q : xs ≡ v tb) (e : Extent) (r : Bool) (o : Slot xs top e) (l : r ≡ live tops e) where
  s : Slot (v tb) top e
  s = rw (← q) o

  none_left : leaf v 0 0 0 ≡ []
  unfolding leaf slots_in
  none_left = refl

  -- there is room for one more
  pub gather-room : r ≡ true → length node < 4
  gather-room h = omega (arith, g.few, live-left tops e r l h)

  pub gather-next : r ≡ true → Gathering v tb nodes (top + 4) (tops - 1) (node ++ (e.first ∷ []))
  gather-next h =
      let n = live-left tops e r l h in
      let step = step-node v tb (nodes_from top tops) e r none_left s l h in
      let rest : rest_nodes v tb (nodes_from top tops) ≡ e.first ∷ rest_nodes v tb (nodes_from (top + 4) (tops - 1)) =
      step.nodes ∙ ap (λ (xs : List ℕ). e.first ∷ xs) (sym (nodes-only v tb (record { block = e.first; at = 0; left = 128; top = top + 4; tops = tops - 1 })))
      in
      record {
        few = omega (arith, g.few, n, length-append node (e.first ∷ []));
        is = rw (append_assoc node (e.first ∷ []) (rest_nodes v tb (nodes_from (top + 4) (tops - 1))), ← rest) g.is;
      }

  pub gather-last : r ≡ false → node ≡ nodes
  gather-last h = gathered v tb nodes top tops node g (step_end v tb (nodes_from top tops) e r none_left s l h).nodes

-- no slot is left
pub gather_end : (v : Disk) (tb : ℕ) (nodes : List ℕ) (top tops : ℕ) (node : List ℕ) → Gathering v tb nodes top tops node → tops ≡ 0 → node ≡ nodes
unfolding rest_nodes leaf slots_in
gather_end v tb nodes top tops node g h = gathered v tb nodes top tops node g (rw h refl)

-- the slots for nodes stand in the record's block
pub top-start : (v : Disk) (i : ℕ) → (start_of v i).top ≤ 512
unfolding start_of
top-start v i = go (eqb (inode_at v i).depth 0) refl
  where
    go : (t : Bool) → eqb (inode_at v i).depth 0 ≡ t → (start_of v i).top ≤ 512
    go true z = rw z (omega arith)
    go false z = rw z (omega arith)

pub few-tops : (v : Disk) (i : ℕ) (c : Cursor) → c ≡ start_of v i → c.tops ≤ 4
few-tops v i c e = let w = weight-start v i in rw e (omega arith)

-- ---- nodes taken

pub record Filling (t₀ t held : List ℕ) (wanted k : ℕ) (q : List ℕ) : Type 0 where
  pub low : length held ≤ k
  pub high : k - length held ≤ wanted - length held
  pub bits : bits_of t ≡ mark 1 (picks (bits_of t₀) (k - length held)) (bits_of t₀)
  pub free : free_bits (bits_of t) + (k - length held) ≡ free_bits (bits_of t₀)
  pub nodes : q ≡ take wanted held ++ picks (bits_of t₀) (k - length held)

pub fill_start : (t held : List ℕ) (wanted k : ℕ) (nodes : List ℕ) → k ≡ length held → nodes ≡ take wanted held → Filling t t held wanted k nodes
unfolding picks mark
fill_start t held wanted k nodes e n =
    let z : k - length held ≡ 0 = omega arith in
    record {
      low = omega arith;
      high = omega arith;
      bits = rw z;
      free = omega arith;
      nodes = rw (z, n) (sym (append-nil (take wanted held)));
    }

module _ (t₀ t held : List ℕ) (wanted k : ℕ) (nodes : List ℕ) (f : Filling t₀ t held wanted k nodes) where
  pub fill_few : k < wanted → wanted ≤ 4 → length nodes < 4
  fill_few h w =
      omega (
        arith,
        f.low,
        ap length f.nodes,
        length-append (take wanted held) (picks (bits_of t₀) (k - length held)),
        length-take wanted held,
        length-picks (bits_of t₀) (k - length held),
      )

  pub fill_more : k < wanted → (u : List ℕ) (b : ℕ) → Picked t u b → Filling t₀ u held wanted (k + 1) (nodes ++ (b ∷ []))
  fill_more h u b p =
      let low = f.low in
      let z : k + 1 - length held ≡ suc (k - length held) = omega arith in
      record {
        low = omega arith;
        high = omega arith;
        bits = rw z (marked_more t₀ t u (k - length held) b f.bits p);
        free = omega (arith, p.fewer, f.free);
        nodes =
            rw (z, f.nodes, picked_more t₀ t (k - length held) b f.bits p.is)
            (append_assoc (take wanted held) (picks (bits_of t₀) (k - length held)) (b ∷ []));
      }

  pub fill_end : wanted ≤ k → TookNodes t₀ t held wanted nodes
  fill_end h =
      let low = f.low in
      let high = f.high in
      let z : k - length held ≡ wanted - length held = omega arith in
      record { bits = rw (← z) f.bits; nodes = rw (← z) f.nodes }

-- ---- nodes given back

-- what an iterator over a slice has left once it has passed over some
passed-over : (xs : List (Bor ℕ)) (s t : Iter ℕ) → Yields iter_steps s xs t → drop (length xs) (iter_rest s) ≡ iter_rest t
passed-over [] s t y = ap (λ (i : Iter ℕ). iter_rest i) y
passed-over (x ∷ xs) s t y = ap (drop (suc (length xs))) y.1 ∙ passed-over xs y.0 t y.2

-- what `skip` has left of a slice
unfoldable pub skip_rest : Skip (Iter ℕ) → List ℕ
skip_rest s = drop (skip_count s) (iter_rest (skip_source s))

pub leave-start : (s : Skip (Iter ℕ)) (wanted : ℕ) (held : List ℕ) → skip_count s ≡ wanted → iter_rest (skip_source s) ≡ held → skip_rest s ≡ drop wanted held
unfolding skip_rest
leave-start s wanted held n e = rw (n, e)

-- one node given back: the rest is marked as before
pub leave-more : (s q : Skip (Iter ℕ)) (x : Bor ℕ) → skip_steps iter_steps s (Some x) q → (t u bits : List ℕ) → mark 0 (skip_rest s) (bits_of t) ≡ bits
    → bits_of u ≡ mark 0 (up_from x.now 1) (bits_of t) → mark 0 (skip_rest q) (bits_of u) ≡ bits
unfolding skip_rest mark
leave-more s q x h t u bits m e =
    let r : drop (skip_count s) (iter_rest (skip_source s)) ≡ x.now ∷ iter_rest (skip_source q) =
    rw (← h.1.2) (passed-over h.1.0 (skip_source s) h.1.1.0 h.1.1.1 ∙ h.1.1.2)
    in
    rw (h.0, e) (rw r at m)

-- and none is left
pub leave-end : (s q : Skip (Iter ℕ)) → skip_steps iter_steps s None q → (t bits : List ℕ) → mark 0 (skip_rest s) (bits_of t) ≡ bits → bits_of t ≡ bits
unfolding skip_rest mark
leave-end s q h t bits m =
    let e = passed-over h.1.0 (skip_source s) h.1.1.0 h.1.1.1 in
    let l : length (iter_rest (skip_source s)) ≤ skip_count s =
    omega (arith, ap length e, length-drop (length h.1.0) (iter_rest (skip_source s)), h.1.1.2.0, h.1.2)
    in
    rw (drop_of_length-le (iter_rest (skip_source s)) l) at m
