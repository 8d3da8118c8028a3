-- Running results over extents and nodes, and what they say of the whole list. Assumes nothing.
use Prim.Native.Nat.{ℕ, zero, suc, ◌+◌, ◌-◌, ◌<◌, ◌≤◌}
use mathlib.Core.Path.{◌≡◌, refl, sym, ap, ap₂, ◌∙◌}
use mathlib.Core.Bool.{Bool, true, false, not, ◌&&◌}
use mathlib.Core.List.{List, [], ◌∷◌, ◌++◌, map}
use native.Mathlib.Omega.{arith}
use borrow.Author.Tests.{ltb-true, ltb-false, lt-ltb, le-ltb, le-leb, lt-leb, eqb-true}
use lib.Dec.{eqb, ltb}
use lib.ListN.{length, take, get_or}
use Rattle.spec.specs.declared.Extent.{Extent}
use Rattle.spec.specs.Bytes.{all, up_from}
use Rattle.spec.specs.Disk.{Disk, disk_block, in_data}
use Rattle.std.specs.Prelude.{Some, None}
use Rattle.spec.specs.Inode.{slots_at, used, below, blocks_in, counts}
use Rattle.spec.specs.Sound.{slots_packed, extent_inside, apart, level_packed}
use Rattle.lists.specs.Extents.{counts-append}
use Rattle.tree.specs.declared.ExtentTests.{ExtentTests}
use Rattle.tree.specs.declared.NodeTests.{NodeTests}
use Rattle.tree.specs.Runs.{tail_at, with_extent, over_extents, no_run, with_node, over_nodes, no_nodes}

pub and_assoc : (a b c : Bool) → (a && b) && c ≡ a && (b && c)
and_assoc true b c = refl
and_assoc false b c = refl

pub and_right : (a : Bool) → a && true ≡ a
and_right true = refl
and_right false = refl

-- ---- over extents

module _ (N k : ℕ) where
  pub over-append : (r : ExtentTests) (es fs : List Extent) → over_extents N k r (es ++ fs) ≡ over_extents N k (over_extents N k r es) fs
  unfolding over_extents
  over-append r [] fs = refl
  over-append r (e ∷ es) fs = over-append (with_extent N k r e) es fs

  pub over-inside : (r : ExtentTests) (es : List Extent) → (over_extents N k r es).inside ≡ r.inside && all (extent_inside N) es
  unfolding over_extents with_extent
  over-inside r [] = sym (and_right r.inside)
  over-inside r (e ∷ es) = over-inside (with_extent N k r e) es ∙ and_assoc r.inside (extent_inside N e) (all (extent_inside N) es)

  pub over-extents : (r : ExtentTests) (es : List Extent) → (over_extents N k r es).extents ≡ r.extents + length es
  unfolding over_extents with_extent
  over-extents r [] = omega arith
  over-extents r (e ∷ es) = over-extents (with_extent N k r e) es ∙ omega arith

  pub over-blocks : (r : ExtentTests) (es : List Extent) → (over_extents N k r es).blocks ≡ r.blocks + counts es
  unfolding over_extents with_extent
  over-blocks r [] = omega arith
  over-blocks r (e ∷ es) = over-blocks (with_extent N k r e) es ∙ omega arith

-- `apart` with the end of the extent before, if there is one
abbrev apart_from : Bool → ℕ → List Extent → Bool
apart_from any end [] = true
apart_from any end (e ∷ es) = not (any && eqb e.first end) && apart_from true (e.first + e.count) es

apart_more : (e : Extent) (es : List Extent) → apart_from true (e.first + e.count) es ≡ apart (e ∷ es)
apart_more e [] = refl
apart_more e (f ∷ es) = rw (apart_more f es)

apart_from_lem : (end : ℕ) (es : List Extent) → apart_from false end es ≡ apart es
apart_from_lem end [] = refl
apart_from_lem end (e ∷ es) = apart_more e es

module _ (N k : ℕ) where
  over-apart : (r : ExtentTests) (es : List Extent) → (over_extents N k r es).apart ≡ r.apart && apart_from (ltb 0 r.extents) r.end es
  unfolding over_extents with_extent
  over-apart r [] = sym (and_right r.apart)
  over-apart r (e ∷ es) =
      over-apart (with_extent N k r e) es
      ∙ rw (lt-ltb 0 (r.extents + 1) (omega arith))
      (and_assoc r.apart (not (ltb 0 r.extents && eqb e.first r.end)) (apart_from true (e.first + e.count) es))

  pub run-apart : (es : List Extent) → (over_extents N k no_run es).apart ≡ apart es
  run-apart es = over-apart no_run es ∙ apart_from_lem 0 es

-- ---- block k of the file

get_or-run : (a n k : ℕ) (ys : List ℕ) → k < n → get_or (up_from a n ++ ys) k 0 ≡ a + k
get_or-run a zero k ys h = absurd (omega arith)
get_or-run a (suc n) zero ys h = omega arith
get_or-run a (suc n) (suc k) ys h = get_or-run (suc a) n k ys (omega arith) ∙ (omega arith)

get_or-behind : (a n k : ℕ) (ys : List ℕ) → n ≤ k → get_or (up_from a n ++ ys) k 0 ≡ get_or ys (k - n) 0
get_or-behind a zero k ys h = let z : k - 0 ≡ k = omega arith in rw z
get_or-behind a (suc n) zero ys h = absurd (omega arith)
get_or-behind a (suc n) (suc k) ys h = let z : suc k - suc n ≡ k - n = omega arith in rw z (get_or-behind (suc a) n k ys (omega arith))

-- the tail after one more extent: that extent holds block k, or it was found before, or lies behind
module _ (k : ℕ) (r : ExtentTests) (e : Extent) where
  pub tail_in : r.blocks ≤ k → k < r.blocks + e.count → Some (disk_block (e.first + (k - r.blocks))) ≡ tail_at k r e
  unfolding tail_at
  tail_in l h = rw (le-leb r.blocks k l, lt-ltb k (r.blocks + e.count) h)

  pub tail_before : k < r.blocks → r.tail ≡ tail_at k r e
  unfolding tail_at
  tail_before h = rw (lt-leb r.blocks k h)

  pub tail_behind : r.blocks ≤ k → r.blocks + e.count ≤ k → r.tail ≡ tail_at k r e
  unfolding tail_at
  tail_behind l h = rw (le-leb r.blocks k l, le-ltb k (r.blocks + e.count) h)

module _ (N k : ℕ) where
  tail-kept : (r : ExtentTests) (es : List Extent) → k < r.blocks → (over_extents N k r es).tail ≡ r.tail
  unfolding over_extents with_extent
  tail-kept r [] h = refl
  tail-kept r (e ∷ es) h =
      tail-kept (with_extent N k r e) es (omega arith) ∙ sym (tail_before k r e h)

  over-tail : (r : ExtentTests) (es : List Extent) → r.blocks ≤ k → k < r.blocks + counts es → (over_extents N k r es).tail ≡ Some (disk_block (get_or (blocks_in es) (k - r.blocks) 0))
  unfolding over_extents with_extent blocks_in
  over-tail r [] l h = absurd (omega arith)
  over-tail r (e ∷ es) l h = go (ltb k (r.blocks + e.count)) refl (over-tail (with_extent N k r e) es)
    where
      go : (t : Bool) → ltb k (r.blocks + e.count) ≡ t
          → (r.blocks + e.count ≤ k → k < r.blocks + e.count + counts es → (over_extents N k (with_extent N k r e) es).tail ≡ Some (disk_block (get_or (blocks_in es) (k - (r.blocks + e.count)) 0)))
          → (over_extents N k (with_extent N k r e) es).tail ≡ Some (disk_block (get_or (up_from e.first e.count ++ blocks_in es) (k - r.blocks) 0))
      go true q ih =
          tail-kept (with_extent N k r e) es (ltb-true k (r.blocks + e.count) q)
          ∙ sym (tail_in k r e l (ltb-true k (r.blocks + e.count) q))
          ∙ ap (λ (b : ℕ). Some (disk_block b)) (sym (get_or-run e.first e.count (k - r.blocks) (blocks_in es) (omega (arith, ltb-true k (r.blocks + e.count) q))))
      go false q ih =
          let m = ltb-false k (r.blocks + e.count) q in
          let w : k - (r.blocks + e.count) ≡ k - r.blocks - e.count = omega arith in
          ih m (omega (arith, h))
          ∙ ap (λ (j : ℕ). Some (disk_block (get_or (blocks_in es) j 0))) w
          ∙ ap (λ (b : ℕ). Some (disk_block b)) (sym (get_or-behind e.first e.count (k - r.blocks) (blocks_in es) (omega arith)))

  over-no-tail : (r : ExtentTests) (es : List Extent) → r.blocks + counts es ≤ k → (over_extents N k r es).tail ≡ r.tail
  unfolding over_extents with_extent
  over-no-tail r [] h = refl
  over-no-tail r (e ∷ es) h = over-no-tail (with_extent N k r e) es (omega arith) ∙ sym (tail_behind k r e (omega arith) (omega arith))

  pub run-tail : (es : List Extent) → k < counts es → (over_extents N k no_run es).tail ≡ Some (disk_block (get_or (blocks_in es) k 0))
  run-tail es h = let z : k - 0 ≡ k = omega arith in over-tail no_run es (omega arith) (omega arith) ∙ ap (λ (j : ℕ). Some (disk_block (get_or (blocks_in es) j 0))) z

  pub run-no-tail : (es : List Extent) → counts es ≤ k → (over_extents N k no_run es).tail ≡ None
  run-no-tail es h = over-no-tail no_run es (omega arith)

-- ---- over nodes

-- every node but the last is full, and so is the one before
abbrev full_node : Disk → ℕ → Bool
full_node v b = eqb (length (used (slots_at v b))) 128

abbrev full_from : Disk → Bool → List Extent → Bool
full_from v p [] = true
full_from v p (e ∷ es) = p && full_from v (full_node v e.first) es

abbrev firsts : List Extent → List ℕ
firsts es = map (λ e. e.first) es

full-more : (v : Disk) (t : Extent) (ts : List Extent) → full_from v (full_node v t.first) ts ≡ all (full_node v) (take (length (firsts ts)) (t.first ∷ firsts ts))
full-more v t [] = refl
full-more v t (u ∷ us) = rw (full-more v u us)

full_is : (v : Disk) (ts : List Extent) → full_from v true ts ≡ level_packed v (firsts ts)
full_is v [] = refl
full_is v (t ∷ ts) = let z : suc (length (firsts ts)) - 1 ≡ length (firsts ts) = omega arith in rw z (full-more v t ts)

-- slots that count what is below them add up
pub agree-counts : (v : Disk) (ts : List Extent) → all (λ e. eqb e.count (counts (used (slots_at v e.first)))) ts ≡ true → counts ts ≡ counts (below v ts)
agree-counts v [] h = refl
agree-counts v (t ∷ ts) h =
    let us = used (slots_at v t.first) in
    let p = both (eqb t.count (counts us)) (all (λ e. eqb e.count (counts (used (slots_at v e.first)))) ts) h in
    sym (counts-append us (below v ts) ∙ ap₂ (λ (x y : ℕ). x + y) (sym (eqb-true t.count (counts us) p.0)) (sym (agree-counts v ts p.1)))
  where
    both : (a b : Bool) → a && b ≡ true → (a ≡ true) × (b ≡ true)
    both a b h = (grind arith, grind arith)

module _ (N k : ℕ) (v : Disk) where
  pub nodes-run : (f : NodeTests) (ts : List Extent) → (over_nodes N k v f ts).run ≡ over_extents N k f.run (below v ts)
  unfolding over_nodes over_extents with_node
  nodes-run f [] = refl
  nodes-run f (t ∷ ts) = nodes-run (with_node N k v f t) ts ∙ sym (over-append N k f.run (used (slots_at v t.first)) (below v ts))

  pub nodes-sound : (f : NodeTests) (ts : List Extent) → (over_nodes N k v f ts).sound ≡ f.sound && all (λ b. in_data N b && slots_packed (slots_at v b)) (firsts ts)
  unfolding over_nodes with_node
  nodes-sound f [] = sym (and_right f.sound)
  nodes-sound f (t ∷ ts) = nodes-sound (with_node N k v f t) ts ∙ and_assoc f.sound _ _

  pub nodes-agree : (f : NodeTests) (ts : List Extent) → (over_nodes N k v f ts).agree ≡ f.agree && all (λ e. eqb e.count (counts (used (slots_at v e.first)))) ts
  unfolding over_nodes with_node
  nodes-agree f [] = sym (and_right f.agree)
  nodes-agree f (t ∷ ts) = nodes-agree (with_node N k v f t) ts ∙ and_assoc f.agree _ _

  nodes-filled : (f : NodeTests) (ts : List Extent) → (over_nodes N k v f ts).filled ≡ f.filled && full_from v f.full ts
  unfolding over_nodes with_node
  nodes-filled f [] = sym (and_right f.filled)
  nodes-filled f (t ∷ ts) = nodes-filled (with_node N k v f t) ts ∙ and_assoc f.filled _ _

  pub all-filled : (ts : List Extent) → (over_nodes N k v no_nodes ts).filled ≡ level_packed v (firsts ts)
  all-filled ts = nodes-filled no_nodes ts ∙ full_is v ts

  pub nodes-tops : (f : NodeTests) (ts : List Extent) → (over_nodes N k v f ts).tops ≡ f.tops + length ts
  unfolding over_nodes with_node
  nodes-tops f [] = omega arith
  nodes-tops f (t ∷ ts) = nodes-tops (with_node N k v f t) ts ∙ omega arith

  pub nodes-counts : (f : NodeTests) (ts : List Extent) → (over_nodes N k v f ts).counts ≡ f.counts + counts ts
  unfolding over_nodes with_node
  nodes-counts f [] = omega arith
  nodes-counts f (t ∷ ts) = nodes-counts (with_node N k v f t) ts ∙ omega arith
