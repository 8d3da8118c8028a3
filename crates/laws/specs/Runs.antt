-- A sound file's extents are the runs of its data blocks, and at most 512. Assumes nothing.
use Rattle.std.specs.Prelude.{ℕ, zero, suc, ◌+◌, ◌*◌, ◌≤◌, ◌<◌, ◌≡◌, refl, Bool, true, false, cond, not, ◌⊎◌, List, [], ◌∷◌, ◌++◌, eqb, length, drop}
use Rattle.std.proofs.Common.{sym, ap, ◌∙◌, subst, inl, inr, length-append, not-suc-le-zero, arith, eq-eqb, ne_eqb, le-leb, le-ltb, lt-ltb}
use Rattle.std.proofs.lemmas.Bool.{eqb-false, not-true, lt-leb}
use Rattle.spec.specs.Layout.{slots_per_inode, slots_per_node, max_depth, max_extents}
use Rattle.spec.specs.Bytes.{up_from}
use Rattle.spec.specs.Disk.{Disk}
use Rattle.spec.specs.declared.Extent.{Extent}
use Rattle.spec.specs.Inode.{extent, Inode, inode_of, slots_in, slots_at, used, below, extents_below, tree_depth, extents_of, data_of, blocks_in, prepend, runs, levels_for, nodes_for}
use Rattle.spec.specs.Sound.{apart}
use Rattle.spec.specs.Sentences.{extent_count, nodes_wanted}
use Rattle.lists.specs.Tests.{both_true}
use Rattle.lists.specs.All.{All}
use Rattle.block.proofs.Laws.{lt-or-le}
use Rattle.laws.specs.Soundness.{FileSound}
use Rattle.laws.specs.Tree.{depth-cases, extents-flat, extents-deep, data-uncut}

-- ---- used slots have a count

abbrev pub Real : Extent → Type 0
Real e = 1 ≤ e.count

used-real : (es : List Extent) → All Real (used es)
used-real [] = tt
used-real (e ∷ es) = go (eqb e.count 0) refl (used-real es)
  where
    go : (t : Bool) → eqb e.count 0 ≡ t → All Real (used es) → All Real (cond (not t) (e ∷ used es) [])
    go true q ih = tt
    go false q ih = (let ne = eqb-false e.count 0 q in omega arith, ih)

pub All-append : {A : Type 0} (P : A → Type 0) (xs ys : List A) → All P xs → All P ys → All P (xs ++ ys)
All-append P [] ys a b = b
All-append P (x ∷ xs) ys a b = (a.0, All-append P xs ys a.1 b)

below-real : (v : Disk) (slots : List Extent) → All Real (below v slots)
below-real v [] = tt
below-real v (e ∷ es) = All-append Real (used (slots_at v e.first)) (below v es) (used-real (slots_at v e.first)) (below-real v es)

tree-real : (v : Disk) (d : ℕ) (slots : List Extent) → All Real slots → All Real (extents_below v d slots)
tree-real v zero slots r = r
tree-real v (suc d) slots r = tree-real v d (below v slots) (below-real v slots)

pub extents-real : (v : Disk) (n : Inode) → All Real (extents_of v n)
unfolding extents_of
extents-real v n = tree-real v (tree_depth n) (used n.slots) (used-real n.slots)

-- ---- the runs of the blocks of maximal extents

abbrev Off : ℕ → List Extent → Type 0
Off b [] = Unit {0}
Off b (e ∷ es) = e.first ≡ b → ⊥

prepend-off : (b : ℕ) (es : List Extent) → Off (suc b) es → prepend b es ≡ extent b 1 ∷ es
prepend-off b [] h = refl
prepend-off b (e ∷ es) h = rw (ne_eqb e.first (suc b) h)

run-front : (n a : ℕ) (xs : List ℕ) (es : List Extent) → runs xs ≡ es → Off (a + suc n) es → runs (up_from a (suc n) ++ xs) ≡ extent a (suc n) ∷ es
unfolding runs
run-front zero a xs es e h = ap (prepend a) e ∙ prepend-off a es (subst (λ k. Off k es) (let q : a + 1 ≡ suc a = omega arith in q) h)
run-front (suc n) a xs es e h =
    ap (prepend a) (run-front n (suc a) xs es e (subst (λ k. Off k es) (let q : a + suc (suc n) ≡ suc a + suc n = omega arith in q) h))
    ∙ rw (eq-eqb (suc a) (suc a) refl)

-- an extent before others that do not begin where it ends
run-first : (e : Extent) (es : List Extent) → Real e → Off (e.first + e.count) es → runs (blocks_in es) ≡ es → runs (blocks_in (e ∷ es)) ≡ e ∷ es
unfolding blocks_in
run-first e es r off ih = go e.count refl r
  where
    go : (k : ℕ) → e.count ≡ k → 1 ≤ k → runs (up_from e.first e.count ++ blocks_in es) ≡ e ∷ es
    go zero q l = absurd (not-suc-le-zero l)
    go (suc k) q l =
        ap (λ m. runs (up_from e.first m ++ blocks_in es)) q
        ∙ run-front k e.first (blocks_in es) es ih (subst (λ m. Off (e.first + m) es) q off)
        ∙ ap (λ m. extent e.first m ∷ es) (sym q)

no-runs : runs (blocks_in []) ≡ []
unfolding runs blocks_in
no-runs = refl

pub runs-extents : (es : List Extent) → apart es ≡ true → All Real es → runs (blocks_in es) ≡ es
runs-extents [] h r = no-runs
runs-extents (e ∷ []) h r = run-first e [] r.0 tt no-runs
runs-extents (e ∷ f ∷ es) h r =
    let t = both_true (not (eqb f.first (e.first + e.count))) (apart (f ∷ es)) h in
    run-first e (f ∷ es) r.0 (eqb-false f.first (e.first + e.count) (not-true (eqb f.first (e.first + e.count)) t.0))
    (runs-extents (f ∷ es) t.1 r.1)

pub runs-data : (N : ℕ) (v : Disk) (bytes : List ℕ) → FileSound N v bytes → runs (data_of v (inode_of bytes)) ≡ extents_of v (inode_of bytes)
runs-data N v bytes s =
    ap runs (data-uncut N v bytes s) ∙ runs-extents (extents_of v (inode_of bytes)) s.maximal (extents-real v (inode_of bytes))

-- ---- extents counted

first_run : (b : ℕ) (es : List Extent) (n : ℕ) → length (prepend b es) ≡ n → (c : ℕ)
    → length (prepend c (prepend b es)) ≡ cond (eqb b (suc c)) 0 1 + n
first_run b [] n h c = go (eqb b (suc c))
  where
    go : (t : Bool) → length (cond t (extent c 2 ∷ []) (extent c 1 ∷ extent b 1 ∷ [])) ≡ cond t 0 1 + n
    go true = omega arith
    go false = omega arith
first_run b (e ∷ es) n h c = go (eqb e.first (suc b)) (eqb b (suc c)) h
  where
    go : (t u : Bool) → length (cond t (extent b (suc e.count) ∷ es) (extent b 1 ∷ e ∷ es)) ≡ n
        → length (prepend c (cond t (extent b (suc e.count) ∷ es) (extent b 1 ∷ e ∷ es))) ≡ cond (eqb b (suc c)) 0 1 + n
    go true u q = each (eqb b (suc c))
      where
        each : (u : Bool) → length (cond u (extent c (suc (suc e.count)) ∷ es) (extent c 1 ∷ extent b (suc e.count) ∷ es)) ≡ cond u 0 1 + n
        each true = omega arith
        each false = omega arith
    go false u q = each (eqb b (suc c))
      where
        each : (u : Bool) → length (cond u (extent c 2 ∷ e ∷ es) (extent c 1 ∷ extent b 1 ∷ e ∷ es)) ≡ cond u 0 1 + n
        each true = omega arith
        each false = omega arith

-- "one more at each block that does not follow on from the one before it"
pub count_runs : (bs : List ℕ) → extent_count bs ≡ length (runs bs)
unfolding runs
count_runs [] = refl
count_runs (b ∷ []) = refl
count_runs (b ∷ c ∷ cs) =
    let r = first_run c (runs cs) (extent_count (c ∷ cs)) (sym (count_runs (c ∷ cs))) b in
    omega (arith, r)

-- "one for each 128 extents begun, when there are more than 4"
pub nodes-wanted : (n : ℕ) → nodes_wanted n ≡ nodes_for n
unfolding levels_for
nodes-wanted n = go (lt-or-le slots_per_inode n)
  where
    go : (slots_per_inode < n) ⊎ (n ≤ slots_per_inode) → nodes_wanted n ≡ nodes_for n
    go (inl l) = rw (lt-ltb 4 n l, lt-leb n 4 l) (omega arith)
    go (inr l) = rw (le-ltb 4 n l, le-leb n 4 l)

-- ---- at most 512

length-used : (es : List Extent) → length (used es) ≤ length es
length-used [] = omega arith
length-used (e ∷ es) = go (eqb e.count 0) (length-used es)
  where
    go : (t : Bool) → length (used es) ≤ length es → length (cond (not t) (e ∷ used es) []) ≤ suc (length es)
    go true ih = omega arith
    go false ih = omega arith

length-slots : (n : ℕ) (xs : List ℕ) → length (slots_in n xs) ≡ n
unfolding slots_in
length-slots zero xs = refl
length-slots (suc n) xs = ap suc (length-slots n (drop 4 xs))

pub length-node : (v : Disk) (b : ℕ) → length (used (slots_at v b)) ≤ slots_per_node
unfolding slots_at
length-node v b = omega (arith, length-used (slots_in 128 (v b)), length-slots 128 (v b))

length-below : (v : Disk) (slots : List Extent) → length (below v slots) ≤ slots_per_node * length slots
length-below v [] = omega arith
length-below v (e ∷ es) =
    omega (arith, length-append (used (slots_at v e.first)) (below v es), length-node v e.first, length-below v es)

pub top-few : (bytes : List ℕ) → length (used (inode_of bytes).slots) ≤ slots_per_inode
unfolding inode_of
top-few bytes = omega (arith, length-used (slots_in 4 (drop 16 bytes)), length-slots 4 (drop 16 bytes))

pub few-extents : (v : Disk) (bytes : List ℕ) → (inode_of bytes).depth ≤ max_depth → length (extents_of v (inode_of bytes)) ≤ max_extents
few-extents v bytes h = go (depth-cases (inode_of bytes) h)
  where
    go : ((inode_of bytes).depth ≡ 0) ⊎ ((inode_of bytes).depth ≡ 1) → length (extents_of v (inode_of bytes)) ≤ max_extents
    go (inl e) = rw (extents-flat v (inode_of bytes) e) (omega (arith, top-few bytes))
    go (inr e) = rw (extents-deep v (inode_of bytes) e) (omega (arith, top-few bytes, length-below v (used (inode_of bytes).slots)))
