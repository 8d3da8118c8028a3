-- Laws of the plan of a change. Assumes nothing.
use Prim.Native.Nat.{ℕ, zero, suc, ◌+◌, ◌*◌, ◌-◌, ◌/◌, ◌<◌, ◌≤◌}
use mathlib.Core.Path.{◌≡◌, refl, sym, ap, subst, ◌∙◌}
use mathlib.Core.Bool.{Bool, true, cond}
use mathlib.Core.List.{List, [], ◌∷◌, ◌++◌, append-nil}
use mathlib.Core.Logic.{◌⊎◌, inl, inr}
use native.Mathlib.Nat.{add-zero}
use native.Mathlib.Omega.{arith}
use borrow.Author.Tests.{le-leb, lt-leb, ne_eqb}
use lib.Dec.{eqb, leb}
use lib.ListN.{length, take, drop, length-append, length-take, length-drop}
use lib.Seq.{take_all, drop-nil}
use Rattle.spec.specs.Disk.{Disk}
use Rattle.spec.specs.Bitmap.{bits_of, bytes_of, free_bits, mark, picks}
use Rattle.spec.specs.declared.Refusal.{Refusal}
use Rattle.spec.specs.declared.Refusal.TheVariants.{NoSpace, TooManyExtents}
use Rattle.spec.specs.Inode.{Inode, inode_at, data_of, levels_of, nodes_of, tree_depth, levels_for, nodes_for, runs, counts}
use Rattle.spec.specs.Answers.{Result, accept, refuse, require, ◌>>◌}
use Rattle.spec.specs.Plan as plan
use Rattle.spec.specs.Plan.{lowest_level, dealt, lacking, surplus, resized, fits}
use Rattle.block.proofs.Laws.{lt-or-le}
use Rattle.bitmap.specs.Words.{Table}
use Rattle.bitmap.proofs.Laws.{bytes_bits}
use Rattle.std.specs.Prelude.{Ok, Err, Some}
use Rattle.std.specs.Borrow.{Bor}
use Rattle.spec.specs.declared.Extent.{Extent}
use Rattle.runs.specs.Tree.{Tree}
use Rattle.runs.specs.declared.ExtentList.{ExtentList}
use Rattle.runs.specs.Runs.{listed, nodes_in, levels_in, Bounded}
use Rattle.runs.specs.Push.{Holds}
use Rattle.lists.specs.Bits.{length-picks, mark-append}
use Rattle.lists.specs.Extents.{runs-counts}
use Rattle.runs.proofs.Laws.{listed-is, listed-few, listed-first, listed-count}
use Rattle.alloc.specs.declared.Draft.{Draft}
use Rattle.alloc.specs.Parts.{data_at, nodes_at, KeptOf, TookData, TookNodes, GaveBack}
use Rattle.alloc.specs.Draft.{resized_at, table_of, Built, Drafted, tree_in}

-- ---- at most one level

-- the levels of a tree whose nodes are these
abbrev Shape : List (List ℕ) → List ℕ → Type 0
Shape levels ns = ((levels ≡ []) × (ns ≡ [])) ⊎ (levels ≡ ns ∷ [])

levels-shape : (v : Disk) (n : Inode) → Shape (levels_of v n) (nodes_of v n)
unfolding levels_of
levels-shape v n = go (tree_depth n) refl (omega arith)
  where
    go : (d : ℕ) → tree_depth n ≡ d → d ≤ 1 → Shape (levels_of v n) (nodes_of v n)
    go zero e h = inl (rw e, rw e)
    go (suc zero) e h = inr (rw e (ap (λ (l : List ℕ). l ∷ []) (sym (append-nil _))))
    go (suc (suc d)) e h = absurd (omega arith)

-- how many nodes on each level
abbrev Sized : ℕ → ℕ → Type 0
Sized m k = ((levels_for m ≡ []) × (k ≡ 0)) ⊎ ((levels_for m ≡ k ∷ []) × (0 < k))

sized : (m : ℕ) → Sized m (nodes_for m)
unfolding levels_for
sized m = go (lt-or-le 4 m)
  where
    go : (4 < m) ⊎ (m ≤ 4) → Sized m (nodes_for m)
    go (inl l) = inr (rw (lt-leb m 4 l) (ap (λ (k : ℕ). k ∷ []) (sym (add-zero ((m + 127) / 128)))), rw (lt-leb m 4 l) (omega arith))
    go (inr l) = inl (rw (le-leb m 4 l), rw (le-leb m 4 l))

module _ (levels : List (List ℕ)) (ns : List ℕ) (s : Shape levels ns) where
  lowest-is : lowest_level levels ≡ ns
  lowest-is = go s
    where
      go : Shape levels ns → lowest_level levels ≡ ns
      go (inl (e, f)) = rw (e, f)
      go (inr e) = rw e

  module _ (m k : ℕ) (z : Sized m k) where
    lacking-is : lacking (levels_for m) levels ≡ k - length ns
    lacking-is = go z
      where
        go : Sized m k → lacking (levels_for m) levels ≡ k - length ns
        go (inl (e, f)) = rw (e, f) (omega arith)
        go (inr (e, f)) = rw (e, lowest-is) (omega arith)

    surplus-is : surplus (levels_for m) levels ≡ drop k ns
    surplus-is = go s z
      where
        go : Shape levels ns → Sized m k → surplus (levels_for m) levels ≡ drop k ns
        go (inl (a, b)) y = rw (a, b) (sym (drop-nil k))
        go (inr a) (inl (e, f)) = rw (a, e, f) (append-nil ns)
        go (inr a) (inr (e, f)) = rw (a, e) (append-nil (drop k ns))

    dealt-is : (new : List ℕ) → length new ≡ k - length ns → dealt (levels_for m) levels new ≡ cond (eqb k 0) [] ((take k ns ++ new) ∷ [])
    dealt-is new l = go z
      where
        go : Sized m k → dealt (levels_for m) levels new ≡ cond (eqb k 0) [] ((take k ns ++ new) ∷ [])
        go (inl (e, f)) = rw (e, f)
        go (inr (e, f)) = rw (e, lowest-is, ne_eqb k 0 (λ q. omega arith), take_all (k - length ns) new (omega arith))

-- ---- the parts of the definition

module _ (v : Disk) (i wanted : ℕ) where
  extents-are : (resized_at v i wanted).extents ≡ runs (take wanted (data_at v i) ++ picks (bits_of (v 33)) (wanted - length (data_at v i)))
  unfolding resized_at resized
  extents-are = refl

  new-data : (resized_at v i wanted).new_data ≡ picks (bits_of (v 33)) (wanted - length (data_at v i))
  unfolding resized_at resized
  new-data = refl

  new-nodes : (resized_at v i wanted).new_nodes
      ≡ picks (mark 1 (resized_at v i wanted).new_data (bits_of (v 33))) (lacking (levels_for (length (resized_at v i wanted).extents)) (levels_of v (inode_at v i)))
  unfolding resized_at resized
  new-nodes = refl

  levels-are : (resized_at v i wanted).levels
      ≡ dealt (levels_for (length (resized_at v i wanted).extents)) (levels_of v (inode_at v i)) (resized_at v i wanted).new_nodes
  unfolding resized_at resized
  levels-are = refl

  dropped-are : (resized_at v i wanted).dropped
      ≡ drop wanted (data_at v i) ++ surplus (levels_for (length (resized_at v i wanted).extents)) (levels_of v (inode_at v i))
  unfolding resized_at resized
  dropped-are = refl

  -- the three tests
  abbrev judged : Bool → Bool → Bool → Result plan.Tree
  judged a b c = require a NoSpace >> (require b NoSpace >> (require c TooManyExtents >> accept (resized_at v i wanted)))

  fits-is : fits (bits_of (v 33)) (data_of v (inode_at v i)) (levels_of v (inode_at v i)) wanted
      ≡ judged (leb (wanted - length (data_at v i)) (free_bits (bits_of (v 33))))
      (leb (length (resized_at v i wanted).new_data + length (resized_at v i wanted).new_nodes) (free_bits (bits_of (v 33))))
      (leb (length (resized_at v i wanted).extents) 512)
  unfolding fits resized_at
  fits-is = refl

  refused_as : (table : List ℕ) (r : Refusal)
      → fits (bits_of (v 33)) (data_of v (inode_at v i)) (levels_of v (inode_at v i)) wanted ≡ refuse r → Drafted v i wanted table (Err r)
  refused_as table r f = record { verdict = f; tree = λ d q. cc }

-- ---- the plan, as far as it has come

few-data : (v : Disk) (i : ℕ) → length (data_at v i) ≤ 2048
unfolding data_of
few-data v i = simp length-take (omega arith)

all_held : (blocks : List ℕ) (wanted : ℕ) (kept : ExtentList) (m : ℕ) (t u : List ℕ) (n : ℕ) → KeptOf blocks wanted kept m → GaveBack (drop wanted blocks) t u n → m + n ≡ length blocks
all_held blocks wanted kept m t u n k g = omega (arith, k.count, g.many, length-take wanted blocks, length-drop wanted blocks)

pub held-few : (v : Disk) (i wanted : ℕ) (kept : ExtentList) (m : ℕ) (t u : List ℕ) (n : ℕ) → KeptOf (data_at v i) wanted kept m → GaveBack (drop wanted (data_at v i)) t u n → m + n ≤ 2048
held-few v i wanted kept m t u n k g = omega (arith, all_held (data_at v i) wanted kept m t u n k g, few-data v i)

-- the table as it was, what is free, and what the file keeps (m blocks)
module _ (v : Disk) (i wanted : ℕ) (t₀ : List ℕ) (free : ℕ) (kept : ExtentList) (m : ℕ)
    (is_table : t₀ ≡ v 33) (is_free : (free ≡ free_bits (bits_of t₀)) × (free ≤ 4096)) (keeps : KeptOf (data_at v i) wanted kept m) where
  -- what it takes
  abbrev fresh : ℕ
  fresh = wanted - m

  newly : wanted - length (data_at v i) ≡ fresh
  newly = omega (arith, keeps.count, length-take wanted (data_at v i))

  free-is : free_bits (bits_of (v 33)) ≡ free
  free-is = sym (is_free.0 ∙ ap (λ (t : List ℕ). free_bits (bits_of t)) is_table)

  -- 16 by the data blocks alone
  pub no-space : free < fresh → (table : List ℕ) → Drafted v i wanted table (Err NoSpace)
  no-space h table =
      refused_as v i wanted table NoSpace
      (fits-is v i wanted ∙ rw (lt-leb (wanted - length (data_at v i)) (free_bits (bits_of (v 33))) (omega (arith, newly, free-is))))

  -- data blocks taken, nodes counted
  module _ (fit : fresh ≤ free) (t₁ : List ℕ) (q : ExtentList) (took : TookData t₀ t₁ kept m fresh q) (held : List ℕ) (holds : held ≡ nodes_at v i)
      (many : ℕ) (is_many : (many ≡ nodes_for q.end.len) × (128 * many ≤ q.end.len + 127)) (lack : ℕ) (is_lack : lack ≡ many - length held) where
    data_is : (resized_at v i wanted).new_data ≡ picks (bits_of t₀) fresh
    data_is = new-data v i wanted ∙ rw (newly, ← is_table)

    runs-are : Holds q (resized_at v i wanted).extents
    runs-are = rw (extents-are v i wanted, newly, ← is_table) (took.holds (take wanted (data_at v i)) keeps.holds)

    len_is : length (resized_at v i wanted).extents ≡ q.end.len
    len_is = sym runs-are.many

    shape : Shape (levels_of v (inode_at v i)) (nodes_at v i)
    shape = levels-shape v (inode_at v i)

    size : Sized (length (resized_at v i wanted).extents) many
    size = rw (len_is, is_many.0) (sized q.end.len)

    lack-is : lacking (levels_for (length (resized_at v i wanted).extents)) (levels_of v (inode_at v i)) ≡ lack
    lack-is = lacking-is (levels_of v (inode_at v i)) (nodes_at v i) shape (length (resized_at v i wanted).extents) many size ∙ omega (arith, is_lack, ap length holds)

    nodes-are : (resized_at v i wanted).new_nodes ≡ picks (bits_of t₁) lack
    nodes-are = new-nodes v i wanted ∙ rw (lack-is, data_is, ← is_table, took.bits)

    first-test : leb (wanted - length (data_at v i)) (free_bits (bits_of (v 33))) ≡ true
    first-test = le-leb (wanted - length (data_at v i)) (free_bits (bits_of (v 33))) (omega (arith, newly, free-is))

    both : length (resized_at v i wanted).new_data + length (resized_at v i wanted).new_nodes ≡ fresh + lack
    both = rw (data_is, nodes-are, length-picks (bits_of t₀) fresh, length-picks (bits_of t₁) lack)

    -- 16 by data blocks and extent blocks
    pub no-space-nodes : free < fresh + lack → (table : List ℕ) → Drafted v i wanted table (Err NoSpace)
    no-space-nodes h table =
        refused_as v i wanted table NoSpace
        (fits-is v i wanted ∙ rw (first-test, both, free-is, lt-leb (fresh + lack) free h))

    module _ (room : fresh + lack ≤ free) where
      second-test : leb (length (resized_at v i wanted).new_data + length (resized_at v i wanted).new_nodes) (free_bits (bits_of (v 33))) ≡ true
      second-test = rw (both, free-is) (le-leb (fresh + lack) free room)

      -- 17
      pub too_many : 512 < q.end.len → (table : List ℕ) → Drafted v i wanted table (Err TooManyExtents)
      too_many h table =
          refused_as v i wanted table TooManyExtents
          (fits-is v i wanted ∙ rw (first-test, second-test, len_is, lt-leb q.end.len 512 h))

      module _ (es : List Extent) (whole : Some es ≡ listed q) (nodes t₂ t₃ t₄ : List ℕ) (adds : TookNodes t₁ t₂ held many nodes) (dropped : ℕ)
          (back : GaveBack (drop wanted (data_at v i)) t₂ t₃ dropped) (leaves : bits_of t₄ ≡ mark 0 (drop many held) (bits_of t₃)) (bytes : Table t₄) where
        abbrev tree : Tree
        tree = record { table = t₄; extents = es; nodes = nodes; before = length held; held = m + dropped }

        all-data : m + dropped ≡ length (data_at v i)
        all-data = all_held (data_at v i) wanted kept m t₂ t₃ dropped keeps back

        low : q.end.len ≤ 512
        low = listed-few q es whole

        extents-listed : es ≡ (resized_at v i wanted).extents
        extents-listed = listed-is q es whole (m + fresh) took.small (resized_at v i wanted).extents runs-are

        length-nodes : length nodes ≡ many
        length-nodes =
            omega (
              arith,
              ap length adds.nodes,
              length-append (take many held) (picks (bits_of t₁) (many - length held)),
              length-take many held,
              length-picks (bits_of t₁) (many - length held),
            )

        levels-built : levels_in tree ≡ (resized_at v i wanted).levels
        unfolding levels_in nodes_in
        levels-built =
            ap (λ (k : ℕ). cond (eqb k 0) [] (nodes ∷ [])) length-nodes
            ∙ ap (λ (l : List ℕ). cond (eqb many 0) [] (l ∷ [])) (adds.nodes ∙ rw (← is_lack, holds))
            ∙ sym (dealt-is (levels_of v (inode_at v i)) (nodes_at v i) shape (length (resized_at v i wanted).extents) many size (picks (bits_of t₁) lack)
            (length-picks (bits_of t₁) lack ∙ omega (arith, is_lack, ap length holds)))
            ∙ sym (levels-are v i wanted ∙ rw nodes-are)

        -- the bits of new blocks made 1, then those of dropped blocks made 0
        bits-new : mark 1 ((resized_at v i wanted).new_data ++ (resized_at v i wanted).new_nodes) (bits_of (v 33)) ≡ bits_of t₂
        bits-new =
            ap (λ (x : List ℕ). mark 1 (x ++ (resized_at v i wanted).new_nodes) (bits_of (v 33))) data_is
            ∙ ap (λ (x : List ℕ). mark 1 (picks (bits_of t₀) fresh ++ x) (bits_of (v 33))) nodes-are
            ∙ ap (λ (t : List ℕ). mark 1 (picks (bits_of t₀) fresh ++ picks (bits_of t₁) lack) (bits_of t)) (sym is_table)
            ∙ mark-append 1 (picks (bits_of t₀) fresh) (picks (bits_of t₁) lack) (bits_of t₀)
            ∙ ap (mark 1 (picks (bits_of t₁) lack)) (sym took.bits)
            ∙ ap (λ (k : ℕ). mark 1 (picks (bits_of t₁) k) (bits_of t₁)) is_lack
            ∙ sym adds.bits

        bits-dropped : mark 0 (resized_at v i wanted).dropped (bits_of t₂) ≡ bits_of t₄
        bits-dropped =
            ap (λ (x : List ℕ). mark 0 x (bits_of t₂)) (dropped-are v i wanted)
            ∙ ap (λ (x : List ℕ). mark 0 (drop wanted (data_at v i) ++ x) (bits_of t₂))
            (surplus-is (levels_of v (inode_at v i)) (nodes_at v i) shape (length (resized_at v i wanted).extents) many size)
            ∙ mark-append 0 (drop wanted (data_at v i)) (drop many (nodes_at v i)) (bits_of t₂)
            ∙ ap (mark 0 (drop many (nodes_at v i))) (sym back.bits)
            ∙ ap (λ (x : List ℕ). mark 0 (drop many x) (bits_of t₃)) (sym holds)
            ∙ sym leaves

        table-built : t₄ ≡ table_of v (resized_at v i wanted)
        unfolding table_of
        table-built =
            sym (bytes_bits t₄ bytes) ∙ ap bytes_of (sym (ap (mark 0 (resized_at v i wanted).dropped) bits-new ∙ bits-dropped))

        -- as many extents' blocks as blocks
        all_blocks : counts (resized_at v i wanted).extents ≤ 8192
        all_blocks =
            rw (extents-are v i wanted, runs-counts (take wanted (data_at v i) ++ picks (bits_of (v 33)) (wanted - length (data_at v i))))
            (omega (
              arith,
              length-append (take wanted (data_at v i)) (picks (bits_of (v 33)) (wanted - length (data_at v i))),
              length-picks (bits_of (v 33)) (wanted - length (data_at v i)),
              length-take wanted (data_at v i),
              few-data v i,
              newly,
              fit,
              is_free.1,
            ))

        small-tree : Bounded tree
        small-tree =
            record {
              blocks = rw extents-listed all_blocks;
              first = listed-first q es whole (m + fresh) took.small;
              count = λ k. omega (arith, listed-count q es whole (m + fresh) took.small k, keeps.few, fit, is_free.1);
              held = omega (arith, all-data, few-data v i);
            }

        built : Built v i wanted tree
        built =
            record {
              extents = extents-listed;
              levels = levels-built;
              table = table-built;
              before = ap length holds ∙ sym (ap length (lowest-is (levels_of v (inode_at v i)) (nodes_at v i) shape));
              held = all-data;
              bounded = small-tree;
            }

        pub drafted : (x : Bor (List Extent)) → x.now ≡ es → (n : ℕ) → n ≡ length held
            → Drafted v i wanted t₄ (Ok (record { extents = x; nodes = nodes; before = n; held = m + dropped }))
        drafted x ex n en =
            record {
              verdict = fits-is v i wanted ∙ rw (first-test, second-test, len_is, le-leb q.end.len 512 low);
              tree = λ d e.
                  let z : record { extents = x; nodes = nodes; before = n; held = m + dropped } ≡ d = cc in
                  subst (λ (d : Draft). Built v i wanted (tree_in t₄ d)) z (rw (ex, en) built);
            }
