-- A record written for some blocks tells a sound file with these blocks, over nodes that hold their runs. Assumes nothing.
use Rattle.std.specs.Prelude.{ℕ, ◌/◌, ◌%◌, ◌≤◌, ◌<◌, ◌≡◌, true, drop, get_or}
use Rattle.std.proofs.Common.{sym, ◌∙◌, not-suc-le-zero, arith}
use Rattle.std.proofs.Math.Path.{ap}
use mathlib.Core.List.{List, [], ◌∷◌, map, append-nil}
use Rattle.std.proofs.Math.ListN.{length, take}
use Rattle.std.proofs.Math.Seq.{take_all}
use borrow.Author.Tests.{lt-leb, le-leb}
use Rattle.spec.specs.Layout.{block_size, name_size, slots_per_inode, slots_per_node, max_file_size, max_file_blocks, max_extents, most_blocks}
use Rattle.spec.specs.Bytes.{all_zero, concat, occurs, quotient_up}
use Rattle.spec.specs.Disk.{Disk}
use Rattle.spec.specs.declared.Extent.{Extent}
use Rattle.spec.specs.Inode.{Inode, inode_of, inode_with, bytes_of_inode, slots_at, used, below, tree_depth, extents_of, levels_of, nodes_of, blocks_in, data_of, blocks_for, levels_for, node_slots, counts, runs}
use Rattle.spec.specs.Sound.{slots_packed, apart}
use Rattle.lists.specs.Counts.{occurs-head}
use Rattle.lists.specs.All.{All, all-at}
use Rattle.laws.specs.Soundness.{Inside, ExtentInside, CountsAgree, packed-of, FileSound}
use Rattle.laws.specs.Tree.{extents-flat, extents-deep, levels-flat, levels-deep, nodes-flat}
use Rattle.laws.specs.RunsOf.{Fits, runs_fit, runs-apart}
use Rattle.lists.specs.Extents.{runs-blocks, runs-counts}
use Rattle.laws.specs.Readback.{Slot, slot_of, padded, used-padded, padded-packed, read-inode, read-reserved, length-node_slots, tops-node_slots, node_slots-slot, counts-node_slots, Filled, Packed, packed, packed-slots, packed-counts, packed-below, packed-full}

All-inside : (N : ℕ) (es : List Extent) → All (Fits N) es → All (ExtentInside N) es
All-inside N [] a = tt
All-inside N (e ∷ es) a = (a.0.inside, All-inside N es a.1)

All-of : (P : ℕ → Type 0) (xs : List ℕ) → ((b : ℕ) → 1 ≤ occurs b xs → P b) → All P xs
All-of P [] h = tt
All-of P (x ∷ xs) h = (h x (occurs-head x xs), All-of P xs (λ b o. h b (omega arith)))

-- what a file must be to be written: its blocks fit its size, its nodes its extents
pub record Fitting (N size : ℕ) (blocks : List ℕ) : Type 0 where
  pub device : N ≤ most_blocks
  pub size_fits : size ≤ max_file_size
  pub long : length blocks ≡ blocks_for size
  pub inside : (b : ℕ) → 1 ≤ occurs b blocks → Inside N b
  pub few : length (runs blocks) ≤ max_extents

module _ (N : ℕ) (w : Disk) (name : List ℕ) (size : ℕ) (blocks : List ℕ) (eight : length name ≡ name_size) (fit : Fitting N size blocks) where
  abbrev es : List Extent
  es = runs blocks

  fits : All (Fits N) es
  fits = runs_fit N blocks fit.inside

  slots : All Slot es
  slots = slot_of N es fit.device fits

  total : counts es ≡ blocks_for size
  total = runs-counts blocks ∙ fit.long

  -- a file whose tree is read so has these data blocks
  data-read : (n : Inode) → extents_of w n ≡ runs blocks → data_of w n ≡ blocks
  unfolding data_of
  data-read n e =
      ap (λ (xs : List Extent). take max_file_blocks (blocks_in xs)) e ∙ ap (take max_file_blocks) (runs-blocks blocks)
      ∙ take_all max_file_blocks blocks (omega (arith, fit.long, fit.size_fits))

  -- ---- no level

  module _ (none : length (runs blocks) ≤ slots_per_inode) where
    abbrev pub flat : List ℕ
    flat = bytes_of_inode (inode_with name size (runs blocks) [])

    flat-inode : inode_of flat ≡ record { name = name; size = size; depth = 0; slots = padded slots_per_inode (runs blocks) }
    flat-inode = read-inode name size 0 es eight fit.size_fits none slots

    flat-depth : (inode_of flat).depth ≡ 0
    flat-depth = ap (λ (n : Inode). n.depth) flat-inode

    flat-used : used (inode_of flat).slots ≡ runs blocks
    flat-used = ap (λ (n : Inode). used n.slots) flat-inode ∙ used-padded slots_per_inode es slots

    pub flat-size : (inode_of flat).size ≡ size
    flat-size = ap (λ (n : Inode). n.size) flat-inode

    pub flat-extents : extents_of w (inode_of flat) ≡ runs blocks
    flat-extents = extents-flat w (inode_of flat) flat-depth ∙ flat-used

    pub flat-data : data_of w (inode_of flat) ≡ blocks
    flat-data = data-read (inode_of flat) flat-extents

    pub flat-nodes : nodes_of w (inode_of flat) ≡ []
    flat-nodes = nodes-flat w (inode_of flat) flat-depth

    pub flat_sound : ((size % block_size ≡ 0 → ⊥) → all_zero (drop (size % block_size) (w (get_or blocks (size / block_size) 0))) ≡ true) → FileSound N w flat
    unfolding levels_for
    flat_sound tail =
        let d = flat-depth in
        let z = flat-size in
        record {
          size_limit = rw z fit.size_fits;
          depth_limit = omega arith;
          reserved = read-reserved name size 0 es eight;
          top_packed = ap (λ (n : Inode). slots_packed n.slots) flat-inode ∙ padded-packed slots_per_inode es slots;
          nodes_inside = λ b o. absurd (not-suc-le-zero (rw flat-nodes at o));
          nodes_packed = λ b o. absurd (not-suc-le-zero (rw flat-nodes at o));
          extents_inside = rw flat-extents (All-inside N es fits);
          counts_below = rw d tt;
          counts_top = ap counts flat-used ∙ total ∙ ap blocks_for (sym z);
          maximal = ap apart flat-extents ∙ runs-apart blocks;
          deep = λ q. absurd (omega arith);
          many = λ q. absurd (omega (arith, ap length flat-extents));
          node_count = rw (flat-nodes, flat-extents, le-leb (length (runs blocks)) 4 none);
          nodes_full = rw (levels-flat w (inode_of flat) d) tt;
          tail = λ q. rw (flat-data, z) (tail (λ p. q (ap (λ k. k % block_size) z ∙ p)));
        }

  -- ---- one level

  module _ (nodes : List ℕ) (more : slots_per_inode < length (runs blocks)) (enough : length nodes ≡ quotient_up (length (runs blocks)) slots_per_node)
      (nodes-inside : (b : ℕ) → 1 ≤ occurs b nodes → Inside N b) (filled : Filled w nodes (runs blocks))
    where
      abbrev pub tall : List ℕ
      tall = bytes_of_inode (inode_with name size (runs blocks) (nodes ∷ []))

      tree : Packed w nodes es
      tree = packed w nodes es slots filled

      tops : All Slot (node_slots nodes es)
      tops = node_slots-slot N nodes es fit.device (All-of (Inside N) nodes nodes-inside) slots (omega (arith, total, fit.size_fits)) (omega (arith, enough))

      tall-inode : inode_of tall ≡ record { name = name; size = size; depth = 1; slots = padded slots_per_inode (node_slots nodes (runs blocks)) }
      tall-inode = read-inode name size 1 (node_slots nodes es) eight fit.size_fits (omega (arith, length-node_slots nodes es, enough, fit.few)) tops

      tall-depth : (inode_of tall).depth ≡ 1
      tall-depth = ap (λ (n : Inode). n.depth) tall-inode

      tall-used : used (inode_of tall).slots ≡ node_slots nodes (runs blocks)
      tall-used = ap (λ (n : Inode). used n.slots) tall-inode ∙ used-padded slots_per_inode (node_slots nodes es) tops

      pub tall-size : (inode_of tall).size ≡ size
      tall-size = ap (λ (n : Inode). n.size) tall-inode

      all-below : below w (node_slots nodes (runs blocks)) ≡ runs blocks
      all-below = packed-below w nodes es slots (omega (arith, enough)) tree

      pub tall-extents : extents_of w (inode_of tall) ≡ runs blocks
      tall-extents = extents-deep w (inode_of tall) tall-depth ∙ ap (below w) tall-used ∙ all-below

      tall-levels : levels_of w (inode_of tall) ≡ nodes ∷ []
      tall-levels = levels-deep w (inode_of tall) tall-depth ∙ ap (λ (us : List Extent). map (λ e. e.first) us ∷ []) tall-used ∙ ap (λ (ns : List ℕ). ns ∷ []) (tops-node_slots nodes es)

      pub tall-data : data_of w (inode_of tall) ≡ blocks
      tall-data = data-read (inode_of tall) tall-extents

      pub tall-nodes : nodes_of w (inode_of tall) ≡ nodes
      tall-nodes = ap concat tall-levels ∙ append-nil nodes

      tall-counts : CountsAgree w (tree_depth (inode_of tall)) (used (inode_of tall).slots)
      tall-counts = rw (tall-depth, tall-used) (packed-counts w nodes es slots tree, tt)

      pub tall-sound : ((size % block_size ≡ 0 → ⊥) → all_zero (drop (size % block_size) (w (get_or blocks (size / block_size) 0))) ≡ true) → FileSound N w tall
      unfolding levels_for
      tall-sound tail =
          let d = tall-depth in
          let z = tall-size in
          record {
            size_limit = rw z fit.size_fits;
            depth_limit = omega arith;
            reserved = read-reserved name size 1 (node_slots nodes es) eight;
            top_packed = ap (λ (n : Inode). slots_packed n.slots) tall-inode ∙ padded-packed slots_per_inode (node_slots nodes es) tops;
            nodes_inside = λ b o. nodes-inside b (rw tall-nodes at o);
            nodes_packed = λ b o. all-at (λ b. slots_packed (slots_at w b)) nodes b (packed-slots w nodes es slots tree) (rw tall-nodes at o);
            extents_inside = rw tall-extents (All-inside N es fits);
            counts_below = tall-counts;
            counts_top = ap counts tall-used ∙ counts-node_slots nodes es (omega (arith, enough)) ∙ total ∙ ap blocks_for (sym z);
            maximal = ap apart tall-extents ∙ runs-apart blocks;
            deep = λ q. rw tall-extents more;
            many = λ q. d;
            node_count = rw (tall-nodes, tall-extents, lt-leb (length (runs blocks)) 4 more) (omega (arith, enough));
            nodes_full = rw tall-levels (packed-of w nodes (packed-full w nodes es slots tree (omega (arith, enough))), tt);
            tail = λ q. rw (tall-data, z) (tail (λ p. q (ap (λ k. k % block_size) z ∙ p)));
          }
