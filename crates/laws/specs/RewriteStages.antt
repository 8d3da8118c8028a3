-- Which blocks write and set-size stage: exactly those of the sentences; with this, all that they make. Assumes nothing.
use Rattle.std.specs.Prelude.{ℕ, ◌/◌, ◌≡◌, refl, Bool, true, false, not, ◌&&◌, ◌||◌, List, ◌++◌, eqb, length, get_or}
use Rattle.std.proofs.Common.{sym, ap, ap₂, ◌∙◌, arith}
use Rattle.std.proofs.Math.Option.{some}
use Rattle.spec.specs.Layout.{block_size, bitmap_block}
use Rattle.spec.specs.Bytes.{any, concat, member, patch, same, up_from}
use Rattle.spec.specs.Disk.{Disk}
use Rattle.spec.specs.declared.Extent.{Extent}
use Rattle.spec.specs.Bitmap.{bits_of, bytes_of}
use Rattle.spec.specs.Inode.{inode_at, block_of_inode, place_of_inode, data_of, levels_of, runs}
use Rattle.spec.specs.Map.{files_of}
use Rattle.spec.specs.Plan.{new_content, is_staged, level_edits, data_edits}
use Rattle.spec.specs.Calls.{Change}
use Rattle.spec.specs.Plain.{changed_files}
use Rattle.spec.specs.Sentences.{File, file_at, file_then, record_for, sized_to, is_new, node_changes, bit_changes, record_changes, shortens, call_stages}
use Rattle.lists.specs.Tests.{eqb-turn}
use Rattle.lists.specs.Members.{member-append}
use Rattle.logs.specs.Stores.{targets_of}
use Rattle.crash.specs.Interface.{Makes}
use Rattle.laws.specs.Good.{Good}
use Rattle.laws.specs.Tree.{levels-few}
use Rattle.laws.specs.Reached.{reached-used, reach-inside}
use Rattle.laws.specs.Edits.{blocks_of, sorted-keep}
use Rattle.laws.specs.Marks.{bits_then, table-changes}
use Rattle.laws.specs.TreeEdits.{blocks-append}
use Rattle.laws.specs.Resized.{tree-blocks, tree-nodes, extents-are}
use Rattle.laws.specs.Restaged.{record-changes}
use Rattle.laws.specs.Places.{placed-member, levels-member, node_staged}
use Rattle.laws.specs.Staged.{staged-told}
use Rattle.laws.specs.Extended.{extends}
use Rattle.laws.specs.Rewriting.{Rewriting, is-inode, used, low, sound, tree, data-room, new, exchange, inside, fitting, told, more, ws, w}
use Rattle.laws.specs.Reread.{rewrite-targets, rewrite-long, rewrite-record, rewrite-others, rewrite-member, reads, few-levels}
use Rattle.laws.specs.Rewritten.{rewrite-good, rewrite-file}

-- the six sentences, those of block 33 and of the record's block first
six-parts : (a b c d e f d' e' m : Bool) → d ≡ d' → e ≡ e' → m ≡ (((a || b) || c) || f) → (a || b || c || d || e || f) ≡ (d' || (e' || m))
six-parts a b c d e f d' e' m p q r = rw (p, q, r) (go ((a || b) || c) d' e')
  where
    go : (t d e : Bool) → (((t || d) || e) || f) ≡ (d || (e || (t || f)))
    go true true e = refl
    go true false true = refl
    go true false false = refl
    go false true e = refl
    go false false true = refl
    go false false false = refl

module _ {N : ℕ} {v : Disk} {name : List ℕ} {i size x : ℕ} {bytes : List ℕ} (r : Rewriting N v name i size x bytes) where
  abbrev f : File
  f = file_at v i

  abbrev h : File
  h = sized_to N v (file_at v i) size

  blocks-are : (tree r).blocks ≡ h.blocks
  blocks-are = tree-blocks N v i (low r) r.most r.whole r.good.sound (sound r) size (data-room r)

  nodes-are : concat (tree r).levels ≡ h.nodes
  nodes-are = tree-nodes N v i (low r) r.most r.whole r.good.sound (sound r) size (data-room r) r.room

  extents-then : (tree r).extents ≡ runs h.blocks
  extents-then = extents-are N v i (low r) r.most r.whole r.good.sound (sound r) size ∙ ap runs blocks-are

  -- ---- nodes and data blocks

  nodes-staged : (b : ℕ) → member b (blocks_of v (level_edits v (levels_of v (inode_at v i)) (tree r).levels (tree r).extents))
      ≡ any (λ j. node_staged v (length f.nodes) h.nodes (runs h.blocks) j && eqb (get_or h.nodes j 0) b) (up_from 0 (length h.nodes))
  nodes-staged b =
      levels-member v (levels_of v (inode_at v i)) (tree r).levels (tree r).extents b
      (omega (arith, levels-few v (inode_at v i) (sound r).depth_limit, (sound r).depth_limit)) (few-levels r)
      ∙ ap₂ (λ (ns : List ℕ) (es : List Extent). any (λ j. node_staged v (length f.nodes) ns es j && eqb (get_or ns j 0) b) (up_from 0 (length ns))) nodes-are extents-then

  data-staged : (b : ℕ) → member b (blocks_of v (data_edits (length (data_of v (inode_at v i))) (inode_at v i).size size x bytes (tree r).blocks))
      ≡ any (λ p. is_staged (length f.blocks) f.size size x bytes p && eqb (get_or h.blocks p 0) b) (up_from 0 (length h.blocks))
  data-staged b =
      placed-member v (λ p. get_or (tree r).blocks p 0) (new_content (length f.blocks) f.size size x bytes) (is_staged (length f.blocks) f.size size x bytes) b 0 (length (tree r).blocks)
      ∙ ap (λ (bs : List ℕ). any (λ p. is_staged (length f.blocks) f.size size x bytes p && eqb (get_or bs p 0) b) (up_from 0 (length bs))) blocks-are

  -- the byte places of the data are these, if any
  abbrev pub holds : ℕ → Bool
  holds b = any (λ q. eqb (get_or h.blocks (q / block_size) 0) b) (up_from x (length bytes))

  more-told : (b : ℕ) → member b (blocks_of v (more r)) ≡ (((holds b || is_new f h b) || node_changes v h b) || shortens f h b)
  more-told b =
      let nodes = level_edits v (levels_of v (inode_at v i)) (tree r).levels (tree r).extents in
      let blocks = data_edits (length (data_of v (inode_at v i))) (inode_at v i).size size x bytes (tree r).blocks in
      ap (member b) (blocks-append v nodes blocks) ∙ member-append b (blocks_of v nodes) (blocks_of v blocks) ∙ ap₂ ◌||◌ (nodes-staged b) (data-staged b)
      ∙ staged-told v f h x bytes (ap length (sym blocks-are) ∙ (fitting r).long) r.fits (extends N v i (is-inode r) (used r) size) b

  -- ---- block 33 and the record's block

  table-told : not (same (bytes_of (bits_then (bits_of (v bitmap_block)) (new r) (tree r).dropped)) (v bitmap_block)) ≡ bit_changes N f h
  table-told =
      table-changes N (v bitmap_block) (new r) (tree r).dropped (record { full = r.whole bitmap_block; bytes = r.good.table }) f h
      (rw (sym (reached-used v i (used r)), sym after_is) (exchange r))
      (λ b o. reach-inside N v r.good.sound i b (is-inode r) (rw (reached-used v i (used r)) o)) (λ b o. inside r b (rw after_is o))
    where
      after_is : (tree r).blocks ++ concat (tree r).levels ≡ h.blocks ++ h.nodes
      after_is = ap₂ (λ (xs ys : List ℕ). xs ++ ys) blocks-are nodes-are

  record-told : not (same (patch (place_of_inode i) (told r) (v (block_of_inode i))) (v (block_of_inode i))) ≡ record_changes f h
  record-told =
      record-changes N v i (low r) r.most r.whole r.good.sound (sound r) (r.good.files i (is-inode r)).record-bytes size r.room
      (w r) (rewrite-record r) (reads r).is-size

  -- ---- "A call stages"

  pub all_told : (b : ℕ)
      → (holds b || is_new f h b || node_changes v h b || eqb b bitmap_block && bit_changes N f h || eqb b (block_of_inode i) && record_changes f h || shortens f h b)
      ≡ member b (targets_of (ws r))
  all_told b =
      six-parts (holds b) (is_new f h b) (node_changes v h b) (eqb b bitmap_block && bit_changes N f h) (eqb b (block_of_inode i) && record_changes f h) (shortens f h b)
      (eqb bitmap_block b && not (same (bytes_of (bits_then (bits_of (v bitmap_block)) (new r) (tree r).dropped)) (v bitmap_block)))
      (eqb (block_of_inode i) b && not (same (patch (place_of_inode i) (told r) (v (block_of_inode i))) (v (block_of_inode i))))
      (member b (blocks_of v (more r)))
      (ap₂ ◌&&◌ (eqb-turn b bitmap_block) (sym table-told)) (ap₂ ◌&&◌ (eqb-turn b (block_of_inode i)) (sym record-told)) (more-told b)
      ∙ sym (rewrite-member r b)

  pub rewrite-makes : (c : Change) → record_for v c ≡ some i → file_then N v (file_at v i) c ≡ sized_to N v (file_at v i) size
      → ((b : ℕ) → call_stages N v i c b ≡ member b (targets_of (ws r))) → ((n : List ℕ) → files_of (w r) n ≡ changed_files (files_of v) c n) → Makes N (Good N) v c (ws r)
  rewrite-makes c about is-then stages files =
      record {
        long = rewrite-long r;
        inode = i;
        is-inode = about;
        staged = sorted-keep N (ws r) (call_stages N v i c) (omega (arith, r.fewest)) (rewrite-targets r) (λ b l u. stages b);
        file = rewrite-file r ∙ sym is-then;
        others = rewrite-others r;
        good = rewrite-good r;
        files = files;
      }
