-- What a write or a change of size leaves on the disk: its record, its data blocks and its nodes tell the new file. Assumes nothing.
use Rattle.std.specs.Prelude.{ℕ, ◌/◌, ◌%◌, ◌≤◌, ◌<◌, ◌≡◌, true, not, ◌&&◌, ◌||◌, ◌⊎◌, List, [], ◌∷◌, ◌++◌, eqb, length, drop, get_or}
use Rattle.std.proofs.Common.{sym, ap, ap₂, ◌∙◌, subst, inl, inr, append-nil, drop_of_length-le, arith}
use Rattle.spec.specs.Layout.{block_size, bitmap_block, inode_count, slots_per_inode, slots_per_node}
use Rattle.spec.specs.Bytes.{concat, occurs, quotient_up, all_zero, patch, same, member}
use Rattle.spec.specs.Disk.{Disk}
use Rattle.spec.specs.declared.Extent.{Extent}
use Rattle.spec.specs.Bitmap.{bits_of, bytes_of}
use Rattle.spec.specs.Inode.{inode_bytes, inode_of, inode_at, inode_with, bytes_of_inode, name_at, block_of_inode, place_of_inode, data_of, levels_of, nodes_of, runs}
use Rattle.spec.specs.Map.{content_of}
use Rattle.spec.specs.Transaction.{ascending}
use Rattle.spec.specs.Plan.{stores_of}
use Rattle.lists.specs.Counts.{occurs-at}
use Rattle.logs.specs.Targets.{Targets}
use Rattle.logs.specs.Stores.{Whole, Long, applied-whole, long-ascending, over, targets_of}
use Rattle.bitmap.proofs.Laws.{occurs-append}
use Rattle.laws.specs.Soundness.{Inside, FileSound}
use Rattle.laws.specs.Patch.{length-record, inode-new}
use Rattle.laws.specs.Edits.{blocks_of}
use Rattle.laws.specs.Marks.{bits_then}
use Rattle.laws.specs.Resized.{tree-levels, tree-many, extents-are}
use Rattle.laws.specs.Readback.{Filled}
use Rattle.laws.specs.TreeEdits.{filled-agree}
use Rattle.laws.specs.WrittenFile.{flat-size, flat-data, flat-nodes, flat_sound, tall-size, tall-data, tall-nodes, tall-sound}
use Rattle.laws.specs.NewContent.{block_then}
use Rattle.laws.specs.AfterContent.{tail-after}
use Rattle.laws.specs.Changing.{change-targets, change-long, change-record, change-rest, change-member, change-others}
use Rattle.laws.specs.Rewrite.{data-then, nodes-then}
use Rattle.laws.specs.Rewriting.{Rewriting, is-inode, low, eight, sound, old-length, held-length, tree, data-room, new, once, inside, fitting, told, told-length, short, more, was, own, ws, w}

-- what is read of a record
pub record Told (N : ℕ) (u : Disk) (bytes : List ℕ) (size : ℕ) (blocks nodes : List ℕ) : Type 0 where
  pub is-size : (inode_of bytes).size ≡ size
  pub is-data : data_of u (inode_of bytes) ≡ blocks
  pub are-nodes : nodes_of u (inode_of bytes) ≡ nodes
  pub is-sound : FileSound N u bytes

module _ {N : ℕ} {v : Disk} {name : List ℕ} {i size x : ℕ} {bytes : List ℕ} (r : Rewriting N v name i size x bytes) where
  -- ---- the stores

  pub rewrite-targets : Targets N (targets_of (ws r))
  rewrite-targets = change-targets N v i (low r) r.most (is-inode r) r.whole (new r) (tree r).dropped (told r) (more r) (short r) (own r)

  pub rewrite-long : Long (ws r)
  rewrite-long = change-long N v i (low r) r.most (is-inode r) r.whole (new r) (tree r).dropped (told r) (more r) (short r) (own r)

  pub rewrite-record : w r (block_of_inode i) ≡ patch (place_of_inode i) (told r) (v (block_of_inode i))
  rewrite-record = change-record N v i (low r) r.most (is-inode r) r.whole (new r) (tree r).dropped (told r) (more r) (short r) (own r)

  pub rewrite-others : (j : ℕ) → j < inode_count → (j ≡ i → ⊥) → inode_bytes (w r) j ≡ inode_bytes v j
  rewrite-others = change-others N v i (low r) r.most (is-inode r) r.whole (new r) (tree r).dropped (told r) (more r) (short r) (own r)

  pub rewrite-member : (b : ℕ) → member b (targets_of (ws r))
      ≡ ((eqb bitmap_block b && not (same (bytes_of (bits_then (bits_of (v bitmap_block)) (new r) (tree r).dropped)) (v bitmap_block)))
      || ((eqb (block_of_inode i) b && not (same (patch (place_of_inode i) (told r) (v (block_of_inode i))) (v (block_of_inode i)))) || member b (blocks_of v (more r))))
  rewrite-member = change-member N v i (low r) r.most (is-inode r) r.whole (new r) (tree r).dropped (told r) (more r) (short r) (own r)

  pub wide : Whole (w r)
  wide = applied-whole (ascending (ws r)) v (long-ascending (ws r) rewrite-long) r.whole

  laid : (b : ℕ) → Inside N b → w r b ≡ over (stores_of v (more r)) v b
  laid b inn =
      change-rest N v i (low r) r.most (is-inode r) r.whole (new r) (tree r).dropped (told r) (more r) (short r) (own r) b
      (λ q. omega (arith, inn.low)) (λ q. omega (arith, inn.low, is-inode r))

  -- ---- the record

  pub bytes-are : inode_bytes (w r) i ≡ told r
  bytes-are =
      let h : length (inode_bytes v i) ≤ length (told r) = omega (arith, length-record v i r.whole, told-length r) in
      inode-new v (w r) i (told r) r.whole (short r) rewrite-record
      ∙ ap (λ (l : List ℕ). told r ++ l) (drop_of_length-le (inode_bytes v i) h) ∙ append-nil (told r)

  -- ---- data blocks and nodes

  block_inside : (p : ℕ) → p < length (tree r).blocks → Inside N (get_or (tree r).blocks p 0)
  block_inside p h =
      inside r (get_or (tree r).blocks p 0)
      (omega (arith, occurs-at (tree r).blocks p h, occurs-append (get_or (tree r).blocks p 0) (tree r).blocks (concat (tree r).levels)))

  pub now : (p : ℕ) (h : p < length (tree r).blocks) → w r (get_or (tree r).blocks p 0)
      ≡ block_then (length (data_of v (inode_at v i))) (inode_at v i).size size x bytes (content_of v (inode_at v i)) (old-length r) (held-length r) r.fits
      p (v (get_or (tree r).blocks p 0)) (r.whole (get_or (tree r).blocks p 0)) (λ l. was r p l h)
  now p h =
      laid (get_or (tree r).blocks p 0) (block_inside p h)
      ∙ data-then N v i (levels_of v (inode_at v i)) (tree r).levels (tree r).extents (tree r).blocks (length (data_of v (inode_at v i))) (inode_at v i).size size x bytes (once r) p h

  tail : (size % block_size ≡ 0 → ⊥) → all_zero (drop (size % block_size) (w r (get_or (tree r).blocks (size / block_size) 0))) ≡ true
  tail =
      tail-after (length (data_of v (inode_at v i))) (inode_at v i).size size x bytes (content_of v (inode_at v i)) (old-length r) (held-length r) r.fits
      v (w r) r.whole wide (tree r).blocks (fitting r).long (was r) now

  pub filled : (ns : List ℕ) → (tree r).levels ≡ ns ∷ [] → Filled (w r) ns (tree r).extents
  filled ns e =
      filled-agree (over (stores_of v (more r)) v) (w r) ns (tree r).extents
      (λ b o. laid b (inside r b (omega (arith, occurs-append b (tree r).blocks (concat (tree r).levels), ap (occurs b) (ap concat e ∙ append-nil ns)))))
      (nodes-then N v i (levels_of v (inode_at v i)) (tree r).levels (tree r).extents (tree r).blocks (length (data_of v (inode_at v i))) (inode_at v i).size size x bytes (once r) ns e)

  -- ---- what is read then

  runs-are : (tree r).extents ≡ runs (tree r).blocks
  runs-are = extents-are N v i (low r) r.most r.whole r.good.sound (sound r) size

  -- no level where the record holds all extents, else one
  abbrev pub Flat : Type 0
  Flat = ((tree r).levels ≡ []) × (length (tree r).extents ≤ slots_per_inode)

  abbrev pub Tall : Type 0
  Tall = ((tree r).levels ≡ concat (tree r).levels ∷ []) × (slots_per_inode < length (tree r).extents)

  pub flat-or-tall : Flat ⊎ Tall
  flat-or-tall = tree-levels N v i (low r) r.most r.whole r.good.sound (sound r) size (data-room r)

  told-flat : Flat → Told N (w r) (told r) size (tree r).blocks (concat (tree r).levels)
  told-flat h =
      let n : length (runs (tree r).blocks) ≤ slots_per_inode = omega (arith, ap length runs-are, h.1) in
      let q : bytes_of_inode (inode_with (name_at v i) size (runs (tree r).blocks) []) ≡ told r =
      ap₂ (λ (es : List Extent) (ls : List (List ℕ)). bytes_of_inode (inode_with (name_at v i) size es ls)) (sym runs-are) (sym h.0)
      in
      subst (λ (t : List ℕ). Told N (w r) t size (tree r).blocks (concat (tree r).levels)) q
      (record {
        is-size = flat-size N (w r) (name_at v i) size (tree r).blocks (eight r) (fitting r) n;
        is-data = flat-data N (w r) (name_at v i) size (tree r).blocks (eight r) (fitting r) n;
        are-nodes = flat-nodes N (w r) (name_at v i) size (tree r).blocks (eight r) (fitting r) n ∙ ap concat (sym h.0);
        is-sound = flat_sound N (w r) (name_at v i) size (tree r).blocks (eight r) (fitting r) n tail;
      })

  told-tall : Tall → Told N (w r) (told r) size (tree r).blocks (concat (tree r).levels)
  told-tall h =
      let ns = concat (tree r).levels in
      let n : slots_per_inode < length (runs (tree r).blocks) = omega (arith, ap length runs-are, h.1) in
      let many : length ns ≡ quotient_up (length (runs (tree r).blocks)) slots_per_node =
      tree-many N v i (low r) r.most r.whole r.good.sound (sound r) size (data-room r) r.room h.1 ∙ ap (λ (es : List Extent). quotient_up (length es) slots_per_node) runs-are
      in
      let within : (b : ℕ) → 1 ≤ occurs b ns → Inside N b = λ b o. inside r b (omega (arith, occurs-append b (tree r).blocks ns)) in
      let hold : Filled (w r) ns (runs (tree r).blocks) = subst (λ (es : List Extent). Filled (w r) ns es) runs-are (filled ns h.0) in
      let q : bytes_of_inode (inode_with (name_at v i) size (runs (tree r).blocks) (ns ∷ [])) ≡ told r =
      ap₂ (λ (es : List Extent) (ls : List (List ℕ)). bytes_of_inode (inode_with (name_at v i) size es ls)) (sym runs-are) (sym h.0)
      in
      subst (λ (t : List ℕ). Told N (w r) t size (tree r).blocks (concat (tree r).levels)) q
      (record {
        is-size = tall-size N (w r) (name_at v i) size (tree r).blocks (eight r) (fitting r) ns n many within hold;
        is-data = tall-data N (w r) (name_at v i) size (tree r).blocks (eight r) (fitting r) ns n many within hold;
        are-nodes = tall-nodes N (w r) (name_at v i) size (tree r).blocks (eight r) (fitting r) ns n many within hold;
        is-sound = tall-sound N (w r) (name_at v i) size (tree r).blocks (eight r) (fitting r) ns n many within hold tail;
      })

  pub reads : Told N (w r) (inode_bytes (w r) i) size (tree r).blocks (concat (tree r).levels)
  reads = subst (λ (t : List ℕ). Told N (w r) t size (tree r).blocks (concat (tree r).levels)) (sym bytes-are) (go flat-or-tall)
    where
      go : Flat ⊎ Tall → Told N (w r) (told r) size (tree r).blocks (concat (tree r).levels)
      go (inl h) = told-flat h
      go (inr h) = told-tall h

  pub few-levels : length (tree r).levels ≤ 1
  few-levels = go flat-or-tall
    where
      go : Flat ⊎ Tall → length (tree r).levels ≤ 1
      go (inl h) = omega (arith, ap length h.0)
      go (inr h) = omega (arith, ap length h.0)
