-- Write and set-size where they fit: the record tells the new file, the volume stays good, and the map changes at its name alone. Assumes nothing.
use Rattle.std.specs.Prelude.{ℕ, ◌+◌, ◌≤◌, max, ◌≡◌, false, ◌⊎◌, length}
use Rattle.std.proofs.Common.{sym, ◌∙◌, inl, inr, arith}
use Rattle.std.proofs.Math.Path.{ap, ap₂}
use mathlib.Core.List.{List, ◌++◌, map}
use Rattle.std.proofs.Math.Option
use Rattle.std.proofs.Math.Option.{Option, none, some}
use Rattle.std.proofs.Math.ListN.{take}
use Rattle.std.proofs.Math.Seq.{take_at}
use Rattle.spec.specs.Layout.{bitmap_block, name_size}
use Rattle.spec.specs.Bytes.{found, concat, occurs, all_zero, exactly}
use Rattle.spec.specs.Disk.{Disk}
use Rattle.spec.specs.Bitmap.{bits_of}
use Rattle.spec.specs.Inode.{inode_at, bytes_of_inode, top_slots, name_at, is_empty, data_of, nodes_of, reached_from}
use Rattle.spec.specs.Map.{content_of, files_of}
use Rattle.spec.specs.Plain.{at, new_file}
use Rattle.spec.specs.Sentences.{file_at, blocks_then, nodes_then, sized_to}
use Rattle.lists.specs.Tests.{not-both}
use Rattle.bitmap.specs.Words.{Below}
use Rattle.laws.specs.Good.{InBytes, Good}
use Rattle.laws.specs.Reached.{files-named, reached-used}
use Rattle.laws.specs.Replace.{Replaced, replace-good, replace-written}
use Rattle.laws.specs.Marks.{Exchange}
use Rattle.laws.specs.Resized.{tree-blocks, tree-nodes}
use Rattle.laws.specs.Readback.{filled-small, written_small}
use Rattle.laws.specs.AfterContent.{write-content, resize-content}
use Rattle.laws.specs.Changing.{change-bytes, change-replaced}
use Rattle.laws.specs.Tests.{file-is}
use Rattle.laws.specs.Rewriting.{Rewriting, is-inode, name-was, used, low, in_table, eight, sound, old-length, held-length, tree, data-room, new, exchange, new-inside, fitting, told, short, more, was, own, w}
use Rattle.laws.specs.Reread.{wide, bytes-are, now, filled, Flat, Tall, flat-or-tall, reads, few-levels}

module _ {N : ℕ} {v : Disk} {name : List ℕ} {i size x : ℕ} {bytes : List ℕ} (r : Rewriting N v name i size x bytes) where
  -- ---- the volume

  name-is : name_at (w r) i ≡ name_at v i
  unfolding bytes_of_inode
  name-is = ap (take name_size) (bytes-are r) ∙ take_at (name_at v i) _ name_size (eight r)

  used-now : is_empty (w r) i ≡ false
  used-now = ap all_zero name-is ∙ used r

  reach-is : reached_from (w r) i ≡ (tree r).blocks ++ concat (tree r).levels
  reach-is = reached-used (w r) i used-now ∙ ap₂ (λ (x y : List ℕ). x ++ y) (reads r).is-data (reads r).are-nodes

  now-exchange : Exchange (bits_of (v bitmap_block)) (new r) (tree r).dropped (reached_from v i) (reached_from (w r) i)
  now-exchange = rw reach-is (exchange r)

  replaced : Replaced N v (w r) i
  replaced =
      change-replaced N v i (low r) r.most (is-inode r) r.whole (new r) (tree r).dropped (told r) (more r) (short r) (own r) r.good.sound now-exchange (new-inside r)
      (λ e. absurd (not-both e used-now)) (λ e. (reads r).is-sound)
      (λ e j hj ne q. ne (sym (r.good.sound.names i j (is-inode r) hj (used r) (sym (q ∙ name-is)))))

  in_bytes : InBytes (w r) i
  in_bytes =
      record {
        record-bytes = rw (bytes-are r) (written_small (name_at v i) size (length (tree r).levels) (top_slots (tree r).levels (tree r).extents) (eight r) (omega (arith, few-levels r)));
        node-bytes = λ e b o. small b (rw (reads r).are-nodes at o) (flat-or-tall r);
      }
    where
      small : (b : ℕ) → 1 ≤ occurs b (concat (tree r).levels) → Flat r ⊎ Tall r → Below 256 (w r b)
      small b o (inl e) = absurd (let z = ap (λ (ls : List (List ℕ)). occurs b (concat ls)) e.0 in omega arith)
      small b o (inr e) = filled-small (w r) (concat (tree r).levels) (tree r).extents (filled r (concat (tree r).levels) e.0) b o

  pub rewrite-good : Good N (w r)
  rewrite-good =
      replace-good N v (w r) i (is-inode r) (in_table r) r.good.sound replaced r.good
      (change-bytes N v i (low r) r.most (is-inode r) r.whole (new r) (tree r).dropped (told r) (more r) (short r) (own r) r.good.sound now-exchange (new-inside r)) in_bytes

  pub rewrite-file : file_at (w r) i ≡ sized_to N v (file_at v i) size
  rewrite-file =
      file-is (name_at (w r) i) (name_at v i) (inode_at (w r) i).size size (data_of (w r) (inode_at (w r) i)) (blocks_then N v (file_at v i) size)
      (nodes_of (w r) (inode_at (w r) i)) (nodes_then N v (file_at v i) size)
      name-is (reads r).is-size ((reads r).is-data ∙ tree-blocks N v i (low r) r.most r.whole r.good.sound (sound r) size (data-room r))
      ((reads r).are-nodes ∙ tree-nodes N v i (low r) r.most r.whole r.good.sound (sound r) size (data-room r) r.room)

  -- ---- the map

  -- "the first bytes of its data blocks in file order, as many as its size"
  content-is : content_of (w r) (inode_at (w r) i) ≡ take size (concat (map (w r) (tree r).blocks))
  unfolding content_of
  content-is = ap₂ (λ (n : ℕ) (bs : List ℕ). take n (concat (map (w r) bs))) (reads r).is-size (reads r).is-data

  rewrite-files : (n : List ℕ) → files_of (w r) n ≡ at name (some (take size (concat (map (w r) (tree r).blocks)))) (files_of v) n
  rewrite-files n =
      replace-written N v (w r) i (is-inode r) (in_table r) r.good.sound replaced used-now (ap length name-is ∙ eight r) name-is n
      ∙ ap₂ (λ (a y : List ℕ). at a (some y) (files_of v) n) (name-was r) content-is

  old-file : files_of v name ≡ some (content_of v (inode_at v i))
  old-file = files-named v name r.named ∙ ap (λ (o : Option ℕ). found o none (λ i. some (content_of v (inode_at v i)))) r.known

  pub written-files : size ≡ max (inode_at v i).size (x + length bytes) → (n : List ℕ) → files_of (w r) n ≡ at name (Option.map (new_file x bytes) (files_of v name)) (files_of v) n
  written-files s n =
      rewrite-files n
      ∙ ap (λ (o : Option (List ℕ)). at name o (files_of v) n)
      (ap some (write-content (length (data_of v (inode_at v i))) (inode_at v i).size size x bytes (content_of v (inode_at v i)) (old-length r) (held-length r) r.fits
      v (w r) r.whole (wide r) (tree r).blocks (fitting r).long (was r) (now r) s)
      ∙ ap (Option.map (new_file x bytes)) (sym old-file))

  pub sized-files : x + length bytes ≡ 0 → (n : List ℕ) → files_of (w r) n ≡ at name (Option.map (exactly size) (files_of v name)) (files_of v) n
  sized-files z n =
      rewrite-files n
      ∙ ap (λ (o : Option (List ℕ)). at name o (files_of v) n)
      (ap some (resize-content (length (data_of v (inode_at v i))) (inode_at v i).size size x bytes (content_of v (inode_at v i)) (old-length r) (held-length r) r.fits
      v (w r) r.whole (wide r) (tree r).blocks (fitting r).long (was r) (now r) z)
      ∙ ap (Option.map (exactly size)) (sym old-file))
