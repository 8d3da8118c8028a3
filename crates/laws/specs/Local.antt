-- Soundness and files rest on the blocks from 33 up. Assumes nothing.
use Rattle.std.specs.Prelude.{ℕ, ◌≤◌, ◌<◌, ◌≡◌, refl, Bool, true, false}
use Rattle.std.proofs.Common.{sym, ◌∙◌, arith}
use Rattle.std.proofs.Math.Path.{ap}
use mathlib.Core.List.{List}
use Rattle.std.proofs.Math.Option.{Option, none, some}
use Rattle.std.proofs.Math.ListN.{length, get_or}
use Rattle.spec.specs.Layout.{bitmap_block, inode_size, inode_count}
use Rattle.spec.specs.Bytes.{found, part, same, occurs, all_zero}
use Rattle.spec.specs.Disk.{Disk}
use Rattle.spec.specs.Bitmap.{bits_of}
use Rattle.spec.specs.Inode.{is_name, inode_bytes, inode_at, is_empty, find, block_of_inode, place_of_inode, reached_from, reached}
use Rattle.spec.specs.Map.{content_of, files_of}
use Rattle.laws.specs.Volume.{bit, bit_count, VolumeSound, find-some, find-agree}
use Rattle.laws.specs.Frame.{Agree}
use Rattle.laws.specs.Good.{InBytes, kept-bytes}
use Rattle.laws.specs.Reached.{name-used, files-named, files-unnamed, reached-same, reach-inside, kept-name, kept-empty, kept-reach, kept-content, kept-file}

module _ (N : ℕ) (v w : Disk) (kept : (b : ℕ) → bitmap_block ≤ b → w b ≡ v b) (s : VolumeSound N v) where
  bytes-kept : (i : ℕ) → inode_bytes w i ≡ inode_bytes v i
  unfolding inode_bytes
  bytes-kept i = ap (part (place_of_inode i) inode_size) (kept (block_of_inode i) (omega arith))

  bit_kept : (b : ℕ) → bit w b ≡ bit v b
  unfolding bit
  bit_kept b = ap (λ (t : List ℕ). get_or (bits_of t) b 0) (kept bitmap_block (omega arith))

  count_kept : bit_count w ≡ bit_count v
  unfolding bit_count
  count_kept = ap (λ (t : List ℕ). length (bits_of t)) (kept bitmap_block (omega arith))

  blocks-kept : (i : ℕ) → i < inode_count → Agree v w (reached_from v i)
  unfolding Agree
  blocks-kept i h b o = let r = reach-inside N v s i b h o in kept b (omega arith)

  reached-kept : reached w ≡ reached v
  reached-kept = reached-same v w (λ j h. kept-reach v w j (bytes-kept j) (blocks-kept j h))

  pub local-sound : VolumeSound N w
  local-sound =
      record {
        outside = λ b up o. bit_kept b ∙ s.outside b (rw count_kept at up) o;
        names = λ i j hi hj e q.
            s.names i j hi hj (sym (kept-empty v w i (bytes-kept i)) ∙ e) (sym (kept-name v w i (bytes-kept i)) ∙ q ∙ kept-name v w j (bytes-kept j));
        empties = λ i hi e. ap all_zero (bytes-kept i) ∙ s.empties i hi (sym (kept-empty v w i (bytes-kept i)) ∙ e);
        files = λ i hi e.
            let u : is_empty v i ≡ false = sym (kept-empty v w i (bytes-kept i)) ∙ e in
            kept-file v w i (bytes-kept i) (blocks-kept i hi) N u (s.files i hi u);
        counted = λ b up i. ap (occurs b) reached-kept ∙ s.counted b (rw count_kept at up) i ∙ sym (bit_kept b);
      }

  pub local-bytes : (i : ℕ) → i < inode_count → InBytes v i → InBytes w i
  local-bytes i h = kept-bytes v w i (bytes-kept i) (blocks-kept i h)

  pub local-files : (name : List ℕ) → files_of w name ≡ files_of v name
  local-files name = go (is_name name) refl
    where
      finds : find w name ≡ find v name
      finds = find-agree v w name (λ j h. ap (λ (l : List ℕ). same l name) (kept-name v w j (bytes-kept j)))

      contents : is_name name ≡ true → (o : Option ℕ) → find v name ≡ o
          → found o none (λ i. some (content_of w (inode_at w i))) ≡ found o none (λ i. some (content_of v (inode_at v i)))
      contents h none q = refl
      contents h (some i) q =
          let f = find-some v name i q in
          ap some (kept-content v w i (bytes-kept i) (blocks-kept i f.0) (name-used v i name h f.1))

      go : (t : Bool) → is_name name ≡ t → files_of w name ≡ files_of v name
      go false h = files-unnamed w name h ∙ sym (files-unnamed v name h)
      go true h =
          files-named w name h ∙ ap (λ (o : Option ℕ). found o none (λ i. some (content_of w (inode_at w i)))) finds
          ∙ contents h (find v name) refl ∙ sym (files-named v name h)
