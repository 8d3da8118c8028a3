-- "Format makes an empty store": a sound volume with no files, of bytes below 256. Assumes nothing.
use Rattle.std.specs.Prelude.{ℕ, zero, suc, ◌+◌, ◌-◌, ◌≤◌, ◌<◌, ◌≡◌, Bool, true, false, ◌⊎◌, eqb, take, drop}
use Rattle.std.proofs.Math.Path.{refl, ap}
use Rattle.std.proofs.Common.{sym, ◌∙◌, inl, inr, length-append, not-suc-le-zero}
use mathlib.Core.List.{List, [], ◌∷◌, ◌++◌}
use Rattle.std.proofs.Math.Option.{Option, none, some}
use Rattle.std.proofs.Math.ListN.{length, get_or, replicate, length-replicate, get_or-replicate, get_or-append}
use Rattle.std.proofs.Math.Seq.{get_or-append-add}
use native.Mathlib.Omega.{arith}
use Rattle.spec.specs.Layout.{block_size, bitmap_block, data_start, most_blocks, inode_size, name_size}
use Rattle.spec.specs.Bytes.{found, occurs, zeros, all_zero}
use Rattle.spec.specs.Disk.{Disk}
use Rattle.spec.specs.Bitmap.{bits_of, bytes_of}
use Rattle.spec.specs.Inode.{is_name, inode_bytes, inode_at, is_empty, block_of_inode, place_of_inode, reached}
use Rattle.spec.specs.Map.{content_of, files_of}
use Rattle.spec.specs.Calls.{empty_bits, empty_disk}
use Rattle.lists.specs.Tests.{both_true, not-both}
use Rattle.logs.specs.Header.{clear_zero}
use Rattle.block.proofs.Laws.{lt-or-le, with-same, with-other}
use Rattle.bitmap.specs.Words.{Below}
use Rattle.bitmap.proofs.Laws.{bits-bytes}
use Rattle.laws.specs.Bytes.{bytes_small, below-append, below-replicate}
use Rattle.laws.specs.Soundness.{Inside}
use Rattle.laws.specs.Volume.{bit, bit_count, VolumeSound, find-no}
use Rattle.laws.specs.Reached.{name-used, files-named, files-unnamed, reached-empty, reached-by}
use Rattle.laws.specs.Good.{Good}
use Rattle.laws.specs.Content.{zero-byte}

-- ---- zeros

pub zero-take : (n : ℕ) (xs : List ℕ) → all_zero xs ≡ true → all_zero (take n xs) ≡ true
zero-take zero xs h = refl
zero-take (suc n) [] h = refl
zero-take (suc n) (x ∷ xs) h = let t = both_true (eqb x 0) (all_zero xs) h in rw t.0 (zero-take n xs t.1)

pub zero-drop : (n : ℕ) (xs : List ℕ) → all_zero xs ≡ true → all_zero (drop n xs) ≡ true
zero-drop zero xs h = h
zero-drop (suc n) [] h = refl
zero-drop (suc n) (x ∷ xs) h = zero-drop n xs (both_true (eqb x 0) (all_zero xs) h).1

-- ---- ones, zeros, ones

module _ (p q r : ℕ) where
  unfoldable three : List ℕ
  three = replicate p 1 ++ (replicate q 0 ++ replicate r 1)

  three-length : length three ≡ p + (q + r)
  unfolding three
  three-length = simp (length-append, length-replicate)

  three-bits : Below 2 three
  unfolding three
  three-bits =
      below-append 2 (replicate p 1) (replicate q 0 ++ replicate r 1) (below-replicate 2 p 1 (omega arith) (omega arith))
      (below-append 2 (replicate q 0) (replicate r 1) (below-replicate 2 q 0 (omega arith) (omega arith)) (below-replicate 2 r 1 (omega arith) (omega arith)))

  three-low : (b : ℕ) → b < p → get_or three b 0 ≡ 1
  unfolding three
  three-low b h =
      get_or-append (replicate p 1) (replicate q 0 ++ replicate r 1) 0 b (omega (arith, length-replicate {A = ℕ} p 1)) ∙ get_or-replicate p b 1 0 h

  three-behind : (b : ℕ) → get_or three (p + b) 0 ≡ get_or (replicate q 0 ++ replicate r 1) b 0
  unfolding three
  three-behind b =
      ap (λ k. get_or (replicate p 1 ++ (replicate q 0 ++ replicate r 1)) (k + b) 0) (sym (length-replicate {A = ℕ} p 1))
      ∙ get_or-append-add (replicate p 1) (replicate q 0 ++ replicate r 1) b 0

  three-middle : (b : ℕ) → b < q → get_or three (p + b) 0 ≡ 0
  three-middle b h =
      three-behind b
      ∙ get_or-append (replicate q 0) (replicate r 1) 0 b (omega (arith, length-replicate {A = ℕ} q 0)) ∙ get_or-replicate q b 0 0 h

  three-high : (b : ℕ) → b < r → get_or three (p + (q + b)) 0 ≡ 1
  three-high b h =
      three-behind (q + b)
      ∙ ap (λ k. get_or (replicate q 0 ++ replicate r 1) (k + b) 0) (sym (length-replicate {A = ℕ} q 0))
      ∙ get_or-append-add (replicate q 0) (replicate r 1) b 0 ∙ get_or-replicate r b 1 0 h

-- ---- a disk whose records are zeros

module _ (v : Disk) (blank : (i : ℕ) → all_zero (inode_bytes v i) ≡ true) where
  blank-empty : (i : ℕ) → is_empty v i ≡ true
  blank-empty i = zero-take name_size (inode_bytes v i) (blank i)

  none-reached : (b : ℕ) → occurs b (reached v) ≡ 0
  none-reached b = go (occurs b (reached v)) refl
    where
      go : (k : ℕ) → occurs b (reached v) ≡ k → occurs b (reached v) ≡ 0
      go zero q = q
      go (suc k) q =
          absurd (reached-by v b ⊥ (omega arith) (λ i up o. not-suc-le-zero (rw (reached-empty v i (blank-empty i)) at o)))

  no-files : (name : List ℕ) → files_of v name ≡ none
  no-files name = go (is_name name) refl
    where
      go : (t : Bool) → is_name name ≡ t → files_of v name ≡ none
      go false h = files-unnamed v name h
      go true h =
          files-named v name h
          ∙ ap (λ (o : Option ℕ). found o none (λ i. some (content_of v (inode_at v i))))
          (find-no v name (λ j hj e. not-both (blank-empty j) (name-used v j name h e)))

-- ---- the empty disk

module _ (N : ℕ) where
  pub empty-bitmap : empty_disk N bitmap_block ≡ bytes_of (empty_bits N)
  unfolding empty_disk
  empty-bitmap = with-same bitmap_block (bytes_of (empty_bits N)) (λ b. zeros block_size)

  pub empty-other : (b : ℕ) → (b ≡ bitmap_block → ⊥) → empty_disk N b ≡ zeros block_size
  unfolding empty_disk
  empty-other b h = with-other bitmap_block b (bytes_of (empty_bits N)) (λ b. zeros block_size) h

  blank-records : (i : ℕ) → all_zero (inode_bytes (empty_disk N) i) ≡ true
  unfolding inode_bytes
  blank-records i =
      ap (λ (t : List ℕ). all_zero (take inode_size (drop (place_of_inode i) t))) (empty-other (block_of_inode i) (λ q. omega arith))
      ∙ zero-take inode_size (drop (place_of_inode i) (zeros block_size)) (zero-drop (place_of_inode i) (zeros block_size) clear_zero)

  pub empty-files : (name : List ℕ) → files_of (empty_disk N) name ≡ none
  empty-files = no-files (empty_disk N) blank-records

  module _ (low : data_start ≤ N) (small : N ≤ most_blocks) where
    abbrev bits : List ℕ
    bits = three data_start (N - data_start) (most_blocks - N)

    are-bits : empty_bits N ≡ bits
    unfolding empty_bits three
    are-bits = refl

    bits-length : length bits ≡ most_blocks
    bits-length = three-length data_start (N - data_start) (most_blocks - N) ∙ (let e : data_start + ((N - data_start) + (most_blocks - N)) ≡ most_blocks = omega arith in e)

    table : bits_of (empty_disk N bitmap_block) ≡ bits
    table = ap bits_of (empty-bitmap ∙ ap bytes_of are-bits) ∙ bits-bytes bits bits-length (three-bits data_start (N - data_start) (most_blocks - N))

    empty-count : bit_count (empty_disk N) ≡ most_blocks
    unfolding bit_count
    empty-count = ap length table ∙ bits-length

    bit-inside : (b : ℕ) → Inside N b → bit (empty_disk N) b ≡ 0
    unfolding bit
    bit-inside b i =
        let e : b ≡ data_start + (b - data_start) = omega arith in
        ap (λ (l : List ℕ). get_or l b 0) table ∙ ap (λ k. get_or bits k 0) e ∙ three-middle data_start (N - data_start) (most_blocks - N) (b - data_start) (omega arith)

    bit-outside : (b : ℕ) → b < most_blocks → (Inside N b → ⊥) → bit (empty_disk N) b ≡ 1
    unfolding bit
    bit-outside b up out = ap (λ (l : List ℕ). get_or l b 0) table ∙ go (lt-or-le b data_start) (lt-or-le b N)
      where
        go : (b < data_start) ⊎ (data_start ≤ b) → (b < N) ⊎ (N ≤ b) → get_or bits b 0 ≡ 1
        go (inl l) u = three-low data_start (N - data_start) (most_blocks - N) b l
        go (inr l) (inl u) = absurd (out (record { low = l; high = u }))
        go (inr l) (inr u) =
            let e : b ≡ data_start + ((N - data_start) + (b - N)) = omega arith in
            ap (λ k. get_or bits k 0) e ∙ three-high data_start (N - data_start) (most_blocks - N) (b - N) (omega arith)

    empty-sound : VolumeSound N (empty_disk N)
    empty-sound =
        record {
          outside = λ b up out. let c = empty-count in bit-outside b (omega arith) out;
          names = λ i j hi hj e q. absurd (not-both (blank-empty (empty_disk N) blank-records i) e);
          empties = λ i hi e. blank-records i;
          files = λ i hi e. absurd (not-both (blank-empty (empty_disk N) blank-records i) e);
          counted = λ b up i. none-reached (empty_disk N) blank-records b ∙ sym (bit-inside b i);
        }

    pub empty-good : Good N (empty_disk N)
    empty-good =
        record {
          sound = empty-sound;
          table = rw (empty-bitmap, are-bits) (bytes_small bits (three-bits data_start (N - data_start) (most_blocks - N)));
          files = λ i hi. record {
            record-bytes = λ k. omega (arith, zero-byte (drop name_size (inode_bytes (empty_disk N) i)) k (zero-drop name_size (inode_bytes (empty_disk N) i) (blank-records i)));
            node-bytes = λ e. absurd (not-both (blank-empty (empty_disk N) blank-records i) e);
          };
        }
