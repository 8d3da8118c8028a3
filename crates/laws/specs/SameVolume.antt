-- Two sound volumes in which every record tells the same file, and whose maps agree, have the same bit table, the same records and the same bytes in every block
-- that a file reaches: document 01's layout leaves no choice there. Assumes nothing.
use Rattle.std.specs.Prelude.{ℕ, zero, suc, ◌+◌, ◌*◌, ◌-◌, ◌/◌, ◌%◌, ◌≤◌, ◌<◌, ◌≡◌, refl, Bool, true, false, not, ◌⊎◌, List, [], ◌∷◌, ◌++◌, map, T, eqb, take, drop, get_or}
use Rattle.std.proofs.Math.Path.{sym, ap}
use Rattle.std.proofs.Common.{ap₂, ◌∙◌, subst, inl, inr, length-take, get_or-take, get_or-drop, arith, eq-eqb}
use Rattle.std.proofs.Math.Option.{Option, none, some, some-injective}
use Rattle.std.proofs.Math.ListN.{length}
use Rattle.std.proofs.Math.Seq.{ext_get_or}
use Rattle.spec.specs.Layout.{block_size, bitmap_block, inode_start, inode_count, data_start, name_size, slots_per_inode, most_blocks}
use Rattle.spec.specs.Bytes.{found, concat, occurs, all_zero}
use Rattle.spec.specs.Disk.{Disk, in_data}
use Rattle.spec.specs.Bitmap.{bits_of, bytes_of}
use Rattle.spec.specs.declared.Extent.{Extent}
use Rattle.spec.specs.Inode.{is_name, inode_bytes, inode_at, name_at, is_empty, find, bytes_of_inode, inode_with, runs, extents_of, levels_of, nodes_of, data_of, reached_from}
use Rattle.spec.specs.Sound.{volume_sound}
use Rattle.spec.specs.Map.{content_of, files_of}
use Rattle.spec.specs.Sentences.{File, file_at, node_content}
use Rattle.lists.specs.Tests.{and_both}
use Rattle.lists.specs.Members.{member-place, occurs-member}
use Rattle.block.proofs.Laws.{lt-or-le}
use Rattle.logs.specs.Stores.{Whole}
use Rattle.bitmap.specs.Words.{Below}
use Rattle.bitmap.proofs.Laws.{bytes_bits, occurs-append}
use Rattle.laws.specs.Bytes.{below-drop, record-small}
use Rattle.laws.specs.Soundness.{inside_of, outside_of, FileSound}
use Rattle.laws.specs.Volume.{bit, bit_count, volume-sound, own_name}
use Rattle.laws.specs.Tree.{depth-cases, levels-flat, levels-deep, nodes-deep, data-length}
use Rattle.laws.specs.Runs.{runs-data}
use Rattle.laws.specs.Reached.{bit-count, files-named, reached-empty, reached-used, reached-same}
use Rattle.laws.specs.Good.{Good}
use Rattle.laws.specs.Content.{zero-byte}
use Rattle.laws.specs.NewContent.{joined-byte}
use Rattle.laws.specs.Patch.{length-record}
use Rattle.laws.specs.Nodes.{node-held}
use Rattle.laws.specs.RecordBytes.{record-bytes}

-- a sound volume of bytes is good
pub good_of : (N : ℕ) (v : Disk) → ((b : ℕ) → Below 256 (v b)) → T (volume_sound N v) → Good N v
good_of N v small t =
    record {
      sound = (volume-sound N v).0 t;
      table = small bitmap_block;
      files = λ i h. record { record-bytes = below-drop 256 name_size (inode_bytes v i) (record-small v i small); node-bytes = λ e b o. small b };
    }

zero_same : (xs ys : List ℕ) → length xs ≡ length ys → all_zero xs ≡ true → all_zero ys ≡ true → xs ≡ ys
zero_same xs ys l p q = ext_get_or 0 xs ys l (λ i u. zero-byte xs i p ∙ sym (zero-byte ys i q))

-- ---- one file

module _ (N : ℕ) (v w : Disk) (i : ℕ) (vw : Whole v) (ww : Whole w) (sv : FileSound N v (inode_bytes v i)) (sw : FileSound N w (inode_bytes w i)) (file : file_at v i ≡ file_at w i) where
  abbrev blocks-same : data_of v (inode_at v i) ≡ data_of w (inode_at w i)
  blocks-same = ap (λ (f : File). f.blocks) file

  abbrev nodes-same : nodes_of v (inode_at v i) ≡ nodes_of w (inode_at w i)
  nodes-same = ap (λ (f : File). f.nodes) file

  abbrev size_same : (inode_at v i).size ≡ (inode_at w i).size
  size_same = ap (λ (f : File). f.size) file

  -- its extents are the runs of its blocks
  extents-same : extents_of v (inode_at v i) ≡ extents_of w (inode_at w i)
  extents-same = sym (runs-data N v (inode_bytes v i) sv) ∙ ap runs blocks-same ∙ runs-data N w (inode_bytes w i) sw

  -- "Depth is 1 exactly when there are more than 4 extents"
  levels-same : levels_of v (inode_at v i) ≡ levels_of w (inode_at w i)
  levels-same = go (depth-cases (inode_at v i) sv.depth_limit) (depth-cases (inode_at w i) sw.depth_limit)
    where
      go : ((inode_at v i).depth ≡ 0) ⊎ ((inode_at v i).depth ≡ 1) → ((inode_at w i).depth ≡ 0) ⊎ ((inode_at w i).depth ≡ 1) → levels_of v (inode_at v i) ≡ levels_of w (inode_at w i)
      go (inl p) (inl q) = levels-flat v (inode_at v i) p ∙ sym (levels-flat w (inode_at w i) q)
      go (inl p) (inr q) = let d = sv.many (subst (λ (es : List Extent). slots_per_inode < length es) (sym extents-same) (sw.deep q)) in absurd (omega (arith, p, d))
      go (inr p) (inl q) = let d = sw.many (subst (λ (es : List Extent). slots_per_inode < length es) extents-same (sv.deep p)) in absurd (omega (arith, q, d))
      go (inr p) (inr q) =
          levels-deep v (inode_at v i) p ∙ ap (λ (l : List ℕ). l ∷ []) (sym (nodes-deep v (inode_at v i) p) ∙ nodes-same ∙ nodes-deep w (inode_at w i) q) ∙ sym (levels-deep w (inode_at w i) q)

  -- its 32 bytes
  file-record : Below 256 (drop name_size (inode_bytes v i)) → Below 256 (drop name_size (inode_bytes w i)) → inode_bytes v i ≡ inode_bytes w i
  file-record yv yw =
      sym (record-bytes N v i vw yv sv)
      ∙ ap (λ (f : File). bytes_of_inode (inode_with f.name f.size (extents_of v (inode_at v i)) (levels_of v (inode_at v i)))) file
      ∙ ap₂ (λ (es : List Extent) (ls : List (List ℕ)). bytes_of_inode (inode_with (name_at w i) (inode_at w i).size es ls)) extents-same levels-same
      ∙ record-bytes N w i ww yw sw

  -- its nodes hold its extents
  file-nodes : ((b : ℕ) → 1 ≤ occurs b (nodes_of v (inode_at v i)) → Below 256 (v b)) → ((b : ℕ) → 1 ≤ occurs b (nodes_of w (inode_at w i)) → Below 256 (w b))
      → (b : ℕ) → 1 ≤ occurs b (nodes_of v (inode_at v i)) → v b ≡ w b
  file-nodes yv yw b o = member-place (nodes_of v (inode_at v i)) b (v b ≡ w b) (occurs-member b (nodes_of v (inode_at v i)) o) (λ j l e.
      let k : j < length (nodes_of w (inode_at w i)) = subst (λ (ns : List ℕ). j < length ns) nodes-same l in
      ap v (sym e) ∙ sym (node-held N v i sv vw yv j l) ∙ ap (λ (f : File). node_content f j) file ∙ node-held N w i sw ww yw j k
      ∙ ap (λ (ns : List ℕ). w (get_or ns j 0)) (sym nodes-same) ∙ ap w e)

  abbrev bs : List ℕ
  bs = data_of v (inode_at v i)

  abbrev size : ℕ
  size = (inode_at v i).size

  -- its blocks hold its content, and zeros behind the size
  file-data : content_of v (inode_at v i) ≡ content_of w (inode_at w i) → (b : ℕ) → 1 ≤ occurs b (data_of v (inode_at v i)) → v b ≡ w b
  unfolding content_of
  file-data content b o = member-place bs b (v b ≡ w b) (occurs-member b bs o) (λ p l e.
      ap v (sym e) ∙ ext_get_or 0 (v (get_or bs p 0)) (w (get_or bs p 0)) (vw _ ∙ sym (ww _)) (λ r u. byte p l r (subst (λ n. r < n) (vw _) u)) ∙ ap w e)
    where
      long : length bs ≡ (size + 511) / 512
      long = data-length N v (inode_bytes v i) sv

      -- below the size: by the content
      inside : (p : ℕ) → p < length bs → (r : ℕ) → r < block_size → block_size * p + r < size → get_or (v (get_or bs p 0)) r 0 ≡ get_or (w (get_or bs p 0)) r 0
      inside p l r u k =
          sym (joined-byte v bs p r vw l u) ∙ sym (get_or-take size (concat (map v bs)) (512 * p + r) 0 k)
          ∙ ap (λ (xs : List ℕ). get_or xs (512 * p + r) 0) (content ∙ ap₂ (λ (n : ℕ) (ds : List ℕ). take n (concat (map w ds))) (sym size_same) (sym blocks-same))
          ∙ get_or-take size (concat (map w bs)) (512 * p + r) 0 k ∙ joined-byte w bs p r ww l u

      -- behind it: S8
      behind : (x : Disk) → all_zero (drop (size % block_size) (x (get_or bs (size / block_size) 0))) ≡ true → (p r : ℕ) → p ≡ size / block_size → size % block_size ≤ r → get_or (x (get_or bs p 0)) r 0 ≡ 0
      behind x z p r e k =
          let d : r ≡ size % 512 + (r - size % 512) = omega arith in
          ap (λ n. get_or (x (get_or bs n 0)) r 0) e ∙ ap (λ n. get_or (x (get_or bs (size / 512) 0)) n 0) d ∙ sym (get_or-drop (size % 512) (x (get_or bs (size / 512) 0)) (r - size % 512) 0)
          ∙ zero-byte (drop (size % 512) (x (get_or bs (size / 512) 0))) (r - size % 512) z

      byte : (p : ℕ) → p < length bs → (r : ℕ) → r < block_size → get_or (v (get_or bs p 0)) r 0 ≡ get_or (w (get_or bs p 0)) r 0
      byte p l r u = go (lt-or-le (block_size * p + r) size)
        where
          go : (block_size * p + r < size) ⊎ (size ≤ block_size * p + r) → get_or (v (get_or bs p 0)) r 0 ≡ get_or (w (get_or bs p 0)) r 0
          go (inl k) = inside p l r u k
          go (inr k) =
              let e : p ≡ size / 512 = omega (arith, long) in
              let m : size % 512 ≤ r = omega (arith, long) in
              let n : size % 512 ≡ 0 → ⊥ = λ z. omega (arith, long, z) in
              let zw = subst (λ (ds : List ℕ). all_zero (drop ((inode_at w i).size % 512) (w (get_or ds ((inode_at w i).size / 512) 0))) ≡ true) (sym blocks-same)
              (sw.tail (λ z. n (ap (λ k. k % 512) size_same ∙ z)))
              in
              let zw' = subst (λ (k : ℕ). all_zero (drop (k % 512) (w (get_or bs (k / 512) 0))) ≡ true) (sym size_same) zw in
              behind v (sv.tail n) p r e m ∙ sym (behind w zw' p r e m)

-- ---- all of them

-- a byte of a record block is one of a record
record-byte : (v : Disk) (b r : ℕ) → inode_start ≤ b → b < data_start → r < block_size → get_or (inode_bytes v (16 * (b - 34) + r / 32)) (r % 32) 0 ≡ get_or (v b) r 0
unfolding inode_bytes
record-byte v b r lo up u =
    let j = 16 * (b - 34) + r / 32 in
    let eb : 34 + j / 16 ≡ b = omega arith in
    let er : 32 * (j % 16) + r % 32 ≡ r = omega arith in
    get_or-take 32 (drop (32 * (j % 16)) (v (34 + j / 16))) (r % 32) 0 (omega arith) ∙ get_or-drop (32 * (j % 16)) (v (34 + j / 16)) (r % 32) 0
    ∙ ap₂ (λ (x n : ℕ). get_or (v x) n 0) eb er

name_of : (v : Disk) (i : ℕ) → Whole v → is_empty v i ≡ false → is_name (name_at v i) ≡ true
unfolding is_name
name_of v i whole e =
    and_both (eqb (length (name_at v i)) name_size) (not (all_zero (name_at v i)))
    (eq-eqb (length (name_at v i)) name_size (length-take name_size (inode_bytes v i) ∙ (let l = length-record v i whole in omega arith))) (ap not e)

module _ (N : ℕ) (v w : Disk) (vw : Whole v) (ww : Whole w) (gv : Good N v) (gw : Good N w)
    (files : (i : ℕ) → i < inode_count → file_at v i ≡ file_at w i) (maps : (name : List ℕ) → files_of v name ≡ files_of w name)
  where
    empty-same : (i : ℕ) → i < inode_count → is_empty v i ≡ is_empty w i
    empty-same i h = ap (λ (f : File). all_zero f.name) (files i h)

    reach-same : (i : ℕ) → i < inode_count → reached_from v i ≡ reached_from w i
    reach-same i h = go (is_empty w i) refl
      where
        go : (t : Bool) → is_empty w i ≡ t → reached_from v i ≡ reached_from w i
        go true e = reached-empty v i (empty-same i h ∙ e) ∙ sym (reached-empty w i e)
        go false e = reached-used v i (empty-same i h ∙ e) ∙ ap (λ (f : File). f.blocks ++ f.nodes) (files i h) ∙ sym (reached-used w i e)

    -- S1 and S7
    bit-same : (b : ℕ) → b < most_blocks → bit v b ≡ bit w b
    bit-same b h = go (in_data N b) refl
      where
        uv : b < bit_count v
        uv = omega (arith, bit-count v vw)

        uw : b < bit_count w
        uw = omega (arith, bit-count w ww)

        go : (t : Bool) → in_data N b ≡ t → bit v b ≡ bit w b
        go true e = sym (gv.sound.counted b uv (inside_of N b e)) ∙ ap (occurs b) (reached-same w v reach-same) ∙ gw.sound.counted b uw (inside_of N b e)
        go false e = gv.sound.outside b uv (outside_of N b e) ∙ sym (gw.sound.outside b uw (outside_of N b e))

    pub table_same : v bitmap_block ≡ w bitmap_block
    unfolding bit bit_count
    table_same =
        sym (bytes_bits (v bitmap_block) (record { full = vw bitmap_block; bytes = gv.table }))
        ∙ ap bytes_of (ext_get_or 0 (bits_of (v bitmap_block)) (bits_of (w bitmap_block)) (bit-count v vw ∙ sym (bit-count w ww)) (λ b u. bit-same b (subst (λ n. b < n) (bit-count v vw) u)))
        ∙ bytes_bits (w bitmap_block) (record { full = ww bitmap_block; bytes = gw.table })

    -- "empty records are all zero"; else S3 to S6
    pub record_same : (i : ℕ) → i < inode_count → inode_bytes v i ≡ inode_bytes w i
    record_same i h = go (is_empty w i) refl
      where
        go : (t : Bool) → is_empty w i ≡ t → inode_bytes v i ≡ inode_bytes w i
        go true e =
            zero_same (inode_bytes v i) (inode_bytes w i) (length-record v i vw ∙ sym (length-record w i ww)) (gv.sound.empties i h (empty-same i h ∙ e)) (gw.sound.empties i h e)
        go false e =
            file-record N v w i vw ww (gv.sound.files i h (empty-same i h ∙ e)) (gw.sound.files i h e) (files i h) (gv.files i h).record-bytes (gw.files i h).record-bytes

    pub records-same : (b : ℕ) → inode_start ≤ b → b < data_start → v b ≡ w b
    records-same b lo up =
        ext_get_or 0 (v b) (w b) (vw b ∙ sym (ww b)) (λ r u.
        let l : r < 512 = subst (λ n. r < n) (vw b) u in
        sym (record-byte v b r lo up l) ∙ ap (λ (xs : List ℕ). get_or xs (r % 32) 0) (record_same (16 * (b - 34) + r / 32) (omega arith)) ∙ record-byte w b r lo up l)

    content-same : (i : ℕ) → i < inode_count → is_empty w i ≡ false → content_of v (inode_at v i) ≡ content_of w (inode_at w i)
    content-same i h e =
        let name = name_at w i in
        let n = name_of w i ww e in
        let q : name_at v i ≡ name = ap (λ (f : File). f.name) (files i h) in
        let fv : find v name ≡ some i = ap (find v) (sym q) ∙ own_name N v gv.sound i h (empty-same i h ∙ e) in
        let fw : find w name ≡ some i = own_name N w gw.sound i h e in
        some-injective (content_of v (inode_at v i)) (content_of w (inode_at w i))
        (sym (files-named v name n ∙ ap (λ (o : Option ℕ). found o none (λ i. some (content_of v (inode_at v i)))) fv)
        ∙ maps name ∙ files-named w name n ∙ ap (λ (o : Option ℕ). found o none (λ i. some (content_of w (inode_at w i)))) fw)

    -- data and extent blocks
    pub reached-blocks : (i : ℕ) → i < inode_count → (b : ℕ) → 1 ≤ occurs b (reached_from v i) → v b ≡ w b
    reached-blocks i h b o = go (is_empty w i) refl
      where
        go : (t : Bool) → is_empty w i ≡ t → v b ≡ w b
        go true e = absurd (let z = rw (reached-empty v i (empty-same i h ∙ e)) at o in omega arith)
        go false e = either (occurs b (data_of v (inode_at v i))) refl
          where
            u : is_empty v i ≡ false
            u = empty-same i h ∙ e

            either : (k : ℕ) → occurs b (data_of v (inode_at v i)) ≡ k → v b ≡ w b
            either (suc k) q = file-data N v w i vw ww (gv.sound.files i h u) (gw.sound.files i h e) (files i h) (content-same i h e) b (omega (arith, q))
            either zero q =
                file-nodes N v w i vw ww (gv.sound.files i h u) (gw.sound.files i h e) (files i h) ((gv.files i h).node-bytes u) ((gw.files i h).node-bytes e) b
                (let z = rw (reached-used v i u) at o in omega (arith, q, occurs-append b (data_of v (inode_at v i)) (nodes_of v (inode_at v i))))
