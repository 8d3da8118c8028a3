-- Laws of comparing a block with its new content, and of making that in its image. Assumes nothing.
use Prim.Native.Nat.{ℕ, ◌+◌, ◌*◌, ◌-◌, ◌<◌, ◌≤◌}
use mathlib.Core.Path.{◌≡◌, refl, sym, ap, ap₂, ◌∙◌, fun_ext}
use mathlib.Core.Bool.{Bool, true, false, ◌&&◌, true≢false}
use mathlib.Core.List.{List, [], ◌∷◌, ◌++◌}
use native.Mathlib.Omega.{arith}
use lib.Dec.{eqb}
use lib.Pointwise.{pointwise}
use lib.ListN.{length, take, drop, length-take, length-drop, take-append-drop}
use lib.Seq.{take_all, drop-drop, take-append_seam, drop-append_seam, ext_get_or, get_or-take, get_or-drop}
use Rattle.spec.specs.Bytes.{exactly, part, patch, same}
use Rattle.spec.specs.Disk.{Disk, Slice, slice_of, blocks_of, with_block}
use Rattle.spec.specs.Inode.{block_of_inode, place_of_inode}
use Rattle.spec.specs.declared.Session.{Session}
use Rattle.spec.specs.Session.{staged_in, with_staged}
use Rattle.spec.specs.Transaction.{view, state_of, put, stage, staged_of, with_staging}
use Rattle.lists.specs.Tests.{eqb-turn}
use Rattle.block.specs.Stores.{stored_in}
use Rattle.block.proofs.Laws.{length-exactly, get_or-exactly, exactly-all, block-is, with-same, same_self, same_true}
use Rattle.spec.specs.declared.DiskBlock.{DiskBlock}
use Rattle.transaction.specs.Places.{spot, blocks_with}
use Rattle.transaction.specs.Images.{session_of_image, state_of_image, work_of_image, image_in, Same}
use Rattle.transaction.specs.declared.image.Image.{Image}
use Rattle.transaction.proofs.Laws.{stage-leaves}
use Rattle.inode.specs.Records.{bytes_in}
use Rattle.content.specs.Content.{with_record}
use Rattle.change.specs.Contents.{Ready}

-- ---- what is compared

-- two slices of one type compared
pub same-slices : (xs ys : List ℕ) (r : Bool) → r ≡ pointwise eqb xs ys → r ≡ same xs ys
same-slices xs ys r e = e ∙ go xs ys
  where
    go : (xs ys : List ℕ) → pointwise eqb xs ys ≡ same xs ys
    go [] [] = refl
    go [] (y ∷ ys) = refl
    go (x ∷ xs) [] = refl
    go (x ∷ xs) (y ∷ ys) = ap (λ (t : Bool). eqb x y && t) (go xs ys)

-- a part of some bytes that reach so far is the part of the block
pub part-padded : (xs bytes : List ℕ) (at end : ℕ) (r : Bool) → end ≡ at + length bytes → end ≤ 512 → end ≤ length xs
    → r ≡ same (take (end - at) (drop at xs)) bytes → r ≡ same (bytes_in xs at (length bytes)) bytes
unfolding bytes_in
part-padded xs bytes at end r e fits long h =
    let w = length bytes in
    let n : end - at ≡ w = omega arith in
    let l : length (take w (drop at xs)) ≡ w = simp (length-take, length-drop) (omega arith) in
    let m : length (take w (drop at (exactly 512 xs))) ≡ w = simp (length-take, length-drop, length-exactly) (omega arith) in
    let q : take w (drop at xs) ≡ take w (drop at (exactly 512 xs)) =
    ext_get_or 0 (take w (drop at xs)) (take w (drop at (exactly 512 xs))) (l ∙ sym m)
    (λ i k. let b : i < w = rw l at k in
    get_or-take w (drop at xs) i 0 b ∙ get_or-drop at xs i 0 ∙ sym (get_or-take w (drop at (exactly 512 xs)) i 0 b ∙ get_or-drop at (exactly 512 xs) i 0 ∙ get_or-exactly 512 xs (at + i) (omega arith)))
    in
    h ∙ rw n (ap (λ (x : List ℕ). same x bytes) q)

same_turn : (xs ys : List ℕ) → same xs ys ≡ same ys xs
same_turn [] [] = refl
same_turn [] (y ∷ ys) = refl
same_turn (x ∷ xs) [] = refl
same_turn (x ∷ xs) (y ∷ ys) = ap₂ ◌&&◌ (eqb-turn x y) (same_turn xs ys)

pub part-whole : (xs ys bytes : List ℕ) (at end : ℕ) (r : Bool) → ys ≡ exactly 512 xs → end ≡ at + length bytes → r ≡ same (take (end - at) (drop at ys)) bytes → r ≡ same (bytes_in xs at (length bytes)) bytes
unfolding bytes_in
part-whole xs ys bytes at end r e n h =
    let m : end - at ≡ length bytes = omega arith in
    h ∙ ap₂ (λ (k : ℕ) (zs : List ℕ). same (take k (drop at zs)) bytes) m e

-- the whole block
pub block-compared : (v : Disk) (b : ℕ) (block new : List ℕ) (r : Bool) → exactly 512 block ≡ v b → length new ≡ 512 → r ≡ same (bytes_in block 0 (length new)) new
    → (y : List ℕ) → y ≡ new → r ≡ same y (v b)
unfolding bytes_in
block-compared v b block new r e l h y ey =
    let t : take (length new) (exactly 512 block) ≡ exactly 512 block = take_all (length new) (exactly 512 block) (omega (arith, length-exactly 512 block)) in
    h ∙ ap (λ (z : List ℕ). same z new) (t ∙ e) ∙ same_turn (v b) new ∙ ap (λ (z : List ℕ). same z (v b)) (sym ey)

-- some bytes of a block, instead of the block with these bytes laid over it
module _ (at : ℕ) (new old : List ℕ) (fits : at + length new ≤ length old) where
  laid_same : part at (length new) old ≡ new → patch at new old ≡ old
  laid_same e =
      ap (λ (z : List ℕ). take at old ++ z)
      (ap₂ (λ (x y : List ℕ). x ++ y) (sym e) (sym (drop-drop (length new) at old)) ∙ take-append-drop (length new) (drop at old))
      ∙ take-append-drop at old

  pub laid-back : part at (length new) (patch at new old) ≡ new
  laid-back =
      let l : length (take at old) ≡ at = simp length-take (omega arith) in
      ap (take (length new)) (ap (λ (k : ℕ). drop k (patch at new old)) (sym l) ∙ drop-append_seam (take at old) (new ++ drop (at + length new) old))
      ∙ take-append_seam new (drop (at + length new) old)

  part-compared : same (part at (length new) old) new ≡ same (patch at new old) old
  part-compared = go (same (part at (length new) old) new) refl (same (patch at new old) old) refl
    where
      go : (r : Bool) → same (part at (length new) old) new ≡ r → (t : Bool) → same (patch at new old) old ≡ t → r ≡ t
      go true h t g = sym (ap (λ (z : List ℕ). same z old) (laid_same (same_true (part at (length new) old) new h)) ∙ same_self old) ∙ g
      go false h false g = refl
      go false h true g =
          let e : part at (length new) old ≡ new = ap (part at (length new)) (sym (same_true (patch at new old) old g)) ∙ laid-back in
          absurd (true≢false (sym (ap (λ (z : List ℕ). same z new) e ∙ same_self new) ∙ h))

pub record-compared : (v : Disk) (i at : ℕ) (block new : List ℕ) (r : Bool) → at ≡ place_of_inode i → exactly 512 block ≡ v (block_of_inode i) → length new ≡ 32
    → r ≡ same (bytes_in block at (length new)) new → (y : List ℕ) → y ≡ with_record i new (v (block_of_inode i)) → r ≡ same y (v (block_of_inode i))
unfolding bytes_in with_record
record-compared v i at block new r p e l h y ey =
    let m : length (v (block_of_inode i)) ≡ 512 = sym (ap length e) ∙ length-exactly 512 block in
    h ∙ ap (λ (k : ℕ). same (bytes_in block k (length new)) new) p
    ∙ ap (λ (z : List ℕ). same (part (place_of_inode i) (length new) z) new) e
    ∙ part-compared (place_of_inode i) new (v (block_of_inode i)) (omega arith)
    ∙ ap (λ (z : List ℕ). same z (v (block_of_inode i))) (sym ey)

-- ---- an image

with-twice : (k : ℕ) (x y : List ℕ) (d : Disk) → with_block k x (with_block k y d) ≡ with_block k x d
with-twice k x y d = fun_ext (λ c. go c (eqb c k) refl)
  where
    go : (c : ℕ) (t : Bool) → eqb c k ≡ t → with_block k x (with_block k y d) c ≡ with_block k x d c
    go c true h = rw h
    go c false h = rw h

-- an image that is loaded is ready for any content
pub ready-loaded : (g : List ℕ → List ℕ) (old was work : List ℕ) (j k : ℕ) → k ≡ j → 512 * k + 512 ≤ length work → slice_of work ≡ stored_in (slice_of was) j old → Ready g old was work k
ready-loaded g old was work j k e fits is =
    let loaded : slice_of work ≡ stored_in (slice_of was) k old = is ∙ ap (λ (i : ℕ). stored_in (slice_of was) i old) (sym e) in
    let l : length (take 512 (drop (512 * k) work)) ≡ 512 = simp (length-take, length-drop) (omega arith) in
    record {
      around = λ x. ap (λ (u : Slice). stored_in u k x) loaded ∙ ap (λ (d : Disk). record { size = length was; block = d }) (with-twice k x old (blocks_of was));
      made = ap g (sym (block-is work k ∙ exactly-all 512 (take 512 (drop (512 * k) work)) l) ∙ ap (λ (u : Slice). u.block k) loaded ∙ with-same k old (blocks_of was));
    }

-- a content made in an image m that is ready for it as r, in place as e, and its block put among the staged ones as q: the block is staged with what it makes of the block
pub image-staged : (m r e q : Image) (g : List ℕ → List ℕ)
    → Same m r → session_of_image r ≡ session_of_image m → Ready g (view (state_of_image m) m.block.0) (work_of_image m) (work_of_image r) m.place
    → Same r e → session_of_image e ≡ session_of_image r → slice_of (work_of_image e) ≡ stored_in (slice_of (work_of_image r)) r.place (g (image_in r.place (work_of_image r)))
    → Same e q → work_of_image q ≡ work_of_image e → session_of_image q ≡ with_staged (session_of_image e) (blocks_with (staged_in (session_of_image e)) e.block.0)
    → state_of_image q ≡ with_staging (state_of_image m) (stage (staged_of (state_of_image m)) (put m.block.0 (g (view (state_of_image m) m.block.0))))
image-staged m r e q g mr sr ready re se edit eq work staged =
    let l = m.images.now.lent.now in
    let x = g (view (state_of_image m) m.block.0) in
    let laid : slice_of (work_of_image q) ≡ stored_in (slice_of (work_of_image m)) m.place x =
    ap slice_of work ∙ edit ∙ ap (λ (k : ℕ). stored_in (slice_of (work_of_image r)) k (g (image_in k (work_of_image r)))) mr.place
    ∙ ap (stored_in (slice_of (work_of_image r)) m.place) ready.made ∙ ready.around x
    in
    let session : session_of_image q ≡ with_staged (session_of_image m) (blocks_with (staged_in (session_of_image m)) m.block.0) =
    staged ∙ ap₂ (λ (s : Session) (d : DiskBlock). with_staged s (blocks_with (staged_in s) d.0)) (se ∙ sr) (re.block ∙ mr.block)
    in
    ap (λ (d : List ℕ). state_of (session_of_image q) d (work_of_image q)) (eq.parts.parts.device ∙ re.parts.parts.device ∙ mr.parts.parts.device)
    ∙ stage-leaves (session_of_image m) (session_of_image q) l.device.now (work_of_image m) (work_of_image q) m.block.0 m.place x m.own laid session
