-- Laws of reading a file stretch by stretch. Assumes nothing.
use Prim.Native.Nat.{ℕ, zero, suc, ◌+◌, ◌*◌, ◌-◌, ◌/◌, ◌%◌, ◌<◌, ◌≤◌, min}
use mathlib.Core.Path.{◌≡◌, refl, sym, ap, ◌∙◌}
use mathlib.Core.List.{List, [], ◌∷◌, ◌++◌, map, append_assoc}
use mathlib.Core.Logic.{◌⊎◌, inl, inr}
use native.Mathlib.Nat.{sub-zero}
use native.Mathlib.Omega.{arith}
use lib.ListN.{length, take, drop, length-append, length-take, length-drop, drop_of_length-le, take-append-drop}
use lib.Seq.{take-append-le, drop-append-le, drop-append-add, take-take, take_all, take-nil, drop-nil, drop-drop}
use Rattle.spec.specs.Bytes.{concat, up_from}
use Rattle.spec.specs.Disk.{Disk}
use Rattle.spec.specs.declared.Extent.{Extent}
use Rattle.spec.specs.Inode.{inode_at, data_of, blocks_in}
use Rattle.spec.specs.Map.{content_of}
use Rattle.block.proofs.Laws.{lt-or-le}
use Rattle.block.proofs.Lists.{concat-map-append}
use Rattle.inode.proofs.Laws.{drop-take}
use Rattle.extents.specs.Stretches.{blocks_at}
use Rattle.extents.proofs.Laws.{piece-counts}
use Rattle.file.specs.Bytes.{run_bytes, block_bytes, Filled}
use Rattle.file.proofs.Laws.{run_length, landed, landed_none, landed-length, landed-step}

-- ---- bytes of blocks

concat-drop : (v : Disk) → ((b : ℕ) → length (v b) ≡ 512) → (p : ℕ) (bs : List ℕ) → drop (512 * p) (concat (map v bs)) ≡ concat (map v (drop p bs))
concat-drop v w zero bs = refl
concat-drop v w (suc p) [] = drop-nil (512 * suc p)
concat-drop v w (suc p) (b ∷ bs) =
    let e : 512 * suc p ≡ length (v b) + 512 * p = omega (arith, w b) in
    rw (e, drop-append-add (v b) (concat (map v bs)) (512 * p)) (concat-drop v w p bs)

-- the bytes of the pieces that are left
unfoldable pub left_bytes : Disk → List Extent → List ℕ
left_bytes v ps = concat (map v (blocks_in ps))

left-start : (v : Disk) → ((b : ℕ) → length (v b) ≡ 512) → (i x : ℕ) (ps : List Extent) → length (data_of v (inode_at v i)) ≤ 2048
    → blocks_in ps ≡ blocks_at v i (x / 512) 2048 → drop x (block_bytes v i) ≡ drop (x % 512) (left_bytes v ps)
unfolding block_bytes left_bytes
left-start v w i x ps few s =
    let d = data_of v (inode_at v i) in
    let p = x / 512 in
    let e : x ≡ 512 * p + x % 512 = omega arith in
    let l : length (drop p d) ≤ 2048 = simp length-drop (omega arith) in
    ap (λ (k : ℕ). drop k (concat (map v d))) e
    ∙ sym (drop-drop (x % 512) (512 * p) (concat (map v d)))
    ∙ ap (drop (x % 512)) (concat-drop v w p d ∙ ap (λ (bs : List ℕ). concat (map v bs)) (sym (take_all 2048 (drop p d) l) ∙ sym s))

left-next : (v : Disk) (ps : List Extent) (e : Extent) (qs : List Extent) → ps ≡ e ∷ qs → left_bytes v ps ≡ run_bytes v e.first e.count ++ left_bytes v qs
unfolding left_bytes run_bytes blocks_in
left-next v ps e qs h = rw h (concat-map-append v (up_from e.first e.count) (blocks_in qs))

left-none : (v : Disk) (ps : List Extent) → ps ≡ [] → left_bytes v ps ≡ []
unfolding left_bytes blocks_in
left-none v ps e = rw e

-- ---- one stretch more: w is what is to be read, u the bytes of the run, r those behind it

pub record Goes (w u r : List ℕ) (len done skip n : ℕ) : Type 0 where
  pub part : take n (drop skip u) ≡ take n (drop done w)
  pub within : done + n ≤ length w
  pub rest : drop (done + n) w ≡ take (len - (done + n)) (drop 0 r)

pub goes : (w u r : List ℕ) (len done skip n : ℕ) → skip ≤ length u → done ≤ length w → drop done w ≡ take (len - done) (drop skip (u ++ r))
    → n ≡ min (length u - skip) (len - done) → Goes w u r len done skip n
goes w u r len done skip n h k e q =
    let x = drop skip (u ++ r) in
    let y : drop skip (u ++ r) ≡ drop skip u ++ r = drop-append-le skip u r h in
    let lu : length (drop skip u) ≡ length u - skip = length-drop skip u in
    let lx : length (drop skip (u ++ r)) ≡ length u - skip + length r = ap length y ∙ length-append (drop skip u) r ∙ omega arith in
    let lw : length (drop done w) ≡ length w - done = length-drop done w in
    let ld : length (drop done w) ≡ min (len - done) (length (drop skip (u ++ r))) = ap length e ∙ length-take (len - done) x in
    record {
      part = sym (ap (take n) e ∙ take-take n (len - done) x (omega arith) ∙ ap (take n) y ∙ take-append-le n (drop skip u) r (omega arith));
      within = omega arith;
      rest =
          sym (drop-drop n done w) ∙ ap (drop n) e ∙ drop-take (len - done) n x ∙ ap (λ (m : ℕ). take m (drop n x)) (less len done n)
          ∙ ap (λ (l : List ℕ). take (len - (done + n)) (drop n l)) y ∙ last (lt-or-le n (length u - skip));
    }
  where
    less : (len done n : ℕ) → len - done - n ≡ len - (done + n)
    less len done n = omega arith

    last : (n < length u - skip) ⊎ (length u - skip ≤ n) → take (len - (done + n)) (drop n (drop skip u ++ r)) ≡ take (len - (done + n)) r
    last (inl l) = let z : len - (done + n) ≡ 0 = omega arith in rw z
    last (inr g) =
        let z : n ≡ length (drop skip u) + 0 = omega (arith, length-drop skip u) in
        rw z (ap (take (len - (done + (length (drop skip u) + 0)))) (drop-append-add (drop skip u) r 0))

-- ---- the end

pub filled : (w old to : List ℕ) (done : ℕ) → to ≡ landed w done old → done ≤ length w → length w ≤ done → Filled w old to done
unfolding landed
filled w old to done e h k =
    let q : done ≡ length w = omega arith in
    record { count = q; bytes = e ∙ rw (take_all done w k, q) }

-- nothing is left to read
pub read_out : (w : List ℕ) (len done : ℕ) (x : List ℕ) → drop done w ≡ take (len - done) x → x ≡ [] → length w ≤ done
read_out w len done x e f =
    let l : length (drop done w) ≡ 0 = ap length (e ∙ ap (take (len - done)) f ∙ take-nil (len - done)) in
    omega (arith, length-drop done w)

-- ---- the loop: w is to be read into a buffer that held `old`, and `done` bytes of it are there

pub record Under (v : Disk) (w old to : List ℕ) (ps : List Extent) (skip done : ℕ) : Type 0 where
  pub fits : length old < 18446744073709551616
  pub long : length to ≡ length old
  pub within : done ≤ length w
  pub few : done ≤ length old
  pub low : skip < 512
  pub room : length (blocks_in ps) ≤ 2048
  pub rest : drop done w ≡ take (length old - done) (drop skip (left_bytes v ps))
  pub bytes : to ≡ landed w done old

module _ (v : Disk) (whole : (b : ℕ) → length (v b) ≡ 512) where
  data-few : (i : ℕ) → length (data_of v (inode_at v i)) ≤ 2048
  unfolding data_of
  data-few i = simp length-take (omega arith)

  pub under-start : (i x : ℕ) (old : List ℕ) (ps : List Extent) → length old < 18446744073709551616 → blocks_in ps ≡ blocks_at v i (x / 512) 2048
      → Under v (take (length old) (drop x (block_bytes v i))) old old ps (x % 512) 0
  under-start i x old ps h s =
      record {
        fits = h;
        long = refl;
        within = omega arith;
        few = omega arith;
        low = omega arith;
        room = omega (arith, ap length s, length-take 2048 (drop (x / 512) (data_of v (inode_at v i))));
        rest = rw (sub-zero (length old)) (ap (take (length old)) (left-start v whole i x ps (data-few i) s));
        bytes = landed_none (take (length old) (drop x (block_bytes v i))) old;
      }

  module _ (w old to : List ℕ) (ps : List Extent) (skip done : ℕ) (u : Under v w old to ps skip done) where
    pub under_next : (e : Extent) (qs : List Extent) (n k : ℕ) (part : List ℕ) → ps ≡ e ∷ qs → 0 < e.count → n ≡ min (512 * e.count - skip) (length old - done)
        → k ≡ n → part ≡ take n (drop skip (run_bytes v e.first e.count))
        → Under v w old (take done to ++ (part ++ drop k (drop done to))) qs 0 (done + n)
    under_next e qs n k part p z q r f =
        let l = run_length v whole e.first e.count in
        let g = goes w (run_bytes v e.first e.count) (left_bytes v qs) (length old) done skip n (omega (arith, u.low)) u.within
        (u.rest ∙ ap (λ (x : List ℕ). take (length old - done) (drop skip x)) (left-next v ps e qs p)) (omega arith)
        in
        let b = landed-step w old to part done n k u.bytes g.within (omega (arith, u.few)) r (f ∙ g.part) in
        record {
          fits = u.fits;
          long = ap length b ∙ landed-length w old (done + n) g.within (omega (arith, u.few));
          within = g.within;
          few = omega (arith, u.few);
          low = omega arith;
          room = omega (arith, piece-counts ps e qs p, u.room);
          rest = g.rest;
          bytes = b;
        }

    pub under-end : ps ≡ [] → Filled w old to done
    under-end e =
        filled w old to done u.bytes u.within
        (read_out w (length old) done (drop skip (left_bytes v ps)) u.rest (ap (drop skip) (left-none v ps e) ∙ drop-nil skip))

    pub under-full : length old ≤ done → Filled w old to done
    under-full h =
        filled w old to done u.bytes u.within
        (read_out w (length old) done [] (u.rest ∙ (let z : length old - done ≡ 0 = omega arith in rw z)) refl)

-- ---- cut at the size

module _ (v : Disk) (i : ℕ) where
  pub past-size : (x size : ℕ) (old : List ℕ) → size ≡ (inode_at v i).size → size ≤ x → Filled (take (length old) (drop x (content_of v (inode_at v i)))) old old 0
  unfolding content_of
  past-size x size old e h =
      let c = concat (map v (data_of v (inode_at v i))) in
      let l : length (take (inode_at v i).size c) ≤ x = simp length-take (omega arith) in
      rw (drop_of_length-le (take (inode_at v i).size c) l, take-nil {A = ℕ} (length old)) (record { count = refl; bytes = refl })

  pub within-size : (x size n len : ℕ) → size ≡ (inode_at v i).size → x < size → len ≡ min n (size - x)
      → take len (drop x (block_bytes v i)) ≡ take n (drop x (content_of v (inode_at v i)))
  unfolding content_of block_bytes
  within-size x size n len e h q =
      let c = concat (map v (data_of v (inode_at v i))) in
      sym (ap (λ (k : ℕ). take n (drop x (take k c))) (sym e) ∙ ap (take n) (drop-take size x c) ∙ fewer (lt-or-le n (size - x)))
    where
      fewer : (n < size - x) ⊎ (size - x ≤ n) → take n (take (size - x) (drop x (concat (map v (data_of v (inode_at v i)))))) ≡ take len (drop x (concat (map v (data_of v (inode_at v i)))))
      fewer (inl l) = let z : len ≡ n = omega arith in rw z (take-take n (size - x) (drop x (concat (map v (data_of v (inode_at v i))))) (omega arith))
      fewer (inr g) =
          let z : len ≡ size - x = omega arith in
          let t = take (size - x) (drop x (concat (map v (data_of v (inode_at v i))))) in
          rw z (take_all n t (let y : length t ≤ n = simp length-take (omega arith) in y))

-- the buffer's front was lent
pub front-filled : (got want old part : List ℕ) (len r k : ℕ) → take len got ≡ want → len ≤ length old → k ≡ len
    → Filled (take (length (take k (drop 0 old))) got) (take k (drop 0 old)) part r → Filled want old (take 0 old ++ (part ++ drop k (drop 0 old))) r
front-filled got want old part len r k z h q f =
    let l : length (take len old) ≡ len = simp length-take (omega arith) in
    let g : Filled (take (length (take len old)) got) (take len old) part r = rw q at f in
    let w : Filled (take len got) (take len old) part r = rw l at g in
    let m : length (take len got) ≤ length (take len old) = simp length-take (omega arith) in
    rw (← z) (record {
      count = w.count;
      bytes = rw q (ap (λ (x : List ℕ). x ++ drop len old) w.bytes ∙ append_assoc (take len got) (drop (length (take len got)) (take len old)) (drop len old)
          ∙ ap (λ (x : List ℕ). take len got ++ x)
          (sym (drop-append-le (length (take len got)) (take len old) (drop len old) m) ∙ ap (drop (length (take len got))) (take-append-drop len old)));
    })
