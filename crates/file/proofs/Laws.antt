-- Laws of copying stretches. Assumes nothing.
use Prim.Native.Nat.{ℕ, zero, suc, ◌+◌, ◌*◌, ◌-◌, ◌/◌, ◌%◌, ◌<◌, ◌≤◌, min}
use mathlib.Core.Path.{◌≡◌, refl, sym, ap, ◌∙◌}
use mathlib.Core.List.{List, [], ◌∷◌, ◌++◌, append_assoc, append-nil}
use mathlib.Core.Logic.{⊎_elim}
use native.Mathlib.Omega.{arith}
use lib.ListN.{length, take, drop, get_or, replicate, length-append, length-take, length-drop, length-replicate, get_or-append, get_or-eq_default, drop_of_length-le}
use lib.Seq.{ext_get_or, get_or-append_right, get_or-take, take_all, get_or-drop, drop-append-add, drop-append-le, take-append-le, take_at, take-take, drop_at, drop-drop, take-add}
use Rattle.spec.specs.Bytes.{exactly}
use Rattle.spec.specs.Disk.{Disk}
use Rattle.std.proofs.lemmas.List.{get_or-replicate}
use Rattle.block.proofs.Steps.{rest-is}
use Rattle.block.proofs.Laws.{lt-or-le, get_or-exactly, length-exactly, block-byte}
use Rattle.transaction.specs.Places.{view_in}
use Rattle.transaction.proofs.Laws.{view-in-length}
use Rattle.inode.proofs.Laws.{drop-take}
use Rattle.file.specs.Bytes.{run_bytes}

-- ---- a part of a block

module _ (block : List ℕ) (off n : ℕ) (h : off + n ≤ 512) where
  pub part_length : length (take n (drop off (exactly 512 block))) ≡ n
  part_length = simp (length-take, length-drop, length-exactly) (omega arith)

  pub part-byte : (k : ℕ) → k < n → get_or block (off + k) 0 ≡ get_or (take n (drop off (exactly 512 block))) k 0
  part-byte k l =
      sym (get_or-take n (drop off (exactly 512 block)) k 0 l ∙ get_or-drop off (exactly 512 block) k 0 ∙ get_or-exactly 512 block (off + k) (omega arith))

  -- those that are there, and zeros
  pub part-padded : (there past : List ℕ) (from m : ℕ) → from ≡ min (length block) off → m ≡ min (length (take (length block - from) (drop from block))) n
      → there ≡ take m (take (length block - from) (drop from block)) → past ≡ replicate (n - m) 0 → there ++ past ≡ take n (drop off (exactly 512 block))
  part-padded there past from m e f t p =
      let rest = rest-is block off from e in
      let t : there ≡ take m (drop off block) = rw rest at t in
      let f : m ≡ min (length block - off) n = rw (rest, length-drop) at f in
      let a : length there ≡ m = rw t (simp (length-take, length-drop) (omega arith)) in
      let b : length past ≡ n - m = rw p (length-replicate (n - m) 0) in
      let l : length (there ++ past) ≡ n = length-append there past ∙ omega arith in
      ext_get_or 0 (there ++ past) (take n (drop off (exactly 512 block))) (l ∙ sym part_length)
      (λ k h.
      let j : k < n = rw l at h in
      ⊎_elim
      (λ (i : k < m).
      get_or-append there past 0 k (omega arith)
      ∙ rw t (get_or-take m (drop off block) k 0 i)
      ∙ get_or-drop off block k 0
      ∙ part-byte k j)
      (λ (g : m ≤ k).
      get_or-append_right there past k 0 (omega arith)
      ∙ rw p (get_or-replicate (n - m) (k - length there) 0 0 (omega arith))
      ∙ sym (get_or-eq_default block 0 {n = off + k} (omega arith))
      ∙ part-byte k j)
      (lt-or-le k m))

-- ---- the bytes of a run

pub run_length : (v : Disk) → ((b : ℕ) → length (v b) ≡ 512) → (first count : ℕ) → length (run_bytes v first count) ≡ 512 * count
unfolding run_bytes
run_length v w first zero = refl
run_length v w first (suc count) = length-append (v first) (run_bytes v (suc first) count) ∙ omega (arith, w first, run_length v w (suc first) count)

-- within one block of it
pub run-part : (v : Disk) → ((b : ℕ) → length (v b) ≡ 512) → (first count j off n : ℕ) → j < count → off + n ≤ 512
    → take n (drop (512 * j + off) (run_bytes v first count)) ≡ take n (drop off (v (first + j)))
unfolding run_bytes
run-part v w first zero j off n h k = absurd (omega arith)
run-part v w first (suc count) zero off n h k =
    let l : n ≤ length (drop off (v first)) = simp length-drop (omega (arith, w first)) in
    let e : 512 * 0 + off ≡ off = omega arith in
    let f : first + 0 ≡ first = omega arith in
    rw (e, f, drop-append-le off (v first) (run_bytes v (suc first) count) (omega (arith, w first)), take-append-le n (drop off (v first)) (run_bytes v (suc first) count) l)
run-part v w first (suc count) (suc j) off n h k =
    let e : 512 * suc j + off ≡ length (v first) + (512 * j + off) = omega (arith, w first) in
    let f : first + suc j ≡ suc first + j = omega arith in
    rw (e, f, drop-append-add (v first) (run_bytes v (suc first) count) (512 * j + off)) (run-part v w (suc first) count j off n (omega arith) k)

-- one byte of it
run-byte : (v : Disk) → ((b : ℕ) → length (v b) ≡ 512) → (first count i : ℕ) → i < 512 * count → get_or (run_bytes v first count) i 0 ≡ get_or (v (first + i / 512)) (i % 512) 0
run-byte v w first count i h =
    let R = run_bytes v first count in
    let f : 512 * (i / 512) + i % 512 ≡ i = omega arith in
    let p : take 1 (drop i R) ≡ take 1 (drop (i % 512) (v (first + i / 512))) =
    ap (λ (k : ℕ). take 1 (drop k R)) (sym f) ∙ run-part v w first count (i / 512) (i % 512) 1 (omega arith) (omega arith)
    in
    sym (head i R) ∙ ap (λ (l : List ℕ). get_or l 0 0) p ∙ head (i % 512) (v (first + i / 512))
  where
    head : (i : ℕ) (xs : List ℕ) → get_or (take 1 (drop i xs)) 0 0 ≡ get_or xs i 0
    head i xs = let z : i + 0 ≡ i = omega arith in get_or-take 1 (drop i xs) 0 0 (omega arith) ∙ get_or-drop i xs 0 0 ∙ rw z

-- where nothing is staged, bytes of a run that the device has are a part of it
pub run-direct : (l device work : List ℕ) (first count skip len : ℕ) → length l ≡ 0 → skip + len ≤ 512 * count → 512 * first + skip + len ≤ length device
    → take (512 * first + skip + len - (512 * first + skip)) (drop (512 * first + skip) device) ≡ take len (drop skip (run_bytes (view_in l device work) first count))
unfolding view_in
run-direct (x ∷ l) device work first count skip len z h k = absurd (omega arith)
run-direct [] device work first count skip len z h k =
    let v = view_in [] device work in
    let from = 512 * first + skip in
    let n : from + len - from ≡ len = omega arith in
    let w = view-in-length [] device work in
    let a : length (take len (drop from device)) ≡ len = simp (length-take, length-drop) (omega arith) in
    rw n (ext_get_or 0 (take len (drop from device)) (take len (drop skip (run_bytes v first count))) (a ∙ sym (run-few v w))
    (λ i m.
    let j : i < len = rw a at m in
    let e : 512 * (first + (skip + i) / 512) + (skip + i) % 512 ≡ from + i = omega arith in
    get_or-take len (drop from device) i 0 j ∙ get_or-drop from device i 0
    ∙ sym (get_or-take len (drop skip (run_bytes v first count)) i 0 j ∙ get_or-drop skip (run_bytes v first count) i 0
    ∙ run-byte v w first count (skip + i) (omega arith) ∙ block-byte device (first + (skip + i) / 512) ((skip + i) % 512) (omega arith)
    ∙ ap (λ (q : ℕ). get_or device q 0) e)))
  where
    run-few : (v : Disk) → ((b : ℕ) → length (v b) ≡ 512) → length (take len (drop skip (run_bytes v first count))) ≡ len
    run-few v w = simp (length-take, length-drop) (omega (arith, run_length v w first count))

-- what comes next, `done` bytes into a stretch of the run that begins at byte `skip`: n bytes of block k, from byte `off` of it on
pub run-next : (v : Disk) → ((b : ℕ) → length (v b) ≡ 512) → (first count skip len done k off n : ℕ) → skip + len ≤ 512 * count → skip + done ≡ 512 * k + off
    → done + n ≤ len → off + n ≤ 512
    → take n (drop done (take len (drop skip (run_bytes v first count)))) ≡ take n (drop off (v (first + k)))
run-next v w first count skip len done k off zero h f l m = refl
run-next v w first count skip len done k off (suc n) h f l m =
    let R = run_bytes v first count in
    ap (take (suc n)) (drop-take len done (drop skip R))
    ∙ take-take (suc n) (len - done) (drop done (drop skip R)) (omega arith)
    ∙ ap (take (suc n)) (drop-drop done skip R)
    ∙ ap (λ (i : ℕ). take (suc n) (drop i R)) f
    ∙ run-part v w first count k off (suc n) (omega arith) m

-- ---- a stretch lands behind the one before it

-- the first `done` bytes of w are in place, the others as they were
unfoldable pub landed : List ℕ → ℕ → List ℕ → List ℕ
landed w done old = take done w ++ drop done old

pub landed_none : (w old : List ℕ) → old ≡ landed w 0 old
unfolding landed
landed_none w old = refl

pub landed-length : (w old : List ℕ) (done : ℕ) → done ≤ length w → done ≤ length old → length (landed w done old) ≡ length old
unfolding landed
landed-length w old done h k = simp (length-append, length-take, length-drop) (omega arith)

-- n more bytes, lent and come back
pub landed-more : (w old to : List ℕ) (done n : ℕ) → to ≡ landed w done old → done + n ≤ length w → done + n ≤ length old
    → take done to ++ (take n (drop done w) ++ drop n (drop done to)) ≡ landed w (done + n) old
unfolding landed
landed-more w old to done n e h k =
    let l : length (take done w) ≡ done = simp length-take (omega arith) in
    rw (e, take_at (take done w) (drop done old) done l, drop_at (take done w) (drop done old) done l, drop-drop n done old, take-add done n w)
    (sym (append_assoc (take done w) (take n (drop done w)) (drop (done + n) old)))

pub landed-all : (w old to : List ℕ) (done : ℕ) → to ≡ landed w done old → length w ≡ length old → length old ≤ done → to ≡ w
unfolding landed
landed-all w old to done e l h =
    e ∙ rw (take_all done w (omega arith), drop_of_length-le old h) (append-nil w)

-- the same as code has it: the part lent is `k` bytes long, and what came back is the part of w that belongs there
pub landed-step : (w old to part : List ℕ) (done n k : ℕ) → to ≡ landed w done old → done + n ≤ length w → done + n ≤ length old → k ≡ n
    → part ≡ take n (drop done w) → take done to ++ (part ++ drop k (drop done to)) ≡ landed w (done + n) old
landed-step w old to part done n k e h m q f = rw (q, f) (landed-more w old to done n e h m)

-- bytes of a block of the working copy
pub part_of : (block x lent part : List ℕ) (off n : ℕ) → part ≡ take (length lent) (drop off (exactly 512 block)) → length lent ≡ n → exactly 512 block ≡ x
    → part ≡ take n (drop off x)
part_of block x lent part off n e l f = e ∙ rw (l, f)

pub stretch-length : (v : Disk) → ((b : ℕ) → length (v b) ≡ 512) → (first count skip len : ℕ) → skip + len ≤ 512 * count
    → length (take len (drop skip (run_bytes v first count))) ≡ len
stretch-length v w first count skip len h = simp (length-take, length-drop) (omega (arith, run_length v w first count))
