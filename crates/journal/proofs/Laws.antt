-- Laws of the stores of a commit and of a recovery, by place. Assumes nothing.
use Prim.Native.Nat.{ℕ, zero, suc, ◌+◌, ◌*◌, ◌<◌, ◌≤◌}
use mathlib.Core.Path.{◌≡◌, refl, sym, ap, ap₂, ◌∙◌}
use mathlib.Core.Bool.{true, false}
use mathlib.Core.List.{List, [], ◌∷◌, ◌++◌}
use mathlib.Core.Option.{none, some}
use native.Mathlib.Nat.{zero-add}
use native.Mathlib.Omega.{arith}
use lib.ListN.{length, get_or, get_elem?, length-append}
use Rattle.spec.specs.Bytes.{zeros, distinct}
use Rattle.spec.specs.Disk.{Disk}
use Rattle.spec.specs.Session.{staged_in}
use Rattle.spec.specs.Transaction.{State, BlockStore, put}
use Rattle.spec.specs.Journal.{header_of, targets_in, are_targets, images_from, redo_from, clearing, staged_stores, commit_stores, recovery_stores}
use Rattle.logs.specs.Stores.{length-images, length-redo}
use Rattle.journal.specs.Order.{rank, in_order, sorted}
use Rattle.journal.proofs.Order.{blank, order-length, order-at, order-blocks, sorted-length, sorted-at}
use Rattle.journal.proofs.Listed.{targets-listed}

-- ---- places of lists

module _ {A : Type 0} where
  at_left : (xs ys : List A) (d : ℕ) → d < length xs → get_elem? (xs ++ ys) d ≡ get_elem? xs d
  at_left [] ys d h = absurd (omega arith)
  at_left (x ∷ xs) ys zero h = refl
  at_left (x ∷ xs) ys (suc d) h = at_left xs ys d (omega arith)

  at_right : (xs ys : List A) (d : ℕ) → get_elem? (xs ++ ys) (length xs + d) ≡ get_elem? ys d
  at_right [] ys d = rw (zero-add d)
  at_right (x ∷ xs) ys d = let e : length (x ∷ xs) + d ≡ suc (length xs + d) = omega arith in rw e (at_right xs ys d)

  pub at-end : (xs : List A) (d : ℕ) → length xs ≤ d → get_elem? xs d ≡ none
  at-end [] d h = refl
  at-end (x ∷ xs) zero h = absurd (omega arith)
  at-end (x ∷ xs) (suc d) h = at-end xs d (omega arith)

image-at : (b : ℕ) (ws : List BlockStore) (i : ℕ) → i < length ws → get_elem? (images_from b ws) i ≡ some (put (b + i) (get_or ws i blank).content)
image-at b [] i h = absurd (omega arith)
image-at b (w ∷ ws) zero h = let e : b ≡ b + 0 = omega arith in ap (λ (n : ℕ). some (put n w.content)) e
image-at b (w ∷ ws) (suc i) h =
    let e : suc b + i ≡ b + suc i = omega arith in
    image-at (suc b) ws i (omega arith) ∙ ap (λ (n : ℕ). some (put n (get_or ws i blank).content)) e

redo-at : (b : ℕ) (d : Disk) (ts : List ℕ) (i : ℕ) → i < length ts → get_elem? (redo_from b d ts) i ≡ some (put (get_or ts i 0) (d (b + i)))
redo-at b d [] i h = absurd (omega arith)
redo-at b d (t ∷ ts) zero h = let e : b ≡ b + 0 = omega arith in ap (λ (n : ℕ). some (put t (d n))) e
redo-at b d (t ∷ ts) (suc i) h =
    let e : suc b + i ≡ b + suc i = omega arith in
    redo-at (suc b) d ts i (omega arith) ∙ ap (λ (n : ℕ). some (put (get_or ts i 0) (d n))) e

-- ---- targets from the log, then the clearing

unfoldable pub redo : Disk → List ℕ → List BlockStore
redo d ts = redo_from 1 d ts ++ clearing

module _ (d : Disk) (ts : List ℕ) where
  pub redo-length : length (redo d ts) ≡ length ts + 1
  unfolding redo
  redo-length = length-append (redo_from 1 d ts) clearing ∙ rw (length-redo 1 d ts)

  pub redo-target : (i : ℕ) → i < length ts → get_elem? (redo d ts) i ≡ some (put (get_or ts i 0) (d (i + 1)))
  unfolding redo
  redo-target i h =
      let e : 1 + i ≡ i + 1 = omega arith in
      at_left (redo_from 1 d ts) clearing i (rw (length-redo 1 d ts) h) ∙ redo-at 1 d ts i h ∙ ap (λ (n : ℕ). some (put (get_or ts i 0) (d n))) e

  pub redo-clearing : get_elem? (redo d ts) (length ts) ≡ some (put 0 (zeros 512))
  unfolding redo
  redo-clearing = let e : length ts ≡ length (redo_from 1 d ts) + 0 = omega (arith, length-redo 1 d ts) in rw e (at_right (redo_from 1 d ts) clearing 0)

-- ---- a recovery

module _ (N : ℕ) (d : Disk) where
  pub recovery-stores : are_targets N (targets_in (d 0)) ≡ true → recovery_stores N d ≡ redo d (targets_in (d 0))
  unfolding recovery_stores redo
  recovery-stores h = rw h

  pub recovery-none : are_targets N (targets_in (d 0)) ≡ false → recovery_stores N d ≡ []
  unfolding recovery_stores
  recovery-none h = rw h

  pub recovery-length : are_targets N (targets_in (d 0)) ≡ true → length (recovery_stores N d) ≡ length (targets_in (d 0)) + 1
  recovery-length h = ap length (recovery-stores h) ∙ redo-length d (targets_in (d 0))

-- ---- a commit

pub staged-are : (s : State) → staged_stores s ≡ in_order (staged_in s.session) s.work.block
unfolding staged_stores in_order
staged-are s = refl

module _ (s : State) where
  abbrev bs : List ℕ
  bs = staged_in s.session

  abbrev N : ℕ
  N = s.session.blocks

  pub commit-none : are_targets N bs ≡ false → commit_stores s ≡ []
  unfolding commit_stores
  commit-none h = rw h

  module _ (listed : are_targets N bs ≡ true) where
    abbrev ws : List BlockStore
    ws = in_order bs s.work.block

    differ : distinct bs ≡ true
    differ = (targets-listed N bs listed).differ

    abbrev rest : List BlockStore
    rest = put 0 (header_of (sorted bs)) ∷ redo s.device.block (sorted bs)

    pub commit-stores : commit_stores s ≡ images_from 1 ws ++ rest
    unfolding commit_stores redo
    commit-stores = rw (listed, staged-are s, order-blocks bs differ s.work.block)

    images : length (images_from 1 ws) ≡ length bs
    images = length-images 1 ws ∙ order-length bs s.work.block differ

    pub commit-length : length (commit_stores s) ≡ 2 * length bs + 2
    commit-length =
        ap length commit-stores ∙ length-append (images_from 1 ws) rest
        ∙ rw (images, redo-length s.device.block (sorted bs), sorted-length bs differ) (omega arith)

    -- the target that d others are lower than, and its image
    pub commit-image : (i d : ℕ) → i < length bs → d < length bs → rank (get_or bs i 0) bs ≡ d → get_elem? (commit_stores s) d ≡ some (put (d + 1) (s.work.block i))
    commit-image i d h k r =
        let e : 1 + d ≡ d + 1 = omega arith in
        let w : get_or ws d blank ≡ put (get_or bs i 0) (s.work.block i) = rw (← r) (order-at bs s.work.block differ i h) in
        ap (λ (l : List BlockStore). get_elem? l d) commit-stores ∙ at_left (images_from 1 ws) rest d (rw images k)
        ∙ image-at 1 ws d (rw (order-length bs s.work.block differ) k)
        ∙ ap₂ (λ (n : ℕ) (v : BlockStore). some (put n v.content)) e w

    later : (j d : ℕ) → d ≡ length bs + j → get_elem? (commit_stores s) d ≡ get_elem? rest j
    later j d h =
        ap (λ (l : List BlockStore). get_elem? l d) commit-stores
        ∙ ap (get_elem? (images_from 1 ws ++ rest)) (h ∙ ap (λ (n : ℕ). n + j) (sym images)) ∙ at_right (images_from 1 ws) rest j

    pub commit-list : get_elem? (commit_stores s) (length bs) ≡ some (put 0 (header_of (sorted bs)))
    commit-list = later 0 (length bs) (omega arith)

    pub commit-target : (i d j : ℕ) → i < length bs → j < length bs → d ≡ length bs + 1 + j → rank (get_or bs i 0) bs ≡ j
        → get_elem? (commit_stores s) d ≡ some (put (get_or bs i 0) (s.device.block (j + 1)))
    commit-target i d j h k e r =
        let t : get_or (sorted bs) j 0 ≡ get_or bs i 0 = rw (← r) (sorted-at bs differ i h) in
        later (suc j) d (omega arith) ∙ redo-target s.device.block (sorted bs) j (rw (sorted-length bs differ) k)
        ∙ ap (λ (b : ℕ). some (put b (s.device.block (j + 1)))) t

    pub commit-clearing : (d : ℕ) → d ≡ 2 * length bs + 1 → get_elem? (commit_stores s) d ≡ some (put 0 (zeros 512))
    commit-clearing d e =
        later (suc (length bs)) d (omega arith)
        ∙ ap (get_elem? (redo s.device.block (sorted bs))) (sym (sorted-length bs differ)) ∙ redo-clearing s.device.block (sorted bs)
