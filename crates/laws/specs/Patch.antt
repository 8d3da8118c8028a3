-- A part of a patched list, and the records of a block in which one is patched. Assumes nothing.
use Rattle.std.specs.Prelude.{ℕ, zero, suc, ◌+◌, ◌-◌, ◌%◌, ◌≤◌, ◌<◌, ◌≡◌, Bool, true, false, ◌⊎◌, List, [], ◌∷◌, ◌++◌, eqb, length, take, drop, get_or}
use Rattle.std.proofs.Math.Path.{refl, ap}
use Rattle.std.proofs.Common.{sym, ◌∙◌, inl, inr, length-take, length-drop, take-append-drop, drop_at, drop-drop, length-take-le, get_or-take, get_or-drop, ext_get_or, arith, eqb-true}
use Rattle.std.proofs.Math.Seq.{take-append-add}
use Rattle.std.proofs.Math.Nat.{zero-sub, sub-zero}
use Rattle.std.proofs.lemmas.Bool.{eqb-false}
use Rattle.spec.specs.Layout.{inode_size, inodes_per_block}
use Rattle.spec.specs.Bytes.{part, patch}
use Rattle.spec.specs.Disk.{Disk}
use Rattle.spec.specs.Inode.{block_of_inode, place_of_inode, inode_bytes}
use Rattle.logs.specs.Stores.{Whole}
use Rattle.block.proofs.Laws.{lt-or-le, length-patch, patch-before, patch-after}

drop-take : (k n : ℕ) (l : List ℕ) → drop k (take n l) ≡ take (n - k) (drop k l)
drop-take zero n l = rw sub-zero
drop-take (suc k) zero l = rw zero-sub
drop-take (suc k) (suc n) [] = sym (nothing (suc n - suc k))
  where
    nothing : (m : ℕ) → ◌≡◌ {A = List ℕ} (take m []) []
    nothing zero = refl
    nothing (suc m) = refl
drop-take (suc k) (suc n) (x ∷ l) = let e : n - k ≡ suc n - suc k = omega arith in drop-take k n l ∙ ap (λ m. take m (drop k l)) e

-- lists of one length that agree there
part_same : (at n : ℕ) (xs ys : List ℕ) → length xs ≡ length ys → ((i : ℕ) → i < n → get_or xs (at + i) 0 ≡ get_or ys (at + i) 0) → part at n xs ≡ part at n ys
part_same at n xs ys l h =
    ext_get_or 0 (part at n xs) (part at n ys)
    (omega (arith, length-take n (drop at xs), length-take n (drop at ys), length-drop at xs, length-drop at ys))
    (λ i u.
    let b : i < n = omega (arith, length-take n (drop at xs)) in
    get_or-take n (drop at xs) i 0 b ∙ get_or-drop at xs i 0 ∙ h i b ∙ sym (get_or-take n (drop at ys) i 0 b ∙ get_or-drop at ys i 0))

module _ (at : ℕ) (new old : List ℕ) (fits : at + length new ≤ length old) where
  -- the new entries, and behind them the old ones
  pub part-patch : (n : ℕ) → length new ≤ n → part at n (patch at new old) ≡ new ++ drop (length new) (part at n old)
  part-patch n h =
      let e : n ≡ length new + (n - length new) = omega arith in
      ap (take n) (drop_at (take at old) (new ++ drop (at + length new) old) at (length-take-le at old (omega arith)))
      ∙ ap (λ m. take m (new ++ drop (at + length new) old)) e
      ∙ take-append-add new (drop (at + length new) old) (n - length new)
      ∙ ap (λ (l : List ℕ). new ++ l)
      (ap (take (n - length new)) (sym (drop-drop (length new) at old)) ∙ sym (drop-take (length new) n (drop at old)))

  part-before : (q n : ℕ) → q + n ≤ at → part q n (patch at new old) ≡ part q n old
  part-before q n h = part_same q n (patch at new old) old (length-patch at new old fits) (λ i u. patch-before at new old fits (q + i) (omega arith))

  part-behind : (q n : ℕ) → at + length new ≤ q → part q n (patch at new old) ≡ part q n old
  part-behind q n h = part_same q n (patch at new old) old (length-patch at new old fits) (λ i u. patch-after at new old fits (q + i) (omega arith))

-- what stands there, laid over itself
pub patch-part : (at n : ℕ) (old : List ℕ) → at + n ≤ length old → patch at (part at n old) old ≡ old
patch-part at n old h =
    let l : length (part at n old) ≡ n = length-take n (drop at old) ∙ omega (arith, length-drop at old) in
    ap (λ k. take at old ++ (part at n old ++ drop (at + k) old)) l
    ∙ ap (λ (z : List ℕ). take at old ++ (part at n old ++ z)) (sym (drop-drop n at old))
    ∙ ap (λ (z : List ℕ). take at old ++ z) (take-append-drop n (drop at old))
    ∙ take-append-drop at old

-- ---- records

pub length-record : (v : Disk) (i : ℕ) → Whole v → length (inode_bytes v i) ≡ inode_size
unfolding inode_bytes
length-record v i whole =
    length-take inode_size (drop (place_of_inode i) (v (block_of_inode i)))
    ∙ omega (arith, length-drop (place_of_inode i) (v (block_of_inode i)), whole (block_of_inode i))

-- disk w has these bytes laid over record i, and its block elsewhere as it was
module _ (v w : Disk) (i : ℕ) (new : List ℕ) (whole : Whole v) (short : length new ≤ inode_size)
    (own : w (block_of_inode i) ≡ patch (place_of_inode i) new (v (block_of_inode i)))
  where
    pub room : place_of_inode i + length new ≤ length (v (block_of_inode i))
    room = omega (arith, whole (block_of_inode i))

    pub inode-new : inode_bytes w i ≡ new ++ drop (length new) (inode_bytes v i)
    unfolding inode_bytes
    inode-new = ap (part (place_of_inode i) inode_size) own ∙ part-patch (place_of_inode i) new (v (block_of_inode i)) room inode_size short

    pub inode-other : (j : ℕ) → (j ≡ i → ⊥) → ((block_of_inode j ≡ block_of_inode i → ⊥) → w (block_of_inode j) ≡ v (block_of_inode j)) → inode_bytes w j ≡ inode_bytes v j
    unfolding inode_bytes
    inode-other j ne rest = go (eqb (block_of_inode j) (block_of_inode i)) refl (lt-or-le (j % inodes_per_block) (i % inodes_per_block))
      where
        mine : block_of_inode j ≡ block_of_inode i → part (place_of_inode j) inode_size (patch (place_of_inode i) new (v (block_of_inode i))) ≡ part (place_of_inode j) inode_size (v (block_of_inode i))
            → part (place_of_inode j) inode_size (w (block_of_inode j)) ≡ part (place_of_inode j) inode_size (v (block_of_inode j))
        mine k q =
            ap (λ b. part (place_of_inode j) inode_size (w b)) k ∙ ap (part (place_of_inode j) inode_size) own ∙ q
            ∙ ap (λ b. part (place_of_inode j) inode_size (v b)) (sym k)

        go : (t : Bool) → eqb (block_of_inode j) (block_of_inode i) ≡ t → (j % inodes_per_block < i % inodes_per_block) ⊎ (i % inodes_per_block ≤ j % inodes_per_block)
            → part (place_of_inode j) inode_size (w (block_of_inode j)) ≡ part (place_of_inode j) inode_size (v (block_of_inode j))
        go false e u = ap (part (place_of_inode j) inode_size) (rest (eqb-false (block_of_inode j) (block_of_inode i) e))
        go true e (inl l) =
            mine (eqb-true (block_of_inode j) (block_of_inode i) e)
            (part-before (place_of_inode i) new (v (block_of_inode i)) room (place_of_inode j) inode_size (omega arith))
        go true e (inr l) =
            let k = eqb-true (block_of_inode j) (block_of_inode i) e in
            let m : i % 16 < j % 16 = omega (arith, ne) in
            mine k (part-behind (place_of_inode i) new (v (block_of_inode i)) room (place_of_inode j) inode_size (omega arith))
