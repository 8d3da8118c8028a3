-- S1 to S8 of a volume as propositions, and that the tests decide them. Assumes nothing.
use Rattle.std.specs.Prelude.{ℕ, suc, ◌-◌, ◌<◌, ◌≡◌, refl, Bool, true, false, cond, not, ◌&&◌, ◌↔◌, List, [], ◌∷◌, T, eqb, length, get_or}
use Rattle.std.proofs.Common.{sym, ap, ◌∙◌, arith, eqb-true, eq-eqb}
use Rattle.std.proofs.lemmas.Bool.{false≢true, not-false}
use Rattle.std.proofs.Math.Option.{Option, none, some, some-injective}
use Rattle.spec.specs.Layout.{bitmap_block, inode_count}
use Rattle.spec.specs.Bytes.{same, occurs, found, is_some, all_zero, lowest}
use Rattle.spec.specs.Disk.{Disk, in_data}
use Rattle.spec.specs.Bitmap.{bits_of}
use Rattle.spec.specs.Inode.{inode_bytes, name_at, is_empty, find, reached}
use Rattle.spec.specs.Sound.{first_of_name, file_sound, inode_sound, inode_fault, block_sound, bit_fault, block_fault, volume_sound}
use Rattle.lists.specs.Tests.{and_both, both_true, not-both, false_of}
use Rattle.crash.specs.Machine.{fault-free}
use Rattle.lists.specs.Lowest.{lowest-some, lowest-none, lowest-only, lowest-no, lowest-agree}
use Rattle.logs.specs.Targets.{holds, truth}
use Rattle.block.proofs.Laws.{same_true}
use Rattle.laws.specs.Bytes.{same_of}
use Rattle.laws.specs.Soundness.{Inside, FileSound, inside_of, inside-test, outside_of, outside-test, file-of, file-test}

-- ---- the propositions

-- the bit of block b, and how many bits there are
unfoldable pub bit : Disk → ℕ → ℕ
bit v b = get_or (bits_of (v bitmap_block)) b 0

unfoldable pub bit_count : Disk → ℕ
bit_count v = length (bits_of (v bitmap_block))

-- S1 to S8
pub record VolumeSound (N : ℕ) (v : Disk) : Type 0 where
  -- S1
  pub outside : (b : ℕ) → b < bit_count v → (Inside N b → ⊥) → bit v b ≡ 1
  -- S2
  pub names : (i j : ℕ) → i < inode_count → j < inode_count → is_empty v i ≡ false → name_at v i ≡ name_at v j → i ≡ j
  pub empties : (i : ℕ) → i < inode_count → is_empty v i ≡ true → all_zero (inode_bytes v i) ≡ true
  -- S3 to S6 and S8
  pub files : (i : ℕ) → i < inode_count → is_empty v i ≡ false → FileSound N v (inode_bytes v i)
  -- S7
  pub counted : (b : ℕ) → b < bit_count v → Inside N b → occurs b (reached v) ≡ bit v b

-- ---- names

pub find-some : (v : Disk) (name : List ℕ) (k : ℕ) → find v name ≡ some k → (k < inode_count) × (name_at v k ≡ name)
unfolding find
find-some v name k h =
    let r = lowest-some 0 inode_count (λ i. same (name_at v i) name) k h in
    (r.below, same_true (name_at v k) name r.passes)

pub find_none : (v : Disk) (name : List ℕ) → find v name ≡ none → (k : ℕ) → k < inode_count → name_at v k ≡ name → ⊥
unfolding find
find_none v name h k up e =
    not-both (same_of (name_at v k) name e) (lowest-none 0 inode_count (λ i. same (name_at v i) name) h k (omega arith) up)

pub find-only : (v : Disk) (name : List ℕ) (k : ℕ) → k < inode_count → name_at v k ≡ name
    → ((j : ℕ) → j < inode_count → name_at v j ≡ name → j ≡ k) → find v name ≡ some k
unfolding find
find-only v name k up e only =
    lowest-only 0 inode_count (λ i. same (name_at v i) name) k (omega arith) up (same_of (name_at v k) name e)
    (λ j lo u p. only j u (same_true (name_at v j) name p))

pub find-no : (v : Disk) (name : List ℕ) → ((j : ℕ) → j < inode_count → name_at v j ≡ name → ⊥) → find v name ≡ none
unfolding find
find-no v name h =
    lowest-no 0 inode_count (λ i. same (name_at v i) name)
    (λ j lo up. false_of (same (name_at v j) name) (λ p. h j up (same_true (name_at v j) name p)))

pub find-agree : (v w : Disk) (name : List ℕ) → ((j : ℕ) → j < inode_count → same (name_at w j) name ≡ same (name_at v j) name) → find w name ≡ find v name
unfolding find
find-agree v w name h = lowest-agree 0 inode_count (λ i. same (name_at w i) name) (λ i. same (name_at v i) name) (λ j lo up. h j up)

pub first_of : (v : Disk) (i : ℕ) → first_of_name v i ≡ true → find v (name_at v i) ≡ some i
first_of v i h = go (find v (name_at v i)) refl h
  where
    go : (o : Option ℕ) → find v (name_at v i) ≡ o → found o false (λ j. eqb j i) ≡ true → find v (name_at v i) ≡ some i
    go none e h = absurd (false≢true h)
    go (some j) e h = e ∙ ap some (eqb-true j i h)

pub first-test : (v : Disk) (i : ℕ) → find v (name_at v i) ≡ some i → first_of_name v i ≡ true
first-test v i h = ap (λ (o : Option ℕ). found o false (λ j. eqb j i)) h ∙ eq-eqb i i refl

-- ---- one record

pub record-used : (N : ℕ) (v : Disk) (i : ℕ) → inode_sound N v i ≡ true → is_empty v i ≡ false → (first_of_name v i && file_sound N v (inode_bytes v i)) ≡ true
unfolding inode_sound
record-used N v i h e = rw e at h

pub record-empty : (N : ℕ) (v : Disk) (i : ℕ) → inode_sound N v i ≡ true → is_empty v i ≡ true → all_zero (inode_bytes v i) ≡ true
unfolding inode_sound
record-empty N v i h e = rw e at h

pub record-test : (N : ℕ) (v : Disk) (i : ℕ) → (is_empty v i ≡ true → all_zero (inode_bytes v i) ≡ true)
    → (is_empty v i ≡ false → (first_of_name v i && file_sound N v (inode_bytes v i)) ≡ true) → inode_sound N v i ≡ true
unfolding inode_sound
record-test N v i f g = go (is_empty v i) refl
  where
    go : (t : Bool) → is_empty v i ≡ t → cond t (all_zero (inode_bytes v i)) (first_of_name v i && file_sound N v (inode_bytes v i)) ≡ true
    go true e = f e
    go false e = g e

records-of : (N : ℕ) (v : Disk) → inode_fault N v ≡ none → (i : ℕ) → i < inode_count → inode_sound N v i ≡ true
unfolding inode_fault
records-of N v h i up = not-false (inode_sound N v i) (lowest-none 0 inode_count (λ i. not (inode_sound N v i)) h i (omega arith) up)

records-test : (N : ℕ) (v : Disk) → ((i : ℕ) → i < inode_count → inode_sound N v i ≡ true) → inode_fault N v ≡ none
unfolding inode_fault
records-test N v h = lowest-no 0 inode_count (λ i. not (inode_sound N v i)) (λ i lo up. ap not (h i up))

-- ---- one block

block_inside : (N : ℕ) (reach : List ℕ) (b x : ℕ) → block_sound N reach b x ≡ true → Inside N b → occurs b reach ≡ x
block_inside N reach b x h i = eqb-true (occurs b reach) x (rw (inside-test N b i) at h)

block-outside : (N : ℕ) (reach : List ℕ) (b x : ℕ) → block_sound N reach b x ≡ true → (Inside N b → ⊥) → x ≡ 1
block-outside N reach b x h i = eqb-true x 1 (rw (outside-test N b i) at h)

block-test : (N : ℕ) (reach : List ℕ) (b x : ℕ) → (Inside N b → occurs b reach ≡ x) → ((Inside N b → ⊥) → x ≡ 1) → block_sound N reach b x ≡ true
block-test N reach b x f g = go (in_data N b) refl
  where
    go : (t : Bool) → in_data N b ≡ t → cond t (eqb (occurs b reach) x) (eqb x 1) ≡ true
    go true e = eq-eqb (occurs b reach) x (f (inside_of N b e))
    go false e = eq-eqb x 1 (g (outside_of N b e))

-- the search over the bits is one over the blocks
bits-lowest : (N : ℕ) (reach : List ℕ) (b : ℕ) (xs : List ℕ) → bit_fault N reach b xs ≡ lowest b (length xs) (λ c. not (block_sound N reach c (get_or xs (c - b) 0)))
bits-lowest N reach b [] = refl
bits-lowest N reach b (x ∷ xs) =
    let e : b - b ≡ 0 = omega arith in
    go (block_sound N reach b x) (ap (λ k. not (block_sound N reach b (get_or (x ∷ xs) k 0))) e)
    (bits-lowest N reach (suc b) xs
    ∙ lowest-agree (suc b) (length xs) (λ c. not (block_sound N reach c (get_or xs (c - suc b) 0))) (λ c. not (block_sound N reach c (get_or (x ∷ xs) (c - b) 0)))
    (λ c lo up. let k : c - b ≡ suc (c - suc b) = omega arith in ap (λ k. not (block_sound N reach c (get_or (x ∷ xs) k 0))) (sym k)))
  where
    go : (t : Bool) → not (block_sound N reach b (get_or (x ∷ xs) (b - b) 0)) ≡ not t
        → bit_fault N reach (suc b) xs ≡ lowest (suc b) (length xs) (λ c. not (block_sound N reach c (get_or (x ∷ xs) (c - b) 0)))
        → cond t (bit_fault N reach (suc b) xs) (some b) ≡ lowest b (suc (length xs)) (λ c. not (block_sound N reach c (get_or (x ∷ xs) (c - b) 0)))
    go true e ih = rw e ih
    go false e ih = rw e refl

pub block-lowest : (N : ℕ) (v : Disk) → block_fault N v ≡ lowest 0 (bit_count v) (λ b. not (block_sound N (reached v) b (bit v b)))
unfolding block_fault bit bit_count
block-lowest N v =
    bits-lowest N (reached v) 0 (bits_of (v bitmap_block))
    ∙ lowest-agree 0 (length (bits_of (v bitmap_block))) (λ b. not (block_sound N (reached v) b (get_or (bits_of (v bitmap_block)) (b - 0) 0)))
    (λ b. not (block_sound N (reached v) b (get_or (bits_of (v bitmap_block)) b 0)))
    (λ b lo up. let k : b - 0 ≡ b = omega arith in ap (λ k. not (block_sound N (reached v) b (get_or (bits_of (v bitmap_block)) k 0))) k)

blocks-of : (N : ℕ) (v : Disk) → block_fault N v ≡ none → (b : ℕ) → b < bit_count v → block_sound N (reached v) b (bit v b) ≡ true
blocks-of N v h b up =
    not-false (block_sound N (reached v) b (bit v b))
    (lowest-none 0 (bit_count v) (λ b. not (block_sound N (reached v) b (bit v b))) (sym (block-lowest N v) ∙ h) b (omega arith) (omega arith))

blocks-test : (N : ℕ) (v : Disk) → ((b : ℕ) → b < bit_count v → block_sound N (reached v) b (bit v b) ≡ true) → block_fault N v ≡ none
blocks-test N v h = block-lowest N v ∙ lowest-no 0 (bit_count v) (λ b. not (block_sound N (reached v) b (bit v b))) (λ b lo up. ap not (h b (omega arith)))

-- ---- the whole

pub free-fault : (N : ℕ) (v : Disk) → inode_fault N v ≡ none → block_fault N v ≡ none → volume_sound N v ≡ true
unfolding volume_sound
free-fault N v p q = and_both (not (is_some (inode_fault N v))) (not (is_some (block_fault N v))) (ap (λ o. not (is_some o)) p) (ap (λ o. not (is_some o)) q)

module _ (N : ℕ) (v : Disk) where
  pub volume-of : volume_sound N v ≡ true → VolumeSound N v
  volume-of h =
      let t = fault-free N v h in
      let used : (i : ℕ) → i < inode_count → is_empty v i ≡ false → (first_of_name v i ≡ true) × (file_sound N v (inode_bytes v i) ≡ true) =
      λ i up e. both_true (first_of_name v i) (file_sound N v (inode_bytes v i)) (record-used N v i (records-of N v t.0 i up) e)
      in
      let first : (i : ℕ) → i < inode_count → is_empty v i ≡ false → find v (name_at v i) ≡ some i = λ i up e. first_of v i (used i up e).0 in
      record {
        outside = λ b up o. block-outside N (reached v) b (bit v b) (blocks-of N v t.1 b up) o;
        names = λ i j iu ju e q. some-injective i j (sym (first i iu e) ∙ ap (find v) q ∙ first j ju (ap all_zero (sym q) ∙ e));
        empties = λ i up e. record-empty N v i (records-of N v t.0 i up) e;
        files = λ i up e. file-of N v (inode_bytes v i) (used i up e).1;
        counted = λ b up i. block_inside N (reached v) b (bit v b) (blocks-of N v t.1 b up) i;
      }

  pub own_name : VolumeSound N v → (i : ℕ) → i < inode_count → is_empty v i ≡ false → find v (name_at v i) ≡ some i
  own_name s i up e = find-only v (name_at v i) i up refl (λ j ju q. sym (s.names i j up ju e (sym q)))

  pub volume-test : VolumeSound N v → volume_sound N v ≡ true
  volume-test s =
      free-fault N v
      (records-test N v
      (λ i up. record-test N v i (s.empties i up)
      (λ e. and_both (first_of_name v i) (file_sound N v (inode_bytes v i)) (first-test v i (own_name s i up e)) (file-test N v (inode_bytes v i) (s.files i up e)))))
      (blocks-test N v (λ b up. block-test N (reached v) b (bit v b) (s.counted b up) (s.outside b up)))

  pub volume-sound : T (volume_sound N v) ↔ VolumeSound N v
  volume-sound = (λ t. volume-of (holds (volume_sound N v) t), λ s. truth (volume_sound N v) (volume-test s))

  pub file-sound : (bytes : List ℕ) → T (file_sound N v bytes) ↔ FileSound N v bytes
  file-sound bytes = (λ t. file-of N v bytes (holds (file_sound N v bytes) t), λ s. truth (file_sound N v bytes) (file-test N v bytes s))
