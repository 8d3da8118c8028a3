-- Records of 32 bytes: what a name and 24 bytes tell, a file without blocks, and that soundness does not rest on the name. Assumes nothing.
use Rattle.std.specs.Prelude.{ℕ, ◌+◌, ◌*◌, ◌≡◌, Bool, true, false, not, ◌&&◌, eqb, leb, ltb, drop, get_or}
use Rattle.std.proofs.Math.Path.{refl, ap}
use Rattle.std.proofs.Common.{sym, ap₂, ◌∙◌, take_at, drop_at, drop-drop, get_or-drop, not-suc-le-zero, eqb-true, eq-eqb}
use Rattle.std.specs.Bool.{beq}
use mathlib.Core.List.{List, [], ◌∷◌, ◌++◌}
use Rattle.std.proofs.Math.ListN.{length, take, length-append}
use native.Mathlib.Omega.{arith}
use Rattle.std.proofs.lemmas.Bool.{not-true}
use Rattle.spec.specs.Layout.{name_size, inode_size, slots_per_inode, max_depth, max_file_size}
use Rattle.spec.specs.Bytes.{part, all, all_zero, number4, bytes4, exactly}
use Rattle.spec.specs.Disk.{Disk, in_data}
use Rattle.spec.specs.declared.Extent.{Extent}
use Rattle.spec.specs.Inode.{Inode, is_name, inode_of, inode_with, bytes_of_inode, slots_in, used, slots_at, tree_depth, extents_of, levels_of, nodes_of, blocks_in, data_of, blocks_for, levels_for, nodes_for, counts}
use Rattle.spec.specs.Map.{content_of}
use Rattle.spec.specs.Sound.{slots_packed, extent_inside, counts_agree, apart, level_packed, tail_zero, file_sound}
use Rattle.lists.specs.Tests.{both_true}
use Rattle.laws.specs.Soundness.{FileSound, file-of, file-test}
use Rattle.laws.specs.Tree.{extents-flat, levels-flat, nodes-flat}
use Rattle.laws.specs.Content.{zero-byte, zero-size}

pub name-length : (name : List ℕ) → is_name name ≡ true → length name ≡ name_size
unfolding is_name
name-length name h = eqb-true (length name) name_size (both_true (eqb (length name) name_size) (not (all_zero name)) h).0

pub name-nonzero : (name : List ℕ) → is_name name ≡ true → all_zero name ≡ false
unfolding is_name
name-nonzero name h = not-true (all_zero name) (both_true (eqb (length name) name_size) (not (all_zero name)) h).1

-- ---- a name and 24 bytes

abbrev pub told : List ℕ → List ℕ → Inode
told name rest = record { name = name; size = number4 0 rest; depth = get_or rest 4 0; slots = slots_in slots_per_inode (drop 8 rest) }

pub told_is : (name rest : List ℕ) → length name ≡ name_size → inode_of (name ++ rest) ≡ told name rest
unfolding inode_of
told_is [] rest l = absurd (omega arith)
told_is (a ∷ []) rest l = absurd (omega arith)
told_is (a ∷ b ∷ []) rest l = absurd (omega arith)
told_is (a ∷ b ∷ c ∷ []) rest l = absurd (omega arith)
told_is (a ∷ b ∷ c ∷ d ∷ []) rest l = absurd (omega arith)
told_is (a ∷ b ∷ c ∷ d ∷ e ∷ []) rest l = absurd (omega arith)
told_is (a ∷ b ∷ c ∷ d ∷ e ∷ f ∷ []) rest l = absurd (omega arith)
told_is (a ∷ b ∷ c ∷ d ∷ e ∷ f ∷ g ∷ []) rest l = absurd (omega arith)
told_is (a ∷ b ∷ c ∷ d ∷ e ∷ f ∷ g ∷ h ∷ []) rest l = refl
told_is (a ∷ b ∷ c ∷ d ∷ e ∷ f ∷ g ∷ h ∷ x ∷ xs) rest l = absurd (omega arith)

pub told-reserved : (name rest : List ℕ) → length name ≡ name_size → part 13 3 (name ++ rest) ≡ part 5 3 rest
told-reserved name rest l = ap (take 3) (sym (drop-drop 5 8 (name ++ rest)) ∙ ap (drop 5) (drop_at name rest 8 l))

-- ---- a file without blocks

pub record Bare (bytes : List ℕ) : Type 0 where
  pub size : (inode_of bytes).size ≡ 0
  pub depth : (inode_of bytes).depth ≡ 0
  pub slots : used (inode_of bytes).slots ≡ []

module _ (v : Disk) (bytes : List ℕ) (bare : Bare bytes) where
  bare-extents : extents_of v (inode_of bytes) ≡ []
  bare-extents = extents-flat v (inode_of bytes) bare.depth ∙ bare.slots

  pub bare-data : data_of v (inode_of bytes) ≡ []
  unfolding data_of blocks_in
  bare-data = ap (λ (es : List Extent). take 2048 (blocks_in es)) bare-extents

  pub bare-nodes : nodes_of v (inode_of bytes) ≡ []
  bare-nodes = nodes-flat v (inode_of bytes) bare.depth

  pub bare-sound : (N : ℕ) → slots_packed (inode_of bytes).slots ≡ true → all_zero (part 13 3 bytes) ≡ true → FileSound N v bytes
  unfolding levels_for
  bare-sound N packed reserved =
      let n = inode_of bytes in
      let z = bare.size in
      let d = bare.depth in
      record {
        size_limit = omega arith;
        depth_limit = omega arith;
        reserved = reserved;
        top_packed = packed;
        nodes_inside = λ b o. absurd (not-suc-le-zero (rw bare-nodes at o));
        nodes_packed = λ b o. absurd (not-suc-le-zero (rw bare-nodes at o));
        extents_inside = rw bare-extents tt;
        counts_below = rw d tt;
        counts_top = rw (bare.slots, z);
        maximal = rw bare-extents;
        deep = λ q. absurd (omega arith);
        many = λ q. absurd (not-suc-le-zero (rw bare-extents at q));
        node_count = rw (bare-extents, bare-nodes);
        nodes_full = rw (levels-flat v n d) tt;
        tail = λ q. absurd (q (omega arith));
      }

-- a record of zeros
pub zero-bare : (bytes : List ℕ) → all_zero bytes ≡ true → Bare bytes
unfolding inode_of slots_in
zero-bare bytes h =
    let a : get_or (drop 16 bytes) 2 0 ≡ 0 = get_or-drop 16 bytes 2 0 ∙ zero-byte bytes 18 h in
    let b : get_or (drop 16 bytes) 3 0 ≡ 0 = get_or-drop 16 bytes 3 0 ∙ zero-byte bytes 19 h in
    let c : get_or (drop 16 bytes) 2 0 + 256 * get_or (drop 16 bytes) 3 0 ≡ 0 = omega arith in
    record {
      size = zero-size bytes h;
      depth = zero-byte bytes 12 h;
      slots = rw (eq-eqb (get_or (drop 16 bytes) 2 0 + 256 * get_or (drop 16 bytes) 3 0) 0 c);
    }

-- a new record: nothing but the name
abbrev pub blank : List ℕ → List ℕ
blank name = bytes_of_inode (inode_with name 0 [] [])

unfoldable blank_tail : List ℕ
blank_tail = bytes4 0 ++ (0 ∷ 0 ∷ 0 ∷ 0 ∷ exactly 16 [])

blank-is : (name : List ℕ) → blank name ≡ name ++ blank_tail
unfolding bytes_of_inode blank_tail
blank-is name = refl

module _ (name : List ℕ) (l : length name ≡ name_size) where
  pub blank-length : length (blank name) ≡ inode_size
  unfolding blank_tail
  blank-length = ap length (blank-is name) ∙ length-append name blank_tail ∙ (let e : length name + 24 ≡ 32 = omega arith in e)

  pub blank-name : take name_size (blank name) ≡ name
  blank-name = ap (take name_size) (blank-is name) ∙ take_at name blank_tail name_size l

  pub blank-rest : all_zero (drop name_size (blank name)) ≡ true
  unfolding blank_tail
  blank-rest = ap (λ (xs : List ℕ). all_zero (drop name_size xs)) (blank-is name) ∙ ap all_zero (drop_at name blank_tail name_size l)

  blank-inode : inode_of (blank name) ≡ told name blank_tail
  blank-inode = ap inode_of (blank-is name) ∙ told_is name blank_tail l

  pub blank-bare : Bare (blank name)
  unfolding blank_tail slots_in
  blank-bare =
      record {
        size = ap (λ (n : Inode). n.size) blank-inode;
        depth = ap (λ (n : Inode). n.depth) blank-inode;
        slots = ap (λ (n : Inode). used n.slots) blank-inode;
      }

  pub blank-sound : (N : ℕ) (v : Disk) → FileSound N v (blank name)
  unfolding blank_tail slots_in
  blank-sound N v =
      bare-sound v (blank name) blank-bare N (ap (λ (n : Inode). slots_packed n.slots) blank-inode)
      (ap (λ (xs : List ℕ). all_zero (part 13 3 xs)) (blank-is name) ∙ ap all_zero (told-reserved name blank_tail l))

-- ---- the name tells nothing of the file

abbrev pub with_name : List ℕ → Inode → Inode
with_name a n = record { name = a; size = n.size; depth = n.depth; slots = n.slots }

pub renamed-inode : (name xs : List ℕ) → length name ≡ name_size → inode_of (name ++ drop name_size xs) ≡ with_name name (inode_of xs)
unfolding inode_of
renamed-inode name xs l =
    told_is name (drop name_size xs) l
    ∙ rw (drop-drop 8 8 xs, get_or-drop 8 xs 0 0, get_or-drop 8 xs 1 0, get_or-drop 8 xs 2 0, get_or-drop 8 xs 3 0, get_or-drop 8 xs 4 0)

module _ (v : Disk) (a : List ℕ) (n : Inode) where
  pub named-data : data_of v (with_name a n) ≡ data_of v n
  unfolding data_of extents_of
  named-data = refl

  pub named-nodes : nodes_of v (with_name a n) ≡ nodes_of v n
  unfolding levels_of
  named-nodes = refl

  pub named-content : content_of v (with_name a n) ≡ content_of v n
  unfolding content_of data_of extents_of
  named-content = refl

-- the test of a file, of what it reads of the record
abbrev file_test : ℕ → Disk → Inode → Bool → Bool
file_test N v n reserved =
    (leb n.size max_file_size && leb n.depth max_depth && reserved)
    && slots_packed n.slots && all (λ b. in_data N b && slots_packed (slots_at v b)) (nodes_of v n)
    && all (extent_inside N) (extents_of v n)
    && counts_agree v (tree_depth n) (used n.slots) && eqb (counts (used n.slots)) (blocks_for n.size)
    && apart (extents_of v n)
    && beq (eqb n.depth 1) (ltb slots_per_inode (length (extents_of v n)))
    && eqb (length (nodes_of v n)) (nodes_for (length (extents_of v n))) && all (level_packed v) (levels_of v n)
    && tail_zero v n

test_of : (N : ℕ) (v : Disk) (xs : List ℕ) → file_sound N v xs ≡ file_test N v (inode_of xs) (all_zero (part 13 3 xs))
unfolding file_sound
test_of N v xs = refl

test-named : (N : ℕ) (v : Disk) (a : List ℕ) (n : Inode) (t : Bool) → file_test N v (with_name a n) t ≡ file_test N v n t
unfolding extents_of levels_of data_of
test-named N v a n t = refl

pub renamed-sound : (N : ℕ) (v : Disk) (name xs : List ℕ) → length name ≡ name_size → FileSound N v xs → FileSound N v (name ++ drop name_size xs)
renamed-sound N v name xs l s =
    let reserved : part 13 3 (name ++ drop name_size xs) ≡ part 13 3 xs = told-reserved name (drop name_size xs) l ∙ ap (take 3) (drop-drop 5 8 xs) in
    file-of N v (name ++ drop name_size xs)
    (test_of N v (name ++ drop name_size xs) ∙ ap₂ (file_test N v) (renamed-inode name xs l) (ap all_zero reserved)
    ∙ test-named N v name (inode_of xs) (all_zero (part 13 3 xs)) ∙ sym (test_of N v xs) ∙ file-test N v xs s)
