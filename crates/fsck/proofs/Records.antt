-- The tests of one record and of all. Assumes nothing.
use Prim.Native.Nat.{ℕ, ◌+◌, ◌-◌, ◌%◌, ◌<◌, ◌≤◌}
use mathlib.Core.Path.{◌≡◌, refl, sym, ap, ◌∙◌}
use mathlib.Core.Bool.{Bool, true, false, not, ◌&&◌}
use mathlib.Core.List.{List, []}
use mathlib.Core.Option.{Option, none, some}
use native.Mathlib.Omega.{arith}
use lib.Dec.{eqb}
use lib.ListN.{length, take, drop, take-append-drop}
use lib.Seq.{drop-drop}
use Rattle.spec.specs.Bytes.{exactly, part, all_zero}
use Rattle.spec.specs.declared.DiskBlock.{DiskBlock}
use Rattle.spec.specs.Disk.{Disk}
use Rattle.spec.specs.Inode.{inode_bytes, name_at, is_empty, block_of_inode, place_of_inode, reached_from}
use Rattle.filecheck.proofs.Shape.{not-marked}
use Rattle.spec.specs.Sound.{first_of_name, file_sound, inode_sound, inode_fault, block_fault}
use Rattle.lists.specs.Lowest.{lowest-no}
use Rattle.lists.specs.Places.{all_append}
use Rattle.block.proofs.Laws.{length-exactly, exactly-all}
use Rattle.zeros.proofs.Laws.{all_take, all_drop}
use Rattle.std.specs.Prelude.{Option as Returned, Some, None, Ok, Err}
use Rattle.spec.specs.declared.Refusal.TheVariants.{DamagedBlock}
use Rattle.inode.specs.Records.{bytes_in, record_in, found_of, lowest_to}
use Rattle.inode.proofs.Laws.{drop-take, record-at}
use Rattle.marks.specs.Marks.{Kept, reach_to, block_found}
use Rattle.marks.proofs.Laws.{kept-start, kept-end, reach-none, reach-end}
use Rattle.marks.specs.declared.Marks.{Marks}
use Rattle.fsck.specs.declared.NameTable.{NameTable}
use Rattle.fsck.specs.Names.{Told, Passed}
use Rattle.fsck.proofs.Names.{found-none, told-on}
use Rattle.fsck.specs.Damage.{damage_of, unsound}
use Rattle.filecheck.specs.File.{file_blocks, Marked}

-- record i, which is empty or not
module _ (N : ℕ) (v : Disk) (i : ℕ) (r : Bool) (e : r ≡ is_empty v i) where
  -- an empty record reaches no block
  pub inode-empty : (s : Bool) (m : Marks) → r ≡ true → s ≡ all_zero (inode_bytes v i) → Marked N s (inode_sound N v i) m m (reached_from v i)
  unfolding inode_sound reached_from
  inode-empty s m h q =
      let z : is_empty v i ≡ true = sym e ∙ h in
      record { answer = rw z q; marks = λ _. kept-start N m [] (reached_from v i) (rw z) }

  module _ (h : r ≡ false) where
    inode-file : (f : Bool) → first_of_name v i ≡ f → inode_sound N v i ≡ f && file_sound N v (inode_bytes v i)
    unfolding inode_sound
    inode-file f ef = let z : is_empty v i ≡ false = sym e ∙ h in rw (z, ef)

    file-reaches : file_blocks v i ≡ reached_from v i
    unfolding reached_from file_blocks
    file-reaches = let z : is_empty v i ≡ false = sym e ∙ h in rw z

    pub inode-off : (m : Marks) (bs : List ℕ) → first_of_name v i ≡ false → Marked N false (inode_sound N v i) m m bs
    inode-off m bs q = not-marked N (inode_sound N v i) m m bs (sym (inode-file false q))

    pub inode-on : (s : Bool) (m m₀ : Marks) → first_of_name v i ≡ true → Marked N s (file_sound N v (inode_bytes v i)) m m₀ (file_blocks v i)
        → Marked N s (inode_sound N v i) m m₀ (reached_from v i)
    inode-on s m m₀ q g = record {
      answer = g.answer ∙ sym (inode-file true q);
      marks = λ p. kept-end N m [] m₀ _ (g.marks p) _ refl file-reaches;
    }

-- an empty record, its name read: the other 24 bytes are zero too
pub rest-zero : (v : Disk) (t : List ℕ) (i at : ℕ) (s : Bool) → at ≡ place_of_inode i → exactly 512 t ≡ v (block_of_inode i) → is_empty v i ≡ true
    → s ≡ all_zero (bytes_in t (at + 8) (at + 32 - (at + 8))) → s ≡ all_zero (inode_bytes v i)
unfolding bytes_in
rest-zero v t i at s p e z lent =
    let q : s ≡ all_zero (part (place_of_inode i + 8) (place_of_inode i + 32 - (place_of_inode i + 8)) (exactly 512 t)) = lent ∙ rw p in
    let w : place_of_inode i + 32 - (place_of_inode i + 8) ≡ 24 = omega arith in
    let R = record_in t i in
    let d : drop 8 R ≡ part (place_of_inode i + 8) 24 (exactly 512 t) = drop-take 32 8 (drop (place_of_inode i) (exactly 512 t)) ∙ ap (take 24) (drop-drop 8 (place_of_inode i) (exactly 512 t)) in
    let n : all_zero (take 8 R) ≡ true = ap (λ (x : List ℕ). all_zero (take 8 x)) (record-at v t i e) ∙ z in
    let a : s ≡ all_zero (drop 8 R) = q ∙ ap (λ (m : ℕ). all_zero (part (place_of_inode i + 8) m (exactly 512 t))) w ∙ sym (ap all_zero d) in
    let b : all_zero R ≡ all_zero (drop 8 R) =
    ap all_zero (sym (take-append-drop 8 R)) ∙ all_append (λ x. eqb x 0) (take 8 R) (drop 8 R) ∙ ap (λ (y : Bool). y && all_zero (drop 8 R)) n in
    a ∙ sym b ∙ ap all_zero (record-at v t i e)

-- ---- a block of the table that is all zero

module _ (N : ℕ) (v : Disk) (first : ℕ) (whole : first % 16 ≡ 0) (t : List ℕ) (e : t ≡ v (block_of_inode first)) (z : all_zero t ≡ true) where
  zero-record : (j : ℕ) → first ≤ j → j < first + 16 → all_zero (inode_bytes v j) ≡ true
  unfolding inode_bytes
  zero-record j l h =
      let b : block_of_inode j ≡ block_of_inode first = omega arith in
      let w : all_zero (v (block_of_inode j)) ≡ true = ap (λ (k : ℕ). all_zero (v k)) b ∙ ap all_zero (sym e) ∙ z in
      all_take (λ x. eqb x 0) 32 (drop (place_of_inode j) (v (block_of_inode j))) (all_drop (λ x. eqb x 0) (place_of_inode j) (v (block_of_inode j)) w)

  pub zero-name : (j : ℕ) → first ≤ j → j < first + 16 → all_zero (name_at v j) ≡ true
  zero-name j l h = all_take (λ x. eqb x 0) 8 (inode_bytes v j) (zero-record j l h)

  pub zero-reach : (j : ℕ) → first ≤ j → j < first + 16 → reached_from v j ≡ []
  unfolding reached_from
  zero-reach j l h = rw (zero-name j l h)

  zero-sound : (j : ℕ) → first ≤ j → j < first + 16 → unsound N v j ≡ false
  unfolding unsound inode_sound
  zero-sound j l h = rw (zero-name j l h, zero-record j l h)

  pub zero-fault : None ≡ lowest_to (first + 16) (unsound N v) first
  unfolding lowest_to
  zero-fault = sym (ap found_of (lowest-no first (first + 16 - first) (unsound N v) (λ j l h. zero-sound j l (omega arith))))

  -- nothing is to be marked, and no name to be told
  pub zero-passed : ((b : ℕ) → length (v b) ≡ 512) → (m : Marks) (names : NameTable) → Told v names first
      → Passed N v (first + 16) m names m (reach_to v (first + 16) first)
  zero-passed full m names g = record {
    marks = kept-start N m [] (reach_to v (first + 16) first) (sym (reach-none v (first + 16) first zero-reach));
    told = told-on v full names first (first + 16) (omega arith) g zero-name;
  }

-- ---- the records of one block of the table

-- the block that is copied holds record i too
pub table-holds : (v : Disk) (t lent : List ℕ) (first b i : ℕ) → t ≡ exactly 512 lent → exactly 512 lent ≡ v b → b ≡ block_of_inode first
    → first % 16 ≡ 0 → first ≤ i → i < first + 16 → exactly 512 t ≡ v (block_of_inode i)
table-holds v t lent first b i et el eb whole h k =
    let q : block_of_inode first ≡ block_of_inode i = omega arith in
    let l : length t ≡ 512 = ap length et ∙ length-exactly 512 lent in
    exactly-all 512 t l ∙ et ∙ el ∙ ap v (eb ∙ q)

-- the last of them passed
pub passed-end : (N : ℕ) (v : Disk) (n i first : ℕ) (m : Marks) (names : NameTable) (m₀ : Marks) → i ≡ n → Kept N m (reach_to v n i) m₀ (reach_to v n first) → Told v names i
    → Passed N v n m names m₀ (reach_to v n first)
passed-end N v n i first m names m₀ e k g = record {
  marks = kept-end N m (reach_to v n i) m₀ (reach_to v n first) k (reach_to v n first) (reach-end v n i (omega arith)) refl;
  told = rw (← e) g;
}

-- ---- the whole

pub fault-all : (N : ℕ) (v : Disk) → found_of (inode_fault N v) ≡ lowest_to 128 (unsound N v) 0
unfolding inode_fault lowest_to unsound
fault-all N v = refl

pub unsound-by : (N : ℕ) (v : Disk) (i : ℕ) (r t : Bool) → r ≡ inode_sound N v i → not r ≡ t → unsound N v i ≡ t
unfolding unsound
unsound-by N v i r t e h = ap not (sym e) ∙ h

-- a record was found, so not none
pub found_some : {P : Type 0} (i : ℕ) → Some i ≡ found_of none → P
found_some i h = let z : ◌≡◌ {A = ℕ} 0 1 = cc in absurd (omega arith)

-- what is damaged, by the two searches
module _ (N : ℕ) (v : Disk) (r : Returned ℕ) (e : r ≡ found_of (inode_fault N v)) where
  module _ (s : Returned DiskBlock) (x : Returned ℕ) (h : r ≡ None) (f : s ≡ block_found x) (g : x ≡ found_of (block_fault N v)) where
    searched : block_found (found_of (block_fault N v)) ≡ s
    searched = sym (f ∙ ap block_found g)

    pub block-damaged : (b : DiskBlock) → s ≡ Some b → Err (DamagedBlock b) ≡ damage_of (inode_fault N v) (block_fault N v)
    block-damaged b q = rw (found-none (inode_fault N v) (sym e ∙ h)) (go (block_fault N v) (searched ∙ q))
      where
        go : (o : Option ℕ) → block_found (found_of o) ≡ Some b → Err (DamagedBlock b) ≡ damage_of none o
        go none e = cc
        go (some c) e = cc

    pub nothing-damaged : s ≡ None → Ok tt ≡ damage_of (inode_fault N v) (block_fault N v)
    nothing-damaged q = rw (found-none (inode_fault N v) (sym e ∙ h)) (go (block_fault N v) (searched ∙ q))
      where
        go : (o : Option ℕ) → block_found (found_of o) ≡ None → Ok tt ≡ damage_of none o
        go none e = refl
        go (some c) e = cc
