-- Refusals 13 to 17 and the sentences of staging, over what their tests come to. Assumes nothing.
use Rattle.std.specs.Prelude.{ℕ, ◌-◌, ◌<◌, ◌≡◌, refl, Bool, true, false, not, ◌&&◌, ◌||◌, List, [], ◌∷◌}
use Rattle.std.proofs.Common.{ap, ◌∙◌}
use Rattle.std.specs.Bool.{beq}
use Rattle.std.proofs.Math.Bool.{or-false}
use Rattle.std.proofs.Math.Option.{Option, none, some}
use Rattle.spec.specs.Layout.{data_start, inode_count}
use Rattle.spec.specs.Bytes.{found, all, up_from, is_some}
use Rattle.spec.specs.Disk.{Disk}
use Rattle.spec.specs.Inode.{is_name, inode_at, is_empty, find, find_empty}
use Rattle.spec.specs.Map.{content_of, files_of}
use Rattle.spec.specs.declared.Refusal.{Refusal}
use Rattle.spec.specs.declared.Refusal.TheVariants.{Unknown, Taken, NoInode, NoSpace, TooManyExtents}
use Rattle.spec.specs.Sentences.{File, reaches, bit_changes}
use Rattle.spec.specs.Refusals.{test, first_failed}
use Rattle.lists.specs.Tests.{beq-of}
use Rattle.lists.specs.All.{none_any}
use Rattle.lists.specs.Lowest.{lowest-some, none-lowest}
use Rattle.laws.specs.Reached.{files-named}

-- ---- refusals 13 to 17

abbrev pub first_of : Bool → Bool → Bool → Bool → Bool → Option Refusal
first_of a b c d e = first_failed (test a Unknown ∷ test b Taken ∷ test c NoInode ∷ test d NoSpace ∷ test e TooManyExtents ∷ [])

-- none fires; and the first that does
pub first-none : (a b c d e : Bool) → a ≡ false → b ≡ false → c ≡ false → d ≡ false → e ≡ false → first_of a b c d e ≡ none
first-none a b c d e p q r s t = rw (p, q, r, s, t)

pub first-unknown : (a b c d e : Bool) → a ≡ true → first_of a b c d e ≡ some Unknown
first-unknown a b c d e p = rw p

pub first_taken : (a b c d e : Bool) → a ≡ false → b ≡ true → first_of a b c d e ≡ some Taken
first_taken a b c d e p q = rw (p, q)

pub first-inode : (a b c d e : Bool) → a ≡ false → b ≡ false → c ≡ true → first_of a b c d e ≡ some NoInode
first-inode a b c d e p q r = rw (p, q, r)

pub first-space : (a b c d e : Bool) → a ≡ false → b ≡ false → c ≡ false → d ≡ true → first_of a b c d e ≡ some NoSpace
first-space a b c d e p q r s = rw (p, q, r, s)

pub first-extents : (a b c d e : Bool) → a ≡ false → b ≡ false → c ≡ false → d ≡ false → e ≡ true → first_of a b c d e ≡ some TooManyExtents
first-extents a b c d e p q r s t = rw (p, q, r, s, t)

pub one_of : (t : Bool) → not (not t && true) ≡ t
one_of true = refl
one_of false = refl

pub unknown-one : (t : Bool) → (not (not (not t) && true) || false) ≡ not t
unknown-one true = refl
unknown-one false = refl

-- a name is in the map where a record has it
pub named-known : (v : Disk) (name : List ℕ) → is_name name ≡ true → is_some (files_of v name) ≡ is_some (find v name)
named-known v name h = ap is_some (files-named v name h) ∙ go (find v name)
  where
    go : (o : Option ℕ) → is_some (found o none (λ i. some (content_of v (inode_at v i)))) ≡ is_some o
    go none = refl
    go (some i) = refl

-- 15. "No empty record."
pub none-empty : (v : Disk) → all (λ i. not (is_empty v i)) (up_from 0 inode_count) ≡ not (is_some (find_empty v))
unfolding find_empty
none-empty v = none-lowest (is_empty v) 0 inode_count

pub empty-some : (v : Disk) (i : ℕ) → find_empty v ≡ some i → (i < inode_count) × (is_empty v i ≡ true)
unfolding find_empty
empty-some v i h = let r = lowest-some 0 inode_count (is_empty v) i h in (r.below, r.passes)

-- ---- the sentences of staging

-- files that reach the same blocks change no bit
pub bits-same : (N : ℕ) (f g : File) → ((b : ℕ) → reaches f b ≡ reaches g b) → bit_changes N f g ≡ false
bits-same N f g h = none_any (λ b. not (beq (reaches f b) (reaches g b))) data_start (N - data_start) (λ b lo up. ap not (beq-of (reaches f b) (reaches g b) (h b)))

-- the six sentences where only block 33 and the record's block may be staged
pub two-of-six : (a b c d e f : Bool) (d' e' : Bool) → a ≡ false → b ≡ false → c ≡ false → d ≡ d' → e ≡ e' → f ≡ false → (a || b || c || d || e || f) ≡ (d' || e')
two-of-six a b c d e f d' e' p q r s t u = rw (p, q, r, s, t, u) (or-false (d' || e'))

-- two files are one where their parts are
pub file-is : (a b : List ℕ) (m n : ℕ) (p q r s : List ℕ) → a ≡ b → m ≡ n → p ≡ q → r ≡ s
    → ◌≡◌ {A = File} (record { name = a; size = m; blocks = p; nodes = r }) (record { name = b; size = n; blocks = q; nodes = s })
file-is a b m n p q r s h i j k = rw (h, i, j, k)
