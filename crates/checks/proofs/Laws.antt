-- The cases of the tests at the head of a call. Assumes nothing.
use Prim.Native.Nat.{ℕ, ◌*◌, ◌≤◌}
use mathlib.Core.Path.{◌≡◌, refl, sym, ap, ◌∙◌}
use mathlib.Core.Bool.{Bool, true, false, not, ◌&&◌}
use mathlib.Core.List.{List}
use borrow.Author.Tests.{eqb-true, eq-eqb, ne_eqb, leb-true}
use lib.Dec.{eqb, leb}
use lib.ListN.{length, take}
use Rattle.std.specs.Borrow.{Bor}
use Rattle.std.specs.Prelude.{Option, Some, None, MatchOption}
use Rattle.std.specs.Array.{IsWholeChunk}
use Rattle.spec.specs.Bytes.{all_zero}
use Rattle.spec.specs.Disk.{is_allowed}
use Rattle.spec.specs.Inode.{is_name}
use Rattle.block.specs.Keys.{key_of}
use Rattle.block.proofs.Keys.{zero-key}
use Rattle.spec.specs.declared.Phase.{Phase}
use Rattle.spec.specs.declared.Session.{Session}
use Rattle.spec.specs.declared.Refusal.{Refusal}
use Rattle.spec.specs.declared.Refusal.TheVariants.{DeviceSize, WorkSize, BadName, TooLarge}
use Rattle.spec.specs.Answers.{Result, refuse, accept, require, ◌>>◌, Answer}
use Rattle.spec.specs.Transaction.{state_of}
use Rattle.spec.specs.Calls.{Outcome, left, lent_ok, name_ok}
use Rattle.lists.specs.Tests.{both_true}
use Rattle.transaction.specs.Places.{session_of}
use Rattle.transaction.proofs.Laws.{staged-parts}
use Rattle.checks.specs.Checks.{Seen, names_ok, name_size_ok}

-- ---- a session of its parts

-- seen by those of its cells that are in use
pub seen-cells : (blocks : ℕ) (phase : Phase) (cells : List ℕ) (count : ℕ) (l : List ℕ) → l ≡ take count cells → Seen blocks phase l (session_of blocks phase cells count)
seen-cells blocks phase cells count l e =
    record { head = record { size = refl; at-phase = refl }; numbers = staged-parts cells count blocks phase ∙ sym e }

-- ---- 1 and 2, and 12

pub accept≢refuse : {A : Type 0} (a : A) (r : Refusal) → accept a ≡ refuse r → ⊥
accept≢refuse a r e = cc

module _ (s : Session) (d w : List ℕ) where
  -- what the tests 1 and 2 have shown
  pub record Lent : Type 0 where
    pub allowed : is_allowed (length d) ≡ true
    pub device : 512 * s.blocks ≡ length d
    pub work : length w ≡ 16384

  pub lent_says : (t : Bool) → accept t ≡ lent_ok (state_of s d w) → Lent
  unfolding lent_ok
  lent_says t h = go (is_allowed (length d)) refl (eqb (512 * s.blocks) (length d)) refl (eqb (length w) 16384) refl
    where
      go : (a : Bool) → is_allowed (length d) ≡ a → (b : Bool) → eqb (512 * s.blocks) (length d) ≡ b → (x : Bool) → eqb (length w) 16384 ≡ x → Lent
      go true p true q true r = record { allowed = p; device = eqb-true (512 * s.blocks) (length d) q; work = eqb-true (length w) 16384 r }
      go true p true q false r = absurd (accept≢refuse t WorkSize (rw (p, q, r) at h))
      go true p false q x r = absurd (accept≢refuse t DeviceSize (rw (p, q) at h))
      go false p b q x r = absurd (accept≢refuse t DeviceSize (rw p at h))

-- ---- what tests that passed have shown

-- both of two tests
pub record Passed {A B : Type 0} (a : Result A) (b : Result B) (y : B) : Type 0 where
  pub value : A
  pub first : accept value ≡ a
  pub rest : accept y ≡ b

pub then-passed : {A B : Type 0} (a : Result A) (b : Result B) (y : B) → accept y ≡ a >> b → Passed a b y
then-passed (refuse r) b y e = cc
then-passed (accept x) b y e = record { value = x; first = refl; rest = e }

pub require-passed : (t y : Bool) (r : Refusal) → accept y ≡ require t r → t ≡ true
require-passed true y r e = refl
require-passed false y r e = cc

pub name-length : (name : List ℕ) → is_name name ≡ true → length name ≡ 8
unfolding is_name
name-length name h = go (eqb (length name) 8) refl
  where
    go : (t : Bool) → eqb (length name) 8 ≡ t → length name ≡ 8
    go true e = eqb-true (length name) 8 e
    go false e = let z : false ≡ true = rw e at h in cc

module _ (s : Session) (d w name : List ℕ) where
  -- the length of the work space, and of a name
  pub named-says : (t : Bool) → accept t ≡ name_ok (state_of s d w) name → (length w ≡ 16384) × (length name ≡ 8)
  unfolding name_ok
  named-says t h =
      let p = then-passed (lent_ok (state_of s d w)) _ t h in
      let q = then-passed (require (is_name name) BadName) _ t p.rest in
      ((lent_says s d w p.value p.first).work, name-length name (require-passed (is_name name) q.value BadName q.first))

  pub names-say : (new : List ℕ) (t : Bool) → accept t ≡ names_ok (state_of s d w) name new → (length w ≡ 16384) × (length new ≡ 8)
  unfolding names_ok
  names-say new t h =
      let p = then-passed (lent_ok (state_of s d w)) _ t h in
      let q = then-passed (require (is_name name && is_name new) BadName) _ t p.rest in
      ((lent_says s d w p.value p.first).work, name-length new (both_true (is_name name) (is_name new) (require-passed (is_name name && is_name new) q.value BadName q.first)).1)

  pub sized-says : (size : ℕ) (t : Bool) → accept t ≡ name_size_ok (state_of s d w) name size → (length w ≡ 16384) × (size ≤ 1048576)
  unfolding name_size_ok
  sized-says size t h =
      let p = then-passed (lent_ok (state_of s d w)) _ t h in
      let q = then-passed (require (is_name name) BadName) _ t p.rest in
      let r = then-passed (require (leb size 1048576) TooLarge) _ t q.rest in
      ((lent_says s d w p.value p.first).work, leb-true size 1048576 (require-passed (leb size 1048576) r.value TooLarge r.first))

-- ---- answers

-- what is told of a session and an answer
pub told : (q s : Session) (a b : Answer) (d w : List ℕ) (o : Outcome) → q ≡ s → a ≡ b → left s d w b ≡ o → left q d w a ≡ o
told q s a b d w o e f g = rw (e, f) g

-- ---- 3

-- the test of eight bytes, if there are eight: Q is what it tells
pub name-test : (xs : List ℕ) (o : Option (Bor (List ℕ))) (r : Bool) (Q : Bor (List ℕ) → Type 0) → MatchOption o (length xs ≡ 8 → ⊥) (λ y. IsWholeChunk xs y.now 8)
    → MatchOption o (r ≡ false) Q → ((y : Bor (List ℕ)) → Q y → r ≡ not (eqb (key_of y.now) 0)) → r ≡ is_name xs
unfolding is_name
name-test xs None r Q n q h = q ∙ sym (rw (ne_eqb (length xs) 8 n))
name-test xs (Some y) r Q n q h = h y q ∙ rw (eq-eqb (length xs) 8 n.long) (ap not (zero-key y.now (key_of y.now) refl ∙ ap all_zero n.same))
