-- The cases of a look-up. Assumes nothing.
use Prim.Native.Nat.{ℕ, ◌≤◌}
use mathlib.Core.Path.{◌≡◌, refl, sym, ap, ◌∙◌}
use mathlib.Core.Bool.{Bool, true, false, not, true≢false}
use mathlib.Core.Option.{Option, none, some}
use mathlib.Core.List.{List}
use lib.ListN.{length}
use Rattle.spec.specs.Disk.{Disk}
use Rattle.spec.specs.Inode.{is_name, find, find_empty}
use Rattle.spec.specs.declared.Session.{Session}
use Rattle.spec.specs.declared.Refusal.{Refusal}
use Rattle.spec.specs.declared.Refusal.TheVariants.{BadName, TooLarge, NotReady, Unknown, Taken, NoInode}
use Rattle.spec.specs.Answers.{Result, refuse, accept, require, ◌>>=◌, ◌>>◌}
use Rattle.spec.specs.Transaction.{State, state_of, view}
use Rattle.transaction.specs.Volumes.{working, Shows}
use Rattle.transaction.specs.declared.volume.Volume.{Volume}
use Rattle.transaction.proofs.Laws.{shows-view}
use Rattle.spec.specs.Calls.{lent_ok, name_ok, size_fits, is_ready, is_taken, known, empty_inode, file_ok, sized_ok}
use Rattle.checks.specs.Checks.{names_ok, name_size_ok}
use Rattle.checks.proofs.Laws.{accept≢refuse, then-passed, require-passed, named-says, names-say, sized-says}
use Rattle.inode.specs.Records.{found_of, number_told}
use Rattle.inode.specs.declared.number.InodeNumber.{InodeNumber}
use Rattle.std.specs.Prelude.{Option as Returned, Some, None, ok_or}
use Rattle.std.specs.Prelude.{is_some as given}
use Rattle.spec.specs.Bytes.{found, is_some}
use Rattle.lookup.specs.Looks.{looked_of, new_ok, unless_taken, rename_ok}

pub then-assoc : {A B C : Type 0} (a : Result A) (b : Result B) (x : Result C) → (a >> b) >> x ≡ a >> (b >> x)
then-assoc (refuse r) b x = refl
then-assoc (accept a) b x = refl

-- ---- 13, 14 and 15

-- what a search tells, as a record or a refusal
abbrev told : Returned ℕ → Refusal → Result ℕ
told None r = refuse r
told (Some i) r = accept i

told-found : (o : Option ℕ) (r : Refusal) → told (found_of o) r ≡ found o (refuse r) accept
told-found none r = refl
told-found (some i) r = refl

some-found : (o : Option ℕ) → given (found_of o) ≡ is_some o
some-found none = refl
some-found (some i) = refl

looked-told : (x : Returned InodeNumber) (r : Refusal) → looked_of (ok_or x r) ≡ told (number_told x) r
looked-told None r = refl
looked-told (Some i) r = refl

some-told : (x : Returned InodeNumber) → given x ≡ given (number_told x)
some-told None = refl
some-told (Some i) = refl

module _ (v : Volume) (name : List ℕ) (r : Returned InodeNumber) (f : number_told r ≡ found_of (find (working v.copy) name)) where
  pub known_is : (s : State) → Shows v s → looked_of (ok_or r Unknown) ≡ known s name
  known_is s e =
      looked-told r Unknown
      ∙ rw f (told-found (find (working v.copy) name) Unknown ∙ ap (λ (d : Disk). found (find d name) (refuse Unknown) accept) (shows-view v s e))

  -- the search found nothing, as t tells
  pub free_is : (s : State) (t : Bool) → Shows v s → given r ≡ not t → t ≡ not (is_taken s name)
  free_is s t e q = back t ∙ ap not (sym q ∙ some-told r ∙ rw f (some-found (find (working v.copy) name) ∙ ap (λ (d : Disk). is_some (find d name)) (shows-view v s e)))
    where
      back : (t : Bool) → t ≡ not (not t)
      back true = refl
      back false = refl

module _ (v : Volume) (r : Returned InodeNumber) (f : number_told r ≡ found_of (find_empty (working v.copy))) where
  pub empty_is : (s : State) → Shows v s → looked_of (ok_or r NoInode) ≡ empty_inode s
  empty_is s e =
      looked-told r NoInode
      ∙ rw f (told-found (find_empty (working v.copy)) NoInode ∙ ap (λ (d : Disk). found (find_empty d) (refuse NoInode) accept) (shows-view v s e))

module _ (s : State) (name : List ℕ) where
  -- ---- a file and a size

  module _ (size : ℕ) where
    sized-parts : name_size_ok s name size >> known s name ≡ sized_ok s name size
    unfolding name_size_ok sized_ok
    sized-parts =
        then-assoc (lent_ok s) _ (known s name)
        ∙ ap (λ (x : Result ℕ). lent_ok s >> x)
        (then-assoc (require (is_name name) BadName) _ (known s name)
        ∙ ap (λ (x : Result ℕ). require (is_name name) BadName >> x)
        (then-assoc (require (size_fits size) TooLarge) (require (is_ready s.session.phase) NotReady) (known s name)))

    pub sized-bad : (r : Refusal) → refuse r ≡ name_size_ok s name size → refuse r ≡ sized_ok s name size
    sized-bad r e = ap (λ (x : Result Bool). x >> known s name) e ∙ sized-parts

    pub sized-fine : (t : Bool) → accept t ≡ name_size_ok s name size → known s name ≡ sized_ok s name size
    sized-fine t e = ap (λ (x : Result Bool). x >> known s name) e ∙ sized-parts

-- ---- what a record that was found has shown: the length of the work space, and of a name or a size

module _ (s : Session) (d w name : List ℕ) (i : ℕ) where
  pub file-says : accept i ≡ file_ok (state_of s d w) name → length w ≡ 16384
  unfolding file_ok
  file-says h =
      let p = then-passed (name_ok (state_of s d w) name) _ i h in
      (named-says s d w name p.value p.first).0

  pub new-says : accept i ≡ new_ok (state_of s d w) name → (length w ≡ 16384) × (length name ≡ 8)
  unfolding new_ok
  new-says h =
      let p = then-passed (name_ok (state_of s d w) name) _ i h in
      named-says s d w name p.value p.first

  pub rename-says : (new : List ℕ) → accept i ≡ rename_ok (state_of s d w) name new → (length w ≡ 16384) × (length new ≡ 8)
  unfolding rename_ok
  rename-says new h =
      let p = then-passed (names_ok (state_of s d w) name new) _ i h in
      names-say s d w name new p.value p.first

  -- a name that no file has
  not_taken : (new : List ℕ) (y : Bool) → accept y ≡ require (not (is_taken (state_of s d w) new)) Taken → find (view (state_of s d w)) new ≡ none
  not_taken new y h = go (find (view (state_of s d w)) new) refl
    where
      go : (o : Option ℕ) → find (view (state_of s d w)) new ≡ o → o ≡ none
      go none e = refl
      go (some k) e = let z = require-passed (not (is_taken (state_of s d w) new)) y Taken h in let q : false ≡ true = rw e at z in absurd (true≢false (sym q))

  pub new-free : accept i ≡ new_ok (state_of s d w) name → find (view (state_of s d w)) name ≡ none
  unfolding new_ok
  new-free h =
      let p = then-passed (name_ok (state_of s d w) name) _ i h in
      let q = then-passed (require (not (is_taken (state_of s d w) name)) Taken) _ i p.rest in
      not_taken name q.value q.first

  pub rename-free : (new : List ℕ) → accept i ≡ rename_ok (state_of s d w) name new → find (view (state_of s d w)) new ≡ none
  unfolding rename_ok unless_taken
  rename-free new h = go (known (state_of s d w) name) (then-passed (names_ok (state_of s d w) name new) _ i h).rest
    where
      go : (k : Result ℕ) → accept i ≡ (k >>= λ j. require (not (is_taken (state_of s d w) new)) Taken >> accept j) → find (view (state_of s d w)) new ≡ none
      go (refuse r) e = absurd (accept≢refuse i r e)
      go (accept j) e = let q = then-passed (require (not (is_taken (state_of s d w) new)) Taken) _ i e in not_taken new q.value q.first

  pub size-says : (size : ℕ) → accept i ≡ sized_ok (state_of s d w) name size → (length w ≡ 16384) × (size ≤ 1048576)
  size-says size h =
      let p = then-passed (name_size_ok (state_of s d w) name size) (known (state_of s d w) name) i (h ∙ sym (sized-parts (state_of s d w) name size)) in
      sized-says s d w name size p.value p.first
