-- Laws of a call that stages the record's block, or nothing. Assumes nothing.
use Prim.Native.Nat.{ℕ, ◌<◌, ◌≤◌}
use mathlib.Core.Path.{◌≡◌, refl, sym, ap, ◌∙◌}
use mathlib.Core.List.{List, [], ◌∷◌}
use mathlib.Core.Option.{Option, none, some}
use native.Mathlib.Omega.{arith}
use borrow.Author.Tests.{le-leb, lt-leb}
use lib.ListN.{length, length-append}
use Rattle.spec.specs.Bytes.{place}
use Rattle.spec.specs.declared.Session.{Session}
use Rattle.spec.specs.Session.{staged_in}
use Rattle.spec.specs.Inode.{block_of_inode}
use Rattle.spec.specs.Answers.{done, refused}
use Rattle.spec.specs.Transaction.{State, view, state_of, BlockStore, put, Staged, stage, staged_of, with_staging, ascending}
use Rattle.spec.specs.Calls.{Outcome, left, outcome, settle, staging}
use Rattle.lists.specs.Places.{place-lt}
use Rattle.transaction.specs.Places.{spot, blocks_with}
use Rattle.transaction.proofs.Laws.{stage_is}
use Rattle.content.specs.Content.{with_record}
use Rattle.change.proofs.Staging.{fits-done, fits_not}
use Rattle.update.specs.Records.{Differs, record_stores}
use Rattle.update.proofs.Stores.{record-other}

-- how many blocks are staged once b is
module _ (s : Session) (b : ℕ) (few : length (staged_in s) ≤ 32) where
  with-few : spot (staged_in s) b < 32 → length (blocks_with (staged_in s) b) ≤ 32
  unfolding spot blocks_with
  with-few h = go (place b (staged_in s)) refl
    where
      go : (o : Option ℕ) → place b (staged_in s) ≡ o → length (blocks_with (staged_in s) b) ≤ 32
      go none e = let z : length (staged_in s) < 32 = rw e at h in rw e (omega (arith, length-append (staged_in s) (b ∷ [])))
      go (some i) e = rw e few

  with-many : 32 ≤ spot (staged_in s) b → 32 < length (blocks_with (staged_in s) b)
  unfolding spot blocks_with
  with-many h = go (place b (staged_in s)) refl
    where
      go : (o : Option ℕ) → place b (staged_in s) ≡ o → 32 < length (blocks_with (staged_in s) b)
      go none e = let z : 32 ≤ length (staged_in s) = rw e at h in rw e (omega (arith, length-append (staged_in s) (b ∷ [])))
      go (some i) e = let z : 32 ≤ i = rw e at h in absurd (omega (arith, place-lt b i (staged_in s) e))

module _ (s : Session) (device work : List ℕ) (i : ℕ) (bytes : List ℕ) (few : length (staged_in s) ≤ 32) (h : Differs (view (state_of s device work)) i bytes) where
  abbrev before : State
  before = state_of s device work

  abbrev told : List BlockStore → Outcome
  told ws = settle (outcome before) (staging before ws)

  abbrev new : BlockStore
  new = put (block_of_inode i) (with_record i bytes (view before (block_of_inode i)))

  one : record_stores (view before) i bytes ≡ new ∷ []
  one = record-other (view before) i bytes h

  many : length (stage (staged_of before) new).blocks ≡ length (blocks_with (staged_in s) (block_of_inode i))
  many = ap (λ (t : Staged). length t.blocks) (stage_is s device work (block_of_inode i) (with_record i bytes (view before (block_of_inode i))))

  pub record-staged : spot (staged_in s) (block_of_inode i) < 32 → (q : Session) (left-work : List ℕ) → state_of q device left-work ≡ with_staging before (stage (staged_of before) new)
      → left q device left-work done ≡ told (record_stores (view before) i bytes)
  unfolding ascending
  record-staged l q w eq =
      fits-done before (new ∷ []) _ refl q device w
      (le-leb (length (stage (staged_of before) new).blocks) 32 (omega (arith, many, with-few s (block_of_inode i) few l))) eq
      ∙ ap told (sym one)

  pub record-full : 32 ≤ spot (staged_in s) (block_of_inode i) → left s device work (refused 18 []) ≡ told (record_stores (view before) i bytes)
  unfolding ascending
  record-full l =
      fits_not before (new ∷ []) _ refl (lt-leb (length (stage (staged_of before) new).blocks) 32 (omega (arith, many, with-many s (block_of_inode i) few l)))
      ∙ ap told (sym one)
