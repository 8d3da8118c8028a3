-- The answers of the tests, for the contracts of this crate.
use Rattle.std.specs.Prelude.{ℕ, Bool, true, ◌&&◌, List, ◌≡◌, Ok, Err}
use Rattle.std.specs.Prelude.{Result as Returned}
use Rattle.spec.specs.declared.Phase.{Phase}
use Rattle.spec.specs.declared.Session.{Session}
use Rattle.spec.specs.declared.Refusal.{Refusal}
use Rattle.spec.specs.declared.Refusal.TheVariants.{BadName, TooLarge, NotReady}
use Rattle.spec.specs.Session.{staged_in}
use Rattle.spec.specs.Inode.{is_name}
use Rattle.spec.specs.Answers.{Result, refuse, accept, require, ◌>>◌}
use Rattle.spec.specs.Transaction.{State}
use Rattle.spec.specs.Calls.{lent_ok, size_fits, is_ready}

-- what the tests of a call return: nothing where all pass, or the first that failed
abbrev pub result_of : Returned (Unit {0}) Refusal → Result Bool
result_of (Ok _) = accept true
result_of (Err r) = refuse r

-- a session on so many blocks, in this phase: all of it that the tests read
pub record Of (blocks : ℕ) (phase : Phase) (s : Session) : Type 0 where
  pub size : s.blocks ≡ blocks
  pub at-phase : s.phase ≡ phase

-- the same, with these blocks staged: all of it that a call reads which changes nothing
pub record Seen (blocks : ℕ) (phase : Phase) (staged : List ℕ) (s : Session) : Type 0 where
  pub head : Of blocks phase s
  pub numbers : staged_in s ≡ staged

-- 1, 2, 3 of two names, and 12: the head of rename
unfoldable pub names_ok : State → List ℕ → List ℕ → Result Bool
names_ok s name new = do
  lent_ok s
  require (is_name name && is_name new) BadName
  require (is_ready s.session.phase) NotReady

-- 1, 2, 3, 4 and 12: the head of write and set size
unfoldable pub name_size_ok : State → List ℕ → ℕ → Result Bool
name_size_ok s name size = do
  lent_ok s
  require (is_name name) BadName
  require (size_fits size) TooLarge
  require (is_ready s.session.phase) NotReady
