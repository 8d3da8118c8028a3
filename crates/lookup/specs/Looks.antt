-- The answers of a look-up, for the contracts of this crate.
use Rattle.std.specs.Prelude.{ℕ, not, List, Ok, Err}
use Rattle.std.specs.Prelude.{Result as Returned}
use Rattle.spec.specs.declared.Refusal.{Refusal}
use Rattle.spec.specs.declared.Refusal.TheVariants.{Taken}
use Rattle.spec.specs.Answers.{Result, refuse, accept, require, ◌>>=◌, ◌>>◌}
use Rattle.spec.specs.Transaction.{State}
use Rattle.spec.specs.Calls.{name_ok, known, is_taken, empty_inode}
use Rattle.checks.specs.Checks.{names_ok}
use Rattle.inode.specs.declared.number.InodeNumber.{InodeNumber}

-- the record of the file, or the first test that failed
abbrev pub looked_of : Returned InodeNumber Refusal → Result ℕ
looked_of (Ok i) = accept i.n
looked_of (Err r) = refuse r

-- 1, 2, 3, 12, 14 and 15: the record that create takes
unfoldable pub new_ok : State → List ℕ → Result ℕ
new_ok s name = do
  name_ok s name
  require (not (is_taken s name)) Taken
  empty_inode s

-- 13 and 14: the record of a name, where the new name is free
unfoldable pub unless_taken : State → List ℕ → List ℕ → Result ℕ
unless_taken s name new = do
  i ← known s name
  require (not (is_taken s new)) Taken
  accept i

-- 1, 2, 3, 12, 13 and 14: the record that rename changes
unfoldable pub rename_ok : State → List ℕ → List ℕ → Result ℕ
rename_ok s name new = do
  names_ok s name new
  unless_taken s name new
