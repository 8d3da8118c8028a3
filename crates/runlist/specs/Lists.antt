-- What the steps of a run list answer, for those who take it in two steps: first the count, then the runs.
use Rattle.std.specs.Prelude.{ℕ, List, [], ◌++◌, length, take, drop, leb, Ok, Err}
use Rattle.std.specs.Prelude.{Result as Returned}
use Rattle.spec.specs.declared.Extent.{Extent}
use Rattle.spec.specs.declared.Refusal.{Refusal}
use Rattle.spec.specs.declared.Refusal.TheVariants.{ListShort}
use Rattle.spec.specs.Answers.{Result, refuse, accept, require, ◌>>=◌, ◌>>◌}
use Rattle.spec.specs.Transaction.{State}
use Rattle.spec.specs.Calls.{file_ok, runs_of}

-- how many runs, or the first test that failed
abbrev pub counts_of : Returned ℕ Refusal → Result ℕ
counts_of (Ok n) = accept n
counts_of (Err r) = refuse r

-- 1, 2, 3, 12, 13, and 19: "Lent list shorter than the run list", of a list of `room` places
unfoldable pub count_ok : State → List ℕ → ℕ → ℕ → ℕ → Result ℕ
count_ok s name from n room = do
  i ← file_ok s name
  require (leb (length (runs_of s i from n)) room) ListShort
  accept (length (runs_of s i from n))

abbrev pub runs_in : State → Result ℕ → ℕ → ℕ → List Extent
runs_in s (refuse r) from n = []
runs_in s (accept i) from n = runs_of s i from n

-- the runs of a stretch of the file of this name, none where there is no such file
unfoldable pub named_runs : State → List ℕ → ℕ → ℕ → List Extent
named_runs s name from n = runs_in s (file_ok s name) from n

-- how many runs are listed under an answer: none where it refuses
abbrev pub many_of : Returned ℕ Refusal → ℕ
many_of (Err r) = 0
many_of (Ok n) = n

-- a list with the first k of these runs in its first k places
unfoldable pub filled : List Extent → ℕ → List Extent → List Extent
filled es k list = take k es ++ drop k list
