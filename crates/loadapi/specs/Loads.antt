-- A load's answers in the numbers in which they cross to C, and what a step leaves in what C lends.
use Rattle.std.specs.Prelude.{ℕ, ◌≡◌, true, false, cond, List, get_or}
use Rattle.spec.specs.Answers.{refused, done, started, stored, idle, counted, file, no_file, run, no_run}
use Rattle.mirror.specs.Mirror.{numbers_of, encode, Lent, state_in}
use Rattle.loader.specs.Load.{LoadAnswer, answered, none_left, LoadOutcome, load_step, leaves_all}
use Rattle.loadapi.specs.declared.CLoaded.{CLoaded}

-- kind 0: the refusal's number, and the line that it names, counted from 1; 0 where it names none
abbrev pub refused_numbers : ℕ → ℕ → ℕ → CLoaded
refused_numbers n line next = record { refusal = n; kind = 0; line = line; stores = 0; block = 0; last = 0; number = 0; next = next }

-- kind 1: a line taken up, and how many stores its commit has started
abbrev pub taken_numbers : ℕ → ℕ → CLoaded
taken_numbers n next = record { refusal = 0; kind = 1; line = 0; stores = n; block = 0; last = 0; number = 0; next = next }

-- kind 2: an advance, all 0 where nothing is under way
abbrev pub stored_numbers : ℕ → ℕ → ℕ → ℕ → CLoaded
stored_numbers b l n next = record { refusal = 0; kind = 2; line = 0; stores = 0; block = b; last = l; number = n; next = next }

-- a step's answer, and the load's place behind it. Kind 3: no line is left. The last six are no step's answers
unfoldable pub load_numbers : LoadAnswer → ℕ → CLoaded
load_numbers none_left next = record { refusal = 0; kind = 3; line = 0; stores = 0; block = 0; last = 0; number = 0; next = next }
load_numbers (answered (refused n vs)) next = refused_numbers n (get_or vs 0 0) next
load_numbers (answered (started n)) next = taken_numbers n next
load_numbers (answered (stored b l n)) next = stored_numbers b (cond l 1 0) n next
load_numbers (answered idle) next = stored_numbers 0 0 0 next
load_numbers (answered done) next = stored_numbers 0 0 0 next
load_numbers (answered (counted n)) next = stored_numbers 0 0 0 next
load_numbers (answered (file x n)) next = stored_numbers 0 0 0 next
load_numbers (answered no_file) next = stored_numbers 0 0 0 next
load_numbers (answered (run e)) next = stored_numbers 0 0 0 next
load_numbers (answered no_run) next = stored_numbers 0 0 0 next

-- before where the step leaves all as it was, else after
unfoldable pub unless_left : LoadAnswer → List ℕ → List ℕ → List ℕ
unless_left a before after = cond (leaves_all a) before after

-- the form of the promise: what is returned is the answer of the step in numbers; a step that is refused, or finds no line, leaves all that is lent as it was, whatever
-- that is; else what is lent is the state that the step leaves, and the session's numbers are those of `encode`
pub record StepLeaves (r : CLoaded) (before after : Lent) (o : LoadOutcome) : Type 0 where
  pub answer : r ≡ load_numbers o.answer o.next
  pub kept : leaves_all o.answer ≡ true → after ≡ before
  pub state : state_in after ≡ o.after
  pub head : leaves_all o.answer ≡ false → after.numbers ≡ numbers_of (encode o.after.session)

-- a step of a load at the state lent
abbrev pub Loads : CLoaded → Lent → Lent → List ℕ → ℕ → Type 0
Loads r before after text at = StepLeaves r before after (load_step (state_in before) text at)
