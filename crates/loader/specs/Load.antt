-- A load: the lines of a text, each one committed transaction, step by step.
use Rattle.std.specs.Prelude.{ℕ, Bool, true, cond, List, [], ◌∷◌, length, eqb, Option, None, Ok, Err}
use Rattle.std.specs.Prelude.{Result as Returned}
use Rattle.spec.specs.declared.Phase.{Phase}
use Rattle.spec.specs.declared.Phase.TheVariants.{Closed, Ready, Committing, Recovering}
use Rattle.spec.specs.declared.Session.{Session}
use Rattle.spec.specs.declared.Refusal.TheVariants.{NotReady}
use Rattle.spec.specs.Session.{staged_in}
use Rattle.spec.specs.Answers.{Answer, refused, done, started, stored, idle, counted, file, no_file, run, no_run, refusal_of, refusal_number, value_told, stored_of, is_refused, Result, refuse, accept, require, ◌>>◌}
use Rattle.spec.specs.Transaction.{State, state_of}
use Rattle.spec.specs.Calls.{Outcome, outcome, settle, ready_ok, create, write, commit, advance}
use Rattle.cardfile.specs.Cards.{name_of, amount_bytes}
use Rattle.cardfile.specs.Lines.{Standing, card, too_long, malformed, nothing, standing, line_number, line_fault_number}
use Rattle.loader.specs.declared.Loaded.{Loaded}
use Rattle.loader.specs.declared.Loaded.TheVariants as loaded-cases
use Rattle.loader.specs.declared.LoadFault.{LoadFault}
use Rattle.loader.specs.declared.LoadFault.TheVariants as fault-cases

-- ---- begin

-- "A load begins on a ready session with nothing staged, else it gives 12."; 1, 2, 12
unfoldable pub idle_ok : State → Result Bool
idle_ok s = do
  ready_ok s
  require (eqb (length (staged_in s.session)) 0) NotReady

-- it stores nothing and keeps the session; the load's place is then 0
unfoldable pub begin : State → Outcome
begin s = settle (outcome s) do
  idle_ok s
  accept (outcome s done)

-- ---- a line

-- a call of a line: refused, it leaves the state that the line began with
abbrev pub or_back : State → Outcome → (State → Outcome) → Outcome
or_back s o f = cond (is_refused o.answer) (outcome s o.answer) (f o.after)

-- "Each line is one committed transaction": create, write of the amount at 0, commit; "the refused one leaves nothing"
unfoldable pub store_line : State → List ℕ → List ℕ → Outcome
store_line s name amount = or_back s (create s name) (λ t. or_back s (write t name 0 amount) commit)

-- ---- a step

-- what a step answers: the commit's or the advance's answer, a refusal, or that no line is left
pub data LoadAnswer : Type 0 where
  answered : Answer → LoadAnswer
  none_left : LoadAnswer

-- with what it leaves: the state, and the load's place in the text
pub record LoadOutcome : Type 0 where
  pub answer : LoadAnswer
  pub after : State
  pub next : ℕ

abbrev pub loaded : State → ℕ → LoadAnswer → LoadOutcome
loaded s at a = record { answer = a; after = s; next = at }

-- whether a step leaves all as it was: refused, or no line is left
abbrev pub leaves_all : LoadAnswer → Bool
leaves_all (answered a) = is_refused a
leaves_all none_left = true

-- "Loading stops at the first refused line and names it, counted from 1"
abbrev pub naming : ℕ → Answer → Answer
naming line (refused n vs) = refused n (line ∷ vs)
naming line done = done
naming line (started n) = started n
naming line (stored b l n) = stored b l n
naming line idle = idle
naming line (counted n) = counted n
naming line (file x n) = file x n
naming line no_file = no_file
naming line (run e) = run e
naming line no_run = no_run

-- a line taken up: the load's place moves behind it unless it is refused
abbrev pub taken_up : State → ℕ → ℕ → ℕ → Outcome → LoadOutcome
taken_up s at next line o = loaded o.after (cond (is_refused o.answer) at next) (answered (naming line o.answer))

-- "The card's name is the byte 4 or 7, the serial's bytes, then zeros; its file is the amount in 8 bytes"; "20 line longer than 64 bytes; 21 line not of this form
-- or without its feed"
abbrev pub take_line : State → ℕ → ℕ → Standing → LoadOutcome
take_line s at line (card e next) = taken_up s at next line (store_line s (name_of e.serial) (amount_bytes e.amount))
take_line s at line too_long = loaded s at (answered (refused 20 (line ∷ [])))
take_line s at line malformed = loaded s at (answered (refused 21 (line ∷ [])))
take_line s at line nothing = loaded s at none_left

-- "1, 2 and 12 come before any line"
abbrev pub after_begin : State → List ℕ → ℕ → Result Bool → LoadOutcome
after_begin s text at (refuse r) = loaded s at (answered (refusal_of r))
after_begin s text at (accept t) = take_line s at (line_number text at) (standing text at)

abbrev pub advancing : ℕ → Outcome → LoadOutcome
advancing at o = loaded o.after at (answered o.answer)

-- "on such a session a step takes up the next line or answers that none is left, on a committing one it makes one advance, else it gives 12"
unfoldable pub load_in : State → List ℕ → ℕ → Phase → LoadOutcome
load_in s text at Closed = after_begin s text at (idle_ok s)
load_in s text at Ready = after_begin s text at (idle_ok s)
load_in s text at (Committing d) = advancing at (advance s)
load_in s text at (Recovering d) = after_begin s text at (idle_ok s)

unfoldable pub load_step : State → List ℕ → ℕ → LoadOutcome
load_step s text at = load_in s text at s.session.phase

-- ---- the form of the promise

abbrev pub loaded_of : Returned Loaded LoadFault → LoadAnswer
loaded_of (Ok (loaded-cases.Started n)) = answered (started n)
loaded_of (Ok (loaded-cases.Advanced a)) = answered (stored_of (Ok a))
loaded_of (Ok loaded-cases.NoneLeft) = none_left
loaded_of (Err (fault-cases.Refused r)) = answered (refusal_of r)
loaded_of (Err (fault-cases.LineRefused line r)) = answered (naming line (refusal_of r))
loaded_of (Err (fault-cases.BadLine line fault)) = answered (refused (line_fault_number fault) (line ∷ []))

-- the number of an answer that is a refusal, 0 of one that is none, and what it names: the line, or what a refusal before any line names
abbrev pub number_in : LoadAnswer → ℕ
number_in (answered a) = refusal_number a
number_in none_left = 0

abbrev pub named_in : LoadAnswer → Option ℕ
named_in (answered a) = value_told a
named_in none_left = None

abbrev pub left_load : Session → List ℕ → List ℕ → ℕ → LoadAnswer → LoadOutcome
left_load s device work next a = loaded (state_of s device work) next a
