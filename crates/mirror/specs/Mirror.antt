-- Sessions and answers in the numbers in which they cross to C.
use Rattle.std.specs.Prelude.{ℕ, ◌*◌, ◌≡◌, true, false, cond, List, [], ◌∷◌, ◌++◌, length, drop, replicate, get_or, eqb}
use Rattle.spec.specs.declared.Phase.{Phase}
use Rattle.spec.specs.declared.Phase.TheVariants.{Closed, Ready, Committing, Recovering}
use Rattle.spec.specs.declared.Session.{Session}
use Rattle.spec.specs.declared.Extent.{Extent}
use Rattle.spec.specs.Inode.{extent}
use Rattle.spec.specs.Answers.{Answer, refused, done, started, stored, idle, counted, file, no_file, run, no_run, refusal_number, is_refused}
use Rattle.spec.specs.Transaction.{State, state_of}
use Rattle.spec.specs.Calls.{Outcome}
use Rattle.mirror.specs.declared.Head.{Head}
use Rattle.mirror.specs.declared.CFinished.{CFinished}
use Rattle.mirror.specs.declared.CCommitted.{CCommitted}
use Rattle.mirror.specs.declared.CAdvanced.{CAdvanced}
use Rattle.mirror.specs.declared.CCounted.{CCounted}
use Rattle.mirror.specs.declared.CRecord.{CRecord}
use Rattle.mirror.specs.declared.CRun.{CRun}

-- ---- sessions

-- 0 closed, 1 ready, 2 committing, 3 recovering, with the place reached; any other number is closed
unfoldable pub phase_of : ℕ → ℕ → Phase
phase_of n d = cond (eqb n 1) Ready (cond (eqb n 2) (Committing d) (cond (eqb n 3) (Recovering d) Closed))

abbrev pub phase_number : Phase → ℕ
phase_number Closed = 0
phase_number Ready = 1
phase_number (Committing d) = 2
phase_number (Recovering d) = 3

abbrev pub place_in : Phase → ℕ
place_in Closed = 0
place_in Ready = 0
place_in (Committing d) = d
place_in (Recovering d) = d

-- the four numbers as they are lent
abbrev pub head_in : List ℕ → Head
head_in ns = record { blocks = get_or ns 0 0; phase = get_or ns 1 0; place = get_or ns 2 0; count = get_or ns 3 0 }

abbrev pub numbers_of : Head → List ℕ
numbers_of h = h.blocks ∷ h.phase ∷ h.place ∷ h.count ∷ []

-- the session that numbers and cells stand for: any stand for one
abbrev pub decode : Head → List ℕ → Session
decode h staged = record { blocks = h.blocks; phase = phase_of h.phase h.place; staged = staged; count = h.count }

-- the numbers of a session on so many blocks, in this phase, with so many cells in use
abbrev pub head_of : ℕ → Phase → ℕ → Head
head_of blocks p count = record { blocks = blocks; phase = phase_number p; place = place_in p; count = count }

-- its numbers; its cells are lent beside them
abbrev pub encode : Session → Head
encode s = head_of s.blocks s.phase s.count

-- ---- answers

-- refusal 10: "the lowest record that is" wrong; 22 and 23 of open: the record or block "with its number"; 20, 21 and 24 of a conversion: "the line"; 0 for any other answer
abbrev pub fault_in : Answer → ℕ
fault_in (refused n []) = 0
fault_in (refused n (i ∷ vs)) = i
fault_in done = 0
fault_in (started n) = 0
fault_in (stored b l n) = 0
fault_in idle = 0
fault_in (counted n) = 0
fault_in (file x n) = 0
fault_in no_file = 0
fault_in (run e) = 0
fault_in no_run = 0

-- the numbers of an accepted answer, in the paper's order; a refusal has none. A file's: that there is one, and its size
abbrev pub values_of : Answer → List ℕ
values_of (refused n vs) = []
values_of done = []
values_of (started n) = n ∷ []
values_of (stored b l n) = b ∷ cond l 1 0 ∷ n ∷ []
values_of idle = []
values_of (counted n) = n ∷ []
values_of (file x n) = 1 ∷ n ∷ []
values_of no_file = []
values_of (run e) = e.first ∷ e.count ∷ []
values_of no_run = []

-- the name lent behind record i: a file's name, 8 zeros where there is none; a refusal leaves it as it was
abbrev pub name_in : List ℕ → Answer → List ℕ
name_in before (refused n vs) = before
name_in before done = replicate 8 0
name_in before (started n) = replicate 8 0
name_in before (stored b l n) = replicate 8 0
name_in before idle = replicate 8 0
name_in before (counted n) = replicate 8 0
name_in before (file x n) = x
name_in before no_file = replicate 8 0
name_in before (run e) = replicate 8 0
name_in before no_run = replicate 8 0

-- value k of an answer, 0 where it has none
abbrev pub value_at : ℕ → Answer → ℕ
value_at k a = get_or (values_of a) k 0

-- ---- results: an answer in numbers

unfoldable pub finished_of : Answer → CFinished
finished_of a = record { refusal = refusal_number a; fault = fault_in a }

unfoldable pub committed_of : Answer → CCommitted
committed_of a = record { refusal = refusal_number a; stores = value_at 0 a }

unfoldable pub advanced_of : Answer → CAdvanced
advanced_of a = record { refusal = refusal_number a; block = value_at 0 a; last = value_at 1 a; number = value_at 2 a }

unfoldable pub counted_of : Answer → CCounted
counted_of a = record { refusal = refusal_number a; count = value_at 0 a }

unfoldable pub recorded_of : Answer → CRecord
recorded_of a = record { refusal = refusal_number a; used = value_at 0 a; size = value_at 1 a }

unfoldable pub run_of : Answer → CRun
run_of a = record { refusal = refusal_number a; first = value_at 0 a; count = value_at 1 a }

-- ---- what C lends to a call, and finds there behind it

-- the session as its four numbers and its 32 cells, the device and the work space
pub record Lent : Type 0 where
  pub numbers : List ℕ
  pub staged : List ℕ
  pub device : List ℕ
  pub work : List ℕ

abbrev pub lent : List ℕ → List ℕ → List ℕ → List ℕ → Lent
lent numbers staged device work = record { numbers = numbers; staged = staged; device = device; work = work }

-- the state that they stand for: any numbers and bytes stand for one
abbrev pub state_in : Lent → State
state_in l = state_of (decode (head_in l.numbers) l.staged) l.device l.work

-- "A refusal changes nothing": what is lent then stays as it was, number for number and byte for byte
abbrev pub Stays : {A : Type 0} → Answer → A → A → Type 0
Stays a before after = is_refused a ≡ true → after ≡ before

-- before where the call is refused, else after
unfoldable pub unless_refused : Answer → List ℕ → List ℕ → List ℕ
unless_refused a before after = cond (is_refused a) before after

-- ---- the form of a promise

-- what a function returns is the answer of the call's outcome in numbers (m); a refusal leaves all that is lent as it was, whatever that is; else what
-- is lent is the state that the outcome leaves, and the session's numbers are those of `encode`
pub record Leaves {R : Type 0} (m : Answer → R) (r : R) (before after : Lent) (o : Outcome) : Type 0 where
  pub answer : r ≡ m o.answer
  pub refusal : Stays o.answer before after
  pub state : state_in after ≡ o.after
  pub head : is_refused o.answer ≡ false → after.numbers ≡ numbers_of (encode o.after.session)

-- the outcome of a call at the state lent
abbrev pub Ends : {R : Type 0} → (Answer → R) → R → Lent → Lent → (State → Outcome) → Type 0
Ends m r before after call = Leaves m r before after (call (state_in before))

-- read: and the buffer lent
abbrev pub Reads : CCounted → List ℕ → List ℕ → Outcome → Type 0
Reads r before after o = (r ≡ counted_of o.answer) × (after ≡ o.buffer) × Stays o.answer before after

-- record i: and the name lent
abbrev pub Names : CRecord → List ℕ → List ℕ → Answer → Type 0
Names r before after a = (r ≡ recorded_of a) × (after ≡ name_in before a)

-- ---- a lent list of extents in cells: first block and count of each, in turn

-- a last cell without a partner is no place of the list
unfoldable pub extents_of : List ℕ → List Extent
extents_of [] = []
extents_of (a ∷ []) = []
extents_of (a ∷ b ∷ cells) = extent a b ∷ extents_of cells

unfoldable pub cells_of : List Extent → List ℕ
cells_of [] = []
cells_of (e ∷ es) = e.first ∷ e.count ∷ cells_of es

-- cells that hold these extents first, and behind them what they held
unfoldable pub with_extents : List ℕ → List Extent → List ℕ
with_extents cells es = cells_of es ++ drop (2 * length es) cells

-- run list: what is left in the cells lent; a refusal leaves each, a last one without a partner too
abbrev pub Lists : CCounted → List ℕ → List ℕ → Outcome → Type 0
Lists r before after o = (r ≡ counted_of o.answer) × (after ≡ with_extents before o.list) × Stays o.answer before after
