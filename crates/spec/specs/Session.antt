-- The session, and the ways to make one.
use Rattle.std.specs.Prelude.{ℕ, List, ◌++◌, length, take, drop, replicate}
use Rattle.spec.specs.Layout.{log_length}
pub use Rattle.spec.specs.declared.Phase.{Phase}
pub use Rattle.spec.specs.declared.Phase.TheVariants.{Closed, Ready, Committing, Recovering}
pub use Rattle.spec.specs.declared.Session.{Session}

-- on a device of N blocks, with nothing staged
abbrev pub opened : ℕ → Phase → Session
opened N p = record { blocks = N; phase = p; staged = replicate log_length 0; count = 0 }

abbrev pub closed_on : ℕ → Session
closed_on N = opened N Closed

-- "A session never opened is closed with N 0"
abbrev pub never_opened : Session
never_opened = closed_on 0

-- of these parts: the first `count` of the cells are in use
abbrev pub with_cells : ℕ → Phase → List ℕ → ℕ → Session
with_cells N p cells count = record { blocks = N; phase = p; staged = cells; count = count }

-- the same session in another phase
abbrev pub in_phase : Session → Phase → Session
in_phase s p = record { blocks = s.blocks; phase = p; staged = s.staged; count = s.count }

-- "the staged block numbers"; a count past the array is read as the array's length
unfoldable pub staged_in : Session → List ℕ
staged_in s = take s.count s.staged

-- the same session with these numbers staged; the cells behind them stay as they were
unfoldable pub with_staged : Session → List ℕ → Session
with_staged s bs = record { blocks = s.blocks; phase = s.phase; staged = bs ++ drop (length bs) s.staged; count = length bs }

-- opens what this module seals
unfoldable pub open-Session : Unit {0}
unfolding staged_in with_staged
open-Session = tt
