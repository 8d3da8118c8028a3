-- A session that is lent in its parts, for the contracts of this crate and of those above.
use Rattle.std.specs.Prelude.{ℕ, List, ◌≡◌}
use Rattle.spec.specs.declared.Session.{Session}
use Rattle.spec.specs.Session.{staged_in}
use Rattle.spec.specs.Transaction.{State, state_of}
use Rattle.transaction.specs.declared.lent_session.LentSession.{LentSession}
use Rattle.transaction.specs.declared.staging.Staging.{Staging}
use Rattle.transaction.specs.Places.{session_of}

-- the session that is lent, the numbers of its staged blocks, and all of its state
abbrev pub session_lent : LentSession → Session
session_lent l = session_of l.blocks l.phase l.cells.now l.count.now

abbrev pub numbers_lent : LentSession → List ℕ
numbers_lent l = staged_in (session_lent l)

abbrev pub state_lent : LentSession → State
state_lent l = state_of (session_lent l) l.device.now l.work.now

-- a call changes the bytes, the cells and the count behind the same three references
pub record Kept (l l' : LentSession) : Type 0 where
  pub work : l'.work.ghost_name ≡ l.work.ghost_name
  pub cells : l'.cells.ghost_name ≡ l.cells.ghost_name
  pub count : l'.count.ghost_name ≡ l.count.ghost_name
  pub device : l'.device.now ≡ l.device.now
  pub blocks : l'.blocks ≡ l.blocks
  pub phase : l'.phase ≡ l.phase

-- the same of a staging, which lends the same session on
pub record Held (s s' : Staging) : Type 0 where
  pub lent : s'.lent.ghost_name ≡ s.lent.ghost_name
  pub parts : Kept s.lent.now s'.lent.now
