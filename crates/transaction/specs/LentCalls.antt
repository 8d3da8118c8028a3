-- A call of a session that is lent, for the contracts of functions that are handed one.
use Rattle.std.specs.Prelude.{◌≡◌}
use Rattle.std.specs.Prelude.{Result as Returned}
use Rattle.std.specs.Fn.{Once}
use denote.Ref.{MutBor}
use Rattle.spec.specs.declared.Refusal.{Refusal}
use Rattle.spec.specs.Answers.{done_of}
use Rattle.spec.specs.Transaction.{State}
use Rattle.spec.specs.Calls.{Outcome, outcome}
use Rattle.transaction.specs.LentSessions.{state_lent, Kept}
use Rattle.transaction.specs.declared.lent_session.LentSession.{LentSession}

-- P holds of what `call` may be lent, answer and leave
abbrev Each : {F : Type 0} → Once F (MutBor LentSession × Unit {0}) (Returned (Unit {0}) Refusal × (MutBor LentSession × Unit {0})) → F → (LentSession → Returned (Unit {0}) Refusal → LentSession → Type 0) → Type 0
Each g call P = (p q : MutBor LentSession) (r : Returned (Unit {0}) Refusal) → g.post call (p, tt) (r, (q, tt)) → P p.now r q.now

-- it changes the bytes, the cells and the count behind the references that it is lent
abbrev pub Keeps : {F : Type 0} → Once F (MutBor LentSession × Unit {0}) (Returned (Unit {0}) Refusal × (MutBor LentSession × Unit {0})) → F → Type 0
Keeps g call = Each g call (λ l r m. Kept l m)

-- it is the call f: it answers and leaves what f does
abbrev pub Does : {F : Type 0} → Once F (MutBor LentSession × Unit {0}) (Returned (Unit {0}) Refusal × (MutBor LentSession × Unit {0})) → F → (State → Outcome) → Type 0
Does g call f = Each g call (λ l r m. outcome (state_lent m) (done_of r) ≡ f (state_lent l))

-- `call` may have answered so where it was lent a session in the one state, and left it in the other
pub record Called {F : Type 0} (g : Once F (MutBor LentSession × Unit {0}) (Returned (Unit {0}) Refusal × (MutBor LentSession × Unit {0}))) (call : F) (before : State) (answer : Returned (Unit {0}) Refusal) (after : State) : Type 0 where
  pub lent : MutBor LentSession
  pub left : MutBor LentSession
  pub met : g.post call (lent, tt) (answer, (left, tt))
  pub begins : state_lent lent.now ≡ before
  pub ends : state_lent left.now ≡ after
