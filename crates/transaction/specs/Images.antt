-- The image of a block, for the contracts of this crate and of those above.
use Rattle.std.specs.Prelude.{◌≡◌, ◌*◌, List, take, drop}
use Rattle.std.specs.Fn.{Once}
use denote.Ref.{MutBor}
use Rattle.spec.specs.Transaction.{State}
use Rattle.spec.specs.declared.Session.{Session}
use Rattle.std.specs.Prelude.{ℕ}
use Rattle.transaction.specs.declared.image.Image.{Image}
use Rattle.transaction.specs.LentSessions.{session_lent, state_lent, Held}

-- the session in which it stands, all of its state, and the work space
abbrev pub session_of_image : Image → Session
session_of_image m = session_lent m.images.now.lent.now

abbrev pub state_of_image : Image → State
state_of_image m = state_lent m.images.now.lent.now

abbrev pub work_of_image : Image → List ℕ
work_of_image m = m.images.now.lent.now.work.now

-- image k of a work space
abbrev pub image_in : ℕ → List ℕ → List ℕ
image_in k work = take 512 (drop (512 * k) work)

-- a call leaves the same block at the same place, in the same staging
pub record Same (m m' : Image) : Type 0 where
  pub images : m'.images.ghost_name ≡ m.images.ghost_name
  pub parts : Held m.images.now m'.images.now
  pub block : m'.block ≡ m.block
  pub place : m'.place ≡ m.place

-- whatever a change of a block leaves, it is what g makes of the block
abbrev pub Makes : {F : Type 0} → Once F (MutBor (List ℕ) × Unit {0}) (Unit {0} × (MutBor (List ℕ) × Unit {0})) → F → (List ℕ → List ℕ) → Type 0
Makes e change g = (p q : MutBor (List ℕ)) → e.post change (p, tt) (tt, (q, tt)) → q.now ≡ g p.now
