-- What is mounted as a state of the specification.
use Rattle.std.specs.Prelude.{ℕ, List, replicate}
use Rattle.spec.specs.Layout.{work_size}
use Rattle.spec.specs.Transaction.{State}
use Rattle.trial.specs.States.{state_lent}
use Rattle.mounted.specs.declared.Mounted.{Mounted}

module _ {N : ℕ} where
  abbrev pub state_in : Mounted N → State
  state_in m = state_lent m.lent

-- a work space that holds nothing but a byte
unfoldable pub work_filled : ℕ → List ℕ
work_filled byte = replicate work_size byte
