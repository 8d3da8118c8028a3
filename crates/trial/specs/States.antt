-- What is lent to a call as a state of the specification.
use Rattle.std.specs.Prelude.{ℕ, cond, ltb, length, replicate}
use Rattle.spec.specs.Layout.{block_size, log_length}
use Rattle.spec.specs.Session.{staged_in}
use Rattle.spec.specs.Transaction.{State, state_of, put, stage, staged_of, with_staging}
use Rattle.trial.specs.declared.Lent.{Lent}

module _ {N : ℕ} where
  abbrev pub state_lent : Lent N → State
  state_lent l = state_of l.session l.device l.work

-- block b staged with 512 times a byte, where there is room
unfoldable pub staged_with : ℕ → ℕ → State → State
staged_with b byte s =
    cond (ltb (length (staged_in s.session)) log_length) (with_staging s (stage (staged_of s) (put b (replicate block_size byte)))) s
