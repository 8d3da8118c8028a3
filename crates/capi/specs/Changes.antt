-- What a refused call keeps, for the contracts of this crate.
use Rattle.std.specs.Prelude.{◌≡◌, true}
use Rattle.spec.specs.Answers.{Answer, is_refused}
use Rattle.spec.specs.Calls.{Outcome}

-- refused, a call keeps all: `kept` is the outcome that does, with that answer
pub record Still (kept : Answer → Outcome) (o : Outcome) : Type 0 where
  pub refusal : is_refused o.answer ≡ true → o ≡ kept o.answer
