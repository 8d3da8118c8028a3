use mathlib.Core.Path.{refl}
use native.Mathlib.Omega.{arith}
use Rattle.text.proofs.Laws.{written_byte, written-past}
use Rattle.text.proofs.Writer.put.Goals as goal

pub returns-then-self : goal.returns-then-self
returns-then-self c = record { same = refl; written = written_byte _ _ _ c.if-self.true }

pub returns-else-self : goal.returns-else-self
returns-else-self c = record { same = refl; written = written-past _ _ _ (omega arith) }
