use Prim.Native.Nat.{ℕ}
use mathlib.Core.Path.{◌≡◌, ap}
use mathlib.Core.Bool.{true, not}
use borrow.Author.Tests.{ne_eqb}
use denote.Param.{number}
use Rattle.bitmap.specs.contracts.table.Bitmap.put.{ON-type}
use Rattle.bitmap.proofs.Words.{bit-set, bit-cleared}
use Rattle.bitmap.proofs.table.Bitmap.put.Goals as goal

is-on : (n : ℕ) → (n ≡ 0 → ⊥) → ON-type (number n) ≡ true
is-on n h = ap not (ne_eqb n 0 h)

pub returns-then-this-ne0 : goal.returns-then-this-ne0
returns-then-this-ne0 g c = rw (is-on g.row.ON c.if-this-ne0.true) (bit-set _ _)

pub returns-else-this-ne0 : goal.returns-else-this-ne0
returns-else-this-ne0 g c = rw c.if-this-ne0.false (bit-cleared _ _)
