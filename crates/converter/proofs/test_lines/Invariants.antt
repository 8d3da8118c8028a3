use Prim.Native.Nat.{◌+◌}
use mathlib.Core.Path.{◌≡◌}
use Rattle.std.specs.Iterator.Adapters.{enumerate_source, enumerate_count}
use Rattle.cardfile.specs.Lines.{letter_of}
use Rattle.converter.proofs.Passes.{Tested}
use Rattle.converter.proofs.test_lines.Given as goal

-- the lines before this one are tested
abbrev pub invariant-loop-k : goal.invariant-loop-k
invariant-loop-k l =
    ((enumerate_source l.k-iterator).text.now ≡ l.text)
    × Tested (letter_of l.wanted) l.text l.most (enumerate_source l.k-iterator).at (enumerate_count l.k-iterator + 1) l.room
