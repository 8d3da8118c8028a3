use mathlib.Core.Path.{◌≡◌}
use Rattle.std.specs.Iterator.Adapters.{map_while_source}
use Rattle.cardfile.specs.Lines.{letter_of}
use Rattle.converter.proofs.Writes.{Putting}
use Rattle.converter.proofs.put_cards.Given as goal

-- all lines before this one are written
abbrev pub invariant-loop-found : goal.invariant-loop-found
invariant-loop-found l = ((map_while_source l.found-iterator).text.now ≡ l.text) × Putting (letter_of l.wanted) l.text l.initial.w l.w (map_while_source l.found-iterator).at
