-- The names of the files that the programs make.
use Rattle.std.specs.Prelude.{ℕ, List, [], ◌∷◌}

-- the eight bytes of the name of file k
abbrev pub name_of : ℕ → List ℕ
name_of k = k ∷ 2 ∷ 3 ∷ 4 ∷ 5 ∷ 6 ∷ 7 ∷ 8 ∷ []
