-- The names of the records passed, as numbers.
use Rattle.std.specs.Prelude.{ℕ, ◌%◌, ◌<◌, ◌≤◌, ◌≡◌, Bool, true, false, List, [], length, take, get_or, eqb}
use Rattle.std.specs.List.{list_any}
use Rattle.spec.specs.Disk.{Disk}
use Rattle.spec.specs.Inode.{name_at}
use Rattle.block.specs.Keys.{key_of, Name}
use Rattle.marks.specs.declared.Marks.{Marks}
use Rattle.marks.specs.Marks.{Kept}
use Rattle.fsck.specs.declared.NameTable.{NameTable}

-- the first n numbers are the names of the records before n; the others are zero
pub record Names (v : Disk) (numbers : List ℕ) (n : ℕ) : Type 0 where
  pub full : length numbers ≡ 128
  pub number : (j : ℕ) → j < n → get_or numbers j 0 ≡ key_of (name_at v j)
  pub bytes : (j : ℕ) → j < n → Name (name_at v j)
  pub rest : (j : ℕ) → n ≤ j → get_or numbers j 0 ≡ 0

-- the table tells the remainders of those of the first n numbers that are not zero
pub record Seen (t : NameTable) (n : ℕ) : Type 0 where
  pub full : length t.seen ≡ 1021
  pub told : (j : ℕ) → j < n → (get_or t.numbers j 0 ≡ 0 → ⊥) → get_or t.seen (get_or t.numbers j 0 % 1021) false ≡ true

-- the table has the names of the records before n
pub record Told (v : Disk) (t : NameTable) (n : ℕ) : Type 0 where
  pub names : Names v t.numbers n
  pub remainders : Seen t n

-- whether one of the first n numbers is x
abbrev pub seen_to : ℕ → ℕ → List ℕ → Bool
seen_to n x numbers = list_any (λ y. eqb y x) (take n numbers)

-- what holds behind n records that are sound: their names are told, and blocks bs are marked
pub record Passed (N : ℕ) (v : Disk) (n : ℕ) (m : Marks) (names : NameTable) (m' : Marks) (bs : List ℕ) : Type 0 where
  pub marks : Kept N m [] m' bs
  pub told : Told v names n
