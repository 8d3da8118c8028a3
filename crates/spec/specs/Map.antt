-- The map of a disk: names to files.
use Rattle.std.specs.Prelude.{ℕ, cond, List, map, take}
use Rattle.std.proofs.Math.Option.{Option, none, some}
use Rattle.spec.specs.Bytes.{found, concat}
use Rattle.spec.specs.Disk.{Disk}
use Rattle.spec.specs.Inode.{Inode, is_name, inode_at, find, data_of}

-- a map from names to byte strings: two are equal when they agree at each name
abbrev pub Files : Type 0
Files = List ℕ → Option (List ℕ)

-- "the first bytes of its data blocks in file order, as many as its size"
unfoldable pub content_of : Disk → Inode → List ℕ
content_of v n = take n.size (concat (map v (data_of v n)))

-- "A sound device's map takes each used record's name to" its content
unfoldable pub files_of : Disk → Files
files_of v name = cond (is_name name) (found (find v name) none (λ i. some (content_of v (inode_at v i)))) none

-- opens what this module seals
unfoldable pub open-Map : Unit {0}
unfolding content_of files_of
open-Map = tt
