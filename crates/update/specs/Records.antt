-- Records as the changing calls make them.
use Rattle.std.specs.Prelude.{ℕ, ◌≡◌, false, List, ◌++◌, replicate}
use Rattle.spec.specs.Disk.{Disk}
use Rattle.spec.specs.Bytes.{same}
use Rattle.spec.specs.Inode.{block_of_inode}
use Rattle.content.specs.Content.{with_record}
use Rattle.spec.specs.Transaction.{BlockStore}
use Rattle.spec.specs.Plan.{if_changed, stores_of, inode_edit}

-- the record of a new file: its name, then zeros
unfoldable pub new_record : List ℕ → List ℕ
new_record name = name ++ replicate 24 0

-- record i does not begin with these bytes
abbrev pub Differs : Disk → ℕ → List ℕ → Type 0
Differs v i bytes = same (with_record i bytes (v (block_of_inode i))) (v (block_of_inode i)) ≡ false

-- what a change of record i alone stages
unfoldable pub record_stores : Disk → ℕ → List ℕ → List BlockStore
record_stores v i bytes = stores_of v (if_changed v (inode_edit i bytes))
