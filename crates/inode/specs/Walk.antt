-- The walk over a file's tree: what is left of it at a cursor, and what a step does.
use Rattle.std.specs.Prelude.{ℕ, ◌+◌, ◌-◌, ◌*◌, ◌/◌, ◌<◌, ◌≡◌, Bool, cond, not, ◌&&◌, List, [], ◌∷◌, ◌++◌, map, length, take, drop, eqb, ltb, Option, Some, None}
use Rattle.std.specs.Simd.{first_chunks}
use Rattle.spec.specs.declared.DiskBlock.{DiskBlock}
use Rattle.spec.specs.declared.Extent.{Extent}
use Rattle.spec.specs.Bytes.{number2}
use Rattle.spec.specs.Disk.{Disk}
use Rattle.spec.specs.Inode.{extent, slots_in, used, below, block_of_inode, place_of_inode, inode_at}
use Rattle.inode.specs.declared.Cursor.{Cursor}
use Rattle.inode.specs.declared.Step.{Step}
use Rattle.inode.specs.declared.Step.TheVariants.{Leaf, Node}

-- the slot at a byte of a block
abbrev pub slot_in : ℕ → List ℕ → Extent
slot_in at xs = extent (number2 at xs) (number2 (at + 2) xs)

-- e is that slot, of two-byte numbers; none is used past the block's end
pub record Slot (xs : List ℕ) (at : ℕ) (e : Extent) : Type 0 where
  pub is : e ≡ slot_in at xs
  pub first : e.first < 65536
  pub count : e.count < 65536
  pub inside : 0 < e.count → at < 512

-- the slots that lie whole in some bytes from a place on, at most so many
abbrev pub whole_slots : ℕ → ℕ → List ℕ → List (List ℕ)
whole_slots most at xs = take most (first_chunks 4 (length (drop at xs) / 4) (drop at xs))

-- n slots are left and the first, e, is used
unfoldable pub live : ℕ → Extent → Bool
live n e = ltb 0 n && not (eqb e.count 0)

-- the used ones of n slots from a byte of a block
unfoldable pub leaf : Disk → ℕ → ℕ → ℕ → List Extent
leaf v b at n = used (slots_in n (drop at (v b)))

-- what is left at a cursor of a tree whose record stands in block tb: extents, and nodes
unfoldable pub rest : Disk → ℕ → Cursor → List Extent
rest v tb c = leaf v c.block c.at c.left ++ below v (leaf v tb c.top c.tops)

unfoldable pub rest_nodes : Disk → ℕ → Cursor → List ℕ
rest_nodes v tb c = map (λ e. e.first) (leaf v tb c.top c.tops)

-- at most so many steps are left
abbrev pub weight : Cursor → ℕ
weight c = c.left + 129 * c.tops

-- the cursor k slots of its leaf behind another
abbrev pub behind : Cursor → ℕ → Cursor
behind c k = record { block = c.block; at = c.at + 4 * k; left = c.left - k; top = c.top; tops = c.tops }

-- a step from c to d over the extent e
pub record Onward (v : Disk) (tb : ℕ) (c : Cursor) (e : Extent) (d : Cursor) : Type 0 where
  pub extents : rest v tb c ≡ e ∷ rest v tb d
  pub nodes : rest_nodes v tb c ≡ rest_nodes v tb d
  pub less : weight d < weight c
  pub first : e.first < 65536
  pub some : 0 < e.count
  pub count : e.count < 65536

-- a step from c to d, into the node b
pub record Inward (v : Disk) (tb : ℕ) (c : Cursor) (b : ℕ) (d : Cursor) : Type 0 where
  pub extents : rest v tb c ≡ rest v tb d
  pub nodes : rest_nodes v tb c ≡ b ∷ rest_nodes v tb d
  pub less : weight d < weight c

pub record Ended (v : Disk) (tb : ℕ) (c : Cursor) : Type 0 where
  pub extents : rest v tb c ≡ []
  pub nodes : rest_nodes v tb c ≡ []

-- a step over a leaf slot, in the same block
abbrev pub Passed : Disk → ℕ → Cursor → Option (Extent × Cursor) → Type 0
Passed v tb c (Some (e, d)) = Onward v tb c e d × (d.block ≡ c.block)
Passed v tb c None = leaf v c.block c.at c.left ≡ []

-- a step that finds no leaf slot: into the node b, in whose block d is
abbrev pub Enters : Disk → ℕ → Cursor → Option (DiskBlock × Cursor) → Type 0
Enters v tb c (Some (b, d)) = Inward v tb c b.0 d × (d.block ≡ b.0)
Enters v tb c None = Ended v tb c

-- a step of the walk: over an extent, or into a node; none where the walk has ended
abbrev pub Steps : Disk → ℕ → Cursor → Option (Step × Cursor) → Type 0
Steps v tb c (Some (Leaf e, d)) = Onward v tb c e d
Steps v tb c (Some (Node b, d)) = Inward v tb c b.0 d
Steps v tb c None = Ended v tb c

-- the cursor before the first extent of record i
unfoldable pub start_of : Disk → ℕ → Cursor
start_of v i =
    cond (eqb (inode_at v i).depth 0)
    (record { block = block_of_inode i; at = place_of_inode i + 16; left = 4; top = 0; tops = 0 })
    (record { block = block_of_inode i; at = 0; left = 0; top = place_of_inode i + 16; tops = 4 })
