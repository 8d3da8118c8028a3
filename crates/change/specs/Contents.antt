-- What the code inserts into an agenda, entry by entry, and the content of each, for the contracts of this crate.
use Rattle.std.specs.Prelude.{ℕ, ◌*◌, ◌-◌, ◌<◌, ◌≤◌, ◌≡◌, cond, List, ◌∷◌, ◌++◌, map, length, take, drop, get_or}
use Rattle.spec.specs.Bytes.{same, keep, up_from}
use Rattle.spec.specs.Disk.{Disk, slice_of}
use Rattle.spec.specs.Inode.{blocks_in, counts}
use Rattle.spec.specs.Transaction.{State, view, BlockStore, put, stage_each, staged_of}
use Rattle.spec.specs.Plan.{edit, if_changed, stores_of, inode_edit, node_edits, data_edits, is_staged, new_content}
use Rattle.block.specs.Stores.{stored_in}
use Rattle.spec.specs.declared.Extent.{Extent}
use Rattle.runs.specs.Runs.{nodes_in}
use Rattle.runs.specs.Tree.{tree_with}
use Rattle.agenda.specs.declared.Content.{Content}
use Rattle.agenda.specs.declared.Content.TheVariants.{Bitmap, Record, Node, Data}
use Rattle.agenda.specs.declared.Planned.{Planned}
use Rattle.agenda.specs.Agenda.{stores_by, Rising}
use Rattle.content.specs.Content.{with_record, node_content, data_content}
use Rattle.change.specs.Change.{Change}
use Rattle.change.specs.declared.plan.Plan.{Plan}

-- a change as the code tells it
abbrev pub change_of : Plan → Change
change_of p =
    record { tree = tree_with p.table.now p.draft.extents.now p.draft.nodes p.draft.before p.data.held; «record» = p.inode; old = p.data.old; size = p.data.size; x = p.data.x.0; bytes = p.data.bytes.now }

-- the content of a block: the bitmap, the record's block, node j, the file's data block p
unfoldable pub content_of : ℕ → Change → Content → List ℕ → List ℕ
content_of i c Bitmap old = c.tree.table
content_of i c Record old = with_record i c.record old
content_of i c (Node j) old = node_content c.tree.extents j
content_of i c (Data p) old = data_content c.tree.held c.old c.size c.x c.bytes p.0 old

-- the same for block b of a disk
unfoldable pub content_in : Disk → ℕ → Change → ℕ → Content → List ℕ
content_in v i c b content = content_of i c content (v b)

abbrev pub content_by : Disk → Plan → ℕ → Content → List ℕ
content_by v p = content_in v p.number.n (change_of p)

-- a work space whose image k is ready for content g of a block that held `old`: it differs from what it was in that image alone, and g makes of the image what it makes of `old`
pub record Ready (g : List ℕ → List ℕ) (old was work : List ℕ) (k : ℕ) : Type 0 where
  pub around : (x : List ℕ) → stored_in (slice_of work) k x ≡ stored_in (slice_of was) k x
  pub made : g (take 512 (drop (512 * k) work)) ≡ g old

-- a store before others, where it changes the block
unfoldable pub with_changed : Disk → List ℕ → ℕ → List BlockStore → List BlockStore
with_changed v new b ws = cond (same new (v b)) ws (put b new ∷ ws)

-- the stores of the data blocks from place p on
unfoldable pub data_stores : Disk → Change → ℕ → List BlockStore
data_stores v c p =
    let blocks = blocks_in c.tree.extents in
    stores_of v (map (λ q. edit (get_or blocks q 0) (new_content c.tree.held c.old c.size c.x c.bytes q))
    (keep (is_staged c.tree.held c.old c.size c.x c.bytes) (up_from p (length blocks - p))))

abbrev pub data_from : Disk → Plan → ℕ → List BlockStore
data_from v p k = data_stores v (change_of p) k

-- those of the nodes from node j on, and of all data blocks
unfoldable pub node_stores : Disk → Change → ℕ → List BlockStore
node_stores v c j =
    stores_of v (node_edits v (c.tree.before - j) (drop j (nodes_in c.tree)) (drop (128 * j) c.tree.extents)
    ++ data_edits c.tree.held c.old c.size c.x c.bytes (blocks_in c.tree.extents))

abbrev pub nodes_from : Disk → Plan → ℕ → List BlockStore
nodes_from v p j = node_stores v (change_of p) j

-- those of the record, of all nodes and of all data blocks
unfoldable pub record_stores : Disk → ℕ → Change → List BlockStore
record_stores v i c =
    stores_of v (if_changed v (inode_edit i c.record)
    ++ (node_edits v c.tree.before (nodes_in c.tree) c.tree.extents
    ++ data_edits c.tree.held c.old c.size c.x c.bytes (blocks_in c.tree.extents)))

-- how many blocks the first k extents have
unfoldable pub place_of : List Extent → ℕ → ℕ
place_of es k = counts (take k es)

-- data block p of the file is block b
abbrev pub IsBlock : Change → ℕ → ℕ → Type 0
IsBlock c p b = (p < length (blocks_in c.tree.extents)) × (b ≡ get_or (blocks_in c.tree.extents) p 0)

-- node j of the tree is block b
abbrev pub IsNode : Change → ℕ → ℕ → Type 0
IsNode c j b = (j < length (nodes_in c.tree)) × (b ≡ get_or (nodes_in c.tree) j 0)

-- the stores of an agenda's entries, staged in turn from a state: they rise, and all have room
pub record Stages (p : Plan) (t : State) (es : List Planned) : Type 0 where
  pub rising : Rising 0 (stores_by (content_by (view t) p) es)
  pub room : length (stage_each (staged_of t) (stores_by (content_by (view t) p) es)).blocks ≤ 32
