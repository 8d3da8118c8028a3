-- An entry's store: the content by its source, where a log lists the targets bs.
use Rattle.std.specs.Prelude.{ℕ, ◌+◌, ◌*◌, ◌<◌, ◌≤◌, ◌≡◌, true, cond, eqb, List, Option, Some, None, Ok, Err}
use Rattle.std.specs.Prelude.{Result as Returned}
use Rattle.std.proofs.Math.ListN.{get_elem?}
use Rattle.std.proofs.Math.Option.{some}
use Rattle.spec.specs.Layout.{block_size}
use Rattle.spec.specs.Bytes.{zeros, distinct}
use Rattle.spec.specs.Disk.{disk_block, blocks_of, slice_of}
use Rattle.spec.specs.Session.{opened, in_phase}
use Rattle.spec.specs.Answers.{idle, stored_of}
use Rattle.spec.specs.Transaction.{BlockStore, put, state_of}
use Rattle.spec.specs.declared.BlockStored.{BlockStored}
use Rattle.spec.specs.declared.Refusal.{Refusal}
use Rattle.spec.specs.declared.Phase.{Phase}
use Rattle.spec.specs.declared.Phase.TheVariants.{Closed, Ready, Committing, Recovering}
use Rattle.spec.specs.declared.Session.{Session}
use Rattle.spec.specs.Journal.{header_of, commit_stores}
use Rattle.spec.specs.Calls.{left, advance_in}
use Rattle.block.specs.Stores.{stored_in}
use Rattle.journal.specs.Order.{sorted}
use Rattle.journal.specs.declared.Entry.{Entry}
use Rattle.journal.specs.declared.next_store.NextStore.{NextStore}
use Rattle.journal.specs.declared.Source.{Source}
use Rattle.journal.specs.declared.Source.TheVariants as source

abbrev pub entry_content : List ℕ → List ℕ → List ℕ → Source → List ℕ
entry_content bs device work (source.Image i) = blocks_of work i
entry_content bs device work (source.Log b) = blocks_of device b.0
entry_content bs device work source.List = header_of (sorted bs)
entry_content bs device work source.Zeros = zeros block_size

abbrev pub entry_store : List ℕ → List ℕ → List ℕ → Entry → BlockStore
entry_store bs device work e = put e.block.0 (entry_content bs device work e.source)

-- where its content is made from: one of 32 images, a block before b, different targets
abbrev pub Storable : List ℕ → ℕ → Source → Type 0
Storable bs b (source.Image i) = i < 32
Storable bs b (source.Log a) = a.0 < b
Storable bs b source.List = distinct bs ≡ true
Storable bs b source.Zeros = Unit {0}

-- e is entry d of the commit's stores of a session that has the blocks bs staged
abbrev pub Entered : Session → ℕ → List ℕ → Entry → Type 0
Entered s d bs e =
    (e.block.0 < s.blocks) × Storable bs e.block.0 e.source
    × ((device work : List ℕ) → get_elem? (commit_stores (state_of s device work)) d ≡ some (entry_store bs device work e))

-- the phase behind an answer of commit
abbrev pub begun_phase : Phase → Returned ℕ Refusal → Phase
begun_phase p (Err r) = p
begun_phase p (Ok n) = cond (eqb n 0) p (Committing 0)

-- the phase behind store number n, and behind the last one
abbrev pub phase_at : Phase → ℕ → Phase
phase_at Closed n = Closed
phase_at Ready n = Ready
phase_at (Committing d) n = Committing n
phase_at (Recovering d) n = Recovering n

abbrev pub last_phase : Phase → Phase
last_phase Closed = Closed
last_phase Ready = Ready
last_phase (Committing d) = Ready
last_phase (Recovering d) = Closed

-- the session behind an answer in phase p
abbrev pub behind : Phase → Session → Returned (Option BlockStored) Refusal → Session
behind p s (Err r) = s
behind p s (Ok (Some x)) = cond x.last (opened s.blocks (last_phase p)) (in_phase s (phase_at p x.number))
behind p s (Ok None) = s

-- what is told of store d of n, at block b
abbrev pub store_of : ℕ → ℕ → ℕ → BlockStored
store_of b d n = record { block = disk_block b; last = eqb (d + 1) n; number = d + 1 }

-- what is to be done next makes advance: nothing leaves all as it is, a store leaves the device with it
abbrev pub Leads : Session → List ℕ → List ℕ → List ℕ → Phase → Option NextStore → Type 0
Leads s bs device work p None = left s device work idle ≡ advance_in (state_of s device work) p
Leads s bs device work p (Some x) =
    (after : List ℕ) → slice_of after ≡ stored_in (slice_of device) x.entry.block.0 (entry_content bs device work x.entry.source)
    → let told = Ok (Some (store_of x.entry.block.0 x.place x.end)) in
    left (behind p s told) after work (stored_of told) ≡ advance_in (state_of s device work) p

-- it can be made on a device of so many bytes
abbrev pub Possible : List ℕ → ℕ → Option NextStore → Type 0
Possible bs size None = Unit {0}
Possible bs size (Some x) = (512 * x.entry.block.0 + 512 ≤ size) × Storable bs x.entry.block.0 x.entry.source
