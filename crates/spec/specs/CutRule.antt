-- The cut rule: demand 3, one claim about every list of calls and cuts. It is made of any store `step`, so that a wrong one can be tried in its place.
use Rattle.std.specs.Prelude.{ℕ, zero, suc, ◌+◌, ◌*◌, ◌≤◌, ◌<◌, ◌≡◌, true, false, cond, not, ◌&&◌, ◌||◌, ◌⊎◌, List, [], ◌∷◌, ◌++◌, length, take, drop, get_or, T, eqb, leb}
use Rattle.std.proofs.Math.Option.{Option, none, some, map}
use Rattle.std.proofs.Math.ListN.{get_elem?}
use Rattle.spec.specs.Layout.{block_size, work_size, inode_count}
use Rattle.spec.specs.Bytes.{found, keep, member, distinct, all}
use Rattle.spec.specs.Disk.{Slice, with_block, is_allowed, is_target}
use Rattle.spec.specs.Inode.{Extent, inode_bytes, name_at, is_empty, find, runs}
use Rattle.spec.specs.Sound.{volume_sound, sound, free_blocks}
use Rattle.spec.specs.Map.{files_of}
use Rattle.spec.specs.Session.{opened, closed_on, never_opened, in_phase, staged_in, with_staged}
use Rattle.spec.specs.declared.Phase.{Phase}
use Rattle.spec.specs.Answers.{Answer, refused, done, started, stored, idle, counted, file, no_file, run, no_run, refusal_of, is_refused, DeviceSize, WorkSize}
use Rattle.spec.specs.Transaction.{State, with_session, view, BlockStore}
use Rattle.spec.specs.Journal.{commit_stores, recovery_stores}
use Rattle.spec.specs.Calls.{Outcome, outcome, empty_disk, read_into, list_into, Change, Query, Read, Size, Free, Record, RunList, NthExtent, Call, Format, Open, Advance, Commit, Abort, Do, Ask}
use Rattle.spec.specs.Plain.{Plain, Mode, Closed, Ready, Committing, Recovering, place_of, phase_of, phase_in, plain_start, after_cut, follow}
use Rattle.spec.specs.Sentences.{file_at, file_then, record_for, call_stages, staged_by}
use Rattle.spec.specs.Refusals.{is_format, is_open, due}

-- "A cut falls between two calls and keeps the blocks stored so far; the next call gets a session never opened and any work space."
pub data Event : Type 0 where
  call : Call → Event
  cut : Slice → Event

-- the store and the plain store side by side
pub record Both : Type 0 where
  pub store : State
  pub plain : Plain

-- what a call is lent besides device and work space
abbrev pub buffer_of : Call → List ℕ
buffer_of Format = []
buffer_of Open = []
buffer_of Advance = []
buffer_of Commit = []
buffer_of Abort = []
buffer_of (Do c) = []
buffer_of (Ask (Read name x buffer)) = buffer
buffer_of (Ask (Size name)) = []
buffer_of (Ask Free) = []
buffer_of (Ask (Record i)) = []
buffer_of (Ask (RunList name from n list)) = []
buffer_of (Ask (NthExtent name from n k)) = []

abbrev pub list_of : Call → List Extent
list_of Format = []
list_of Open = []
list_of Advance = []
list_of Commit = []
list_of Abort = []
list_of (Do c) = []
list_of (Ask (Read name x buffer)) = []
list_of (Ask (Size name)) = []
list_of (Ask Free) = []
list_of (Ask (Record i)) = []
list_of (Ask (RunList name from n list)) = list
list_of (Ask (NthExtent name from n k)) = []

-- the answer of a refused call, or none
abbrev pub refusal_in : Answer → Option Answer
refusal_in (refused n vs) = some (refused n vs)
refusal_in done = none
refusal_in (started n) = none
refusal_in (stored b l n) = none
refusal_in idle = none
refusal_in (counted n) = none
refusal_in (file x n) = none
refusal_in no_file = none
refusal_in (run e) = none
refusal_in no_run = none

-- ---- each moment of a list, on a device of N blocks

pub record Moment (N : ℕ) (b : Both) : Type 0 where
  -- what is lent keeps its length
  pub size : b.store.device.size ≡ block_size * N
  pub whole : (n : ℕ) → length (b.store.device.block n) ≡ block_size
  -- the session: N and phase as the plain store reckons them, nothing staged but while ready or committing, unused cells zero
  pub session : b.store.session ≡ with_staged (opened b.plain.blocks (phase_of b.plain)) (staged_in b.store.session)
  pub closed : b.plain.mode ≡ Closed → staged_in b.store.session ≡ []
  pub recovering : b.plain.mode ≡ Recovering → staged_in b.store.session ≡ []
  pub committing : b.plain.mode ≡ Committing → length (staged_in b.store.session) ≡ b.plain.k
  pub targets : T (all (is_target N) (staged_in b.store.session) && distinct (staged_in b.store.session))
  -- "It keeps a committed and a working map": ready, the working copy is sound and its map is the working one
  pub view-sound : b.plain.mode ≡ Ready → T (volume_sound N (view b.store))
  pub view-files : b.plain.mode ≡ Ready → (name : List ℕ) → files_of (view b.store) name ≡ b.plain.working name
  -- while no log is pending the device is sound and its map is the committed one
  pub device-sound : b.plain.pending ≡ false → T (sound N b.store.device.block)
  pub device-files : b.plain.pending ≡ false → (name : List ℕ) → files_of b.store.device.block name ≡ b.plain.committed name

-- ---- each accepted call of a list, with its outcome o

-- "Each advance stores exactly one block": the entry of the sequence of stores at the place reached; it "answers the block stored, whether it
-- was the last, and the number of stores since the commit or open began, this one included"
pub record Stores (b : Both) (ws : List BlockStore) (o : Outcome) : Type 0 where
  pub entry : BlockStore
  pub is-entry : get_elem? ws (place_of b.plain) ≡ some entry
  pub answer : o.answer ≡ stored entry.block (eqb (b.plain.d + 1) (length ws)) (b.plain.d + 1)
  pub device : o.after.device
      ≡ record { size = b.store.device.size; block = with_block entry.block entry.content b.store.device.block }
  pub work : o.after.work ≡ b.store.work
  -- the transaction is kept until its last store
  pub staged : staged_in o.after.session ≡ cond (eqb (b.plain.d + 1) (length ws)) [] (staged_in b.store.session)

abbrev pub Advances : ℕ → Mode → Both → Outcome → Type 0
Advances N Closed b o = o ≡ outcome b.store idle
Advances N Ready b o = o ≡ outcome b.store idle
Advances N Committing b o = Stores b (commit_stores b.store) o × (length (commit_stores b.store) ≡ 2 * b.plain.k + 2)
Advances N Recovering b o =
    Stores b (recovery_stores N b.store.device.block) o × (length (recovery_stores N b.store.device.block) ≡ b.plain.k + 1)

-- "nor a commit answered 0": 0 with nothing staged and nothing changed, else 2k+2 for k staged blocks
abbrev pub Commits : Both → Outcome → Type 0
Commits b o =
    let k = length (staged_in b.store.session) in
    ((o ≡ outcome b.store (started 0)) × (k ≡ 0) × ((name : List ℕ) → b.plain.working name ≡ b.plain.committed name))
    ⊎ ((o ≡ outcome (with_session b.store (in_phase b.store.session (Phase.Committing 0))) (started (2 * k + 2))) × (0 < k))

-- a change: of one record, to the file that the sentences tell; what the call stages, and nothing else, is staged
pub record Changes (N : ℕ) (b : Both) (c : Change) (o : Outcome) : Type 0 where
  pub answer : o.answer ≡ done
  pub device : o.after.device ≡ b.store.device
  pub inode : ℕ
  pub is-inode : record_for (view b.store) c ≡ some inode
  pub file : file_at (view o.after) inode ≡ file_then N (view b.store) (file_at (view b.store) inode) c
  pub others : (j : ℕ) → j < inode_count → (j ≡ inode → ⊥) → inode_bytes (view o.after) j ≡ inode_bytes (view b.store) j
  -- "within a call ascending"
  pub staged : staged_in o.after.session
      ≡ staged_in b.store.session
      ++ keep (λ x. not (member x (staged_in b.store.session))) (staged_by N (view b.store) inode c)
  -- "the rest of it is unchanged"
  pub work : o.after.work.size ≡ b.store.work.size
  pub images : (i : ℕ) → (T (call_stages N (view b.store) inode c (get_or (staged_in o.after.session) i 0)) → i < length (staged_in o.after.session) → ⊥)
      → o.after.work.block i ≡ b.store.work.block i

-- a query: of the working map and the working copy's trees
abbrev pub Says : ℕ → Both → Query → Outcome → Type 0
Says N b (Read name x buffer) o =
    (content : List ℕ) × (b.plain.working name ≡ some content)
    × (o ≡ read_into b.store buffer (take (length buffer) (drop x content)))
Says N b (Size name) o =
    (content : List ℕ) × (b.plain.working name ≡ some content) × (o ≡ outcome b.store (counted (length content)))
Says N b Free o = o ≡ outcome b.store (counted (free_blocks N (view b.store)))
Says N b (Record i) o =
    (T (leb inode_count i || is_empty (view b.store) i) × (o ≡ outcome b.store no_file))
    ⊎ ((content : List ℕ) × (b.plain.working (name_at (view b.store) i) ≡ some content)
    × (find (view b.store) (name_at (view b.store) i) ≡ some i)
    × (o ≡ outcome b.store (file (name_at (view b.store) i) (length content))))
Says N b (RunList name from n list) o =
    (i : ℕ) × (find (view b.store) name ≡ some i)
    × (o ≡ list_into b.store list (runs (take n (drop from (file_at (view b.store) i).blocks))))
Says N b (NthExtent name from n k) o =
    (i : ℕ) × (find (view b.store) name ≡ some i)
    × (o ≡ outcome b.store (found (get_elem? (runs (take n (drop from (file_at (view b.store) i).blocks))) k) no_run run))

abbrev pub Accepted : ℕ → Both → Call → Outcome → Type 0
Accepted N b Format o =
    o ≡ outcome (record { session = closed_on N; device = record { size = b.store.device.size; block = empty_disk N }; work = b.store.work }) done
Accepted N b Open o =
    o ≡ outcome (with_session b.store (opened N (phase_in (cond b.plain.pending Recovering Ready) 0))) done
Accepted N b Advance o = Advances N b.plain.mode b o
Accepted N b Commit o = Commits b o
Accepted N b Abort o = o ≡ outcome (with_session b.store (opened N Phase.Ready)) done
Accepted N b (Do c) o = Changes N b c o
Accepted N b (Ask q) o = Says N b q o

-- ---- the claim

module _ (step : State → Call → Outcome) where
  abbrev pub next : ℕ → Both → Event → Both
  next N b (call c) =
      let o = step b.store c in
      record { store = o.after; plain = follow N b.plain c o.answer }
  next N b (cut w) =
      record { store = record { session = never_opened; device = b.store.device; work = w }; plain = after_cut b.plain }

  abbrev pub after : ℕ → Both → List Event → Both
  after N b [] = b
  after N b (e ∷ es) = after N (next N b e) es

  -- a claim about each moment of a list: before each event, and at the end
  abbrev pub Always : ℕ → (Both → Type 0) → Both → List Event → Type 0
  Always N P b [] = P b
  Always N P b (e ∷ es) = P b × Always N P (next N b e) es

  -- a claim about each call of a list, at the moment it is made
  abbrev pub Each : ℕ → (Both → Call → Type 0) → Both → List Event → Type 0
  Each N P b [] = Unit {0}
  Each N P b (call c ∷ es) = P b c × Each N P (next N b (call c)) es
  Each N P b (cut w ∷ es) = Each N P (next N b (cut w)) es

  -- n advances, one after the other
  abbrev pub advances : ℕ → State → State
  advances zero s = s
  advances (suc n) s = advances n (step s Advance).after

  pub record Rightly (N : ℕ) (b : Both) (c : Call) : Type 0 where
    -- "no call of the list was refused .. but where these papers say so", and where they say so it was
    pub refused : refusal_in (step b.store c).answer ≡ map refusal_of (due N b.plain b.store c)
    -- "A refusal changes nothing"
    pub kept : is_refused (step b.store c).answer ≡ true
        → step b.store c ≡ record { answer = (step b.store c).answer; after = b.store; buffer = buffer_of c; list = list_of c }
    -- the outcome of an accepted call; "each advance of the list made while committing or recovering answered d as its number"
    pub accepted : is_refused (step b.store c).answer ≡ false → Accepted N b c (step b.store c)

  -- what a list leaves, from b on, with a cut behind it and the work space w after the cut: opened, and, where a log is pending, after k+1 advances
  module _ (N : ℕ) (b : Both) (es : List Event) where
    abbrev pub end : Plain
    end = (after N b es).plain

    abbrev pub cut_off : Slice → State
    cut_off w = record { session = never_opened; device = (after N b es).store.device; work = w }

    abbrev pub recovered : Slice → State
    recovered w = advances (cond end.pending (end.k + 1) 0) (step (cut_off w) Open).after

  pub record Survives (N : ℕ) (b : Both) (es : List Event) : Type 0 where
    pub moments : Always N (Moment N) b es
    pub calls : Each N (Rightly N) b es
    -- "After any list and a cut, open is accepted", on any work space: recovering if a log is pending, else ready
    pub opens : (w : Slice)
        → step (cut_off N b es w) Open
        ≡ outcome (with_session (cut_off N b es w) (opened N (phase_in (cond (end N b es).pending Recovering Ready) 0))) done
    -- "if a log is pending, so are advances of k+1 stores in all, on 16,384 bytes of work space": the last is number k+1
    pub recovers : (w : Slice) → w.size ≡ work_size → T (end N b es).pending → (j : ℕ) → j ≤ (end N b es).k
        → (x : ℕ) × ((step (advances j (step (cut_off N b es w) Open).after) Advance).answer ≡ stored x (eqb j (end N b es).k) (j + 1))
    -- "and a second open": ready, with nothing staged
    pub opens-again : (w : Slice) → w.size ≡ work_size
        → step (recovered N b es w) Open ≡ outcome (with_session (recovered N b es w) (opened N Phase.Ready)) done
    -- "The device is then sound, its map is the committed one"
    pub is-sound : (w : Slice) → w.size ≡ work_size → T (sound N (recovered N b es w).device.block)
    pub keeps : (w : Slice) → w.size ≡ work_size → (name : List ℕ) → files_of (recovered N b es w).device.block name ≡ (end N b es).committed name

  -- calls lent a device or work space of a wrong length: refused, and nothing changes. Such a call may stand anywhere in a list.
  pub record Refuses (s : State) (c : Call) : Type 0 where
    pub device : (is_allowed s.device.size ≡ false) ⊎ (((is_format c || is_open c) ≡ false) × (eqb (block_size * s.session.blocks) s.device.size ≡ false))
        → step s c ≡ record { answer = refusal_of DeviceSize; after = s; buffer = buffer_of c; list = list_of c }
    pub work : is_allowed s.device.size ≡ true → eqb (block_size * s.session.blocks) s.device.size ≡ true
        → (is_format c || is_open c) ≡ false → eqb s.work.size work_size ≡ false
        → step s c ≡ record { answer = refusal_of WorkSize; after = s; buffer = buffer_of c; list = list_of c }

-- "A list starts on a sound device with format's session or one never opened."
pub record Starts (N : ℕ) (s : State) : Type 0 where
  pub fits : T (is_allowed s.device.size)
  pub blocks : s.device.size ≡ block_size * N
  pub whole : (n : ℕ) → length (s.device.block n) ≡ block_size
  pub bytes : (n i : ℕ) → get_or (s.device.block n) i 0 < 256
  pub is-sound : T (sound N s.device.block)
  pub unopened : (s.session ≡ closed_on N) ⊎ (s.session ≡ never_opened)

abbrev pub start_of : State → Both
start_of s = record { store = s; plain = plain_start (files_of s.device.block) s.session.blocks }

-- Demand 3, of a store.
pub record CutRule (step : State → Call → Outcome) : Type 0 where
  pub survives : (N : ℕ) (s : State) → Starts N s → (es : List Event) → Survives step N (start_of s) es
  pub refuses : (s : State) (c : Call) → Refuses step s c
