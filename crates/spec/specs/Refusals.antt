-- When document 01 refuses a call: each condition in its own terms (the plain store's phase and maps; trees, not bits), in the order of the numbers.
use Rattle.std.specs.Prelude.{ℕ, ◌+◌, ◌*◌, ◌-◌, ◌/◌, Bool, true, false, cond, not, ◌&&◌, ◌||◌, List, [], ◌∷◌, ◌++◌, length, take, drop, eqb, ltb}
use Rattle.std.proofs.Math.Option.{Option, none, some}
use Rattle.spec.specs.Layout.{block_size, header_block, bitmap_block, work_size, inode_count, log_length, max_file_size, max_extents}
use Rattle.spec.specs.Bytes.{found, all, any, keep, member, is_some, up_from}
use Rattle.spec.specs.Disk.{disk_block, is_allowed}
use Rattle.spec.specs.Inode.{is_name, is_empty, find}
use Rattle.spec.specs.Sound.{inode_fault, block_fault}
use Rattle.spec.specs.declared.Refusal.{Refusal}
use Rattle.spec.specs.declared.Refusal.TheVariants.{DeviceSize, WorkSize, BadName, TooLarge, BadHeader, NotReady, Unknown, Taken, NoInode, NoSpace, TooManyExtents, TooManyStaged, ListShort, DamagedInode, DamagedBlock}
use Rattle.spec.specs.Session.{staged_in}
use Rattle.spec.specs.Transaction.{State, view}
use Rattle.spec.specs.Journal.{targets_in, header_fault}
use Rattle.spec.specs.Calls.{Change, Create, Remove, Rename, Write, SetSize, Query, Read, Size, Free, Record, RunList, NthExtent, Call, Format, Open, Advance, Commit, Abort, Do, Ask}
use Rattle.spec.specs.Plain.{Plain, Mode, Closed, Ready, Committing, Recovering}
use Rattle.spec.specs.Sentences.{file_at, record_for, size_for, free_list, more_blocks, blocks_then, more_nodes, extent_count, call_stages}

-- ---- kinds of calls

-- "format and open"; "all calls but format, open and advance"
abbrev pub is_format : Call → Bool
is_format Format = true
is_format Open = false
is_format Advance = false
is_format Commit = false
is_format Abort = false
is_format (Do c) = false
is_format (Ask q) = false

abbrev pub is_open : Call → Bool
is_open Format = false
is_open Open = true
is_open Advance = false
is_open Commit = false
is_open Abort = false
is_open (Do c) = false
is_open (Ask q) = false

abbrev pub is_advance : Call → Bool
is_advance Format = false
is_advance Open = false
is_advance Advance = true
is_advance Commit = false
is_advance Abort = false
is_advance (Do c) = false
is_advance (Ask q) = false

-- a test of changes, of queries; false for all other calls
abbrev pub of_change : (Change → Bool) → Call → Bool
of_change f Format = false
of_change f Open = false
of_change f Advance = false
of_change f Commit = false
of_change f Abort = false
of_change f (Do c) = f c
of_change f (Ask q) = false

abbrev pub of_query : (Query → Bool) → Call → Bool
of_query f Format = false
of_query f Open = false
of_query f Advance = false
of_query f Commit = false
of_query f Abort = false
of_query f (Do c) = false
of_query f (Ask q) = f q

-- the names of the files that a call is about
abbrev pub old_names : Change → List (List ℕ)
old_names (Create name) = []
old_names (Remove name) = name ∷ []
old_names (Rename name new) = name ∷ []
old_names (Write name x bytes) = name ∷ []
old_names (SetSize name size) = name ∷ []

abbrev pub asked_names : Query → List (List ℕ)
asked_names (Read name x buffer) = name ∷ []
asked_names (Size name) = name ∷ []
asked_names Free = []
asked_names (Record i) = []
asked_names (RunList name from n list) = name ∷ []
asked_names (NthExtent name from n k) = name ∷ []

-- the names that it would give
abbrev pub new_names : Change → List (List ℕ)
new_names (Create name) = name ∷ []
new_names (Remove name) = []
new_names (Rename name new) = new ∷ []
new_names (Write name x bytes) = []
new_names (SetSize name size) = []

-- ---- refusals from the input

-- 1. "Device length: not 512 times an allowed N, or not the N of the session (format and open test only the first)."
abbrev pub wrong_device : Plain → State → Call → Bool
wrong_device p s c =
    not (is_allowed s.device.size)
    || not (is_format c || is_open c) && not (eqb (block_size * p.blocks) s.device.size)

-- 2. "Work space not 16,384 bytes (not tested by format and open)."
abbrev pub wrong_work : State → Call → Bool
wrong_work s c = not (is_format c || is_open c) && not (eqb s.work.size work_size)

-- 3. "Name not 8 bytes, or all zero (rename tests both)."
abbrev pub wrong_name : Call → Bool
wrong_name c =
    of_change (λ x. any (λ name. not (is_name name)) (old_names x ++ new_names x)) c
    || of_query (λ q. any (λ name. not (is_name name)) (asked_names q)) c

-- 4. "Size wanted, or x plus data length, over 1,048,576."
abbrev pub size_wanted : Change → ℕ
size_wanted (Create name) = 0
size_wanted (Remove name) = 0
size_wanted (Rename name new) = 0
size_wanted (Write name x bytes) = x + length bytes
size_wanted (SetSize name size) = size

abbrev pub over_limit : Call → Bool
over_limit c = of_change (λ x. ltb max_file_size (size_wanted x)) c

-- ---- refusals from the state

-- 10. "Commit block wrong, with the lowest record that is .. Open only."
abbrev pub fault_of : State → Option ℕ
fault_of s = header_fault (s.device.size / block_size) (s.device.block header_block)

abbrev pub wrong_header : State → Call → Bool
wrong_header s c = is_open c && is_some (fault_of s)

-- A2: 22 and 23 "take the place of 11", "Block 0 empty but .. Open only."
abbrev pub opens_empty : State → Call → Bool
opens_empty s c = is_open c && eqb (length (targets_in (s.device.block header_block))) 0

-- 22. "If some record breaks S2 to S6 or S8 we want the lowest such record"
abbrev pub inode_fault_of : State → Option ℕ
inode_fault_of s = inode_fault (s.device.size / block_size) s.device.block

abbrev pub wrong_inode : State → Call → Bool
wrong_inode s c = opens_empty s c && is_some (inode_fault_of s)

-- 23. "If all records are fine but S1 or S7 fails, we want the lowest block whose bit is wrong or which is reached twice."
abbrev pub block_fault_of : State → Option ℕ
block_fault_of s = block_fault (s.device.size / block_size) s.device.block

abbrev pub wrong_block : State → Call → Bool
wrong_block s c = opens_empty s c && is_some (block_fault_of s)

-- 12. "Session not ready (all calls but format, open and advance)."
abbrev pub is_ready_mode : Mode → Bool
is_ready_mode Closed = false
is_ready_mode Ready = true
is_ready_mode Committing = false
is_ready_mode Recovering = false

abbrev pub wrong_phase : Plain → Call → Bool
wrong_phase p c = not (is_format c || is_open c || is_advance c) && not (is_ready_mode p.mode)

-- 13. "Name unknown (rename: the old one)."
abbrev pub name_unknown : Plain → Call → Bool
name_unknown p c =
    of_change (λ x. any (λ name. not (is_some (p.working name))) (old_names x)) c
    || of_query (λ q. any (λ name. not (is_some (p.working name))) (asked_names q)) c

-- 14. "Name taken: create, or rename's new name, its own included."
abbrev pub name_taken : Plain → Call → Bool
name_taken p c = of_change (λ x. any (λ name. is_some (p.working name)) (new_names x)) c

-- 15. "No empty record."
abbrev pub needs_record : Change → Bool
needs_record (Create name) = true
needs_record (Remove name) = false
needs_record (Rename name new) = false
needs_record (Write name x bytes) = false
needs_record (SetSize name size) = false

abbrev pub no_record : State → Call → Bool
no_record s c = of_change (λ x. needs_record x && all (λ i. not (is_empty (view s) i)) (up_from 0 inode_count)) c

-- what holds of the record that a change is about
abbrev pub of_record : (ℕ → Change → Bool) → State → Call → Bool
of_record f s c = of_change (λ x. found (record_for (view s) x) false (λ i. f i x)) c

-- 16. "Data blocks plus extent blocks wanted beyond those held exceed the free ones." "When 16 fires on data blocks alone, extents are not counted."
abbrev pub lacks_room : ℕ → State → ℕ → Change → Bool
lacks_room N s i c =
    let f = file_at (view s) i in
    let size = size_for f.size c in
    let free = length (free_list N (view s)) in
    ltb free (more_blocks f size) || ltb free (more_blocks f size + more_nodes N (view s) f size)

-- 17. "More than 512 extents."
abbrev pub is_scattered : ℕ → State → ℕ → Change → Bool
is_scattered N s i c =
    let f = file_at (view s) i in
    ltb max_extents (extent_count (blocks_then N (view s) f (size_for f.size c)))

-- 18. "More than 32 blocks would be staged.": the blocks staged already or by this call
abbrev pub overstaged : ℕ → State → ℕ → Change → Bool
overstaged N s i c = ltb log_length (length (keep (λ b. member b (staged_in s.session) || call_stages N (view s) i c b) (up_from bitmap_block (N - bitmap_block))))

-- 19. "Lent list shorter than the run list."
abbrev pub list_short : State → Query → Bool
list_short s (Read name x buffer) = false
list_short s (Size name) = false
list_short s Free = false
list_short s (Record i) = false
list_short s (RunList name from n list) =
    found (find (view s) name) false (λ i. ltb (length list) (extent_count (take n (drop from (file_at (view s) i).blocks))))
list_short s (NthExtent name from n k) = false

-- ---- "Tests go in the order of these numbers."

pub record Test : Type 0 where
  pub fails : Bool
  pub refusal : Refusal

abbrev pub test : Bool → Refusal → Test
test b r = record { fails = b; refusal = r }

-- the first that fails
abbrev pub first_failed : List Test → Option Refusal
first_failed [] = none
first_failed (t ∷ ts) = let r = first_failed ts in cond t.fails (some t.refusal) r

-- on a device of N blocks
abbrev pub tests : ℕ → Plain → State → Call → List Test
tests N p s c =
    test (wrong_device p s c) DeviceSize
    ∷ test (wrong_work s c) WorkSize
    ∷ test (wrong_name c) BadName
    ∷ test (over_limit c) TooLarge
    ∷ test (wrong_header s c) (BadHeader (found (fault_of s) 0 (λ i. i)))
    ∷ test (wrong_inode s c) (DamagedInode (found (inode_fault_of s) 0 (λ i. i)))
    ∷ test (wrong_block s c) (DamagedBlock (disk_block (found (block_fault_of s) 0 (λ b. b))))
    ∷ test (wrong_phase p c) NotReady
    ∷ test (name_unknown p c) Unknown
    ∷ test (name_taken p c) Taken
    ∷ test (no_record s c) NoInode
    ∷ test (of_record (lacks_room N s) s c) NoSpace
    ∷ test (of_record (is_scattered N s) s c) TooManyExtents
    ∷ test (of_record (overstaged N s) s c) TooManyStaged
    ∷ test (of_query (list_short s) c) ListShort
    ∷ []

-- the refusal that document 01 gives, or none
unfoldable pub due : ℕ → Plain → State → Call → Option Refusal
due N p s c = first_failed (tests N p s c)

-- opens what this module seals
unfoldable pub open-Refusals : Unit {0}
unfolding due
open-Refusals = tt
