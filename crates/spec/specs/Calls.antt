-- The calls: for each its whole outcome, on any input. The tests of a call stand in the order of the refusals' numbers.
use Rattle.std.specs.Prelude.{ℕ, zero, suc, ◌+◌, ◌*◌, ◌-◌, ◌/◌, max, Bool, true, false, cond, not, ◌&&◌, ◌||◌, List, [], ◌++◌, length, take, drop, replicate, eqb, leb}
use Rattle.std.proofs.Math.ListN.{get_elem?}
use Rattle.spec.specs.Layout.{block_size, most_blocks, header_block, bitmap_block, data_start, log_length, work_size, inode_count, max_file_size}
use Rattle.spec.specs.Bytes.{found, zeros, is_some}
use Rattle.spec.specs.Disk.{Disk, disk_block, with_block, is_allowed}
use Rattle.spec.specs.Bitmap.{bits_of, bytes_of, free_bits}
use Rattle.spec.specs.Inode.{Extent, is_name, inode_at, name_at, is_empty, find, find_empty, data_of, runs}
use Rattle.spec.specs.Sound.{inode_fault, block_fault}
use Rattle.spec.specs.Map.{content_of}
use Rattle.spec.specs.Session.{Phase, Closed, Ready, Committing, Recovering, Session, opened, closed_on, in_phase, staged_in}
use Rattle.spec.specs.Answers.{DeviceSize, WorkSize, BadName, TooLarge, BadHeader, NotReady, Unknown, Taken, NoInode, TooManyStaged, ListShort, DamagedInode, DamagedBlock, Answer, done, started, stored, idle, counted, file, no_file, run, no_run, refusal_of, Result, refuse, accept, require, ◌>>=◌, ◌>>◌}
use Rattle.spec.specs.Transaction.{State, with_session, view, BlockStore, stage_all, with_staging, state_of}
use Rattle.spec.specs.Journal.{targets_in, header_fault, commit_stores, recovery_stores}
use Rattle.spec.specs.Plan.{tree_for, rewrites, creates, removes, renames}

-- ---- outcomes

-- what a call answers, the session, device and work space it leaves, and what it leaves in a lent buffer and a lent list (empty where none is lent)
pub record Outcome : Type 0 where
  pub answer : Answer
  pub after : State
  pub buffer : List ℕ
  pub list : List Extent

abbrev pub outcome : State → Answer → Outcome
outcome s a = record { answer = a; after = s; buffer = []; list = [] }

abbrev pub with_buffer : State → Answer → List ℕ → Outcome
with_buffer s a buffer = record { answer = a; after = s; buffer = buffer; list = [] }

abbrev pub with_list : State → Answer → List Extent → Outcome
with_list s a list = record { answer = a; after = s; buffer = []; list = list }

-- a refusal leaves everything as it was: `kept` is the outcome that keeps all, with that answer
abbrev pub settle : (Answer → Outcome) → Result Outcome → Outcome
settle kept (refuse r) = kept (refusal_of r)
settle kept (accept o) = o

-- ---- tests

-- 1. "Device length: not 512 times an allowed N, or not the N of the session"
abbrev pub device_fits : State → Bool
device_fits s = is_allowed s.device.size && eqb (block_size * s.session.blocks) s.device.size

-- 2. "Work space not 16,384 bytes"
abbrev pub work_fits : State → Bool
work_fits s = eqb s.work.size work_size

-- 4. "Size wanted, or x plus data length, over 1,048,576."
abbrev pub size_fits : ℕ → Bool
size_fits size = leb size max_file_size

-- 12. "Session not ready"
abbrev pub is_ready : Phase → Bool
is_ready Closed = false
is_ready Ready = true
is_ready (Committing d) = false
is_ready (Recovering d) = false

-- 13. "Name unknown": else its record
abbrev pub known : State → List ℕ → Result ℕ
known s name = found (find (view s) name) (refuse Unknown) accept

-- 14. "Name taken"
abbrev pub is_taken : State → List ℕ → Bool
is_taken s name = is_some (find (view s) name)

-- 15. "No empty record": else the lowest
abbrev pub empty_inode : State → Result ℕ
empty_inode s = found (find_empty (view s)) (refuse NoInode) accept

-- 1 and 2; 1, 2 and 12; 1, 2, 3 and 12; 1, 2, 3, 12 and 13; 1, 2, 3, 4, 12 and 13
unfoldable pub lent_ok : State → Result Bool
lent_ok s = do
  require (device_fits s) DeviceSize
  require (work_fits s) WorkSize

unfoldable pub ready_ok : State → Result Bool
ready_ok s = do
  lent_ok s
  require (is_ready s.session.phase) NotReady

unfoldable pub name_ok : State → List ℕ → Result Bool
name_ok s name = do
  lent_ok s
  require (is_name name) BadName
  require (is_ready s.session.phase) NotReady

unfoldable pub file_ok : State → List ℕ → Result ℕ
file_ok s name = do
  name_ok s name
  known s name

unfoldable pub sized_ok : State → List ℕ → ℕ → Result ℕ
sized_ok s name size = do
  lent_ok s
  require (is_name name) BadName
  require (size_fits size) TooLarge
  require (is_ready s.session.phase) NotReady
  known s name

-- 18. "More than 32 blocks would be staged": the stores of a call staged
unfoldable pub staging : State → List BlockStore → Result Outcome
staging s ws = do
  t ← accept (stage_all s ws)
  require (leb (length t.blocks) log_length) TooManyStaged
  accept (outcome (with_staging s t) done)

-- ---- format, open, advance, commit, abort

-- "Format makes an empty store, all zero but the bit table, and gives a closed session."
unfoldable pub empty_bits : ℕ → List ℕ
empty_bits N = replicate data_start 1 ++ (replicate (N - data_start) 0 ++ replicate (most_blocks - N) 1)

unfoldable pub empty_disk : ℕ → Disk
empty_disk N = with_block bitmap_block (bytes_of (empty_bits N)) (λ b. zeros block_size)

unfoldable pub format : State → Outcome
format s = settle (outcome s) do
  require (is_allowed s.device.size) DeviceSize
  N ← accept (s.device.size / block_size)
  accept (outcome (record { session = closed_on N; device = record { size = s.device.size; block = empty_disk N }; work = s.work }) done)

-- "Open makes a new session whatever went before: recovering if block 0 has a used record, else ready."
unfoldable pub open_phase : Disk → Phase
open_phase d = cond (eqb (length (targets_in (d header_block))) 0) Ready (Recovering 0)

-- 10. the header's lowest wrong record
abbrev pub header_ok : ℕ → Disk → Result Bool
header_ok N d = found (header_fault N (d header_block)) (accept true) (λ i. refuse (BadHeader i))

-- 22. "If some record breaks S2 to S6 or S8 we want the lowest such record"
abbrev pub inodes_ok : ℕ → Disk → Result Bool
inodes_ok N d = found (inode_fault N d) (accept true) (λ i. refuse (DamagedInode i))

-- 23. "If all records are fine but S1 or S7 fails, we want the lowest block whose bit is wrong or which is reached twice."
abbrev pub blocks_ok : ℕ → Disk → Result Bool
blocks_ok N d = found (block_fault N d) (accept true) (λ b. refuse (DamagedBlock (disk_block b)))

-- "22 comes before 23, both take the place of 11": "Block 0 empty but .."
abbrev pub volume_ok : ℕ → Disk → Result Bool
volume_ok N d = cond (is_ready (open_phase d)) (inodes_ok N d >> blocks_ok N d) (accept true)

unfoldable pub open_store : State → Outcome
open_store s = settle (outcome s) do
  require (is_allowed s.device.size) DeviceSize
  N ← accept (s.device.size / block_size)
  header_ok N s.device.block
  volume_ok N s.device.block
  accept (outcome (with_session s (opened N (open_phase s.device.block))) done)

-- "Each advance stores exactly one block": the entry at a place of the sequence of stores; behind the last entry the session is `last`, else `next`.
-- The number answered is the place in the sequence, counted from 1. Past the end nothing is under way.
abbrev pub perform : State → List BlockStore → ℕ → Session → Session → Outcome
perform s stores d next last =
    let is_last = eqb (suc d) (length stores) in
    found (get_elem? stores d)
    (outcome s idle)
    (λ w. outcome
    (record {
      session = cond is_last last next;
      device = record { size = s.device.size; block = with_block w.block w.content s.device.block };
      work = s.work;
    })
    (stored w.block is_last (suc d)))

-- "If nothing is under way it answers that with number 0 and stores nothing."
-- "After the last store of a commit the session is ready with nothing staged"; a recovery's "session then closes, to be opened anew".
unfoldable pub advance_in : State → Phase → Outcome
advance_in s Closed = outcome s idle
advance_in s Ready = outcome s idle
advance_in s (Committing d) =
    perform s (commit_stores s) d (in_phase s.session (Committing (suc d))) (opened s.session.blocks Ready)
advance_in s (Recovering d) =
    perform s (recovery_stores s.session.blocks s.device.block) d (in_phase s.session (Recovering (suc d))) (closed_on s.session.blocks)

unfoldable pub advance : State → Outcome
advance s = settle (outcome s) do
  lent_ok s
  accept (advance_in s s.session.phase)

-- "Commit of k staged blocks starts 2k+2 stores and answers that number; with k = 0 it answers 0 and the session stays ready."
abbrev pub start_commit : State → ℕ → Outcome
start_commit s zero = outcome s (started 0)
start_commit s (suc k) = outcome (with_session s (in_phase s.session (Committing 0))) (started (2 * suc k + 2))

unfoldable pub commit : State → Outcome
commit s = settle (outcome s) do
  ready_ok s
  accept (start_commit s (length (staged_in s.session)))

-- "Abort empties the transaction."
unfoldable pub abort : State → Outcome
abort s = settle (outcome s) do
  ready_ok s
  accept (outcome (with_session s (opened s.session.blocks Ready)) done)

-- ---- the calls that change files

-- 1, 2, 3, 12, 14, 15, 18
unfoldable pub create : State → List ℕ → Outcome
create s name = settle (outcome s) do
  name_ok s name
  require (not (is_taken s name)) Taken
  i ← empty_inode s
  staging s (creates (view s) i name)

-- 1, 2, 3, 12, 13, 18
unfoldable pub remove : State → List ℕ → Outcome
remove s name = settle (outcome s) do
  i ← file_ok s name
  staging s (removes (view s) i)

-- 1, 2, 3 of both names, 12, 13 of the old one, 14 of the new one, 18
unfoldable pub rename : State → List ℕ → List ℕ → Outcome
rename s name new = settle (outcome s) do
  lent_ok s
  require (is_name name && is_name new) BadName
  require (is_ready s.session.phase) NotReady
  i ← known s name
  require (not (is_taken s new)) Taken
  staging s (renames (view s) i new)

-- 16, 17 and 18: record i becomes a file of this size, with bytes laid over it at x
unfoldable pub rewrite : State → ℕ → ℕ → ℕ → List ℕ → Result Outcome
rewrite s i size x bytes = do
  t ← tree_for (view s) (inode_at (view s) i) size
  staging s (rewrites (view s) i (name_at (view s) i) size x bytes t)

-- "the size becomes the larger of the old size and x plus the data length, a gap is zeros"; 1, 2, 3, 4, 12, 13, 16, 17, 18
unfoldable pub write : State → List ℕ → ℕ → List ℕ → Outcome
write s name x bytes = settle (outcome s) do
  i ← sized_ok s name (x + length bytes)
  rewrite s i (max (inode_at (view s) i).size (x + length bytes)) x bytes

-- "Set-size follows the later, atomic form": (dir(pn) + F.fill(0, x)).seg(0, x); 1, 2, 3, 4, 12, 13, 16, 17, 18
unfoldable pub set_size : State → List ℕ → ℕ → Outcome
set_size s name size = settle (outcome s) do
  i ← sized_ok s name size
  rewrite s i size 0 []

-- ---- the calls that only read: session, device and work space stay as they were

-- "Read copies min(buffer length, size - x) bytes from place x, none if x is at or past the size; the rest of the buffer is unchanged, the
-- number is the answer."
abbrev pub read_into : State → List ℕ → List ℕ → Outcome
read_into s buffer got = with_buffer s (counted (length got)) (got ++ drop (length got) buffer)

unfoldable pub read : State → List ℕ → ℕ → List ℕ → Outcome
read s name x buffer = settle (λ a. with_buffer s a buffer) do
  i ← file_ok s name
  accept (read_into s buffer (take (length buffer) (drop x (content_of (view s) (inode_at (view s) i)))))

unfoldable pub size_of : State → List ℕ → Outcome
size_of s name = settle (outcome s) do
  i ← file_ok s name
  accept (outcome s (counted (inode_at (view s) i).size))

-- the zero bits of the working bitmap; on a sound working copy these are the free blocks "counted from the trees"
unfoldable pub free_count : State → Outcome
free_count s = settle (outcome s) do
  ready_ok s
  accept (outcome s (counted (free_bits (bits_of (view s bitmap_block)))))

-- "record i (name and size, or empty, also past 127)"
unfoldable pub record_at : State → ℕ → Outcome
record_at s i = settle (outcome s) do
  ready_ok s
  accept (outcome s (cond (leb inode_count i || is_empty (view s) i) no_file (file (name_at (view s) i) (inode_at (view s) i).size)))

-- "The run list of a stretch (first block place, count)": "the stretch is cut at the end of the file, extents are the largest possible"
unfoldable pub runs_of : State → ℕ → ℕ → ℕ → List Extent
runs_of s i from n = runs (take n (drop from (data_of (view s) (inode_at (view s) i))))

-- "The n-th extent of such a run list alone, counted from 0 .. past the last it answers none."
unfoldable pub nth_extent : State → List ℕ → ℕ → ℕ → ℕ → Outcome
nth_extent s name from n k = settle (outcome s) do
  i ← file_ok s name
  accept (outcome s (found (get_elem? (runs_of s i from n) k) no_run run))

-- "put into a lent list of extents: .. places after the last are unchanged, and their number is the answer"; 19
abbrev pub list_into : State → List Extent → List Extent → Outcome
list_into s list got = with_list s (counted (length got)) (got ++ drop (length got) list)

unfoldable pub run_list : State → List ℕ → ℕ → ℕ → List Extent → Outcome
run_list s name from n list = settle (λ a. with_list s a list) do
  i ← file_ok s name
  require (leb (length (runs_of s i from n)) (length list)) ListShort
  accept (list_into s list (runs_of s i from n))

-- ---- all calls in one

pub data Change : Type 0 where
  Create Remove : List ℕ → Change
  Rename : List ℕ → List ℕ → Change
  Write : List ℕ → ℕ → List ℕ → Change
  SetSize : List ℕ → ℕ → Change

pub data Query : Type 0 where
  Read : List ℕ → ℕ → List ℕ → Query
  Size : List ℕ → Query
  Free : Query
  Record : ℕ → Query
  RunList : List ℕ → ℕ → ℕ → List Extent → Query
  NthExtent : List ℕ → ℕ → ℕ → ℕ → Query

pub data Call : Type 0 where
  Format Open Advance Commit Abort : Call
  Do : Change → Call
  Ask : Query → Call

abbrev pub change_step : State → Change → Outcome
change_step s (Create name) = create s name
change_step s (Remove name) = remove s name
change_step s (Rename name new) = rename s name new
change_step s (Write name x bytes) = write s name x bytes
change_step s (SetSize name size) = set_size s name size

abbrev pub query_step : State → Query → Outcome
query_step s (Read name x buffer) = read s name x buffer
query_step s (Size name) = size_of s name
query_step s Free = free_count s
query_step s (Record i) = record_at s i
query_step s (RunList name from n list) = run_list s name from n list
query_step s (NthExtent name from n k) = nth_extent s name from n k

abbrev pub step : State → Call → Outcome
step s Format = format s
step s Open = open_store s
step s Advance = advance s
step s Commit = commit s
step s Abort = abort s
step s (Do c) = change_step s c
step s (Ask q) = query_step s q

-- ---- the form of a promise: what a function leaves, with its answer, is the call's outcome at what it was given

abbrev pub left : Session → List ℕ → List ℕ → Answer → Outcome
left s device work a = outcome (state_of s device work) a

abbrev pub left_buffer : Session → List ℕ → List ℕ → Answer → List ℕ → Outcome
left_buffer s device work a buffer = with_buffer (state_of s device work) a buffer

abbrev pub left_list : Session → List ℕ → List ℕ → Answer → List Extent → Outcome
left_list s device work a list = with_list (state_of s device work) a list

-- opens what this module seals
unfoldable pub open-Calls : Unit {0}
unfolding lent_ok ready_ok name_ok file_ok sized_ok staging empty_bits empty_disk format open_phase open_store advance_in advance commit abort create remove rename rewrite write set_size read size_of free_count record_at runs_of nth_extent run_list
open-Calls = tt
