-- What calls answer, in document 01's numbers and values.
use Rattle.std.specs.Prelude.{ℕ, Bool, true, false, List, [], ◌∷◌, Option, Some, None, Ok, Err}
use Rattle.std.specs.Prelude.{Result as Returned}
use Rattle.spec.specs.Inode.{Extent}
use Rattle.spec.specs.declared.BlockStored.{BlockStored}
use Rattle.spec.specs.declared.FileRecord.{FileRecord}
pub use Rattle.spec.specs.declared.Refusal.{Refusal}
pub use Rattle.spec.specs.declared.Refusal.TheVariants.{DeviceSize, WorkSize, BadName, TooLarge, BadHeader, NotReady, Unknown, Taken, NoInode, NoSpace, TooManyExtents, TooManyStaged, ListShort, DamagedInode, DamagedBlock}

pub data Answer : Type 0 where
  -- the refusal's number, and the values that go with it
  refused : ℕ → List ℕ → Answer
  -- format, open, abort, create, remove, rename, write, set-size
  done : Answer
  -- commit: how many stores it has started, 0 where nothing is staged
  started : ℕ → Answer
  -- advance: "the block stored, whether it was the last, and the number of stores since the commit or open began, this one included"
  stored : ℕ → Bool → ℕ → Answer
  -- advance: "If nothing is under way it answers that with number 0"
  idle : Answer
  -- read, size, free count, run list
  counted : ℕ → Answer
  -- "record i (name and size, or empty ..)"
  file : List ℕ → ℕ → Answer
  no_file : Answer
  -- n-th extent; "past the last it answers none"
  run : Extent → Answer
  no_run : Answer

-- "Refusals from the input", "Refusals from the state": the number of each, and for 10 "the lowest record that is" wrong.
-- A2: "22 record damaged, with its number; 23 block damaged, with its number"; 11 "no longer occurs"
abbrev pub refusal_of : Refusal → Answer
refusal_of DeviceSize = refused 1 []
refusal_of WorkSize = refused 2 []
refusal_of BadName = refused 3 []
refusal_of TooLarge = refused 4 []
refusal_of (BadHeader i) = refused 10 (i ∷ [])
refusal_of NotReady = refused 12 []
refusal_of Unknown = refused 13 []
refusal_of Taken = refused 14 []
refusal_of NoInode = refused 15 []
refusal_of NoSpace = refused 16 []
refusal_of TooManyExtents = refused 17 []
refusal_of TooManyStaged = refused 18 []
refusal_of ListShort = refused 19 []
refusal_of (DamagedInode i) = refused 22 (i ∷ [])
refusal_of (DamagedBlock b) = refused 23 (b.0 ∷ [])

-- the number of an answer that is a refusal, 0 of one that is none
abbrev pub refusal_number : Answer → ℕ
refusal_number (refused n vs) = n
refusal_number done = 0
refusal_number (started n) = 0
refusal_number (stored b l n) = 0
refusal_number idle = 0
refusal_number (counted n) = 0
refusal_number (file x n) = 0
refusal_number no_file = 0
refusal_number (run e) = 0
refusal_number no_run = 0

-- the value that goes with a refusal
abbrev pub value_told : Answer → Option ℕ
value_told (refused n []) = None
value_told (refused n (v ∷ vs)) = Some v
value_told done = None
value_told (started n) = None
value_told (stored b l n) = None
value_told idle = None
value_told (counted n) = None
value_told (file x n) = None
value_told no_file = None
value_told (run e) = None
value_told no_run = None

-- the record of block 0 that refusal 10 names, the damaged record of 22, the damaged block of 23
abbrev pub fault_told : Refusal → Option ℕ
fault_told r = value_told (refusal_of r)

-- "When an answer is an enum, a definition tells you this paper's number and values for each of its cases."
abbrev pub done_of : Returned (Unit {0}) Refusal → Answer
done_of (Err r) = refusal_of r
done_of (Ok _) = done

abbrev pub started_of : Returned ℕ Refusal → Answer
started_of (Err r) = refusal_of r
started_of (Ok n) = started n

abbrev pub stored_of : Returned (Option BlockStored) Refusal → Answer
stored_of (Err r) = refusal_of r
stored_of (Ok (Some x)) = stored x.block.0 x.last x.number
stored_of (Ok None) = idle

abbrev pub counted_of : Returned ℕ Refusal → Answer
counted_of (Err r) = refusal_of r
counted_of (Ok n) = counted n

abbrev pub recorded_of : Returned (Option FileRecord) Refusal → Answer
recorded_of (Err r) = refusal_of r
recorded_of (Ok (Some f)) = file f.name f.size
recorded_of (Ok None) = no_file

abbrev pub run_of : Returned (Option Extent) Refusal → Answer
run_of (Err r) = refusal_of r
run_of (Ok (Some e)) = run e
run_of (Ok None) = no_run

-- "A refusal gives count 0 where a count is due": the count of an answer
abbrev pub count_of : Answer → ℕ
count_of (refused n vs) = 0
count_of done = 0
count_of (started n) = n
count_of (stored b l n) = n
count_of idle = 0
count_of (counted n) = n
count_of (file x n) = n
count_of no_file = 0
count_of (run e) = e.count
count_of no_run = 0

abbrev pub is_refused : Answer → Bool
is_refused (refused n vs) = true
is_refused done = false
is_refused (started n) = false
is_refused (stored b l n) = false
is_refused idle = false
is_refused (counted n) = false
is_refused (file x n) = false
is_refused no_file = false
is_refused (run e) = false
is_refused no_run = false

-- ---- a call's result before it is settled: a refusal, or a value

pub data Result (A : Type 0) : Type 0 where
  refuse : Refusal → Result A
  accept : A → Result A

module _ {A B : Type 0} where
  infixl 20 ◌>>=◌
  abbrev pub ◌>>=◌ : Result A → (A → Result B) → Result B
  refuse r >>= f = refuse r
  accept a >>= f = f a

  infixl 20 ◌>>◌
  abbrev pub ◌>>◌ : Result A → Result B → Result B
  refuse r >> b = refuse r
  accept a >> b = b

-- a test, refused where it fails
abbrev pub require : Bool → Refusal → Result Bool
require true r = accept true
require false r = refuse r
