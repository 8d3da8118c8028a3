-- What the cut rule asks of files: laws about disks alone. All of sessions, staging, the log and the refusals' order is proved.
use Rattle.std.specs.Prelude.{ℕ, ◌+◌, ◌≤◌, ◌<◌, max, ◌≡◌, false, not, List, [], ◌∷◌, T, length, get_or}
use Rattle.std.proofs.Math.Option.{none, some}
use Rattle.spec.specs.Layout.{fewest_blocks, most_blocks, bitmap_block, inode_count}
use Rattle.spec.specs.Bytes.{found, is_some}
use Rattle.spec.specs.Disk.{Disk}
use Rattle.spec.specs.Bitmap.{bits_of, free_bits}
use Rattle.spec.specs.Inode.{inode_bytes, inode_at, name_at, is_empty, find, find_empty}
use Rattle.spec.specs.Sound.{volume_sound, free_blocks}
use Rattle.spec.specs.Map.{content_of, files_of}
use Rattle.spec.specs.declared.Refusal.{Refusal}
use Rattle.spec.specs.declared.Refusal.TheVariants.{Unknown, Taken, NoInode, NoSpace, TooManyExtents}
use Rattle.spec.specs.Answers.{Result, refuse, accept, require, ◌>>=◌, ◌>>◌}
use Rattle.spec.specs.Transaction.{State, view, BlockStore, ascending}
use Rattle.spec.specs.Plan.{tree_for, rewrites, creates, removes, renames}
use Rattle.spec.specs.Calls.{empty_disk, Change, Create, Remove, Rename, Write, SetSize, Do}
use Rattle.spec.specs.Plain.{Plain, changed_files}
use Rattle.spec.specs.Sentences.{file_at, file_then, record_for, staged_by}
use Rattle.spec.specs.Refusals.{wrong_name, over_limit, name_unknown, name_taken, no_record, of_record, lacks_room, is_scattered, Test, test, first_failed}
use Rattle.logs.specs.Stores.{Whole, Long, applied, targets_of}

-- ---- changes

-- the record of a file, or refusal 13
abbrev pub known_on : Disk → List ℕ → Result ℕ
known_on v name = found (find v name) (refuse Unknown) accept

-- record i as a file of this size, with bytes laid over it at x
abbrev pub rewritten : Disk → ℕ → ℕ → ℕ → List ℕ → Result (List BlockStore)
rewritten v i size x bytes = tree_for v (inode_at v i) size >>= (λ t. accept (rewrites v i (name_at v i) size x bytes t))

-- what a change does on a working copy: a refusal from 13 to 17, or what it stages
unfoldable pub planned : Disk → Change → Result (List BlockStore)
planned v (Create name) =
    require (not (is_some (find v name))) Taken >> (found (find_empty v) (refuse NoInode) accept >>= (λ i. accept (creates v i name)))
planned v (Remove name) = known_on v name >>= (λ i. accept (removes v i))
planned v (Rename name new) = known_on v name >>= (λ i. require (not (is_some (find v new))) Taken >> accept (renames v i new))
planned v (Write name x bytes) = known_on v name >>= (λ i. rewritten v i (max (inode_at v i).size (x + length bytes)) x bytes)
planned v (SetSize name size) = known_on v name >>= (λ i. rewritten v i size 0 [])

-- 13 to 17
abbrev pub plan_tests : ℕ → Plain → State → Change → List Test
plan_tests N p s c =
    test (name_unknown p (Do c)) Unknown
    ∷ test (name_taken p (Do c)) Taken
    ∷ test (no_record s (Do c)) NoInode
    ∷ test (of_record (lacks_room N s) s (Do c)) NoSpace
    ∷ test (of_record (is_scattered N s) s (Do c)) TooManyExtents
    ∷ []

-- what the stores of a change make of a disk v: a good one, changed as the sentences tell, in one record
pub record Makes (N : ℕ) (Good : Disk → Type 0) (v : Disk) (c : Change) (ws : List BlockStore) : Type 0 where
  pub long : Long ws
  pub inode : ℕ
  pub is-inode : record_for v c ≡ some inode
  pub staged : targets_of (ascending ws) ≡ staged_by N v inode c
  pub file : file_at (applied (ascending ws) v) inode ≡ file_then N v (file_at v inode) c
  pub others : (j : ℕ) → j < inode_count → (j ≡ inode → ⊥) → inode_bytes (applied (ascending ws) v) j ≡ inode_bytes v j
  pub good : Good (applied (ascending ws) v)
  pub files : (name : List ℕ) → files_of (applied (ascending ws) v) name ≡ changed_files (files_of v) c name

pub data Plans (N : ℕ) (Good : Disk → Type 0) (p : Plain) (s : State) (c : Change) : Type 0 where
  hindered : (r : Refusal) → first_failed (plan_tests N p s c) ≡ some r → planned (view s) c ≡ refuse r → Plans N Good p s c
  stages : (ws : List BlockStore) → first_failed (plan_tests N p s c) ≡ none → planned (view s) c ≡ accept ws → Makes N Good (view s) c ws → Plans N Good p s c

-- ---- files on a device of N blocks

pub record FilesOn (N : ℕ) : Type 1 where
  pub fewest : fewest_blocks ≤ N
  pub most : N ≤ most_blocks
  -- a sound volume, and what else files keep true of it: `sound` leaves open how a number is written in bytes that need not be below 256
  pub Good : Disk → Type 0
  pub is-sound : (v : Disk) → Good v → T (volume_sound N v)
  pub start : (v : Disk) → Whole v → ((n i : ℕ) → get_or (v n) i 0 < 256) → T (volume_sound N v) → Good v
  -- files lie in the blocks from 33 up
  pub good-local : (v w : Disk) → Whole v → Whole w → ((b : ℕ) → bitmap_block ≤ b → w b ≡ v b) → Good v → Good w
  pub files-local : (v w : Disk) → Whole v → Whole w → ((b : ℕ) → bitmap_block ≤ b → w b ≡ v b) → Good v → (name : List ℕ) → files_of w name ≡ files_of v name
  -- "Format makes an empty store"
  pub empty : Good (empty_disk N)
  pub no-files : (name : List ℕ) → files_of (empty_disk N) name ≡ none
  -- queries: a record's name finds it, a file is as long as its size, free blocks are the zero bits
  pub own_name : (v : Disk) → Whole v → Good v → (i : ℕ) → i < inode_count → is_empty v i ≡ false → find v (name_at v i) ≡ some i
  pub long : (v : Disk) → Whole v → Good v → (name : List ℕ) (i : ℕ) → find v name ≡ some i → length (content_of v (inode_at v i)) ≡ (inode_at v i).size
  pub free : (v : Disk) → Whole v → Good v → free_bits (bits_of (v bitmap_block)) ≡ free_blocks N v
  -- changes with right names and sizes, beside a plain store whose working map is the working copy's
  pub plans : (p : Plain) (s : State) → Whole (view s) → Good (view s) → ((name : List ℕ) → files_of (view s) name ≡ p.working name)
      → (c : Change) → wrong_name (Do c) ≡ false → over_limit (Do c) ≡ false → Plans N Good p s c

abbrev pub FileLayer : Type 1
FileLayer = (N : ℕ) → fewest_blocks ≤ N → N ≤ most_blocks → FilesOn N
