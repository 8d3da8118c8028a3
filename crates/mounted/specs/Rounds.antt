-- The states that several calls leave, one behind the other.
use Rattle.std.specs.Prelude.{ℕ, zero, suc, ◌*◌, cond, leb, replicate}
use Rattle.spec.specs.Layout.{block_size, max_file_blocks}
use Rattle.spec.specs.Session.{never_opened}
use Rattle.spec.specs.Answers.{count_of}
use Rattle.spec.specs.Transaction.{State, with_session, state_of}
use Rattle.spec.specs.Calls.{create, set_size, commit, advance, format, open_store}
use Rattle.mounted.specs.Names.{name_of}
use Rattle.mounted.specs.States.{work_filled}

-- n rounds: the k-th is told its number
abbrev pub rounds : (ℕ → State → State) → ℕ → State → State
rounds f zero s = s
rounds f (suc k) s = f k (rounds f k s)

-- a device of N zeros formatted and opened, with such a work space
unfoldable pub made_empty : ℕ → State
made_empty N = let s = state_of never_opened (replicate N 0) (work_filled 9) in
    (open_store (with_session (format s).after never_opened)).after

-- files 0 to n - 1 created
abbrev pub created : ℕ → State → State
created k s = (create s (name_of k)).after

-- file k with so many blocks, as far as a file may have them
abbrev pub grown : ℕ → ℕ → State → State
grown k blocks s = cond (leb blocks max_file_blocks) (set_size s (name_of k) (block_size * blocks)).after s

-- files 1 and 2 with so many blocks each
abbrev pub pair_grown : ℕ → State → State
pair_grown blocks s = grown 2 blocks (grown 1 blocks s)

-- one store more
abbrev pub advanced : ℕ → State → State
advanced k s = (advance s).after

-- a commit with all its stores
abbrev pub committed : State → State
committed s = let o = commit s in rounds advanced (count_of o.answer) o.after
