-- The plain store of the cut rule: "fed arguments, answers and cuts".
use Rattle.std.specs.Prelude.{ℕ, zero, suc, ◌+◌, ◌*◌, ◌-◌, ◌/◌, Bool, true, false, cond, List, [], ◌++◌, length, drop, eqb}
use Rattle.std.proofs.Math.Option.{Option, none, some, map}
use Rattle.spec.specs.Bytes.{exactly, same}
use Rattle.spec.specs.Map.{Files}
use Rattle.spec.specs.declared.Phase.{Phase}
use Rattle.spec.specs.Answers.{Answer, count_of, is_refused}
use Rattle.spec.specs.Calls.{Change, Create, Remove, Rename, Write, SetSize, Call, Format, Open, Advance, Commit, Abort, Do, Ask}

pub data Mode : Type 0 where
  Closed Ready Committing Recovering : Mode

-- "It keeps a committed and a working map, a phase, k, d and whether a log is pending."; for refusal 1 also the N of the session
pub record Plain : Type 0 where
  pub committed : Files
  pub working : Files
  pub mode : Mode
  pub k : ℕ
  pub d : ℕ
  pub pending : Bool
  pub blocks : ℕ

abbrev pub plain : Files → Files → Mode → ℕ → ℕ → Bool → ℕ → Plain
plain c w m k d p n = record { committed = c; working = w; mode = m; k = k; d = d; pending = p; blocks = n }

-- the place of a session's phase in its sequence of stores, and that phase
abbrev pub place_of : Plain → ℕ
place_of p = p.d

abbrev pub phase_in : Mode → ℕ → Phase
phase_in Closed d = Phase.Closed
phase_in Ready d = Phase.Ready
phase_in Committing d = Phase.Committing d
phase_in Recovering d = Phase.Recovering d

abbrev pub phase_of : Plain → Phase
phase_of p = phase_in p.mode (place_of p)

-- "It starts closed, none pending, both maps the device's."
abbrev pub plain_start : Files → ℕ → Plain
plain_start files n = plain files files Closed 0 0 false n

-- ---- the maps

-- a map changed at one name
abbrev pub at : List ℕ → Option (List ℕ) → Files → Files
at name x files = λ n. cond (same n name) x (files n)

-- NewFile in its first form: "the size becomes the larger of the old size and x plus the data length, a gap is zeros"
abbrev pub new_file : ℕ → List ℕ → List ℕ → List ℕ
new_file x bytes old = exactly x old ++ (bytes ++ drop (x + length bytes) old)

-- "Create (empty), remove, rename, write and set-size (lengthening by zeros) change the working map as above."
abbrev pub changed_files : Files → Change → Files
changed_files files (Create name) = at name (some []) files
changed_files files (Remove name) = at name none files
changed_files files (Rename name new) = at name none (at new (files name) files)
changed_files files (Write name x bytes) = at name (map (new_file x bytes) (files name)) files
changed_files files (SetSize name size) = at name (map (exactly size) (files name)) files

-- ---- calls and cuts

-- "Abort: working as committed."
abbrev pub after_abort : Plain → Plain
after_abort p = plain p.committed p.committed p.mode p.k p.d p.pending p.blocks

-- "Cut: so too, and closed."; "the next call gets a session never opened"
abbrev pub after_cut : Plain → Plain
after_cut p = plain p.committed p.committed Closed p.k p.d p.pending 0

-- "Open: so too, then recovering with d = 0 if a log is pending, else ready."
abbrev pub after_open : ℕ → Plain → Plain
after_open N p = plain p.committed p.committed (cond p.pending Recovering Ready) p.k 0 p.pending N

-- "Commit answering 2k+2: committing, d = 0; answering 0: no change."
abbrev pub after_commit : Plain → ℕ → Plain
after_commit p zero = p
after_commit p (suc n) = plain p.committed p.working Committing ((suc n - 2) / 2) 0 p.pending p.blocks

-- "Committing, at k+1: committed as working, log pending; at 2k+2: none pending, ready."
abbrev pub after_commit_store : Plain → ℕ → Plain
after_commit_store p d =
    cond (eqb d (p.k + 1)) (plain p.working p.working Committing p.k d true p.blocks)
    (cond (eqb d (2 * p.k + 2)) (plain p.committed p.working Ready p.k d false p.blocks)
    (plain p.committed p.working Committing p.k d p.pending p.blocks))

-- "Recovering, at k+1: none pending, closed."
abbrev pub after_recovery_store : Plain → ℕ → Plain
after_recovery_store p d =
    cond (eqb d (p.k + 1)) (plain p.committed p.working Closed p.k d false p.blocks)
    (plain p.committed p.working Recovering p.k d p.pending p.blocks)

-- "advance when closed or ready: no change"; "Advance: d grows by 1"
abbrev pub after_advance : Plain → Mode → Plain
after_advance p Closed = p
after_advance p Ready = p
after_advance p Committing = after_commit_store p (p.d + 1)
after_advance p Recovering = after_recovery_store p (p.d + 1)

abbrev pub after_change : Plain → Change → Plain
after_change p c = plain p.committed (changed_files p.working c) p.mode p.k p.d p.pending p.blocks

-- a call that was accepted, with its answer, on a device of N blocks. No rule is given for format: it starts anew on an empty device.
abbrev pub accepted : ℕ → Plain → Call → Answer → Plain
accepted N p Format a = plain_start (λ n. none) N
accepted N p Open a = after_open N p
accepted N p Advance a = after_advance p p.mode
accepted N p Commit a = after_commit p (count_of a)
accepted N p Abort a = after_abort p
accepted N p (Do c) a = after_change p c
accepted N p (Ask q) a = p

-- "Refused and reading calls ..: no change."
abbrev pub follow : ℕ → Plain → Call → Answer → Plain
follow N p c a = cond (is_refused a) p (accepted N p c a)
