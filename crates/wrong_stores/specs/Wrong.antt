-- Wrong stores, each with the row of the table that refutes it.
use Rattle.std.specs.Prelude.{ℕ, suc, ◌+◌, ◌-◌, ◌/◌, Bool, true, false, cond, not, ltb, ◌≡◌, refl, List, [], ◌∷◌, ◌++◌, map, reverse, length, take, drop, T}
use Rattle.std.proofs.Common.{ap, ◌∙◌}
use Rattle.spec.specs.Bytes.{zeros, all, concat, pieces, found}
use Rattle.spec.specs.Disk.{Slice, with_block, open-Disk}
use Rattle.spec.specs.Bitmap.{open-Bitmap}
use Rattle.spec.specs.Inode.{open-Inode}
use Rattle.spec.specs.Sound.{block_fault, open-Sound}
use Rattle.spec.specs.Map.{open-Map}
use Rattle.spec.specs.declared.Phase.{Phase}
use Rattle.spec.specs.declared.Phase.TheVariants.{Closed, Ready, Committing, Recovering}
use Rattle.spec.specs.Session.{opened, in_phase, open-Session}
use Rattle.spec.specs.Answers.{Answer, refused, done, started, stored, idle, counted, file, no_file, run, no_run, refusal_number}
use Rattle.spec.specs.Transaction.{State, with_session, BlockStore, open-Transaction}
use Rattle.spec.specs.Plan.{open-Plan}
use Rattle.spec.specs.Journal.{commit_stores, open-Journal}
use Rattle.spec.specs.Calls.{Outcome, outcome, perform, Create, Call, Format, Open, Advance, Commit, Abort, Do, Ask, step, open-Calls}
use Rattle.spec.specs.Listing.{open-Listing}
use Rattle.examples.specs.Lines.{Line, gives, Row, fresh, same_answer, then, hold, holds}
use Rattle.examples.specs.Table.{A, E1, E2, E3, E4-early, E4-late, E6-gap, E10, damaged-inodes, damaged-blocks}

abbrev pub Store : Type 0
Store = State → Call → Outcome

-- "A store that refuses all"
abbrev pub refuses_all : Store
refuses_all s c = outcome s (refused 1 [])

-- one that differs from the right store in one call only
abbrev pub with_open : (State → Outcome) → Store
with_open f s Format = step s Format
with_open f s Open = f s
with_open f s Advance = step s Advance
with_open f s Commit = step s Commit
with_open f s Abort = step s Abort
with_open f s (Do c) = step s (Do c)
with_open f s (Ask q) = step s (Ask q)

abbrev pub with_advance : (State → Outcome) → Store
with_advance f s Format = step s Format
with_advance f s Open = step s Open
with_advance f s Advance = f s
with_advance f s Commit = step s Commit
with_advance f s Abort = step s Abort
with_advance f s (Do c) = step s (Do c)
with_advance f s (Ask q) = step s (Ask q)

abbrev pub with_commit : (State → Outcome) → Store
with_commit f s Format = step s Format
with_commit f s Open = step s Open
with_commit f s Advance = step s Advance
with_commit f s Commit = f s
with_commit f s Abort = step s Abort
with_commit f s (Do c) = step s (Do c)
with_commit f s (Ask q) = step s (Ask q)

-- open never tests 10
abbrev pub opens_all : Store
opens_all = with_open (λ s. outcome (with_session s (opened 64 Ready)) done)

-- commit answers its number and starts nothing
abbrev pub starts_nothing : Store
starts_nothing = with_commit (λ s. outcome s (step s Commit).answer)

-- advance answers the number before
abbrev pub number_before : Answer → Answer
number_before (refused n vs) = refused n vs
number_before done = done
number_before (started n) = started n
number_before (stored b l n) = stored b l (n - 1)
number_before idle = idle
number_before (counted n) = counted n
number_before (file x n) = file x n
number_before no_file = no_file
number_before (run e) = run e
number_before no_run = no_run

abbrev pub counts_from_zero : Store
counts_from_zero = with_advance (λ s. outcome (step s Advance).after (number_before (step s Advance).answer))

-- advance stores nothing, and answers as if it did: "feigns advances"
abbrev pub feigns : Store
feigns =
    with_advance (λ s.
    outcome (record { session = (step s Advance).after.session; device = s.device; work = s.work }) (step s Advance).answer)

-- a commit whose stores go in another order
abbrev pub advance_over : (List BlockStore → List BlockStore) → State → Phase → Outcome
advance_over f s Closed = step s Advance
advance_over f s Ready = step s Advance
advance_over f s (Committing d) =
    perform s (f (commit_stores s)) d (in_phase s.session (Committing (suc d))) (opened s.session.blocks Ready)
advance_over f s (Recovering d) = step s Advance

abbrev pub reordered : (List BlockStore → List BlockStore) → Store
reordered f = with_advance (λ s. advance_over f s s.session.phase)

-- "Clearing block 0 before the last target is stored"
abbrev pub clears_early : Store
clears_early = reordered (λ ws. take (length ws - 2) ws ++ reverse (drop (length ws - 2) ws))

-- "storing the list before the last image"
abbrev pub lists_early : Store
lists_early =
    reordered (λ ws.
    let k = (length ws - 2) / 2 in
    take (k - 1) ws ++ (reverse (take 2 (drop (k - 1) ws)) ++ drop (k + 1) ws))

-- "says 'nothing under way' early"
abbrev pub stops_early : Store
stops_early = reordered (λ ws. take (length ws - 1) ws)

-- "one whose first advance copies everything": the answers are right, but each advance makes all stores
abbrev pub stored_all : List BlockStore → Slice → Slice
stored_all [] d = d
stored_all (w ∷ ws) d = stored_all ws (record { size = d.size; block = with_block w.block w.content d.block })

abbrev pub copies_all : Store
copies_all =
    with_advance (λ s.
    let o = step s Advance in
    outcome (record { session = o.after.session; device = stored_all (commit_stores s) s.device; work = s.work }) o.answer)

-- "Reading the committed content of a block that is staged"
abbrev pub reads_committed : Store
reads_committed s Format = step s Format
reads_committed s Open = step s Open
reads_committed s Advance = step s Advance
reads_committed s Commit = step s Commit
reads_committed s Abort = step s Abort
reads_committed s (Do c) = step s (Do c)
reads_committed s (Ask q) =
    let o = step (with_session s (opened s.session.blocks s.session.phase)) (Ask q) in
    record { answer = o.answer; after = s; buffer = o.buffer; list = o.list }

-- block 0 kept with its numbers turned round, on the device and when it is read back
abbrev pub turned : State → State
turned s =
    record {
      session = s.session;
      device = record {
        size = s.device.size;
        block = with_block 0 (concat (map reverse (pieces 256 2 (s.device.block 0)))) s.device.block;
      };
      work = s.work;
    }

abbrev pub turns_block0 : Store
turns_block0 s c =
    let o = step (turned s) c in
    record { answer = o.answer; after = turned o.after; buffer = o.buffer; list = o.list }

-- "repeats one reply": with nothing done, and though all is done as it should be
abbrev pub repeats : Answer → Store
repeats a s c = outcome s a

abbrev pub replies_only : Answer → Store
replies_only a s c =
    let o = step s c in
    record { answer = a; after = o.after; buffer = o.buffer; list = o.list }

-- A2: open tells 11 of a damaged device as it did before, names record or block 0, or looks at the blocks first
abbrev pub with_damage : (ℕ → Answer) → Store
with_damage f =
    with_open (λ s.
    let o = step s Open in
    let n = refusal_number o.answer in
    cond (ltb 21 n) (outcome s (f n)) o)

abbrev pub blocks_first : Store
blocks_first = with_open (λ s. found (block_fault 64 s.device.block) (step s Open) (λ b. outcome s (refused 23 (b ∷ []))))

-- a wrong store, and the row that refutes it
pub record Wrong : Type 0 where
  pub store : Store
  pub row : Row

abbrev pub wrong : Store → Row → Wrong
wrong w r = record { store = w; row = r }

abbrev pub wrong_stores : List Wrong
wrong_stores =
    wrong refuses_all E1 ∷ wrong opens_all E10 ∷ wrong starts_nothing E2 ∷ wrong counts_from_zero E2 ∷ wrong feigns E3
    ∷ wrong clears_early E2 ∷ wrong lists_early E2 ∷ wrong stops_early E2 ∷ wrong copies_all E4-early ∷ wrong reads_committed E6-gap
    ∷ wrong turns_block0 E4-late ∷ wrong (repeats done) E1 ∷ wrong (repeats (counted 0)) E1 ∷ wrong (repeats idle) E1
    ∷ wrong (replies_only done) E1 ∷ wrong (replies_only (counted 0)) E1 ∷ wrong (replies_only (stored 0 false 1)) E1
    ∷ wrong opens_all damaged-blocks ∷ wrong (with_damage (λ n. refused 11 [])) damaged-inodes ∷ wrong (with_damage (λ n. refused n (0 ∷ []))) damaged-blocks
    ∷ wrong blocks_first damaged-blocks ∷ []

-- each is refuted by its row
pub every-wrong : T (all (λ w. not (holds w.store w.row)) wrong_stores)
unfolding zeros open-Disk open-Bitmap open-Inode open-Sound open-Map open-Session open-Transaction open-Plan open-Journal open-Calls open-Listing
every-wrong = tt

-- ---- "repeats one reply": whichever it is, and whatever the store does beside

module _ (w : Store) (a : Answer) (always : (s : State) (c : Call) → (w s c).answer ≡ a) where
  -- a line that asks for another answer does not hold; past one that asks for this one the next is looked at
  other : (s : State) (c : Call) (b : Answer) (ls : List Line) → same_answer a b ≡ false → hold w s (gives c b ∷ ls) ≡ false
  other s c b ls h = ap (λ (x : Answer). then (same_answer x b) (hold w (w s c).after ls)) (always s c) ∙ ap (λ (t : Bool). then t (hold w (w s c).after ls)) h

  same-one : (s : State) (c : Call) (b : Answer) (ls : List Line) → same_answer a b ≡ true → hold w s (gives c b ∷ ls) ≡ hold w (w s c).after ls
  same-one s c b ls h = ap (λ (x : Answer). then (same_answer x b) (hold w (w s c).after ls)) (always s c) ∙ ap (λ (t : Bool). then t (hold w (w s c).after ls)) h

  -- E2 asks for done at format
  not_done : same_answer a done ≡ false → holds w E2 ≡ false
  not_done h = other (fresh 64) Format done (drop 1 E2.lines) h

-- and for a number at commit
pub one-reply : (w : Store) (a : Answer) → ((s : State) (c : Call) → (w s c).answer ≡ a) → holds w E2 ≡ false
one-reply w (refused n vs) h = not_done w (refused n vs) h refl
one-reply w done h =
    let formatted = (w (fresh 64) Format).after in
    let open-one = (w formatted Open).after in
    let made = (w open-one (Do (Create A))).after in
    same-one w done h (fresh 64) Format done (drop 1 E2.lines) refl ∙ same-one w done h formatted Open done (drop 2 E2.lines) refl
    ∙ same-one w done h open-one (Do (Create A)) done (drop 3 E2.lines) refl ∙ other w done h made Commit (started 4) (drop 4 E2.lines) refl
one-reply w (started n) h = not_done w (started n) h refl
one-reply w (stored b l n) h = not_done w (stored b l n) h refl
one-reply w idle h = not_done w idle h refl
one-reply w (counted n) h = not_done w (counted n) h refl
one-reply w (file x n) h = not_done w (file x n) h refl
one-reply w no_file h = not_done w no_file h refl
one-reply w (run e) h = not_done w (run e) h refl
one-reply w no_run h = not_done w no_run h refl
