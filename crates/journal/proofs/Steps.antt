-- What the functions that choose and make a store leave to prove. Assumes nothing.
use Prim.Native.Nat.{ℕ, zero, suc, ◌+◌, ◌*◌, ◌-◌, ◌<◌, ◌≤◌}
use mathlib.Core.Path.{◌≡◌, refl, sym, ap, ap₂, ◌∙◌}
use mathlib.Core.Bool.{Bool, true, false, cond, not, ◌||◌, true≢false}
use mathlib.Core.List.{List, []}
use mathlib.Core.Option.{Option, none, some}
use native.Mathlib.Numerals.{add-one}
use native.Mathlib.Omega.{arith}
use borrow.Author.Tests.{leb-true, leb-false, ne_eqb}
use lib.Dec.{eqb, leb}
use lib.ListN.{length, take, drop, get_or, get_elem?, replicate}
use lib.Seq.{take_all, take-length}
use Rattle.spec.specs.Bytes.{zeros, patch, bytes2, distinct, place}
use Rattle.spec.specs.Disk.{Slice, blocks_of, slice_of}
use Rattle.spec.specs.declared.Phase.{Phase}
use Rattle.spec.specs.declared.Session.{Session}
use Rattle.spec.specs.declared.BlockStored.{BlockStored}
use Rattle.std.specs.Prelude.{Some, Ok}
use Rattle.std.specs.Prelude.{Option as Optional, Result as Returned}
use Rattle.std.specs.Option.{unwrap_or}
use Rattle.spec.specs.Session.{opened, in_phase, staged_in}
use Rattle.spec.specs.declared.Phase.TheVariants.{Closed, Ready, Committing, Recovering}
use Rattle.spec.specs.Answers.{idle, started, stored, stored_of, refusal_of, refuse, accept}
use Rattle.spec.specs.declared.Refusal.{Refusal}
use Rattle.spec.specs.Transaction.{State, BlockStore, put, state_of, with_session}
use Rattle.spec.specs.Journal.{header_of, targets_in, are_targets, commit_stores, recovery_stores}
use Rattle.spec.specs.Calls.{Outcome, outcome, perform, advance_in, advance, left, lent_ok, ready_ok, start_commit, commit}
use Rattle.block.specs.Stores.{stored_in}
use Rattle.journal.specs.Order.{rank, sorted}
use Rattle.journal.specs.Entries.{entry_content, Entered, begun_phase, behind, store_of, Leads, Possible}
use Rattle.journal.specs.declared.Entry.{Entry}
use Rattle.journal.specs.declared.next_store.NextStore.{NextStore}
use Rattle.header.proofs.Loops.{head-targets}
use Rattle.lists.specs.Members.{member-at}
use Rattle.lists.specs.Places.{place-lt, place-value, no_place}
use Rattle.block.specs.Places.{found_at}
use Rattle.journal.proofs.Order.{Ranked, ranked, sorted-length, sorted-at}
use Rattle.journal.proofs.Listed.{targets-listed, targets-some, listed_at}
use Rattle.logs.specs.Header.{clear-header}
use Rattle.journal.proofs.Header.{header-more}
use Rattle.journal.proofs.Laws.{at-end, commit-none, commit-length, commit-image, commit-list, commit-target, commit-clearing, recovery-none, recovery-stores, recovery-length, redo, redo-target, redo-clearing}

-- ---- the header, with the first r targets listed

unfoldable pub listing : List ℕ → ℕ → List ℕ
listing t r = header_of (take r t)

pub listing_none : (t : List ℕ) → replicate 512 0 ≡ listing t 0
unfolding listing zeros
listing_none t = clear-header

pub listing-more : (t q : List ℕ) (r : ℕ) → length t ≤ 32 → r < length t → q ≡ listing t r → patch (16 * r) (bytes2 (get_or t r 0)) q ≡ listing t (r + 1)
unfolding listing
listing-more t q r few h p = header-more t q r (get_or t r 0) h (omega arith) p refl

pub listing-all : (t q : List ℕ) (r : ℕ) → length t ≤ r → q ≡ listing t r → q ≡ header_of t
unfolding listing
listing-all t q r h p = p ∙ ap header_of (take_all r t h)

-- ---- where the image of target d stands

module _ (l t : List ℕ) (d : ℕ) (differ : distinct l ≡ true) (order : t ≡ sorted l) (h : d < length l) where
  pub order-long : length t ≡ length l
  order-long = ap length order ∙ sorted-length l differ

  own : Ranked l d
  own = ranked l (λ j. []) differ d h

  -- target d of the list in order
  own_value : get_or t d 0 ≡ get_or l own.at 0
  own_value = ap (λ (x : List ℕ). get_or x d 0) order ∙ ap (λ (m : ℕ). get_or (sorted l) m 0) (sym own.rank) ∙ sorted-at l differ own.at own.inside

  -- it is the one at place d where these agree there
  pub image-here : get_or l d 0 ≡ get_or t d 0 → rank (get_or l d 0) l ≡ d
  image-here e = ap (λ (m : ℕ). rank m l) (e ∙ own_value) ∙ own.rank

  -- and else the one that is found
  pub image-found : let i = unwrap_or (found_at (place (get_or t d 0) l)) d in (i < length l) × (rank (get_or l i 0) l ≡ d)
  image-found = go (place (get_or t d 0) l) refl
    where
      go : (o : Option ℕ) → place (get_or t d 0) l ≡ o → let i = unwrap_or (found_at o) d in (i < length l) × (rank (get_or l i 0) l ≡ d)
      go none q = absurd (true≢false (sym (rw own_value (member-at l own.at own.inside)) ∙ no_place (get_or t d 0) 0 l q))
      go (some j) q =
          let v : get_or l j 0 ≡ get_or l own.at 0 = place-value (get_or t d 0) j l q ∙ own_value in
          (place-lt (get_or t d 0) j l q, ap (λ (m : ℕ). rank m l) v ∙ own.rank)

-- ---- entries of a commit

module _ (l : List ℕ) (few : length l ≤ 32) (d : ℕ) (s : Session) (e : staged_in s ≡ l) (listed : are_targets s.blocks l ≡ true) where
  may-list : are_targets s.blocks (staged_in s) ≡ true
  may-list = rw e listed

  within : (i : ℕ) → i < length l → (33 ≤ get_or l i 0) × (get_or l i 0 < s.blocks)
  within = listed_at s.blocks l (targets-listed s.blocks l listed)

  -- block 0 is on the device: a target is
  header-within : 0 < s.blocks
  header-within = omega (arith, (within 0 (targets-some s.blocks l listed)).1)

  pub entry-image : (i : ℕ) → d < length l → i < length l → rank (get_or l i 0) l ≡ d
      → (d + 1 < s.blocks) × (i < 32) × ((device work : List ℕ) → get_elem? (commit_stores (state_of s device work)) d ≡ some (put (d + 1) (blocks_of work i)))
  entry-image i k j r = (
    omega (arith, (within i j).0, (within i j).1),
    omega arith,
    λ device work. commit-image (state_of s device work) may-list i d (rw e j) (rw e k) (rw e r),
  )

  pub entry-list : d ≡ length l
      → (0 < s.blocks) × (distinct l ≡ true) × ((device work : List ℕ) → get_elem? (commit_stores (state_of s device work)) d ≡ some (put 0 (header_of (sorted l))))
  entry-list k = (header-within, (targets-listed s.blocks l listed).differ, λ device work. rw (k, ← e) (commit-list (state_of s device work) may-list))

  pub entry-target : (t : List ℕ) → t ≡ sorted l → length l < d → d ≤ 2 * length l
      → let b = get_or t (d - length l - 1) 0 in
      (b < s.blocks) × (d - length l < b) × ((device work : List ℕ) → get_elem? (commit_stores (state_of s device work)) d ≡ some (put b (blocks_of device (d - length l))))
  entry-target t o k m =
      let j = d - length l - 1 in
      let differ = (targets-listed s.blocks l listed).differ in
      let h : j < length l = omega arith in
      let r = own l t j differ o h in
      let v = own_value l t j differ o h in
      let n : length (staged_in s) ≡ length l = ap length e in
      let z : j + 1 ≡ d - length l = omega arith in
      rw v (
        (within r.at r.inside).1,
        omega (arith, (within r.at r.inside).0),
        λ device work. commit-target (state_of s device work) may-list r.at d j (omega (arith, r.inside)) (omega arith) (omega arith) (rw e r.rank)
            ∙ ap₂ (λ (b m : ℕ). some (put b (blocks_of device m))) (ap (λ (bs : List ℕ). get_or bs r.at 0) e) z,
      )

  pub entry-clearing : 2 * length l < d → d < 2 * length l + 2
      → (0 < s.blocks) × Unit {0} × ((device work : List ℕ) → get_elem? (commit_stores (state_of s device work)) d ≡ some (put 0 (zeros 512)))
  entry-clearing k m = let n : length (staged_in s) ≡ length l = ap length e in (header-within, tt, λ device work. commit-clearing (state_of s device work) may-list d (omega arith))

-- ---- entries of a recovery

module _ (l : List ℕ) (d N : ℕ) (listed : are_targets N l ≡ true) where
  inside : (i : ℕ) → i < length l → get_or l i 0 < N
  inside i k = (listed_at N l (targets-listed N l listed) i k).1

  redone : (device : List ℕ) → l ≡ targets_in (blocks_of device 0) → recovery_stores N (blocks_of device) ≡ redo (blocks_of device) l
  redone device e = recovery-stores N (blocks_of device) (rw (← e) listed) ∙ ap (redo (blocks_of device)) (sym e)

  pub entry-redo : d < length l → (get_or l d 0 < N) × ((device work : List ℕ) → l ≡ targets_in (blocks_of device 0)
      → get_elem? (recovery_stores N (blocks_of device)) d ≡ some (put (get_or l d 0) (blocks_of device (d + 1))))
  entry-redo k = (inside d k, λ device work e. rw (redone device e) (redo-target (blocks_of device) l d k))

  pub entry-redone : d ≡ length l → (0 < N) × ((device work : List ℕ) → l ≡ targets_in (blocks_of device 0)
      → get_elem? (recovery_stores N (blocks_of device)) d ≡ some (put 0 (zeros 512)))
  entry-redone k = (
    omega (arith, inside 0 (targets-some N l listed)),
    λ device work e. rw (redone device e) (ap (get_elem? (redo (blocks_of device) l)) k ∙ redo-clearing (blocks_of device) l),
  )

-- ---- one step

-- what `store_entry` leaves
pub made : (v w : Slice) (b : ℕ) (x y : List ℕ) → v ≡ stored_in w b x → x ≡ y → v ≡ stored_in w b y
made v w b x y e q = e ∙ ap (stored_in w b) q

-- k targets
pub record Held (l : List ℕ) (k : ℕ) (bs : List ℕ) : Type 0 where
  pub list : l ≡ bs
  pub count : k ≡ length l
  pub few : k ≤ 32

-- the code's test: are the targets such as a log may list, and is d one of n places?
goes : (a : Bool) (n d : ℕ) → (not a || leb n d) ≡ false → (a ≡ true) × (d < n)
goes false n d h = absurd (true≢false h)
goes true n d h = (refl, leb-false n d h)

-- n stores in order, none where the test a fails
module _ (s : Session) (device work : List ℕ) (stores : List BlockStore) (a : Bool) (n d : ℕ) (none : a ≡ false → stores ≡ []) (all : a ≡ true → length stores ≡ n)
    (phase : ℕ → Phase) (done : Phase) where
  abbrev performed : Outcome
  performed = perform (state_of s device work) stores d (in_phase s (phase (suc d))) (opened s.blocks done)

  step-idle : (not a || leb n d) ≡ true → left s device work idle ≡ performed
  step-idle q = rw (at-end stores d (over a refl q))
    where
      over : (t : Bool) → a ≡ t → (not t || leb n d) ≡ true → length stores ≤ d
      over false p h = rw (none p) (omega arith)
      over true p h = rw (all p) (leb-true n d h)

  step-stored : (b : ℕ) (x after : List ℕ) → (not a || leb n d) ≡ false → get_elem? stores d ≡ some (put b x)
      → slice_of after ≡ stored_in (slice_of device) b x
      → left (cond (eqb (d + 1) n) (opened s.blocks done) (in_phase s (phase (d + 1)))) after work (stored b (eqb (d + 1) n) (d + 1)) ≡ performed
  step-stored b x after q e g = rw (e, g, all (goes a n d q).0, add-one d)

module _ (s : Session) (d k : ℕ) (l : List ℕ) (a : Bool) (test : a ≡ are_targets s.blocks l) (h : Held l k (staged_in s)) where
  may : are_targets s.blocks (staged_in s) ≡ a
  may = ap (are_targets s.blocks) (sym h.list) ∙ sym test

  module _ (device work : List ℕ) where
    abbrev commits : List BlockStore
    commits = commit_stores (state_of s device work)

    commits-none : a ≡ false → commits ≡ []
    commits-none e = commit-none (state_of s device work) (may ∙ e)

    commits-length : a ≡ true → length commits ≡ 2 * k + 2
    commits-length e = commit-length (state_of s device work) (may ∙ e) ∙ ap (λ (n : ℕ). 2 * n + 2) (sym (h.count ∙ ap length h.list))

    pub commit-idle : (not a || leb (2 * k + 2) d) ≡ true → left s device work idle ≡ advance_in (state_of s device work) (Committing d)
    unfolding advance_in
    commit-idle = step-idle s device work commits a (2 * k + 2) d commits-none commits-length Committing Ready

    pub commit-stored : (b : ℕ) (x after : List ℕ) → (not a || leb (2 * k + 2) d) ≡ false → get_elem? commits d ≡ some (put b x)
        → slice_of after ≡ stored_in (slice_of device) b x
        → left (behind (Committing d) s (Ok (Some (store_of b d (2 * k + 2))))) after work (stored b (eqb (d + 1) (2 * k + 2)) (d + 1)) ≡ advance_in (state_of s device work) (Committing d)
    unfolding advance_in
    commit-stored = step-stored s device work commits a (2 * k + 2) d commits-none commits-length Committing Ready

module _ (s : Session) (d k : ℕ) (l : List ℕ) (a : Bool) (test : a ≡ are_targets s.blocks l) (device : List ℕ) (h : Held l k (targets_in (blocks_of device 0))) where
  can : are_targets s.blocks (targets_in (blocks_of device 0)) ≡ a
  can = ap (are_targets s.blocks) (sym h.list) ∙ sym test

  abbrev recoveries : List BlockStore
  recoveries = recovery_stores s.blocks (blocks_of device)

  recoveries-none : a ≡ false → recoveries ≡ []
  recoveries-none e = recovery-none s.blocks (blocks_of device) (can ∙ e)

  recoveries-length : a ≡ true → length recoveries ≡ k + 1
  recoveries-length e = recovery-length s.blocks (blocks_of device) (can ∙ e) ∙ ap (λ (n : ℕ). n + 1) (sym (h.count ∙ ap length h.list))

  module _ (work : List ℕ) where
    pub recovery-idle : (not a || leb (k + 1) d) ≡ true → left s device work idle ≡ advance_in (state_of s device work) (Recovering d)
    unfolding advance_in
    recovery-idle = step-idle s device work recoveries a (k + 1) d recoveries-none recoveries-length Recovering Closed

    pub recovery-stored : (b : ℕ) (x after : List ℕ) → (not a || leb (k + 1) d) ≡ false → get_elem? recoveries d ≡ some (put b x)
        → slice_of after ≡ stored_in (slice_of device) b x
        → left (behind (Recovering d) s (Ok (Some (store_of b d (k + 1))))) after work (stored b (eqb (d + 1) (k + 1)) (d + 1)) ≡ advance_in (state_of s device work) (Recovering d)
    unfolding advance_in
    recovery-stored = step-stored s device work recoveries a (k + 1) d recoveries-none recoveries-length Recovering Closed

-- where nothing is under way
module _ (s : Session) (d w : List ℕ) where
  pub idle-closed : (p : Phase) → p ≡ Closed → left s d w idle ≡ advance_in (state_of s d w) p
  unfolding advance_in
  idle-closed p e = rw e

  pub idle-ready : (p : Phase) → p ≡ Ready → left s d w idle ≡ advance_in (state_of s d w) p
  unfolding advance_in
  idle-ready p e = rw e

-- ---- the code's test, before a session is at hand

pub passes : (N n d : ℕ) (l : List ℕ) (a : Bool) → a ≡ are_targets N l → (not a || leb n d) ≡ false → (are_targets N l ≡ true) × (d < n)
passes N n d l a t q = let g = goes a n d q in (sym t ∙ g.0, g.1)

-- a session that has these blocks staged
pub session_with : ℕ → List ℕ → Session
session_with N l = record { blocks = N; phase = Ready; staged = l; count = length l }

pub with-staged : (N : ℕ) (l : List ℕ) → staged_in (session_with N l) ≡ l
unfolding staged_in session_with
with-staged N l = take-length l

pub with_blocks : (N : ℕ) (l : List ℕ) → (session_with N l).blocks ≡ N
unfolding session_with
with_blocks N l = refl

-- ---- what is chosen next

module _ (N : ℕ) (l : List ℕ) (few : length l ≤ 32) (d : ℕ) (a : Bool) (t : a ≡ are_targets N l) where
  abbrev end : ℕ
  end = 2 * length l + 2

  listed_in : (s : Session) → s.blocks ≡ N → a ≡ are_targets s.blocks l
  listed_in s e = t ∙ ap (λ (M : ℕ). are_targets M l) (sym e)

  holds : (s : Session) → staged_in s ≡ l → Held l (length l) (staged_in s)
  holds s f = record { list = sym f; count = refl; few = few }

  pub commit-nothing : (not a || leb end d) ≡ true
      → ((s : Session) (device work : List ℕ) → s.blocks ≡ N → staged_in s ≡ l → left s device work idle ≡ advance_in (state_of s device work) (Committing d)) × Unit {0}
  commit-nothing q =
      (λ s device work e f. commit-idle s d (length l) l a (listed_in s e) (holds s f) device work q, tt)

  module _ (q : (not a || leb end d) ≡ false) (x : Entry) (g : (s : Session) → staged_in s ≡ l → are_targets s.blocks l ≡ true → Entered s d l x) where
    abbrev b : ℕ
    b = x.block.0

    pub may-go : (are_targets N l ≡ true) × (d < end)
    may-go = passes N end d l a t q

    abbrev due : Optional NextStore
    due = Some (record { entry = x; place = d; end = end; inside = may-go.1 })

    pub commit-goes : ((s : Session) (device work : List ℕ) → s.blocks ≡ N → staged_in s ≡ l → Leads s l device work (Committing d) due) × Possible l (512 * N) due
    commit-goes =
        let w = with_blocks N l in
        let z = g (session_with N l) (with-staged N l) (ap (λ (M : ℕ). are_targets M l) w ∙ may-go.0) in (
          λ s device work e f after h. commit-stored s d (length l) l a (listed_in s e) (holds s f) device work b (entry_content l device work x.source) after q
              ((g s f (ap (λ (M : ℕ). are_targets M l) e ∙ may-go.0)).2 device work) h,
          (omega (arith, z.0, w), z.1),
        )

-- x and l: the targets that the code reads, in the first block
module _ (N : ℕ) (device : List ℕ) (d : ℕ) (head x l : List ℕ) (read : head ≡ take 512 (drop (512 * 0) device)) (listed : x ≡ targets_in head) (used : (l ≡ x) × (length l ≤ 32))
    (a : Bool) (t : a ≡ are_targets N l)
  where
    abbrev k : ℕ
    k = length l

    h : Held l k (targets_in (blocks_of device 0))
    h = record { list = used.0 ∙ listed ∙ head-targets device head read; count = refl; few = used.1 }

    here : (s : Session) → s.blocks ≡ N → a ≡ are_targets s.blocks l
    here s e = t ∙ ap (λ (M : ℕ). are_targets M l) (sym e)

    pub recovery-nothing : (not a || leb (k + 1) d) ≡ true
        → ((s : Session) (bs work : List ℕ) → s.blocks ≡ N → left s device work idle ≡ advance_in (state_of s device work) (Recovering d)) × ((bs : List ℕ) → Unit {0})
    recovery-nothing q =
        (λ s bs work e. recovery-idle s d k l a (here s e) device h work q, λ bs. tt)

    module _ (q : (not a || leb (k + 1) d) ≡ false) where
      goes_on : (are_targets N l ≡ true) × (d < k + 1)
      goes_on = passes N (k + 1) d l a t q

      lists : (s : Session) → s.blocks ≡ N → are_targets s.blocks l ≡ true
      lists s e = ap (λ (M : ℕ). are_targets M l) e ∙ goes_on.0

      abbrev told : ℕ → Returned (Optional BlockStored) Refusal
      told b = Ok (Some (store_of b d (k + 1)))

      stores : (b : ℕ) (x : List ℕ) → ((M : ℕ) → are_targets M l ≡ true → get_elem? (recovery_stores M (blocks_of device)) d ≡ some (put b x))
          → (s : Session) (work : List ℕ) → s.blocks ≡ N → (after : List ℕ) → slice_of after ≡ stored_in (slice_of device) b x
          → left (behind (Recovering d) s (told b)) after work (stored_of (told b)) ≡ advance_in (state_of s device work) (Recovering d)
      stores b x g s work e after f = recovery-stored s d k l a (here s e) device h work b x after q (g s.blocks (lists s e)) f

      pub recovery-target : d < k
          → let b = get_or l d 0 in
          ((s : Session) (bs work : List ℕ) → s.blocks ≡ N → (after : List ℕ) → slice_of after ≡ stored_in (slice_of device) b (blocks_of device (d + 1))
          → left (behind (Recovering d) s (told b)) after work (stored_of (told b)) ≡ advance_in (state_of s device work) (Recovering d))
          × ((bs : List ℕ) → (512 * b + 512 ≤ 512 * N) × (d + 1 < b))
      recovery-target m =
          let i : d < length l = omega (arith, h.count) in
          let w = listed_at N l (targets-listed N l goes_on.0) d i in (
            λ s bs work. stores (get_or l d 0) (blocks_of device (d + 1)) (λ M y. (entry-redo l d M y i).1 device work h.list) s work,
            λ bs. (omega (arith, w.1), omega (arith, w.0, h.few)),
          )

      pub recovery-clearing : k ≤ d
          → ((s : Session) (bs work : List ℕ) → s.blocks ≡ N → (after : List ℕ) → slice_of after ≡ stored_in (slice_of device) 0 (zeros 512)
          → left (behind (Recovering d) s (told 0)) after work (stored_of (told 0)) ≡ advance_in (state_of s device work) (Recovering d))
          × ((bs : List ℕ) → (512 * 0 + 512 ≤ 512 * N) × Unit {0})
      recovery-clearing m =
          let i : d ≡ length l = omega (arith, h.count, goes_on.1) in (
            λ s bs work. stores 0 (zeros 512) (λ M y. (entry-redone l d M y i).1 device work h.list) s work,
            λ bs. (omega (arith, (entry-redone l d N goes_on.0 i).0), tt),
          )

-- ---- the call

module _ (s : Session) (d w : List ℕ) where
  pub advance-bad : (r : Refusal) → refuse r ≡ lent_ok (state_of s d w) → left s d w (refusal_of r) ≡ advance (state_of s d w)
  unfolding advance
  advance-bad r e = rw (← e)

  pub advance-fine : (o : Outcome) → accept true ≡ lent_ok (state_of s d w) → o ≡ advance_in (state_of s d w) s.phase → o ≡ advance (state_of s d w)
  unfolding advance
  advance-fine o e f = f ∙ rw (← e)

-- ---- a commit begins

module _ (s : State) where
  pub commit-bad : (r : Refusal) → refuse r ≡ ready_ok s → outcome s (refusal_of r) ≡ commit s
  unfolding commit
  commit-bad r e = rw (← e)

  pub commit-empty : (k : ℕ) → accept true ≡ ready_ok s → k ≡ length (staged_in s.session) → k ≡ 0 → outcome s (started 0) ≡ commit s
  unfolding commit
  commit-empty k e q z = rw (← e, ← q, z)

  begun : (n k : ℕ) → n ≡ k → (k ≡ 0 → ⊥) → outcome (with_session s (in_phase s.session (begun_phase s.session.phase (Ok (2 * k + 2))))) (started (2 * k + 2)) ≡ start_commit s n
  begun zero k q h = absurd (h (sym q))
  begun (suc n) k q h = rw (← q, ne_eqb (2 * suc n + 2) 0 (λ e. omega arith))

  pub commit-begun : (k : ℕ) → accept true ≡ ready_ok s → k ≡ length (staged_in s.session) → (k ≡ 0 → ⊥)
      → outcome (with_session s (in_phase s.session (begun_phase s.session.phase (Ok (2 * k + 2))))) (started (2 * k + 2)) ≡ commit s
  unfolding commit
  commit-begun k e q h = rw (← e) (begun (length (staged_in s.session)) k (sym q) h)
