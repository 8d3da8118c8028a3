-- What a load makes of the committed map (proofs/Maps.antt). Here: loads and their lines, where a load may begin, and the tie to the code. Assumes nothing.
use Rattle.std.specs.Prelude.{ℕ, zero, suc, ◌<◌, ◌≡◌, refl, Bool, true, false, not, List, [], ◌∷◌, length, eqb}
use Rattle.std.proofs.Common.{sym, ◌∙◌, true≢false, arith, ne_eqb}
use Rattle.std.proofs.Math.Path.{ap}
use Rattle.std.proofs.Math.Option.{none, some}
use Rattle.spec.specs.declared.Phase.{Phase}
use Rattle.spec.specs.declared.Phase.TheVariants as phases
use Rattle.spec.specs.declared.Session.{Session}
use Rattle.spec.specs.declared.Refusal.{Refusal}
use Rattle.spec.specs.declared.Refusal.TheVariants.{NotReady}
use Rattle.spec.specs.Layout.{inode_count}
use Rattle.spec.specs.Bytes.{all, up_from}
use Rattle.spec.specs.Inode.{is_empty}
use Rattle.spec.specs.Sound.{free_blocks}
use Rattle.spec.specs.Map.{Files}
use Rattle.spec.specs.Session.{staged_in}
use Rattle.spec.specs.Answers.{refused, done, started, is_refused, Result, refuse, accept, require, ◌>>◌}
use Rattle.spec.specs.Transaction.{State, state_of, view}
use Rattle.spec.specs.Calls.{outcome, settle, is_ready, lent_ok, ready_ok, create, write, commit}
use Rattle.spec.specs.Plain.{Plain, at}
use Rattle.spec.specs.CutRule.{Both}
use Rattle.cardfile.specs.Cards.{Entry, name_of, amount_bytes}
use Rattle.cardfile.specs.Lines.{card, standing, line_number}
use Rattle.loader.specs.Load.{idle_ok, begin, left_load, LoadAnswer, answered, LoadOutcome, loaded, load_step}
use Rattle.promises.specs.Reached.{Reached}
use Rattle.spec.proofs.Refusals.{refused-is}
use Rattle.loader.proofs.Laws.{nil-of}
use Rattle.loadlaws.specs.Lists.{load, load_next}

-- ---- a load beside the plain store

-- a moment of a list, lent rightly, with the plain store in this state
pub record Goes (N : ℕ) (b : Both) (q : Plain) : Type 0 where
  pub reached : Reached N b
  pub lent : (t : Bool) × (lent_ok b.store ≡ accept t)
  pub is : b.plain ≡ q

-- a moment at which a load may begin, or go on with a line
pub record Idle (N : ℕ) (b : Both) : Type 0 where
  pub reached : Reached N b
  pub lent : (t : Bool) × (lent_ok b.store ≡ accept t)
  pub ready : b.store.session.phase ≡ phases.Ready
  pub bare : staged_in b.store.session ≡ []

-- ---- a line that fits

-- a card's name and the bytes of its file
abbrev pub card_name : Entry → List ℕ
card_name e = name_of e.serial

abbrev pub card_bytes : Entry → List ℕ
card_bytes e = amount_bytes e.amount

-- a step at which a card's line is taken up
module _ (N : ℕ) (b : Both) (i : Idle N b) (text : List ℕ) (p : ℕ) (e : Entry) (after : ℕ) (here : standing text p ≡ card e after) where
  abbrev s : State
  s = b.store

  abbrev o₁ : State
  o₁ = (create s (card_name e)).after

  abbrev o₂ : State
  o₂ = (write o₁ (card_name e) 0 (card_bytes e)).after

  -- ---- what a step answers at a card's line: 14, 15, 16 or the commit's 8, each exactly where the map, the records and the free blocks say so

  pub data LineStep : Type 0 where
    taken : (content : List ℕ) → b.plain.working (card_name e) ≡ some content → load_step s text p ≡ loaded s p (answered (refused 14 (line_number text p ∷ []))) → LineStep
    full : b.plain.working (card_name e) ≡ none → all (λ k. not (is_empty (view s) k)) (up_from 0 inode_count) ≡ true
        → load_step s text p ≡ loaded s p (answered (refused 15 (line_number text p ∷ []))) → LineStep
    no_room : b.plain.working (card_name e) ≡ none → all (λ k. not (is_empty (view s) k)) (up_from 0 inode_count) ≡ false → free_blocks N (view s) ≡ 0
        → load_step s text p ≡ loaded s p (answered (refused 16 (line_number text p ∷ []))) → LineStep
    stores : b.plain.working (card_name e) ≡ none → all (λ k. not (is_empty (view s) k)) (up_from 0 inode_count) ≡ false → 0 < free_blocks N (view s)
        → (create s (card_name e)).answer ≡ done → (write o₁ (card_name e) 0 (card_bytes e)).answer ≡ done → (commit o₂).answer ≡ started 8
        → load_step s text p ≡ loaded (commit o₂).after after (answered (started 8)) → LineStep

-- ---- a load as its caller runs it: each step at the place that the one before has handed back

pub record Running : Type 0 where
  pub both : Both
  pub place : ℕ

abbrev pub run_next : ℕ → List ℕ → Running → Running
run_next N text x = record { both = load_next N x.both (load text x.place); place = (load_step x.both.store text x.place).next }

abbrev pub running : ℕ → ℕ → List ℕ → Running → Running
running zero N text x = x
running (suc n) N text x = running n N text (run_next N text x)

-- what the nine steps of a line leave
pub record Kept (N : ℕ) (x y : Running) (e : Entry) (after : ℕ) : Type 0 where
  pub idle : Idle N y.both
  pub place : y.place ≡ after
  pub committed : y.both.plain.committed ≡ at (card_name e) (some (card_bytes e)) x.both.plain.committed

-- ---- many lines

-- lines of cards that stand one behind the other from the load's place, each accepted
abbrev pub Accepted : ℕ → List ℕ → Running → List Entry → Type 0
Accepted N text x [] = Unit {0}
Accepted N text x (e ∷ es) =
    ((after : ℕ) × (standing text x.place ≡ card e after)) × ((load_step x.both.store text x.place).answer ≡ answered (started 8)) × Accepted N text (running 9 N text x) es

-- nine steps a line
abbrev pub run_lines : ℕ → List ℕ → Running → List Entry → Running
run_lines N text x [] = x
run_lines N text x (e ∷ es) = run_lines N text (running 9 N text x) es

-- each line's name at its eight bytes
abbrev pub loaded_files : Files → List Entry → Files
loaded_files f [] = f
loaded_files f (e ∷ es) = loaded_files (at (name_of e.serial) (some (amount_bytes e.amount)) f) es

-- ---- begin tells whether a load may begin

pub idle-of : (N : ℕ) (b : Both) → Reached N b → (t : Bool) → idle_ok b.store ≡ accept t → Idle N b
unfolding idle_ok ready_ok
idle-of N b r t h = go (lent_ok b.store) refl b.store.session.phase refl (length (staged_in b.store.session)) refl h
  where
    no : {w : Refusal} → ◌≡◌ {A = Result Bool} (refuse w) (accept t) → ⊥
    no e = let z : ◌≡◌ {A = ℕ} 0 1 = cc in omega arith

    go : (q : Result Bool) → lent_ok b.store ≡ q → (f : Phase) → b.store.session.phase ≡ f → (k : ℕ) → length (staged_in b.store.session) ≡ k
        → ((q >> require (is_ready f) NotReady) >> require (eqb k 0) NotReady) ≡ accept t → Idle N b
    go (refuse w) e f p k l z = absurd (no z)
    go (accept u) e phases.Closed p k l z = absurd (no z)
    go (accept u) e phases.Ready p zero l z = record { reached = r; lent = (u, e); ready = p; bare = nil-of (staged_in b.store.session) l }
    go (accept u) e phases.Ready p (suc k) l z = let y : refuse NotReady ≡ accept t = rw (ne_eqb (suc k) 0 (λ (n : suc k ≡ 0). omega arith)) at z in absurd (no y)
    go (accept u) e (phases.Committing d) p k l z = absurd (no z)
    go (accept u) e (phases.Recovering d) p k l z = absurd (no z)

-- a begin that is accepted, at any moment of a list
pub begin-idle : (N : ℕ) (b : Both) → Reached N b → (begin b.store).answer ≡ done → Idle N b
unfolding begin
begin-idle N b r h = go (idle_ok b.store) refl h
  where
    go : (q : Result Bool) → idle_ok b.store ≡ q → (settle (outcome b.store) (q >> accept (outcome b.store done))).answer ≡ done → Idle N b
    go (refuse w) e z = absurd (true≢false (sym (refused-is w) ∙ ap is_refused z))
    go (accept t) e z = idle-of N b r t e

-- ---- the tie to the code: what `step` leaves, by its promise

pub record Ran (s t : Session) (d e w x text : List ℕ) (p q : ℕ) (a : LoadAnswer) : Type 0 where
  pub after : state_of t e x ≡ (load_step (state_of s d w) text p).after
  pub answer : a ≡ (load_step (state_of s d w) text p).answer
  pub next : q ≡ (load_step (state_of s d w) text p).next

pub ran-load : (s t : Session) (d e w x text : List ℕ) (p q : ℕ) (a : LoadAnswer) → left_load t e x q a ≡ load_step (state_of s d w) text p → Ran s t d e w x text p q a
ran-load s t d e w x text p q a h =
    record { after = ap (λ (o : LoadOutcome). o.after) h; answer = ap (λ (o : LoadOutcome). o.answer) h; next = ap (λ (o : LoadOutcome). o.next) h }
