-- The numbers of sessions and answers: a session is what its numbers stand for, and the cases of the results. Assumes nothing.
use Prim.Native.Nat.{ℕ}
use mathlib.Core.Path.{◌≡◌, refl, sym, ap, ap₂, ◌∙◌, subst}
use mathlib.Core.Bool.{Bool, true, false, cond}
use mathlib.Core.List.{List, [], ◌∷◌}
use lib.ListN.{replicate}
use borrow.Author.Tests.{ne_eqb}
use Rattle.std.specs.Prelude.{unwrap_or}
use Rattle.std.specs.Int.{from_bool}
use Rattle.spec.specs.declared.BlockStored.{BlockStored}
use Rattle.spec.specs.declared.Phase.{Phase}
use Rattle.spec.specs.declared.Phase.TheVariants.{Closed, Ready, Committing, Recovering}
use Rattle.spec.specs.declared.Session.{Session}
use Rattle.spec.specs.declared.Extent.{Extent}
use Rattle.spec.specs.declared.Refusal.{Refusal}
use Rattle.spec.specs.Session.{never_opened}
use Rattle.spec.proofs.Refusals.{of-refusal}
use Rattle.spec.specs.Answers.{Answer, refused, done, started, stored, idle, counted, file, no_file, run, no_run, refusal_of, refusal_number, value_told, fault_told}
use Rattle.spec.specs.Calls.{Outcome, left, left_buffer}
use Rattle.mirror.specs.declared.CAdvanced.{CAdvanced}
use Rattle.mirror.specs.declared.CCounted.{CCounted}
use Rattle.mirror.specs.declared.CRun.{CRun}
use Rattle.mirror.specs.declared.CRecord.{CRecord}
use Rattle.mirror.specs.Mirror.{phase_of, phase_number, place_in, decode, encode, fault_in, values_of, name_in, finished_of, committed_of, advanced_of, counted_of, recorded_of, run_of, lent, Stays, Reads, Names}

-- ---- sessions

pub phase-back : (p : Phase) → phase_of (phase_number p) (place_in p) ≡ p
unfolding phase_of
phase-back Closed = refl
phase-back Ready = refl
phase-back (Committing d) = refl
phase-back (Recovering d) = refl

-- the numbers and the cells of a session stand for it
pub decode-encode : (s : Session) → decode (encode s) s.staged ≡ s
decode-encode s =
    ap (λ (p : Phase). record { blocks = s.blocks; phase = p; staged = s.staged; count = s.count }) (phase-back s.phase)

-- numbers that are all zero stand for a session never opened
pub zeros-never-opened : decode (record { blocks = 0; phase = 0; place = 0; count = 0 }) (replicate 32 0) ≡ never_opened
unfolding phase_of
zeros-never-opened = refl

module _ (n d : ℕ) where
  pub phase-1 : n ≡ 1 → Ready ≡ phase_of n d
  unfolding phase_of
  phase-1 e = rw e

  pub phase-2 : n ≡ 2 → Committing d ≡ phase_of n d
  unfolding phase_of
  phase-2 e = rw e

  pub phase-3 : n ≡ 3 → Recovering d ≡ phase_of n d
  unfolding phase_of
  phase-3 e = rw e

  pub phase-other : (n ≡ 1 → ⊥) → (n ≡ 2 → ⊥) → (n ≡ 3 → ⊥) → Closed ≡ phase_of n d
  unfolding phase_of
  phase-other f g h = rw (ne_eqb n 1 f, ne_eqb n 2 g, ne_eqb n 3 h)

-- what the answers of phase_in need
pub ruleset phase_rules = (phase-1, phase-2, phase-3, phase-other)

-- ---- a refusal: what holds of each number and each list of values holds of each of them

-- the value that it tells, and that it tells no number of an accepted call
pub refused-numbers : (r : Refusal) → (unwrap_or (fault_told r) 0 ≡ fault_in (refusal_of r)) × (values_of (refusal_of r) ≡ [])
refused-numbers = of-refusal (λ a. (unwrap_or (value_told a) 0 ≡ fault_in a) × (values_of a ≡ [])) named
  where
    named : (n : ℕ) (vs : List ℕ) → (unwrap_or (value_told (refused n vs)) 0 ≡ fault_in (refused n vs)) × (values_of (refused n vs) ≡ [])
    named n [] = (refl, refl)
    named n (v ∷ vs) = (refl, refl)

no-values : (r : Refusal) → values_of (refusal_of r) ≡ []
no-values r = (refused-numbers r).1

name-stays : (r : Refusal) (before : List ℕ) → name_in before (refusal_of r) ≡ before
name-stays r before = of-refusal (λ a. name_in before a ≡ before) (λ n vs. refl) r

-- ---- the cases of the results

module _ (r : Refusal) (n : ℕ) (f : n ≡ refusal_number (refusal_of r)) where
  pub finished-refused : (i : ℕ) → i ≡ fault_in (refusal_of r) → record { refusal = n; fault = i } ≡ finished_of (refusal_of r)
  unfolding finished_of
  finished-refused i g = rw (f, g)

  pub committed-refused : record { refusal = n; stores = 0 } ≡ committed_of (refusal_of r)
  unfolding committed_of
  committed-refused = rw (f, no-values r)

  pub advanced-refused : (q : CAdvanced) → (q.refusal ≡ 0) × ((q.block ≡ 0) × ((q.last ≡ 0) × (q.number ≡ 0)))
      → record { refusal = n; block = q.block; last = q.last; number = q.number } ≡ advanced_of (refusal_of r)
  unfolding advanced_of
  advanced-refused q z = simp (f, no-values r, z.1.0, z.1.1.0, z.1.1.1)

  pub counted-refused : record { refusal = n; count = 0 } ≡ counted_of (refusal_of r)
  unfolding counted_of
  counted-refused = rw (f, no-values r)

  pub recorded-refused : (q : CRecord) → (q.refusal ≡ 0) × ((q.used ≡ 0) × (q.size ≡ 0)) → (name : List ℕ)
      → Names (record { refusal = n; used = q.used; size = q.size }) name name (refusal_of r)
  unfolding recorded_of
  recorded-refused q z name = (simp (f, no-values r, z.1.0, z.1.1), sym (name-stays r name))

  pub run-refused : (q : CRun) → (q.refusal ≡ 0) × ((q.first ≡ 0) × (q.count ≡ 0)) → record { refusal = n; first = q.first; count = q.count } ≡ run_of (refusal_of r)
  unfolding run_of
  run-refused q z = simp (f, no-values r, z.1.0, z.1.1)

pub finished-done : record { refusal = 0; fault = 0 } ≡ finished_of done
unfolding finished_of
finished-done = refl

pub committed-started : (n : ℕ) → record { refusal = 0; stores = n } ≡ committed_of (started n)
unfolding committed_of
committed-started n = refl

pub advanced-stored : (s : BlockStored) (b x : ℕ) → b ≡ s.block.0 → x ≡ from_bool s.last
    → record { refusal = 0; block = b; last = x; number = s.number } ≡ advanced_of (stored s.block.0 s.last s.number)
unfolding advanced_of
advanced-stored s b x e f = rw (e, f ∙ go s.last)
  where
    go : (l : Bool) → from_bool l ≡ cond l 1 0
    go true = refl
    go false = refl

pub advanced-idle : record { refusal = 0; block = 0; last = 0; number = 0 } ≡ advanced_of idle
unfolding advanced_of
advanced-idle = refl

pub counted-count : (n : ℕ) → record { refusal = 0; count = n } ≡ counted_of (counted n)
unfolding counted_of
counted-count n = refl

pub recorded-file : (before x : List ℕ) (n m : ℕ) → m ≡ n → Names (record { refusal = 0; used = 1; size = m }) before x (file x n)
unfolding recorded_of
recorded-file before x n m e = rw e (refl, refl)

pub recorded-none : (q : CRecord) (before : List ℕ) → q ≡ record { refusal = 0; used = 0; size = 0 } → Names q before (replicate 8 0) no_file
unfolding recorded_of
recorded-none q before e = (e, refl)

pub run-extent : (e : Extent) → record { refusal = 0; first = e.first; count = e.count } ≡ run_of (run e)
unfolding run_of
run-extent e = refl

pub run_none : record { refusal = 0; first = 0; count = 0 } ≡ run_of no_run
unfolding run_of
run_none = refl

-- ---- what is lent

pub same-lent : (ns ms cells l d e w v : List ℕ) → ns ≡ ms → cells ≡ l → d ≡ e → w ≡ v → lent ns cells d w ≡ lent ms l e v
same-lent ns ms cells l d e w v a b c x = ap₂ (λ (i j : List ℕ). lent i j d w) a b ∙ ap₂ (λ (i j : List ℕ). lent ms l i j) c x

-- ---- promises of the calls that only read: f is the call's outcome at a session, b the session that the numbers given were read as

module _ (f : Session → Outcome) (b c : Session) (q : b ≡ c) where
  module _ (s : Session) (d w : List ℕ) (a : Answer) (e : left s d w a ≡ f b) where
    at-session : left s d w a ≡ f c
    at-session = e ∙ ap f q

    -- m gives the numbers of its answer
    pub answers : {R : Type 0} (m : Answer → R) (r : R) → r ≡ m a → r ≡ m (f c).answer
    answers m r g = g ∙ ap (λ (x : Outcome). m x.answer) at-session

    pub names : (r : CRecord) (before name : List ℕ) → Names r before name a → Names r before name (f c).answer
    names r before name g = subst (λ (x : Outcome). Names r before name x.answer) at-session g

  -- k: refused, the call keeps the buffer
  pub reads : (before : List ℕ) → Stays (f c).answer before (f c).buffer → (s : Session) (d w : List ℕ) (a : Answer) (buffer : List ℕ) → left_buffer s d w a buffer ≡ f b
      → (r : CCounted) → r ≡ counted_of a → Reads r before buffer (f c)
  reads before k s d w a buffer e r g =
      let o = e ∙ ap f q in
      let l = ap (λ (x : Outcome). x.buffer) o in
      (g ∙ ap (λ (x : Outcome). counted_of x.answer) o, l, λ t. l ∙ k t)
