-- What a load makes of the committed map. Assumes nothing.
use Rattle.std.specs.Prelude.{ℕ, zero, suc, ◌+◌, ◌*◌, ◌<◌, ◌≡◌, refl, Bool, true, false, cond, not, List, [], ◌∷◌, length, eqb}
use Rattle.std.proofs.Common.{sym, ap₂, ◌∙◌, subst, true≢false, inl, inr, arith, eq-eqb}
use Rattle.std.proofs.Math.Path.{ap, fun_ext}
use Rattle.std.proofs.Math.Option.{none, some, some-ne-none}
use Rattle.spec.specs.declared.Phase.TheVariants as phases
use Rattle.spec.specs.declared.Refusal.TheVariants.{NotReady}
use Rattle.spec.specs.Layout.{inode_count}
use Rattle.spec.specs.Bytes.{all, up_from}
use Rattle.spec.specs.Inode.{is_empty}
use Rattle.spec.specs.Sound.{free_blocks}
use Rattle.spec.specs.Map.{Files}
use Rattle.spec.specs.Session.{staged_in}
use Rattle.spec.specs.Answers.{Answer, refused, done, started, is_refused, Result, refuse, accept, require, ◌>>◌}
use Rattle.spec.specs.Transaction.{State, view}
use Rattle.spec.specs.Journal.{commit_stores}
use Rattle.spec.specs.Calls.{Outcome, outcome, settle, is_ready, lent_ok, ready_ok, start_commit, create, write, commit, advance, Advance, Commit}
use Rattle.spec.specs.Plain.{Plain, Committing, plain, phase_of, at, after_commit_store}
use Rattle.spec.specs.CutRule.{Both, Commits, Advances}
use Rattle.cardfile.specs.Cards.{Entry}
use Rattle.cardfile.specs.Lines.{Standing, card, standing, line_number}
use Rattle.cardfile.proofs.Names.{name-is-name, amount-length}
use Rattle.cardfile.proofs.Places.{stands}
use Rattle.loader.specs.Load.{idle_ok, store_line, answered, LoadOutcome, loaded, naming, taken_up, take_line, after_begin, load_in, load_step}
use Rattle.promises.specs.Reached.{rightly-of}
use Rattle.promises.specs.Ready.{create-ready, write-ready, ready_of, commit-starts}
use Rattle.promises.specs.Advance.{advance-goes}
use Rattle.promises.specs.Promises.{LineGoes}
use Rattle.promises.proofs.Promises.{line-promise}
use Rattle.promises.specs.Promises as promises
use Rattle.loadlaws.specs.Lists.{follow_load, load, load_next}
use Rattle.loadlaws.specs.Maps.{Goes, Idle, card_name, card_bytes, LineStep as LineStepAt, taken, full, no_room, stores, Running, run_next, running, Kept, Accepted, run_lines, loaded_files}
use Rattle.loadlaws.proofs.Turns.{reached-load, phase-at, committing-step, turn}

-- ---- lent memory keeps its length

lent-ready : (s : State) (t : Bool) → ready_ok s ≡ accept t → (u : Bool) × (lent_ok s ≡ accept u)
unfolding ready_ok
lent-ready s t h = go (lent_ok s) h
  where
    go : (r : Result Bool) → (r >> require (is_ready s.session.phase) NotReady) ≡ accept t → (u : Bool) × (r ≡ accept u)
    go (refuse r) q = let z : ◌≡◌ {A = ℕ} 0 1 = cc in absurd (omega arith)
    go (accept u) q = (u, refl)

commit-lent : (s : State) → lent_ok (commit s).after ≡ lent_ok s
unfolding commit lent_ok
commit-lent s = go (ready_ok s) (length (staged_in s.session))
  where
    go : (r : Result Bool) (k : ℕ) → lent_ok (settle (outcome s) (r >> accept (start_commit s k))).after ≡ lent_ok s
    go (refuse r) k = refl
    go (accept t) zero = refl
    go (accept t) (suc k) = refl

-- ---- a line that fits

-- a step at which a card's line is taken up
module _ (N : ℕ) (b : Both) (i : Idle N b) (text : List ℕ) (p : ℕ) (e : Entry) (after : ℕ) (here : standing text p ≡ card e after) where
  abbrev s : State
  s = b.store

  idle-ok : idle_ok s ≡ accept true
  unfolding idle_ok
  idle-ok = rw (ready_of s i.lent.0 i.lent.1 (ap is_ready i.ready), i.bare)

  takes-up : load_step s text p ≡ taken_up s p after (line_number text p) (store_line s (card_name e) (card_bytes e))
  unfolding load_step load_in
  takes-up =
      ap (load_in s text p) i.ready ∙ ap (after_begin s text p) idle-ok
      ∙ ap (take_line s p (line_number text p)) here

  -- the maps agree: nothing is staged
  pub maps-agree : b.plain.working ≡ b.plain.committed
  maps-agree = fun_ext (go ((rightly-of N b i.reached Commit).accepted unrefused))
    where
      unrefused : is_refused (commit s).answer ≡ false
      unrefused = ap is_refused (commit-starts s true (ready_of s i.lent.0 i.lent.1 (ap is_ready i.ready))).1

      go : Commits b (commit s) → (name : List ℕ) → b.plain.working name ≡ b.plain.committed name
      go (inl h) = h.2
      go (inr h) = λ name. absurd (let z : length (staged_in s.session) ≡ 0 = ap length i.bare in omega (arith, h.1))

  abbrev o₁ : State
  o₁ = (create s (card_name e)).after

  abbrev o₂ : State
  o₂ = (write o₁ (card_name e) 0 (card_bytes e)).after

  module _ (created : (create s (card_name e)).answer ≡ done) (written : (write o₁ (card_name e) 0 (card_bytes e)).answer ≡ done) (commits : (commit o₂).answer ≡ started 8) where
    stored-line : store_line s (card_name e) (card_bytes e) ≡ commit o₂
    unfolding store_line
    stored-line = rw (created, written)

    -- the step answers what the commit answers, and the load's place is behind the line
    pub step-takes : load_step s text p ≡ loaded (commit o₂).after after (answered (started 8))
    step-takes = takes-up ∙ ap (taken_up s p after (line_number text p)) stored-line ∙ ap (λ (a : Answer). loaded (commit o₂).after (cond (is_refused a) p after) (answered (naming (line_number text p) a))) commits

    pub line-goes : Goes N (load_next N b (load text p))
        (plain b.plain.committed (at (card_name e) (some (card_bytes e)) b.plain.working) Committing 3 0 b.plain.pending b.plain.blocks)
    line-goes =
        let u : ready_ok o₂ ≡ accept true =
        write-ready o₁ (card_name e) 0 (card_bytes e) (ap is_refused written) ∙ create-ready s (card_name e) (ap is_refused created) ∙ ready_of s i.lent.0 i.lent.1 (ap is_ready i.ready) in
        let t = lent-ready o₂ true u in
        record {
          reached = reached-load N b text p i.reached;
          lent = (t.0, ap (λ (x : LoadOutcome). lent_ok x.after) step-takes ∙ commit-lent o₂ ∙ t.1);
          is = ap₂ (λ (x : LoadOutcome) (y : Standing). follow_load b.plain y x.answer) step-takes here;
        }

  -- ---- what a step answers at a card's line: 14, 15, 16 or the commit's 8, each exactly where the map, the records and the free blocks say so

  -- `LineStep` of specs/, at this step
  abbrev LineStep : Type 0
  LineStep = LineStepAt N b i text p e after here

  stops_first : (a : Answer) → is_refused a ≡ true → create s (card_name e) ≡ outcome s a → store_line s (card_name e) (card_bytes e) ≡ outcome s a
  unfolding store_line
  stops_first a h e = rw (e, h)

  stops_second : (a : Answer) → is_refused a ≡ true → (create s (card_name e)).answer ≡ done → write o₁ (card_name e) 0 (card_bytes e) ≡ outcome o₁ a → store_line s (card_name e) (card_bytes e) ≡ outcome s a
  unfolding store_line
  stops_second a h c e = rw (c, e, h)

  pub line_step : LineStep
  line_step =
      go
      (line-promise N b i.reached i.lent.0 i.lent.1 (ap is_ready i.ready) i.bare (card_name e) (card_bytes e)
      (name-is-name e.serial (stands text p e after here).proper.serial) (amount-length e.amount))
    where
      up : (o : Outcome) → store_line s (card_name e) (card_bytes e) ≡ o → load_step s text p ≡ taken_up s p after (line_number text p) o
      up o e = takes-up ∙ ap (taken_up s p after (line_number text p)) e

      go : LineGoes N b (card_name e) (card_bytes e) → LineStep
      go (promises.taken x e h) = taken x e (up (outcome s (refused 14 [])) (stops_first (refused 14 []) refl h))
      go (promises.full e q h) = full e q (up (outcome s (refused 15 [])) (stops_first (refused 15 []) refl h))
      go (promises.no_room e q f c h) = no_room e q f (up (outcome s (refused 16 [])) (stops_second (refused 16 []) refl c h))
      go (promises.fits e q f c w k) = stores e q f c w k (step-takes c w k)

  -- a card that is not in the map is taken up where a record is empty and a block is free
  pub line-accepted : b.plain.working (card_name e) ≡ none → all (λ k. not (is_empty (view s) k)) (up_from 0 inode_count) ≡ false → 0 < free_blocks N (view s)
      → (load_step s text p).answer ≡ answered (started 8)
  line-accepted new record-left block-left = go line_step
    where
      go : LineStep → (load_step s text p).answer ≡ answered (started 8)
      go (taken x q h) = absurd (some-ne-none x (sym q ∙ new))
      go (full q f h) = absurd (true≢false (sym f ∙ record-left))
      go (no_room q f z h) = absurd (omega (arith, z, block-left))
      go (stores q f z c w k h) = ap (λ (o : LoadOutcome). o.answer) h

-- ---- a load as its caller runs it: each step at the place that the one before has handed back

module _ (N : ℕ) (text : List ℕ) (c w : Files) (k d : ℕ) (o : Bool) (B : ℕ) (x : Running) (g : Goes N x.both (plain c w Committing k d o B)) where
  at_place : x.both.store.session.phase ≡ phases.Committing d
  at_place = phase-at N x.both g.reached ∙ ap phase_of g.is

  moves : Goes N (run_next N text x).both (after_commit_store (plain c w Committing k d o B) (d + 1))
  moves = turn N x.both text x.place c w k d o B g

  stays : (run_next N text x).place ≡ x.place
  stays = ap (λ (y : LoadOutcome). y.next) (committing-step x.both.store text x.place d at_place)

  -- the last store leaves nothing staged
  empties : d + 1 ≡ 2 * k + 2 → staged_in (run_next N text x).both.store.session ≡ []
  empties e =
      let z = (advance-goes x.both.store g.lent.0 g.lent.1).0 in
      let a : Advances N Committing x.both (advance x.both.store) =
      subst (λ (q : Plain). Advances N q.mode x.both (advance x.both.store)) g.is ((rightly-of N x.both g.reached Advance).accepted z) in
      let n : length (commit_stores x.both.store) ≡ 2 * k + 2 = a.1 ∙ ap (λ (q : Plain). 2 * q.k + 2) g.is in
      let m : x.both.plain.d + 1 ≡ 2 * k + 2 = ap (λ (q : Plain). q.d + 1) g.is ∙ e in
      let last : eqb (x.both.plain.d + 1) (length (commit_stores x.both.store)) ≡ true = eq-eqb (x.both.plain.d + 1) (length (commit_stores x.both.store)) (m ∙ sym n) in
      ap (λ (y : LoadOutcome). staged_in y.after.session) (committing-step x.both.store text x.place d at_place)
      ∙ a.0.staged ∙ ap (λ (t : Bool). cond t [] (staged_in x.both.store.session)) last

module _ (N : ℕ) (text : List ℕ) (x : Running) (i : Idle N x.both) (e : Entry) (after : ℕ) (here : standing text x.place ≡ card e after)
    (accepts : (load_step x.both.store text x.place).answer ≡ answered (started 8))
  where
    abbrev b : Both
    b = x.both

    abbrev old : Files
    old = b.plain.committed

    abbrev new : Files
    new = at (card_name e) (some (card_bytes e)) b.plain.working

    begins : Goes N (run_next N text x).both (plain old new Committing 3 0 b.plain.pending b.plain.blocks) × ((run_next N text x).place ≡ after)
    begins = go (line_step N b i text x.place e after here)
      where
        no : {n : ℕ} {vs : List ℕ} → answered (refused n vs) ≡ answered (started 8) → ⊥
        no e = let z : ◌≡◌ {A = ℕ} 0 1 = cc in omega arith

        go : LineStep N b i text x.place e after here
            → Goes N (run_next N text x).both (plain old new Committing 3 0 b.plain.pending b.plain.blocks) × ((run_next N text x).place ≡ after)
        go (taken y f h) = absurd (no (sym (ap (λ (z : LoadOutcome). z.answer) h) ∙ accepts))
        go (full f q h) = absurd (no (sym (ap (λ (z : LoadOutcome). z.answer) h) ∙ accepts))
        go (no_room g q f h) = absurd (no (sym (ap (λ (z : LoadOutcome). z.answer) h) ∙ accepts))
        go (stores g q f c w k h) = (line-goes N b i text x.place e after here c w k, ap (λ (z : LoadOutcome). z.next) h)

    abbrev o : Bool
    o = b.plain.pending

    abbrev B : ℕ
    B = b.plain.blocks

    -- its eight advances
    at₁ : Goes N (running 1 N text x).both (plain old new Committing 3 0 o B)
    at₁ = begins.0

    at₂ : Goes N (running 2 N text x).both (plain old new Committing 3 1 o B)
    at₂ = moves N text old new 3 0 o B (running 1 N text x) at₁

    at₃ : Goes N (running 3 N text x).both (plain old new Committing 3 2 o B)
    at₃ = moves N text old new 3 1 o B (running 2 N text x) at₂

    at₄ : Goes N (running 4 N text x).both (plain old new Committing 3 3 o B)
    at₄ = moves N text old new 3 2 o B (running 3 N text x) at₃

    at₅ : Goes N (running 5 N text x).both (plain new new Committing 3 4 true B)
    at₅ = moves N text old new 3 3 o B (running 4 N text x) at₄

    at₆ : Goes N (running 6 N text x).both (plain new new Committing 3 5 true B)
    at₆ = moves N text new new 3 4 true B (running 5 N text x) at₅

    at₇ : Goes N (running 7 N text x).both (plain new new Committing 3 6 true B)
    at₇ = moves N text new new 3 5 true B (running 6 N text x) at₆

    at₈ : Goes N (running 8 N text x).both (plain new new Committing 3 7 true B)
    at₈ = moves N text new new 3 6 true B (running 7 N text x) at₇

    at₉ : Goes N (running 9 N text x).both (after_commit_store (plain new new Committing 3 7 true B) 8)
    at₉ = moves N text new new 3 7 true B (running 8 N text x) at₈

    new_is : new ≡ at (card_name e) (some (card_bytes e)) old
    new_is = ap (at (card_name e) (some (card_bytes e))) (maps-agree N b i text x.place e after here)

    committed-at : {y : Both} {q : Plain} → Goes N y q → y.plain.committed ≡ q.committed
    committed-at g = ap (λ (p : Plain). p.committed) g.is

    -- a line that is accepted is committed eight steps later
    pub line_kept : Kept N x (running 9 N text x) e after
    line_kept =
        record {
          idle = record {
            reached = at₉.reached;
            lent = at₉.lent;
            ready = phase-at N (running 9 N text x).both at₉.reached ∙ ap phase_of at₉.is;
            bare = empties N text new new 3 7 true B (running 8 N text x) at₈ refl;
          };
          place =
              stays N text new new 3 7 true B (running 8 N text x) at₈ ∙ stays N text new new 3 6 true B (running 7 N text x) at₇
              ∙ stays N text new new 3 5 true B (running 6 N text x) at₆ ∙ stays N text new new 3 4 true B (running 5 N text x) at₅
              ∙ stays N text old new 3 3 o B (running 4 N text x) at₄ ∙ stays N text old new 3 2 o B (running 3 N text x) at₃
              ∙ stays N text old new 3 1 o B (running 2 N text x) at₂ ∙ stays N text old new 3 0 o B (running 1 N text x) at₁ ∙ begins.1;
          committed = committed-at at₉ ∙ new_is;
        }

    -- a cut inside the line: up to the third store, the fourth step, the committed map is that before the line; with the fourth, which stores the list, it has the line.
    -- What is opened and recovered behind the cut has this map: `load_cut`
    pub line-early : (j : ℕ) → j < 5 → (running j N text x).both.plain.committed ≡ old
    line-early zero h = refl
    line-early (suc zero) h = committed-at at₁
    line-early (suc (suc zero)) h = committed-at at₂
    line-early (suc (suc (suc zero))) h = committed-at at₃
    line-early (suc (suc (suc (suc zero)))) h = committed-at at₄
    line-early (suc (suc (suc (suc (suc j))))) h = absurd (omega (arith, h))

    pub line-late : (j : ℕ) → j < 5 → (running (5 + j) N text x).both.plain.committed ≡ at (card_name e) (some (card_bytes e)) old
    line-late zero h = committed-at at₅ ∙ new_is
    line-late (suc zero) h = committed-at at₆ ∙ new_is
    line-late (suc (suc zero)) h = committed-at at₇ ∙ new_is
    line-late (suc (suc (suc zero))) h = committed-at at₈ ∙ new_is
    line-late (suc (suc (suc (suc zero)))) h = committed-at at₉ ∙ new_is
    line-late (suc (suc (suc (suc (suc j))))) h = absurd (omega (arith, h))

-- ---- many lines

-- The committed map after a load is that before it, with each line's name at its eight bytes; the session is again ready with nothing staged.
pub load-map : (N : ℕ) (text : List ℕ) (x : Running) → Idle N x.both → (es : List Entry) → Accepted N text x es
    → Idle N (run_lines N text x es).both × ((run_lines N text x es).both.plain.committed ≡ loaded_files x.both.plain.committed es)
load-map N text x i [] a = (i, refl)
load-map N text x i (e ∷ es) a =
    let k = line_kept N text x i e a.0.0 a.0.1 a.1 in
    let r = load-map N text (running 9 N text x) k.idle es a.2 in
    (r.0, r.1 ∙ ap (λ (f : Files). loaded_files f es) k.committed)
