-- What an advance may answer, on any state, and that it keeps what is lent. Assumes nothing.
use Rattle.std.specs.Prelude.{ℕ, suc, ◌≡◌, Bool, List, length, eqb}
use Rattle.std.proofs.Math.Path.{refl, ap}
use Rattle.std.proofs.Common.{sym, ◌∙◌, true≢false}
use Rattle.std.proofs.Math.Bool.{true, false, cond}
use Rattle.std.proofs.Math.Option.{Option, none, some}
use Rattle.std.proofs.Math.ListN.{get_elem?}
use Rattle.spec.specs.declared.Phase.{Phase}
use Rattle.spec.specs.declared.Phase.TheVariants.{Closed, Ready, Committing, Recovering}
use Rattle.spec.specs.declared.Session.{Session}
use Rattle.spec.specs.declared.Refusal.{Refusal}
use Rattle.spec.specs.Disk.{with_block}
use Rattle.spec.specs.Session.{opened, closed_on, in_phase}
use Rattle.spec.specs.Answers.{Answer, refused, done, started, stored, idle, counted, file, no_file, run, no_run, refusal_of, is_refused, Result, refuse, accept, ◌>>◌}
use Rattle.spec.specs.Transaction.{State, BlockStore}
use Rattle.spec.specs.Journal.{commit_stores, recovery_stores}
use Rattle.spec.specs.Calls.{Outcome, outcome, settle, lent_ok, perform, advance_in, advance}
use Rattle.spec.proofs.Refusals.{of-refusal}

-- a refusal, a store or that nothing is under way
abbrev pub is_advanced : Answer → Bool
is_advanced (refused n vs) = true
is_advanced (stored b l n) = true
is_advanced idle = true
is_advanced done = false
is_advanced (started n) = false
is_advanced (counted n) = false
is_advanced (file x n) = false
is_advanced no_file = false
is_advanced (run e) = false
is_advanced no_run = false

module _ (s : State) where
  -- an advance that is accepted: the next one is lent as rightly
  record Told (o : Outcome) : Type 0 where
    advanced : is_advanced o.answer ≡ true
    accepted : is_refused o.answer ≡ false
    lent : lent_ok o.after ≡ lent_ok s
    work : o.after.work ≡ s.work

  performs : (ws : List BlockStore) (d : ℕ) (m n : Session) (o : Option BlockStore) → m.blocks ≡ s.session.blocks → n.blocks ≡ s.session.blocks → get_elem? ws d ≡ o
      → Told (perform s ws d m n)
  unfolding lent_ok
  performs ws d m n none p q e = rw e (record { advanced = refl; accepted = refl; lent = refl; work = refl })
  performs ws d m n (some w) p q e = rw e (record { advanced = refl; accepted = refl; lent = go (eqb (suc d) (length ws)); work = refl })
    where
      go : (t : Bool) → lent_ok (record { session = cond t n m; device = record { size = s.device.size; block = with_block w.block w.content s.device.block }; work = s.work }) ≡ lent_ok s
      go true = rw q
      go false = rw p

  advance-in : (f : Phase) → Told (advance_in s f)
  unfolding advance_in
  advance-in Closed = record { advanced = refl; accepted = refl; lent = refl; work = refl }
  advance-in Ready = record { advanced = refl; accepted = refl; lent = refl; work = refl }
  advance-in (Committing d) = performs (commit_stores s) d (in_phase s.session (Committing (suc d))) (opened s.session.blocks Ready) (get_elem? (commit_stores s) d) refl refl refl
  advance-in (Recovering d) =
      performs (recovery_stores s.session.blocks s.device.block) d (in_phase s.session (Recovering (suc d))) (closed_on s.session.blocks)
      (get_elem? (recovery_stores s.session.blocks s.device.block) d) refl refl refl

  -- lent rightly it is accepted, and the next one is lent rightly too
  pub advance-goes : (t : Bool) → lent_ok s ≡ accept t → (is_refused (advance s).answer ≡ false) × (lent_ok (advance s).after ≡ accept t)
  unfolding advance
  advance-goes t h = rw h (let g = advance-in s.session.phase in (g.accepted, g.lent ∙ h))

  pub advance-stops : (r : Refusal) → lent_ok s ≡ refuse r → advance s ≡ outcome s (refusal_of r)
  unfolding advance
  advance-stops r e = rw e

  pub advance-keeps : is_refused (advance s).answer ≡ true → advance s ≡ outcome s (advance s).answer
  advance-keeps h = go (lent_ok s) refl
    where
      go : (r : Result Bool) → lent_ok s ≡ r → advance s ≡ outcome s (advance s).answer
      go (refuse r) e = let x = advance-stops r e in x ∙ ap (outcome s) (sym (ap (λ (o : Outcome). o.answer) x))
      go (accept t) e = absurd (true≢false (sym h ∙ (advance-goes t e).0))

  pub advance-advanced : is_advanced (advance s).answer ≡ true
  unfolding advance
  advance-advanced = go (lent_ok s)
    where
      go : (r : Result Bool) → is_advanced (settle (outcome s) (r >> accept (advance_in s s.session.phase))).answer ≡ true
      go (refuse r) = of-refusal (λ a. is_advanced a ≡ true) (λ n vs. refl) r
      go (accept t) = (advance-in s.session.phase).advanced

  pub advance-work : (advance s).after.work ≡ s.work
  unfolding advance
  advance-work = go (lent_ok s)
    where
      go : (r : Result Bool) → (settle (outcome s) (r >> accept (advance_in s s.session.phase))).after.work ≡ s.work
      go (refuse r) = refl
      go (accept t) = (advance-in s.session.phase).work
