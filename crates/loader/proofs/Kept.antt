-- A refused step leaves everything as it was, and so does one that finds no line: state, every byte of the work space, and the place. Assumes nothing.
use Prim.Native.Nat.{ℕ}
use mathlib.Core.Path.{◌≡◌, refl, sym, ap, ◌∙◌}
use mathlib.Core.Bool.{Bool, true, false, cond, true≢false}
use mathlib.Core.List.{List}
use Rattle.spec.specs.declared.Phase.{Phase}
use Rattle.spec.specs.declared.Phase.TheVariants.{Closed, Ready, Committing, Recovering}
use Rattle.spec.specs.Answers.{Answer, is_refused, Result, refuse, accept}
use Rattle.spec.specs.Transaction.{State}
use Rattle.spec.specs.Calls.{Outcome, outcome, create, write, commit}
use Rattle.promises.specs.Ready.{create-ready, write-ready, commit-starts}
use Rattle.promises.specs.Advance.{advance-keeps}
use Rattle.cardfile.specs.Cards.{name_of, amount_bytes}
use Rattle.cardfile.specs.Lines.{Standing, card, too_long, malformed, nothing, standing, line_number}
use Rattle.loader.proofs.Laws.{idle-ready}
use Rattle.loader.specs.Load.{idle_ok, store_line, answered, loaded, naming, taken_up, take_line, after_begin, advancing, load_in, load_step, leaves_all}

-- a line behind which create and write are accepted is committed
pub line-commits : (s : State) (t : Bool) → idle_ok s ≡ accept t → (name amount : List ℕ) → is_refused (create s name).answer ≡ false
    → is_refused (write (create s name).after name 0 amount).answer ≡ false → (n : ℕ) × ((commit (write (create s name).after name 0 amount).after).answer ≡ Answer.started n)
line-commits s t h name amount e f =
    let u = idle-ready s t h in
    commit-starts (write (create s name).after name 0 amount).after u.0 (write-ready (create s name).after name 0 amount f ∙ create-ready s name e ∙ u.1)

module _ (s : State) (t : Bool) (h : idle_ok s ≡ accept t) (name amount : List ℕ) where
  abbrev o : Outcome
  o = create s name

  abbrev p : Outcome
  p = write o.after name 0 amount

  line-leaves : is_refused (store_line s name amount).answer ≡ true → store_line s name amount ≡ outcome s (store_line s name amount).answer
  unfolding store_line
  line-leaves = go (is_refused o.answer) refl (is_refused p.answer) refl
    where
      go : (x : Bool) → is_refused o.answer ≡ x → (y : Bool) → is_refused p.answer ≡ y
          → is_refused (cond (is_refused o.answer) (outcome s o.answer) (cond (is_refused p.answer) (outcome s p.answer) (commit p.after))).answer ≡ true
          → cond (is_refused o.answer) (outcome s o.answer) (cond (is_refused p.answer) (outcome s p.answer) (commit p.after))
          ≡ outcome s (cond (is_refused o.answer) (outcome s o.answer) (cond (is_refused p.answer) (outcome s p.answer) (commit p.after))).answer
      go true e y f r = rw e
      go false e true f r = rw (e, f)
      go false e false f r =
          let z : is_refused (commit p.after).answer ≡ true = rw (e, f) at r in
          absurd (true≢false (sym z ∙ ap is_refused (line-commits s t h name amount e f).1))

naming-refused : (line : ℕ) (a : Answer) → is_refused (naming line a) ≡ true → is_refused a ≡ true
naming-refused line (Answer.refused n vs) h = refl
naming-refused line Answer.done h = h
naming-refused line (Answer.started n) h = h
naming-refused line (Answer.stored b l n) h = h
naming-refused line Answer.idle h = h
naming-refused line (Answer.counted n) h = h
naming-refused line (Answer.file x n) h = h
naming-refused line Answer.no_file h = h
naming-refused line (Answer.run e) h = h
naming-refused line Answer.no_run h = h

pub refused-leaves : (s : State) (text : List ℕ) (p : ℕ) → leaves_all (load_step s text p).answer ≡ true → load_step s text p ≡ loaded s p (load_step s text p).answer
unfolding load_step load_in
refused-leaves s text p = phase s.session.phase
  where
    line : (t : Bool) → idle_ok s ≡ accept t → (n : ℕ) (l : Standing) → leaves_all (take_line s p n l).answer ≡ true → take_line s p n l ≡ loaded s p (take_line s p n l).answer
    line t h n (card e next) r =
        let a = (store_line s (name_of e.serial) (amount_bytes e.amount)).answer in
        let x = naming-refused n a r in
        let q = line-leaves s t h (name_of e.serial) (amount_bytes e.amount) x in
        ap (taken_up s p next n) q ∙ ap (λ (b : Bool). loaded s (cond b p next) (answered (naming n a))) x
    line t h n too_long r = refl
    line t h n malformed r = refl
    line t h n nothing r = refl

    begins : (r : Result Bool) → idle_ok s ≡ r → leaves_all (after_begin s text p r).answer ≡ true → after_begin s text p r ≡ loaded s p (after_begin s text p r).answer
    begins (refuse r) h e = refl
    begins (accept t) h e = line t h (line_number text p) (standing text p) e

    phase : (f : Phase) → leaves_all (load_in s text p f).answer ≡ true → load_in s text p f ≡ loaded s p (load_in s text p f).answer
    phase Closed e = begins (idle_ok s) refl e
    phase Ready e = begins (idle_ok s) refl e
    phase (Committing d) e = ap (advancing p) (advance-keeps s e)
    phase (Recovering d) e = begins (idle_ok s) refl e
