-- What a call leaves in all that is lent, from what its code leaves. Assumes nothing.
use Prim.Native.Nat.{ℕ}
use mathlib.Core.Path.{◌≡◌, refl, sym, ap, ap₂, ◌∙◌, subst}
use mathlib.Core.Bool.{Bool, true, false, cond}
use mathlib.Core.List.{List}
use Rattle.std.specs.Prelude.{Ok, Err, is_ok}
use Rattle.std.specs.Prelude.{Result as Returned}
use Rattle.spec.specs.declared.Session.{Session}
use Rattle.spec.specs.declared.Refusal.{Refusal}
use Rattle.spec.specs.Answers.{Answer, is_refused, started_of, done_of}
use Rattle.spec.specs.Transaction.{State, state_of}
use Rattle.spec.specs.Calls.{Outcome, outcome, left}
use Rattle.block.proofs.Laws.{slice-bytes}
use Rattle.transaction.specs.Places.{session_of}
use Rattle.transaction.specs.LentSessions.{state_lent, Kept}
use Rattle.transaction.specs.declared.lent_session.LentSession.{LentSession}
use Rattle.capi.specs.declared.Parts.{Parts}
use Rattle.capi.specs.Cells.{parts_in}
use Rattle.mirror.specs.declared.CFinished.{CFinished}
use Rattle.mirror.specs.Mirror.{head_in, numbers_of, head_of, encode, decode, finished_of, Lent, lent, state_in, unless_refused, Leaves, Ends}
pub use Rattle.spec.proofs.Refusals.{refused-is}
use Rattle.mirror.proofs.Laws.{decode-encode, same-lent}
use Rattle.capi.proofs.Kept.{true≢false, Still}

-- ---- what a function that writes only behind an accepted call leaves

pub started-ok : (x : Returned ℕ Refusal) → is_ok x ≡ true → is_refused (started_of x) ≡ false
started-ok (Ok n) e = refl
started-ok (Err r) e = absurd (true≢false (sym e))

pub started-err : (x : Returned ℕ Refusal) → is_ok x ≡ false → is_refused (started_of x) ≡ true
started-err (Ok n) e = absurd (true≢false e)
started-err (Err r) e = refused-is r

pub done-ok : (x : Returned (Unit {0}) Refusal) → is_ok x ≡ true → is_refused (done_of x) ≡ false
done-ok (Ok n) e = refl
done-ok (Err r) e = absurd (true≢false (sym e))

pub done-err : (x : Returned (Unit {0}) Refusal) → is_ok x ≡ false → is_refused (done_of x) ≡ true
done-err (Ok n) e = absurd (true≢false e)
done-err (Err r) e = refused-is r

module _ (a : Answer) (before after : List ℕ) where
  pub stays : is_refused a ≡ true → before ≡ unless_refused a before after
  unfolding unless_refused
  stays t = sym (ap (λ (x : Bool). cond x before after) t)

  moves : is_refused a ≡ false → after ≡ unless_refused a before after
  unfolding unless_refused
  moves t = sym (ap (λ (x : Bool). cond x before after) t)

  pub becomes : (now : List ℕ) → is_refused a ≡ false → now ≡ after → now ≡ unless_refused a before after
  becomes now t e = e ∙ moves t

-- ---- all that is lent

-- the session of lent numbers and cells, in the parts in which it is handed on
pub lent-session : (s : Parts) (ns cells : List ℕ) → s ≡ parts_in ns → session_of s.blocks s.phase cells s.count ≡ decode (head_in ns) cells
lent-session s ns cells is = ap (λ (x : Parts). session_of x.blocks x.phase cells x.count) is

-- a call's code leaves session s, device d and work space w, and answers a; o is the outcome
module _ (b : Lent) (o : Outcome) (k : Still (outcome (state_in b)) o) (s : Session) (d w : List ℕ) (a : Answer) (e : left s d w a ≡ o) where
  as_before : is_refused a ≡ true → state_of s d w ≡ state_in b
  as_before t = ap (λ (x : Outcome). x.after) (e ∙ k.refusal (sym (ap (λ (x : Outcome). is_refused x.answer) e) ∙ t))

  session-before : is_refused a ≡ true → s ≡ decode (head_in b.numbers) b.staged
  session-before t = ap (λ (x : State). x.session) (as_before t)

  -- the cells of a call that writes them only where it is accepted
  pub cells_left : unless_refused a b.staged s.staged ≡ s.staged
  cells_left = go (is_refused a) refl
    where
      go : (t : Bool) → is_refused a ≡ t → unless_refused a b.staged s.staged ≡ s.staged
      go true t = sym (stays a b.staged s.staged t) ∙ sym (ap (λ (x : Session). x.staged) (session-before t))
      go false t = sym (moves a b.staged s.staged t)

  module _ (ns l : List ℕ) (n : ns ≡ unless_refused a b.numbers (numbers_of (encode s))) (c : l ≡ s.staged) where
    numbers-kept : is_refused a ≡ true → ns ≡ b.numbers
    numbers-kept t = n ∙ sym (stays a b.numbers (numbers_of (encode s)) t)

    numbers-new : is_refused a ≡ false → ns ≡ numbers_of (encode s)
    numbers-new t = n ∙ sym (moves a b.numbers (numbers_of (encode s)) t)

    cells-kept : is_refused a ≡ true → l ≡ b.staged
    cells-kept t = c ∙ ap (λ (x : Session). x.staged) (session-before t)

    kept : is_refused a ≡ true → lent ns l d w ≡ b
    kept t =
        same-lent ns b.numbers l b.staged d b.device w b.work (numbers-kept t) (cells-kept t)
        (slice-bytes d b.device (ap (λ (x : State). x.device) (as_before t)))
        (slice-bytes w b.work (ap (λ (x : State). x.work) (as_before t)))

    state-left : state_in (lent ns l d w) ≡ state_of s d w
    state-left = go (is_refused a) refl
      where
        go : (t : Bool) → is_refused a ≡ t → state_in (lent ns l d w) ≡ state_of s d w
        go true t = ap state_in (kept t) ∙ sym (as_before t)
        go false t = ap₂ (λ (x y : List ℕ). state_of (decode (head_in x) y) d w) (numbers-new t) c ∙ ap (λ (x : Session). state_of x d w) (decode-encode s)

    -- m gives the numbers of its answer
    pub leaves : {R : Type 0} (m : Answer → R) (r : R) → r ≡ m a → Leaves m r b (lent ns l d w) o
    leaves m r g =
        subst (λ (x : Outcome). Leaves m r b (lent ns l d w) x) e
        (record { answer = g; refusal = kept; state = state-left; head = numbers-new })

-- a call f on lent numbers and cells, handed on as session b
module _ (f : State → Outcome) (k : (s : State) → Still (outcome s) (f s)) (ns cells device work : List ℕ) (b : Session) (is : b ≡ decode (head_in ns) cells) where
  module _ {R : Type 0} (m : Answer → R) (s : Session) (d w : List ℕ) (a : Answer) (q : left s d w a ≡ f (state_of b device work)) (r : R) (g : r ≡ m a) (after l : List ℕ)
      (n : after ≡ unless_refused a ns (numbers_of (encode s))) where
    at-lent : left s d w a ≡ f (state_of (decode (head_in ns) cells) device work)
    at-lent = q ∙ ap (λ (x : Session). f (state_of x device work)) is

    pub ends_of : l ≡ s.staged → Ends m r (lent ns cells device work) (lent after l d w) f
    ends_of c = leaves (lent ns cells device work) (f (state_of (decode (head_in ns) cells) device work)) (k (state_of (decode (head_in ns) cells) device work)) s d w a at-lent after l n c m r g

    -- by the session as a whole
    pub ends-settled : l ≡ unless_refused a cells s.staged → Ends m r (lent ns cells device work) (lent after l d w) f
    ends-settled c = ends_of (c ∙ cells_left (lent ns cells device work) (f (state_of (decode (head_in ns) cells) device work)) (k (state_of (decode (head_in ns) cells) device work)) s d w a at-lent)

-- a call of a session that is lent in the parts l, which it leaves as m
module _ (f : State → Outcome) (k : (s : State) → Still (outcome s) (f s)) (ns cells device work : List ℕ) (s : Parts) (is : s ≡ parts_in ns) where
  pub ends-in : (l m : LentSession)
      → (l.device.now ≡ device) × (l.work.now ≡ work) × (l.blocks ≡ s.blocks) × (l.phase ≡ s.phase) × (l.cells.now ≡ cells) × (l.count.now ≡ s.count)
      → Kept l m → (answer : Returned (Unit {0}) Refusal) → outcome (state_lent m) (done_of answer) ≡ f (state_lent l)
      → (r : CFinished) (after : List ℕ)
      → (r ≡ finished_of (done_of answer)) × (after ≡ unless_refused (done_of answer) ns (numbers_of (head_of s.blocks s.phase m.count.now)))
      → (left-cells left-work : List ℕ) → left-cells ≡ m.cells.now → left-work ≡ m.work.now
      → Ends finished_of r (lent ns cells device work) (lent after left-cells device left-work) f
  ends-in l m p h answer q r after g left-cells w ec ew =
      let b = session_of s.blocks s.phase cells s.count in
      let t = session_of s.blocks s.phase left-cells m.count.now in
      let e : state_lent l ≡ state_of b device work = rw (p.0, p.1, p.2, p.3, p.4, p.5) in
      let hd : m.device.now ≡ device = h.device ∙ p.0 in
      let hb : m.blocks ≡ s.blocks = h.blocks ∙ p.2 in
      let hp : m.phase ≡ s.phase = h.phase ∙ p.3 in
      let u : state_of t device w ≡ state_lent m = rw (ec, ew, hd, hb, hp) in
      ends_of f k ns cells device work b (lent-session s ns cells is) finished_of t device w (done_of answer)
      (ap (λ (z : State). outcome z (done_of answer)) u ∙ q ∙ ap f e) r g.0 after left-cells g.1 refl
