-- A load's answers in numbers, and what a step leaves in what is lent. Assumes nothing.
use Prim.Native.Nat.{ℕ}
use mathlib.Core.Path.{◌≡◌, refl, sym, ap, ap₂, ◌∙◌, subst}
use mathlib.Core.Bool.{Bool, true, false, cond}
use mathlib.Core.List.{List}
use Rattle.spec.specs.declared.Session.{Session}
use Rattle.std.specs.Prelude.{Option, Some, None, Ok}
use Rattle.spec.specs.declared.BlockStored.{BlockStored}
use Rattle.spec.specs.Answers.{stored_of}
use Rattle.spec.specs.Transaction.{State, state_of}
use Rattle.block.proofs.Laws.{slice-bytes}
use Rattle.mirror.specs.declared.CAdvanced.{CAdvanced}
use Rattle.mirror.specs.Mirror.{head_in, numbers_of, encode, decode, advanced_of, Lent, lent, state_in}
use Rattle.mirror.proofs.Laws.{decode-encode, same-lent}
use Rattle.loader.specs.Load.{LoadAnswer, answered, LoadOutcome, load_step, left_load, leaves_all}
use Rattle.loader.proofs.Kept.{refused-leaves}
use Rattle.loadapi.specs.declared.CLoaded.{CLoaded}
use Rattle.loadapi.specs.Loads.{stored_numbers, load_numbers, unless_left, StepLeaves, Loads}

-- ---- an answer in numbers

pub advanced-told : (o : Option BlockStored) (a : CAdvanced) (next : ℕ) → a ≡ advanced_of (stored_of (Ok o)) → stored_numbers a.block a.last a.number next ≡ load_numbers (answered (stored_of (Ok o))) next
unfolding load_numbers advanced_of
advanced-told None a next e = rw e
advanced-told (Some s) a next e = rw e

-- ---- what is lent

module _ (a : LoadAnswer) (before after : List ℕ) where
  pub stays : leaves_all a ≡ true → before ≡ unless_left a before after
  unfolding unless_left
  stays t = sym (ap (λ (x : Bool). cond x before after) t)

  pub moves : leaves_all a ≡ false → after ≡ unless_left a before after
  unfolding unless_left
  moves t = sym (ap (λ (x : Bool). cond x before after) t)

-- the code leaves session s, device d, work space w and place q, and answers a
module _ (ns cells device work text : List ℕ) (at : ℕ) (s : Session) (d w : List ℕ) (q : ℕ) (a : LoadAnswer)
    (e : left_load s d w q a ≡ load_step (state_in (lent ns cells device work)) text at)
    (after l : List ℕ) (n : after ≡ unless_left a ns (numbers_of (encode s))) (c : l ≡ unless_left a cells s.staged)
  where
    abbrev b : Lent
    b = lent ns cells device work

    as_before : leaves_all a ≡ true → state_of s d w ≡ state_in b
    as_before t =
        let o : leaves_all (load_step (state_in b) text at).answer ≡ true = ap (λ (x : LoadOutcome). leaves_all x.answer) (sym e) ∙ t in
        ap (λ (x : LoadOutcome). x.after) (e ∙ refused-leaves (state_in b) text at o)

    kept : leaves_all a ≡ true → lent after l d w ≡ b
    kept t =
        same-lent after ns l cells d device w work (n ∙ sym (stays a ns (numbers_of (encode s)) t)) (c ∙ sym (stays a cells s.staged t))
        (slice-bytes d device (ap (λ (x : State). x.device) (as_before t)))
        (slice-bytes w work (ap (λ (x : State). x.work) (as_before t)))

    numbers-new : leaves_all a ≡ false → after ≡ numbers_of (encode s)
    numbers-new t = n ∙ sym (moves a ns (numbers_of (encode s)) t)

    state-left : state_in (lent after l d w) ≡ state_of s d w
    state-left = go (leaves_all a) refl
      where
        go : (t : Bool) → leaves_all a ≡ t → state_in (lent after l d w) ≡ state_of s d w
        go true t = ap state_in (kept t) ∙ sym (as_before t)
        go false t =
            ap₂ (λ (x y : List ℕ). state_of (decode (head_in x) y) d w) (numbers-new t) (c ∙ sym (moves a cells s.staged t)) ∙ ap (λ (x : Session). state_of x d w) (decode-encode s)

    pub step-leaves : (r : CLoaded) → r ≡ load_numbers a q → Loads r b (lent after l d w) text at
    step-leaves r g =
        subst (λ (x : LoadOutcome). StepLeaves r b (lent after l d w) x) e
        (record { answer = g; kept = kept; state = state-left; head = numbers-new })
