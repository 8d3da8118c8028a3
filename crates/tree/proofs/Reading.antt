-- Slots one by one. Assumes nothing.
use Prim.Native.Nat.{ℕ, zero, suc, ◌+◌, ◌*◌, ◌-◌, ◌/◌, ◌%◌, ◌<◌, ◌≤◌}
use mathlib.Core.Path.{◌≡◌, refl, sym, ap, ap₂, ◌∙◌}
use mathlib.Core.Bool.{Bool, true, false, cond, not, ◌&&◌, true≢false}
use mathlib.Core.List.{List, [], ◌∷◌}
use native.Mathlib.Omega.{arith}
use borrow.Author.Tests.{ne_eqb}
use lib.Dec.{eqb}
use Rattle.std.specs.List.{list_all}
use lib.ListN.{length, drop}
use denote.Ref.{Bor}
use denote.Param.Members.{Mut}
use Rattle.std.specs.declared.iter.TakeWhile.{TakeWhile}
use Rattle.std.specs.Prelude.{Option, Some, None, MatchOption, MatchBool}
use Rattle.std.specs.Fn.{CalledAt}
use Rattle.std.specs.Iterator.{YieldsFirstBy}
use Rattle.std.specs.Iterator.Adapters.{take_while_steps}
use Rattle.tree.specs.declared.slots.Slot.{Slot}
use Rattle.tree.specs.declared.slots.Slots.{Slots}
use Rattle.tree.specs.Slots.{slots_left}
use Rattle.spec.specs.declared.Extent.{Extent}
use Rattle.spec.specs.Bytes.{exactly, number2, number4, all}
use Rattle.spec.specs.Inode.{extent, slots_in, used}
use Rattle.spec.specs.Sound.{slots_packed}
use Rattle.block.proofs.Laws.{get_or-exactly}
use Rattle.inode.specs.Walk.{slot_in}
use Rattle.inode.proofs.Walk.{slots-first}
use Rattle.tree.specs.Reached.{is_unused}

-- a number of a block that may end early
number2-exactly : (n : ℕ) (xs : List ℕ) (at : ℕ) → at + 2 ≤ n → number2 at (exactly n xs) ≡ number2 at xs
number2-exactly n xs at h = rw (get_or-exactly n xs at (omega arith), get_or-exactly n xs (at + 1) (omega arith))

-- a slot as the code reads it
pub slot_read : (t : List ℕ) (at n : ℕ) → at + 4 ≤ 512 → n ≡ number4 at t → number2 at t < 65536 → extent (n % 65536) (n / 65536) ≡ slot_in at (exactly 512 t)
slot_read t at n h q l =
    let f : n % 65536 ≡ number2 at t = omega arith in
    let c : n / 65536 ≡ number2 (at + 2) t = omega arith in
    ap₂ extent (f ∙ sym (number2-exactly 512 t at (omega arith))) (c ∙ sym (number2-exactly 512 t (at + 2) (omega arith)))

-- the slots that are left: none, or the first and the others
pub slots_none : (n : ℕ) (xs : List ℕ) → n < 1 → slots_in n xs ≡ []
unfolding slots_in
slots_none zero xs h = refl
slots_none (suc n) xs h = absurd (omega arith)

pub slots_next : (X : List ℕ) (p n m : ℕ) (e : Extent) → n ≡ m + 1 → e ≡ slot_in p X → slots_in n (drop p X) ≡ e ∷ slots_in m (drop (p + 4) X)
slots_next X p zero m e h q = absurd (omega arith)
slots_next X p (suc n) m e h q = let z : n ≡ m = omega arith in rw (z, q) (slots-first m p X)

-- a slot that is not used is the first of the others, and a used one stands before them
module _ (e : Extent) (es : List Extent) where
  pub unused-none : e.count ≡ 0 → used (e ∷ es) ≡ []
  unused-none h = rw h

  pub used-first : 0 < e.count → used (e ∷ es) ≡ e ∷ used es
  used-first h = rw (ne_eqb e.count 0 (λ q. omega arith))

pub used-few : (es : List Extent) → length (used es) ≤ length es
used-few [] = omega arith
used-few (e ∷ es) = go (eqb e.count 0) (used-few es)
  where
    go : (t : Bool) → length (used es) ≤ length es → length (cond (not t) (e ∷ used es) []) ≤ suc (length es)
    go true h = omega arith
    go false h = omega arith

pub length_slots : (n : ℕ) (xs : List ℕ) → length (slots_in n xs) ≡ n
unfolding slots_in
length_slots zero xs = refl
length_slots (suc n) xs = ap suc (length_slots n (drop 4 xs))

drop-slots : (m n at : ℕ) (X : List ℕ) → m ≤ n → drop m (slots_in n (drop at X)) ≡ slots_in (n - m) (drop (at + 4 * m) X)
drop-slots zero n at X h = let a : at + 4 * 0 ≡ at = omega arith in let b : n - 0 ≡ n = omega arith in rw (a, b)
drop-slots (suc m) zero at X h = absurd (omega arith)
drop-slots (suc m) (suc n) at X h =
    let a : at + 4 + 4 * m ≡ at + 4 * suc m = omega arith in
    let b : suc n - suc m ≡ n - m = omega arith in
    rw (slots-first n at X, b, ← a) (drop-slots m n (at + 4) X (omega arith))

-- a test of each, as std tells it
all-is : (test : Extent → Bool) (es : List Extent) → list_all test es ≡ all test es
all-is test [] = refl
all-is test (e ∷ es) = ap (λ (t : Bool). test e && t) (all-is test es)

-- as many as are used being passed over, the others are left
module _ (X : List ℕ) (at n m : ℕ) (e : m ≡ length (used (slots_in n (drop at X)))) where
  pub used_most : m ≤ n
  used_most = omega (arith, e, used-few (slots_in n (drop at X)), length_slots n (drop at X))

  pub others-zero : (r : Bool) → r ≡ list_all is_unused (slots_in (n - m) (drop (at + 4 * m) X)) → r ≡ slots_packed (slots_in n (drop at X))
  others-zero r h =
      h ∙ all-is is_unused (slots_in (n - m) (drop (at + 4 * m) X)) ∙ ap (all is_unused) (sym (drop-slots m n at X used_most)) ∙ ap (λ (i : ℕ). all is_unused (drop i (slots_in n (drop at X)))) e

-- a step over the slots as long as they are used
module _ {F : Type 0} (g : Mut F (Bor Slot × Unit {0}) Bool) (tests : (p q : F) (x : Slot) (b : Bool) → CalledAt g p x b q → b ≡ not (eqb x.extent.count 0)) (s t : TakeWhile Slots F) (d : s.done ≡ false) where
  abbrev Taken : Option Slot → Type 0
  Taken r = MatchOption r (used (slots_left s.iter) ≡ []) (λ x. (slots_left s.iter ≡ x.extent ∷ slots_left t.iter) × (0 < x.extent.count) × (t.done ≡ false))

  tested : (r : Option Slot) (x : Slot) (b : Bool) → slots_left s.iter ≡ x.extent ∷ slots_left t.iter → b ≡ not (eqb x.extent.count 0)
      → MatchBool b ((r ≡ Some x) × (t.done ≡ false)) ((r ≡ None) × (t.done ≡ true)) → Taken r
  tested r x true e k m = rw m.0 (e, grind (arith, k), m.1)
  tested r x false e k m = rw m.0 (ap used e ∙ unused-none x.extent (slots_left t.iter) (grind (arith, k)))

  came : (r o : Option Slot) → YieldsFirstBy (λ slot. slot.extent) slots_left s.iter o t.iter
      → MatchOption o ((r ≡ None) × (t.done ≡ false)) (λ x. (b : Bool) × CalledAt g s.p x b t.p × MatchBool b ((r ≡ Some x) × (t.done ≡ false)) ((r ≡ None) × (t.done ≡ true))) → Taken r
  came r None e m = rw m.0 (ap used e.0)
  came r (Some x) e m = tested r x m.0 e (tests _ _ x m.0 m.1) m.2

  going_on : (A B : Type 0) (b : Bool) → b ≡ false → MatchBool b A B → B
  going_on A B true e h = absurd (true≢false e)
  going_on A B false e h = h

  pub taken : (r : Option Slot) → take_while_steps (YieldsFirstBy (λ slot. slot.extent) slots_left) g s r t → Taken r
  taken r h = let m = going_on _ _ s.done d h in came r m.0 m.1 m.2
