-- Targets in ascending order: the first and the last tell of all. Assumes nothing.
use Prim.Native.Nat.{ℕ, ◌-◌, ◌<◌, ◌≤◌}
use mathlib.Core.Path.{◌≡◌, refl, sym, ap, ap₂, ◌∙◌}
use mathlib.Core.Bool.{Bool, true, false, ◌&&◌, and-false, and-true, and_self, true≢false}
use mathlib.Core.List.{List, [], ◌∷◌}
use native.Mathlib.Omega.{arith}
use borrow.Author.Tests.{ltb-true, ltb-false, lt-ltb, le-ltb, ne_eqb}
use lib.Dec.{ltb}
use lib.ListN.{length, get_or}
use denote.Ref.{Bor}
use Rattle.std.specs.Prelude.{Option, Some, None}
use Rattle.std.specs.Option.{option_zip}
use Rattle.std.specs.Slice.{IsItemAt, IsGetResult}
use Rattle.spec.specs.Bytes.{all, distinct}
use Rattle.spec.specs.Disk.{is_target, is_target_area, area_of}
use Rattle.spec.specs.Journal.{are_targets}
use Rattle.header.specs.Header.{ascends}
use Rattle.lists.specs.Tests.{both_true}
use Rattle.header.proofs.Loops.{ascends-distinct}

-- ---- within 33 to N-1

pub target-within : (N b : ℕ) → is_target N b ≡ true → (33 ≤ b) × (b < N)
unfolding is_target area_of
target-within N b h = go (ltb b 1) refl (ltb b 33) refl (ltb b N) refl
  where
    go : (t : Bool) → ltb b 1 ≡ t → (u : Bool) → ltb b 33 ≡ u → (v : Bool) → ltb b N ≡ v → (33 ≤ b) × (b < N)
    go true p u q v r = absurd (true≢false (sym (rw p at h)))
    go false p true q v r = absurd (true≢false (sym (rw (p, q) at h)))
    go false p false q true r = (ltb-false b 33 q, ltb-true b N r)
    go false p false q false r = absurd (true≢false (sym (sym (and-false (is_target_area (area_of b))) ∙ (rw r at h))))

pub within-target : (N b : ℕ) → 33 ≤ b → b < N → is_target N b ≡ true
unfolding is_target area_of
within-target N b low high = go (ltb b 34) refl (ltb b 42) refl
  where
    go : (t : Bool) → ltb b 34 ≡ t → (u : Bool) → ltb b 42 ≡ u → is_target_area (area_of b) && ltb b N ≡ true
    go true p u q = rw (le-ltb b 1 (omega arith), le-ltb b 33 low, p, lt-ltb b N high)
    go false p true q = rw (le-ltb b 1 (omega arith), le-ltb b 33 low, p, q, lt-ltb b N high)
    go false p false q = rw (le-ltb b 1 (omega arith), le-ltb b 33 low, p, q, lt-ltb b N high)

-- ---- the first and the last

abbrev last_of : ℕ → List ℕ → ℕ
last_of x [] = x
last_of x (y ∷ ys) = last_of y ys

last-at : (x : ℕ) (xs : List ℕ) → get_or (x ∷ xs) (length xs) 0 ≡ last_of x xs
last-at x [] = refl
last-at x (y ∷ ys) = last-at y ys

above-first : (x : ℕ) (xs : List ℕ) → ascends (x ∷ xs) ≡ true → x ≤ last_of x xs
unfolding ascends
above-first x [] e = omega arith
above-first x (y ∷ ys) e = let p = both_true (ltb x y) (ascends (y ∷ ys)) e in omega (arith, ltb-true x y p.0, above-first y ys p.1)

-- with both ends targets, all between them are
ends-all : (N x : ℕ) (xs : List ℕ) → ascends (x ∷ xs) ≡ true → is_target N x && is_target N (last_of x xs) ≡ all (is_target N) (x ∷ xs)
unfolding ascends
ends-all N x [] e = and_self (is_target N x) ∙ sym (and-true (is_target N x))
ends-all N x (y ∷ ys) e =
    let p = both_true (ltb x y) (ascends (y ∷ ys)) e in
    go (is_target N x) refl (is_target N (last_of y ys)) refl (ltb-true x y p.0) (above-first y ys p.1) (ends-all N y ys p.1)
  where
    go : (a : Bool) → is_target N x ≡ a → (b : Bool) → is_target N (last_of y ys) ≡ b → x < y → y ≤ last_of y ys
        → is_target N y && is_target N (last_of y ys) ≡ all (is_target N) (y ∷ ys) → a && b ≡ a && all (is_target N) (y ∷ ys)
    go false f b g l m q = refl
    go true f true g l m q =
        let low = (target-within N x f).0 in
        let high = (target-within N (last_of y ys) g).1 in
        let z : is_target N y ≡ true = within-target N y (omega arith) (omega arith) in
        (sym (ap₂ ◌&&◌ z g) ∙ q)
    go true f false g l m q = sym (and-false (is_target N y)) ∙ ap (λ (b : Bool). is_target N y && b) (sym g) ∙ q

-- the ends, as `first` and `last` tell them
pub no-ends : (l : List ℕ) (f g : Option (Bor ℕ)) → IsItemAt l 0 f → IsGetResult l 0 (length l - 1) g → option_zip f g ≡ None → length l ≡ 0
no-ends l None g a b e = omega (arith, a.3)
no-ends l (Some x) None a b e = omega (arith, b.3)
no-ends l (Some x) (Some y) a b e = cc

pub both-ends : (l : List ℕ) (f g : Option (Bor ℕ)) (x y : Bor ℕ) → IsItemAt l 0 f → IsGetResult l 0 (length l - 1) g → option_zip f g ≡ Some (x, y)
    → (length l ≡ 0 → ⊥) × (x.now ≡ get_or l 0 0) × (y.now ≡ get_or l (length l - 1) 0)
both-ends l None g x y a b e = cc
both-ends l (Some u) None x y a b e = cc
both-ends l (Some u) (Some w) x y a b e =
    let q : ◌≡◌ {A = Bor ℕ × Bor ℕ} (x, y) (u, w) = cc in
    (λ z. omega (arith, a.3.0), ap (λ p. p.0.now) q ∙ a.4 (omega arith) 0, ap (λ p. p.1.now) q ∙ b.4 (omega arith) 0)

pub can-list-none : (N : ℕ) (l : List ℕ) → length l ≡ 0 → false ≡ are_targets N l
unfolding are_targets
can-list-none N l e = rw e

pub can-list-up : (N : ℕ) (l : List ℕ) (a b : Bool) → (length l ≡ 0 → ⊥) → ascends l ≡ true → a ≡ is_target N (get_or l 0 0) → b ≡ is_target N (get_or l (length l - 1) 0)
    → a && b ≡ are_targets N l
unfolding are_targets
can-list-up N [] a b some up ea eb = absurd (some refl)
can-list-up N (x ∷ xs) a b some up ea eb =
    let n : length (x ∷ xs) - 1 ≡ length xs = omega arith in
    rw (ea, eb, n, last-at x xs, ends-all N x xs up, ne_eqb (length (x ∷ xs)) 0 some, ← ascends-distinct (x ∷ xs) up) (sym (and-true (all (is_target N) (x ∷ xs))))

pub can-list-other : (N : ℕ) (l : List ℕ) (a d up : Bool) → up ≡ ascends l → up ≡ false → a ≡ all (is_target N) l → d ≡ distinct l → a && d ≡ are_targets N l
unfolding are_targets ascends
can-list-other N [] a d up e other ea ed = absurd (true≢false (sym e ∙ other))
can-list-other N (x ∷ xs) a d up e other ea ed = rw (ea, ed, ne_eqb (length (x ∷ xs)) 0 (λ z. omega arith))
