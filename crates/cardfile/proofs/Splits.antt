-- A text split at its feeds: its first line, and its lines put together again. Assumes nothing.
use Prim.Native.Nat.{ℕ, suc, ◌+◌, ◌<◌, ◌≤◌}
use mathlib.Core.Path.{◌≡◌, refl, sym, ap, ◌∙◌}
use mathlib.Core.Bool.{Bool, true, false, cond}
use mathlib.Core.List.{List, [], ◌∷◌, ◌++◌}
use native.Mathlib.Omega.{arith}
use lib.ListN.{length, drop}
use lib.Dec.{eqb}
use borrow.Author.Tests.{eqb-true, eqb-false, eq-eqb, ne_eqb}
use Rattle.cardfile.specs.Cards.{before}
use Rattle.cardfile.specs.Lines.{longer, split_lines}
use Rattle.cardfile.proofs.Laws.{before-hit, before-miss}
use Rattle.cardfile.proofs.Texts.{Printed}

-- lines as a text again
unfoldable pub joined : List (List ℕ) → List ℕ
joined [] = []
joined (l ∷ []) = l
joined (l ∷ m ∷ ls) = l ++ (10 ∷ joined (m ∷ ls))

-- a text has a first line
pub record Some (ls : List (List ℕ)) : Type 0 where
  pub first : List ℕ
  pub more : List (List ℕ)
  pub are : ls ≡ first ∷ more

pub split-some : (t : List ℕ) → Some (split_lines t)
unfolding split_lines
split-some [] = record { first = []; more = []; are = refl }
split-some (c ∷ t) = go (eqb c 10) (split_lines t)
  where
    go : (b : Bool) (ls : List (List ℕ)) → Some (cond b ([] ∷ ls) (longer c ls))
    go true ls = record { first = []; more = ls; are = refl }
    go false [] = record { first = c ∷ []; more = []; are = refl }
    go false (l ∷ ls) = record { first = c ∷ l; more = ls; are = refl }

joined-longer : (c : ℕ) (k : List ℕ) (ls : List (List ℕ)) → joined (longer c (k ∷ ls)) ≡ c ∷ joined (k ∷ ls)
unfolding joined
joined-longer c k [] = refl
joined-longer c k (m ∷ ls) = refl

joined-feed : (ls : List (List ℕ)) → Some ls → joined ([] ∷ ls) ≡ 10 ∷ joined ls
unfolding joined
joined-feed [] s = let z : ◌≡◌ {A = List (List ℕ)} [] (s.first ∷ s.more) = s.are in cc
joined-feed (l ∷ ls) s = refl

-- nothing is lost
pub joined-split : (t : List ℕ) → joined (split_lines t) ≡ t
unfolding split_lines joined
joined-split [] = refl
joined-split (c ∷ t) = go (eqb c 10) refl (split-some t) (joined-split t)
  where
    go : (b : Bool) → eqb c 10 ≡ b → Some (split_lines t) → joined (split_lines t) ≡ t → joined (cond b ([] ∷ split_lines t) (longer c (split_lines t))) ≡ c ∷ t
    go true e s ih = let z : c ≡ 10 = eqb-true c 10 e in joined-feed (split_lines t) s ∙ rw (z, ih)
    go false e s ih =
        ap (λ (ls : List (List ℕ)). joined (longer c ls)) s.are ∙ joined-longer c s.first s.more
        ∙ ap (λ (ls : List (List ℕ)). c ∷ joined ls) (sym s.are) ∙ ap (λ (l : List ℕ). c ∷ l) ih

-- ---- the first line

split-hit : (c : ℕ) (t : List ℕ) → c ≡ 10 → split_lines (c ∷ t) ≡ [] ∷ split_lines t
unfolding split_lines
split-hit c t h = rw (eq-eqb c 10 h)

split-miss : (c : ℕ) (t : List ℕ) → (c ≡ 10 → ⊥) → split_lines (c ∷ t) ≡ longer c (split_lines t)
unfolding split_lines
split-miss c t h = rw (ne_eqb c 10 h)

pub split-feed : (t : List ℕ) → length (before 10 t) < length t → split_lines t ≡ before 10 t ∷ split_lines (drop (length (before 10 t) + 1) t)
split-feed [] h = absurd (omega arith)
split-feed (c ∷ t) h = go (eqb c 10) refl (split-feed t)
  where
    go : (b : Bool) → eqb c 10 ≡ b → (length (before 10 t) < length t → split_lines t ≡ before 10 t ∷ split_lines (drop (length (before 10 t) + 1) t))
        → split_lines (c ∷ t) ≡ before 10 (c ∷ t) ∷ split_lines (drop (length (before 10 (c ∷ t)) + 1) (c ∷ t))
    go true e ih = let q = eqb-true c 10 e in rw (before-hit 10 c t q, split-hit c t q)
    go false e ih =
        let q : before 10 (c ∷ t) ≡ c ∷ before 10 t = before-miss 10 c t (eqb-false c 10 e) in
        let y : length (before 10 (c ∷ t)) ≡ suc (length (before 10 t)) = ap length q in
        let z : suc (length (before 10 t)) + 1 ≡ suc (length (before 10 t) + 1) = omega arith in
        rw (q, split-miss c t (eqb-false c 10 e), ih (omega arith), z)

pub split-nil : split_lines [] ≡ [] ∷ []
unfolding split_lines
split-nil = refl

pub split-last : (t : List ℕ) → length (before 10 t) ≡ length t → split_lines t ≡ t ∷ []
split-last [] h = split-nil
split-last (c ∷ t) h = go (eqb c 10) refl (split-last t)
  where
    go : (b : Bool) → eqb c 10 ≡ b → (length (before 10 t) ≡ length t → split_lines t ≡ t ∷ []) → split_lines (c ∷ t) ≡ (c ∷ t) ∷ []
    go true e ih = let q : length (before 10 (c ∷ t)) ≡ 0 = ap length (before-hit 10 c t (eqb-true c 10 e)) in absurd (omega arith)
    go false e ih =
        let y : length (before 10 (c ∷ t)) ≡ suc (length (before 10 t)) = ap length (before-miss 10 c t (eqb-false c 10 e)) in
        rw (split-miss c t (eqb-false c 10 e), ih (omega arith))

-- a line with its feed in front of a text
pub split-front : (l t : List ℕ) → Printed l → split_lines (l ++ (10 ∷ t)) ≡ l ∷ split_lines t
unfolding Printed
split-front [] t f = split-hit 10 t refl
split-front (c ∷ l) t f =
    let z : 48 ≤ c = f.0 in
    split-miss c (l ++ (10 ∷ t)) (λ q. omega arith) ∙ ap (longer c) (split-front l t f.1)
