-- Cells of which the first are in use: what a list in an array of its room is. Assumes nothing.
use Prim.Native.Nat.{ℕ, suc, ◌+◌, ◌-◌, ◌<◌, ◌≤◌}
use mathlib.Core.Path.{◌≡◌, refl, sym, ap, ap₂, ◌∙◌}
use mathlib.Core.List.{List, [], ◌∷◌, ◌++◌}
use native.Mathlib.Nat.{sub-zero}
use native.Mathlib.Omega.{arith}
use lib.ListN.{length, take, drop, set, replicate, length-append, length-take, length-drop, length-set, length-replicate, take-append-drop, drop_of_length-le}
use lib.Seq.{length-take-le, take-append-le, take_all, drop-append-add}
use Rattle.std.proofs.lemmas.List.{take_more_set, drop-set-lt}
use Rattle.std.proofs.Common.{append-nil}

-- n cells, the first `count` in use, the others 0
pub record Padded (n : ℕ) (cells : List ℕ) (count : ℕ) : Type 0 where
  pub full : length cells ≡ n
  pub few : count ≤ n
  pub rest : cells ≡ take count cells ++ replicate (n - count) 0

-- as many cells as are in use, and all of them, told by those in use
module _ (n : ℕ) (cells : List ℕ) (count : ℕ) (p : Padded n cells count) where
  pub padded-count : length (take count cells) ≡ count
  padded-count = length-take-le count cells (omega (arith, p.full, p.few))

  pub padded-cells : take count cells ++ replicate (n - length (take count cells)) 0 ≡ cells
  padded-cells = ap (λ (k : ℕ). take count cells ++ replicate (n - k) 0) padded-count ∙ sym p.rest

-- cells of which those behind the first are filled with 0
module _ (n : ℕ) (cells zs : List ℕ) (count : ℕ) (l : length cells ≡ n) (h : count ≤ n) (z : zs ≡ replicate (length (take (n - count) (drop count cells))) 0) where
  abbrev now : List ℕ
  now = take count cells ++ (zs ++ drop (n - count) (drop count cells))

  front : length (take count cells) ≡ count
  front = length-take-le count cells (omega arith)

  now-is : now ≡ take count cells ++ replicate (n - count) 0
  now-is =
      let w : length (take (n - count) (drop count cells)) ≡ n - count = omega (arith, length-take (n - count) (drop count cells), length-drop count cells) in
      let e : drop (n - count) (drop count cells) ≡ [] = drop_of_length-le (drop count cells) (omega (arith, length-drop count cells)) in
      ap₂ (λ (xs ys : List ℕ). take count cells ++ (xs ++ ys)) (z ∙ ap (λ (k : ℕ). replicate k 0) w) e ∙ ap (λ (xs : List ℕ). take count cells ++ xs) (append-nil (replicate (n - count) 0))

  pub front-kept : take count now ≡ take count cells
  front-kept = take-append-le count (take count cells) _ (omega (arith, front)) ∙ take_all count (take count cells) (omega (arith, front))

  pub front-padded : Padded n now count
  front-padded = record {
    full = ap length now-is ∙ length-append (take count cells) (replicate (n - count) 0) ∙ omega (arith, front, length-replicate {A = ℕ} (n - count) 0);
    few = h;
    rest = now-is ∙ ap (λ (xs : List ℕ). xs ++ replicate (n - count) 0) (sym front-kept);
  }

-- one cell more in use
module _ (n : ℕ) (cells : List ℕ) (count x : ℕ) (p : Padded n cells count) (h : count < n) where
  pub pushed-view : take (count + 1) (set cells count x) ≡ take count cells ++ (x ∷ [])
  pushed-view = take_more_set cells count x (omega (arith, p.full))

  others : drop (count + 1) cells ≡ replicate (n - (count + 1)) 0
  others =
      let c = padded-count n cells count p in
      let s : n - count ≡ suc (n - (count + 1)) = omega arith in
      let k : count + 1 ≡ length (take count cells) + 1 = omega (arith, c) in
      ap₂ (λ (j : ℕ) (xs : List ℕ). drop j xs) k (p.rest ∙ ap (λ (j : ℕ). take count cells ++ replicate j 0) s)
      ∙ drop-append-add (take count cells) (replicate (suc (n - (count + 1))) 0) 1

  pub pushed-padded : Padded n (set cells count x) (count + 1)
  pushed-padded = record {
    full = length-set cells count x ∙ p.full;
    few = omega arith;
    rest = sym (take-append-drop (count + 1) (set cells count x)) ∙ ap (λ (xs : List ℕ). take (count + 1) (set cells count x) ++ xs) (drop-set-lt (count + 1) cells count x (omega arith) ∙ others);
  }

-- no cell in use
pub none-padded : (n : ℕ) → Padded n (replicate n 0) 0
none-padded n = record { full = length-replicate {A = ℕ} n 0; few = omega arith; rest = ap (λ (k : ℕ). replicate k 0) (sym (sub-zero n)) }
