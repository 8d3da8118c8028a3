-- A list of extents in cells, two to an extent, as it is filled. Assumes nothing.
use Prim.Native.Nat.{ℕ, zero, suc, ◌+◌, ◌*◌, ◌/◌, ◌<◌, ◌≤◌}
use native.Mathlib.Omega.{arith}
use mathlib.Core.Path.{◌≡◌, refl, sym, ap, ap₂, ◌∙◌}
use mathlib.Core.List.{List, [], ◌∷◌, ◌++◌}
use lib.ListN.{length, take, drop, set, get_or}
use Rattle.spec.specs.declared.Extent.{Extent}
use Rattle.spec.specs.Inode.{extent}
use Rattle.mirror.specs.Mirror.{extents_of, cells_of, with_extents}

twice : (m : ℕ) → 2 * suc m ≡ suc (suc (2 * m))
twice m = omega arith

-- as many places as pairs of cells
pub length-extents : (cells : List ℕ) → length (extents_of cells) ≡ length cells / 2
unfolding extents_of
length-extents [] = refl
length-extents (a ∷ []) = refl
length-extents (a ∷ b ∷ cells) = let h = length-extents cells in omega (arith, h)

pub with_none : (cells : List ℕ) → with_extents cells [] ≡ cells
unfolding with_extents cells_of
with_none cells = refl

-- the first pair taken off
with-cons : (a b : ℕ) (cells : List ℕ) (e : Extent) (es : List Extent)
    → with_extents (a ∷ b ∷ cells) (e ∷ es) ≡ e.first ∷ e.count ∷ with_extents cells es
unfolding with_extents cells_of
with-cons a b cells e es = ap (λ (k : ℕ). e.first ∷ e.count ∷ (cells_of es ++ drop k (a ∷ b ∷ cells))) (twice (length es))

-- ---- one place more

abbrev pub put_at : List ℕ → ℕ → Extent → List ℕ
put_at cells k e = set (set cells (2 * k) e.first) (2 * k + 1) e.count

put-cons : (a b : ℕ) (cells : List ℕ) (k : ℕ) (e : Extent) → put_at (a ∷ b ∷ cells) (suc k) e ≡ a ∷ b ∷ put_at cells k e
put-cons a b cells k e =
    let h : 2 * suc k + 1 ≡ suc (suc (2 * k + 1)) = omega arith in
    ap₂ (λ (i j : ℕ). set (set (a ∷ b ∷ cells) i e.first) j e.count) (twice k) h

with-more : (es : List Extent) (cells : List ℕ) (k : ℕ) → k < length es → 2 * k + 1 < length cells
    → put_at (with_extents cells (take k es)) k (get_or es k (extent 0 0)) ≡ with_extents cells (take (suc k) es)
with-more [] cells k h g = absurd (omega arith)
with-more (e ∷ es) [] k h g = absurd (omega arith)
with-more (e ∷ es) (a ∷ []) k h g = absurd (omega arith)
with-more (e ∷ es) (a ∷ b ∷ cells) zero h g = first-put
  where
    first-put : put_at (with_extents (a ∷ b ∷ cells) []) 0 e ≡ with_extents (a ∷ b ∷ cells) (e ∷ [])
    first-put = ap (λ (x : List ℕ). put_at x 0 e) (with_none (a ∷ b ∷ cells)) ∙ sym (with-cons a b cells e [] ∙ ap (λ (x : List ℕ). e.first ∷ e.count ∷ x) (with_none cells))
with-more (e ∷ es) (a ∷ b ∷ cells) (suc k) h g =
    ap (λ (x : List ℕ). put_at x (suc k) (get_or es k (extent 0 0))) (with-cons a b cells e (take k es))
    ∙ put-cons e.first e.count (with_extents cells (take k es)) k (get_or es k (extent 0 0))
    ∙ ap (λ (x : List ℕ). e.first ∷ e.count ∷ x) (with-more es cells k (omega arith) (omega arith))
    ∙ sym (with-cons a b cells e (take (suc k) es))

-- place k written, as the two cells of extent k
pub with-next : (es : List Extent) (cells list : List ℕ) (k : ℕ) (e : Extent) → list ≡ with_extents cells (take k es) → e ≡ get_or es k (extent 0 0)
    → k < length es → 2 * k + 1 < length cells → put_at list k e ≡ with_extents cells (take (k + 1) es)
with-next es cells list k e p q h g =
    let m : suc k ≡ k + 1 = omega arith in
    ap₂ (λ (x : List ℕ) (y : Extent). put_at x k y) p q ∙ with-more es cells k h g ∙ ap (λ (n : ℕ). with_extents cells (take n es)) m

-- ---- the list's own places put back change nothing

with-own : (cells : List ℕ) → with_extents cells (extents_of cells) ≡ cells
unfolding extents_of
with-own [] = with_none []
with-own (a ∷ []) = with_none (a ∷ [])
with-own (a ∷ b ∷ cells) = with-cons a b cells (extent a b) (extents_of cells) ∙ ap (λ (x : List ℕ). a ∷ b ∷ x) (with-own cells)

pub with_rest : (es : List Extent) (cells : List ℕ) → length es ≤ length (extents_of cells)
    → with_extents cells es ≡ with_extents cells (es ++ drop (length es) (extents_of cells))
unfolding extents_of
with_rest [] cells h = with_none cells ∙ sym (with-own cells)
with_rest (e ∷ es) [] h = absurd (omega arith)
with_rest (e ∷ es) (a ∷ []) h = absurd (omega arith)
with_rest (e ∷ es) (a ∷ b ∷ cells) h =
    with-cons a b cells e es ∙ ap (λ (x : List ℕ). e.first ∷ e.count ∷ x) (with_rest es cells (omega arith))
    ∙ sym (with-cons a b cells e (es ++ drop (length es) (extents_of cells)))
