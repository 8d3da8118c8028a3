-- The runs of a list of blocks: they hold these blocks, lie where they lie, do not touch, and fit their slots. Assumes nothing.
use Rattle.std.specs.Prelude.{ℕ, suc, ◌+◌, ◌≤◌, ◌≡◌, refl, Bool, true, false, cond, List, [], ◌∷◌, eqb}
use Rattle.std.proofs.Common.{arith, eqb-true, ne_eqb}
use Rattle.std.proofs.lemmas.Bool.{eqb-false}
use Rattle.spec.specs.Bytes.{occurs}
use Rattle.spec.specs.declared.Extent.{Extent}
use Rattle.spec.specs.Inode.{extent, prepend, runs}
use Rattle.spec.specs.Sound.{apart}
use Rattle.lists.specs.Counts.{occurs-head}
use Rattle.lists.specs.All.{All}
use Rattle.laws.specs.Soundness.{Inside, ExtentInside}

-- ---- inside

pub record Fits (N : ℕ) (e : Extent) : Type 0 where
  pub some : 1 ≤ e.count
  pub inside : ExtentInside N e

single : (N b : ℕ) → Inside N b → Fits N (extent b 1)
single N b h = record { some = omega arith; inside = record { begin = h; end = record { low = omega (arith, h.low); high = omega (arith, h.high) } } }

prepend-fits : (N b : ℕ) (es : List Extent) → Inside N b → All (Fits N) es → All (Fits N) (prepend b es)
prepend-fits N b [] h a = (single N b h, tt)
prepend-fits N b (e ∷ es) h a = go (eqb e.first (suc b)) refl
  where
    go : (t : Bool) → eqb e.first (suc b) ≡ t → All (Fits N) (cond t (extent b (suc e.count) ∷ es) (extent b 1 ∷ e ∷ es))
    go true q =
        let p = eqb-true e.first (suc b) q in
        let f = a.0.inside.end in
        let c = a.0.some in
        (record { some = omega arith; inside = record { begin = h; end = record { low = omega (arith, h.low); high = omega (arith, f.high) } } }, a.1)
    go false q = (single N b h, a)

pub runs_fit : (N : ℕ) (bs : List ℕ) → ((b : ℕ) → 1 ≤ occurs b bs → Inside N b) → All (Fits N) (runs bs)
unfolding runs
runs_fit N [] h = tt
runs_fit N (b ∷ bs) h = prepend-fits N b (runs bs) (h b (occurs-head b bs)) (runs_fit N bs (λ c o. h c (omega arith)))

-- ---- maximal

prepend-apart : (b : ℕ) (es : List Extent) → apart es ≡ true → apart (prepend b es) ≡ true
prepend-apart b [] a = refl
prepend-apart b (e ∷ []) a = go (eqb e.first (suc b)) refl
  where
    go : (t : Bool) → eqb e.first (suc b) ≡ t → apart (prepend b (e ∷ [])) ≡ true
    go true q = rw q
    go false q = rw (q, ne_eqb e.first (b + 1) (λ p. eqb-false e.first (suc b) q (omega arith)))
prepend-apart b (e ∷ f ∷ es) a = go (eqb e.first (suc b)) refl
  where
    go : (t : Bool) → eqb e.first (suc b) ≡ t → apart (prepend b (e ∷ f ∷ es)) ≡ true
    go true q =
        let p = eqb-true e.first (suc b) q in
        let z : b + suc e.count ≡ e.first + e.count = omega arith in
        rw (q, z) a
    go false q = rw (q, ne_eqb e.first (b + 1) (λ p. eqb-false e.first (suc b) q (omega arith))) a

pub runs-apart : (bs : List ℕ) → apart (runs bs) ≡ true
unfolding runs
runs-apart [] = refl
runs-apart (b ∷ bs) = prepend-apart b (runs bs) (runs-apart bs)
