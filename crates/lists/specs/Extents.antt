-- Extents and the blocks they hold, and the runs of a list of blocks. Assumes nothing.
use Rattle.std.specs.Prelude.{ℕ, suc, ◌+◌, ◌≡◌, refl, Bool, true, false, cond, List, [], ◌∷◌, ◌++◌, eqb, length}
use Rattle.std.proofs.Common.{sym, ap, ap₂, ◌∙◌, append_assoc, length-append, arith, eqb-true}
use Rattle.spec.specs.Bytes.{up_from}
use Rattle.spec.specs.declared.Extent.{Extent}
use Rattle.spec.specs.Inode.{extent, prepend, runs, blocks_in, counts}
use Rattle.lists.specs.Counts.{length-up_from}

pub counts-append : (es fs : List Extent) → counts (es ++ fs) ≡ counts es + counts fs
counts-append [] fs = omega arith
counts-append (e ∷ es) fs = omega (arith, counts-append es fs)

pub blocks-append : (es fs : List Extent) → blocks_in (es ++ fs) ≡ blocks_in es ++ blocks_in fs
unfolding blocks_in
blocks-append [] fs = refl
blocks-append (e ∷ es) fs =
    ap (λ (l : List ℕ). up_from e.first e.count ++ l) (blocks-append es fs) ∙ sym (append_assoc (up_from e.first e.count) (blocks_in es) (blocks_in fs))

pub length-blocks : (es : List Extent) → length (blocks_in es) ≡ counts es
unfolding blocks_in
length-blocks [] = refl
length-blocks (e ∷ es) =
    length-append (up_from e.first e.count) (blocks_in es) ∙ ap₂ (λ (x y : ℕ). x + y) (length-up_from e.first e.count) (length-blocks es)

-- ---- the runs of a list hold its blocks

prepend-blocks : (b : ℕ) (es : List Extent) → blocks_in (prepend b es) ≡ b ∷ blocks_in es
unfolding blocks_in
prepend-blocks b [] = refl
prepend-blocks b (e ∷ es) = go (eqb e.first (suc b)) refl
  where
    go : (t : Bool) → eqb e.first (suc b) ≡ t → blocks_in (cond t (extent b (suc e.count) ∷ es) (extent b 1 ∷ e ∷ es)) ≡ b ∷ blocks_in (e ∷ es)
    go true q = ap (λ k. b ∷ (up_from k e.count ++ blocks_in es)) (sym (eqb-true e.first (suc b) q))
    go false q = refl

no_blocks : blocks_in [] ≡ []
unfolding blocks_in
no_blocks = refl

pub runs-blocks : (bs : List ℕ) → blocks_in (runs bs) ≡ bs
unfolding runs
runs-blocks [] = no_blocks
runs-blocks (b ∷ bs) = prepend-blocks b (runs bs) ∙ ap (λ (l : List ℕ). b ∷ l) (runs-blocks bs)

pub runs-counts : (bs : List ℕ) → counts (runs bs) ≡ length bs
runs-counts bs = sym (length-blocks (runs bs)) ∙ ap length (runs-blocks bs)
