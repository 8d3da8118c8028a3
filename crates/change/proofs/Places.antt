-- Laws of the places of blocks among the blocks of extents. Assumes nothing.
use Prim.Native.Nat.{ℕ, zero, suc, ◌+◌, ◌-◌, ◌<◌, ◌≤◌}
use mathlib.Core.Path.{◌≡◌, refl, sym, ap, ◌∙◌}
use mathlib.Core.List.{List, [], ◌∷◌, ◌++◌}
use native.Mathlib.Omega.{arith}
use native.Mathlib.Numerals.{add-one}
use native.Mathlib.Nat.{add-zero}
use lib.ListN.{length, take, drop, get_or, length-append, get_or-append}
use lib.Seq.{get_or-append-add, split_at, take-suc, take-length}
use Rattle.std.specs.Prelude.{sum_by}
use Rattle.spec.specs.declared.Extent.{Extent}
use Rattle.spec.specs.Bytes.{up_from}
use Rattle.spec.specs.Inode.{extent, blocks_in, counts}
use Rattle.lists.specs.Counts.{length-up_from}
use Rattle.lists.specs.Extents.{counts-append, blocks-append, length-blocks}
use Rattle.content.proofs.Record.{counts-by}
use Rattle.change.specs.Contents.{place_of}

up_at : (a n j : ℕ) → j < n → get_or (up_from a n) j 0 ≡ a + j
up_at a zero j h = absurd (omega arith)
up_at a (suc n) zero h = sym (add-zero a)
up_at a (suc n) (suc j) h = up_at (suc a) n j (omega arith) ∙ omega arith

module _ (es : List Extent) where
  pub place_none : place_of es 0 ≡ 0
  unfolding place_of
  place_none = refl

  -- all of them
  pub place-all : place_of es (length es) ≡ counts es
  unfolding place_of
  place-all = ap counts (take-length es)

  -- as the code adds them up
  pub place-sum : (n : ℕ) → n ≡ sum_by (λ (e : Extent). e.count) es → n ≡ place_of es (length es)
  place-sum n e = e ∙ counts-by es ∙ sym place-all

  pub all_blocks : (n : ℕ) → n ≡ place_of es (length es) → n ≡ length (blocks_in es)
  all_blocks n e = e ∙ place-all ∙ sym (length-blocks es)

  -- extent k
  module _ (k : ℕ) (inside : k < length es) where
    abbrev own : Extent
    own = get_or es k (extent 0 0)

    place-more : place_of es (k + 1) ≡ place_of es k + (get_or es k (extent 0 0)).count
    unfolding place_of
    place-more =
        let s = counts-append (take k es) (own ∷ []) in
        let t : take (suc k) es ≡ take k es ++ (own ∷ []) = take-suc es k (extent 0 0) inside in
        rw (add-one k, t) (s ∙ omega arith)

    -- the blocks before it, its own, and those behind it
    split : blocks_in es ≡ blocks_in (take k es) ++ (up_from own.first own.count ++ blocks_in (drop (suc k) es))
    unfolding blocks_in
    split =
        ap blocks_in (split_at es k (extent 0 0) inside)
        ∙ blocks-append (take k es) (own ∷ drop (suc k) es)

    -- up to it and over it there are no more blocks than in all
    place-room : place_of es k + own.count ≤ length (blocks_in es)
    unfolding place_of
    place-room =
        let front = blocks_in (take k es) in
        let mine = up_from own.first own.count in
        let behind = blocks_in (drop (suc k) es) in
        let s = ap (λ (l : List ℕ). length l) split in
        let a = length-append front (mine ++ behind) in
        let b = length-append mine behind in
        let u = length-up_from own.first own.count in
        let l = length-blocks (take k es) in
        omega arith

    -- block j of it
    block_at : (j : ℕ) → j < own.count → own.first + j ≡ get_or (blocks_in es) (place_of es k + j) 0
    unfolding place_of
    block_at j l =
        let front = blocks_in (take k es) in
        let mine = up_from own.first own.count in
        let behind = blocks_in (drop (suc k) es) in
        sym (
        ap (λ (xs : List ℕ). get_or xs (counts (take k es) + j) 0) split
        ∙ ap (λ (n : ℕ). get_or (front ++ (mine ++ behind)) (n + j) 0) (sym (length-blocks (take k es)))
        ∙ get_or-append-add front (mine ++ behind) j 0
        ∙ get_or-append mine behind 0 j (rw (length-up_from own.first own.count) l)
        ∙ up_at own.first own.count j l
        )

-- ---- the last of what is left of a list

module _ {A : Type 0} (d : A) where
  pub record Last (es rest : List A) (x : A) : Type 0 where
    pub front : rest ≡ take (length rest) es
    pub inside : length rest < length es
    pub is : x ≡ get_or es (length rest) d

  last-of : (rest es : List A) (x : A) → rest ++ (x ∷ []) ≡ take (length rest + 1) es → Last es rest x
  last-of [] [] x e = absurd (let n = ap length e in omega arith)
  last-of [] (a ∷ es) x e = record { front = refl; inside = omega arith; is = ap (λ (l : List A). get_or l 0 d) e }
  last-of (r ∷ rs) [] x e =
      let z : suc (length rs) + 1 ≡ suc (length rs + 1) = omega arith in
      let e' : r ∷ (rs ++ (x ∷ [])) ≡ [] = rw z at e in
      absurd (let n = ap length e' in omega arith)
  last-of (r ∷ rs) (a ∷ es) x e =
      let z : suc (length rs) + 1 ≡ suc (length rs + 1) = omega arith in
      let e' : r ∷ (rs ++ (x ∷ [])) ≡ a ∷ take (length rs + 1) es = rw z at e in
      let l = last-of rs es x (ap (λ (l : List A). drop 1 l) e') in
      record {
        front = ap (λ (b : A). b ∷ rs) (ap (λ (l : List A). get_or l 0 d) e') ∙ ap (λ (l : List A). a ∷ l) l.front;
        inside = omega (arith, l.inside);
        is = l.is;
      }

  pub last-left : (rest es old : List A) (x : A) → old ≡ take (length old) es → old ≡ rest ++ (x ∷ []) → Last es rest x
  last-left rest es old x e p =
      let n : length old ≡ length rest + 1 = ap length p ∙ length-append rest (x ∷ []) in
      last-of rest es x (sym p ∙ e ∙ ap (λ (k : ℕ). take k es) n)

-- ---- the extents from the last to the first

-- extent x, the last of those left, whose blocks end at place `at` of the file
pub record LastExtent (es rest : List Extent) (x : Extent) (at : ℕ) : Type 0 where
  pub front : rest ≡ take (length rest) es
  pub is : x ≡ get_or es (length rest) (extent 0 0)
  pub under : x.count ≤ at
  pub whole : at ≡ at - x.count + x.count
  pub back : at - x.count ≡ place_of es (length rest)
  pub room : at ≤ counts es
  pub each : (j : ℕ) → j < x.count → (at - x.count + j < length (blocks_in es)) × (x.first + j ≡ get_or (blocks_in es) (at - x.count + j) 0)

pub extent-left : (es rest old : List Extent) (x : Extent) (at : ℕ) → old ≡ take (length old) es → at ≡ place_of es (length old) → old ≡ rest ++ (x ∷ []) → LastExtent es rest x at
extent-left es rest old x at e p q =
    let f = last-left (extent 0 0) rest es old x e q in
    let k = length rest in
    let n : length old ≡ k + 1 = ap length q ∙ length-append rest (x ∷ []) in
    let c = ap (λ (e : Extent). e.count) f.is in
    let m : at ≡ place_of es k + (get_or es k (extent 0 0)).count = p ∙ ap (place_of es) n ∙ place-more es k f.inside in
    let b : at - x.count ≡ place_of es k = omega arith in
    let r = place-room es k f.inside in
    record {
      front = f.front;
      is = f.is;
      under = omega arith;
      whole = omega arith;
      back = b;
      room = let l = length-blocks es in omega arith;
      each = λ j h. (omega arith, rw (b, f.is) (block_at es k f.inside j (omega arith)));
    }

-- ---- the nodes from the last to the first

-- node j, the last of those left
pub record LastNode (ns rest old : List ℕ) (j : ℕ) : Type 0 where
  pub front : rest ≡ take (length rest) ns
  pub place : j ≡ length rest
  pub behind : length old ≡ j + 1
  pub inside : j < length ns

pub node-left : (ns rest old : List ℕ) (b j count : ℕ) → old ≡ take (length old) ns → count ≡ 0 → old ≡ rest ++ (b ∷ []) → j ≡ count + length rest → LastNode ns rest old j
node-left ns rest old b j count e none q n =
    let f = last-left 0 rest ns old b e q in
    record {
      front = f.front;
      place = omega arith;
      behind = omega (arith, ap length q ∙ length-append rest (b ∷ []));
      inside = omega (arith, f.inside);
    }
