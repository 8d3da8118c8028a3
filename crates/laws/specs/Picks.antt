-- Picks in turn: free blocks, each once, and the first of those that are free. Assumes nothing.
use Rattle.std.specs.Prelude.{ℕ, zero, suc, ◌+◌, ◌≤◌, ◌<◌, ◌≡◌, refl, Bool, true, false, cond, List, [], ◌∷◌, ◌++◌, eqb, length, take, get_or, set}
use Rattle.std.proofs.Common.{sym, ap, ◌∙◌, length-set, get_or-set_same, get_or-set_other, not-suc-le-zero, arith, eqb-true}
use Rattle.std.proofs.Math.Option
use Rattle.std.proofs.Math.Option.{Option, none, some, some-ne-none, some-injective}
use Rattle.std.proofs.lemmas.Bool.{eqb-false}
use Rattle.spec.specs.Bytes.{occurs, place, place_from}
use Rattle.spec.specs.Bitmap.{free_bits, mark, pick, picks}
use Rattle.lists.specs.Places.{place-stands}
use Rattle.bitmap.specs.Words.{Below}
use Rattle.bitmap.proofs.Laws.{free-set, none_free, Lowest, lowest-says}
use Rattle.laws.specs.Marks.{below-mark}

-- ---- one pick

picked : (bits : List ℕ) → 1 ≤ free_bits bits → place 0 bits ≡ some (pick bits)
unfolding pick
picked bits h = go (place 0 bits) refl
  where
    go : (o : Option ℕ) → place 0 bits ≡ o → o ≡ some (Option.get_or o 0)
    go none e = absurd (omega (arith, none_free bits e))
    go (some b) e = refl

pub pick-lowest : (bits : List ℕ) → 1 ≤ free_bits bits → Lowest bits (pick bits)
pick-lowest bits h = lowest-says bits (pick bits) (picked bits h)

bit-set : (bits : List ℕ) (b x : ℕ) → b < length bits → get_or bits b 0 ≡ 0 → get_or (set bits b 1) x 0 ≡ get_or bits x 0 + cond (eqb b x) 1 0
bit-set bits b x h z = go (eqb b x) refl
  where
    go : (t : Bool) → eqb b x ≡ t → get_or (set bits b 1) x 0 ≡ get_or bits x 0 + cond (eqb b x) 1 0
    go true q = let e = eqb-true b x q in rw (q, ← e) (get_or-set_same bits b 1 0 h ∙ omega arith)
    go false q = rw q (get_or-set_other bits b x 1 0 (λ e. eqb-false b x q (sym e)) ∙ omega arith)

-- ---- many

-- the table with all picks set: each bit as before, and 1 more where it was picked
pub mark-picks : (bits : List ℕ) (n : ℕ) → n ≤ free_bits bits → (x : ℕ) → get_or (mark 1 (picks bits n) bits) x 0 ≡ get_or bits x 0 + occurs x (picks bits n)
unfolding picks mark
mark-picks bits zero h x = omega arith
mark-picks bits (suc n) h x =
    let f = pick-lowest bits (omega arith) in
    let s = free-set bits (pick bits) f.inside f.zero_bit in
    omega (arith, bit-set bits (pick bits) x f.inside f.zero_bit, mark-picks (set bits (pick bits) 1) n (omega arith) x)

pub free-picks : (bits : List ℕ) (n : ℕ) → n ≤ free_bits bits → free_bits (mark 1 (picks bits n) bits) + n ≡ free_bits bits
unfolding picks mark
free-picks bits zero h = omega arith
free-picks bits (suc n) h =
    let f = pick-lowest bits (omega arith) in
    let s = free-set bits (pick bits) f.inside f.zero_bit in
    omega (arith, free-picks (set bits (pick bits) 1) n (omega arith))

-- a block is picked at most once, and only where its bit is 0
pub picks-fresh : (bits : List ℕ) (n : ℕ) → n ≤ free_bits bits → Below 2 bits → (x : ℕ) → get_or bits x 0 + occurs x (picks bits n) ≤ 1
picks-fresh bits n h k x = omega (arith, mark-picks bits n h x, below-mark 2 1 (picks bits n) bits (omega arith) k x)

pub picks-within : (bits : List ℕ) (n : ℕ) → n ≤ free_bits bits → (x : ℕ) → 1 ≤ occurs x (picks bits n) → x < length bits
unfolding picks
picks-within bits zero h x o = absurd (not-suc-le-zero o)
picks-within bits (suc n) h x o = go (eqb (pick bits) x) refl (picks-within (set bits (pick bits) 1) n)
  where
    f : Lowest bits (pick bits)
    f = pick-lowest bits (omega arith)

    go : (t : Bool) → eqb (pick bits) x ≡ t
        → (n ≤ free_bits (set bits (pick bits) 1) → (x : ℕ) → 1 ≤ occurs x (picks (set bits (pick bits) 1) n) → x < length (set bits (pick bits) 1)) → x < length bits
    go true e ih = let q = eqb-true (pick bits) x e in omega (arith, f.inside)
    go false e ih =
        let z = rw e at o in
        omega (
          arith,
          length-set bits (pick bits) 1,
          ih (omega (arith, free-set bits (pick bits) f.inside f.zero_bit)) x (omega arith),
        )

-- picks behind picks
pub picks-append : (bits : List ℕ) (n m : ℕ) → picks bits (n + m) ≡ picks bits n ++ picks (mark 1 (picks bits n) bits) m
unfolding picks mark
picks-append bits zero m = let e : 0 + m ≡ m = omega arith in rw e
picks-append bits (suc n) m =
    let e : suc n + m ≡ suc (n + m) = omega arith in
    rw e (ap (λ (l : List ℕ). pick bits ∷ l) (picks-append (set bits (pick bits) 1) n m))

-- ---- the places of the zero bits, ascending

unfoldable pub zeros_from : ℕ → List ℕ → List ℕ
zeros_from a [] = []
zeros_from a (x ∷ xs) = cond (eqb x 0) (a ∷ zeros_from (suc a) xs) (zeros_from (suc a) xs)

pub length-zeros : (a : ℕ) (bits : List ℕ) → length (zeros_from a bits) ≡ free_bits bits
unfolding zeros_from
length-zeros a [] = refl
length-zeros a (x ∷ xs) = go (eqb x 0) (length-zeros (suc a) xs)
  where
    go : (t : Bool) → length (zeros_from (suc a) xs) ≡ free_bits xs → length (cond t (a ∷ zeros_from (suc a) xs) (zeros_from (suc a) xs)) ≡ cond t 1 0 + free_bits xs
    go true ih = omega arith
    go false ih = omega arith

first-zero : (a k b : ℕ) (bits : List ℕ) → a + k ≡ b → place_from a 0 bits ≡ some b → zeros_from a bits ≡ b ∷ zeros_from a (set bits k 1)
unfolding zeros_from
first-zero a k b [] e h = absurd (some-ne-none b (sym h))
first-zero a zero b (x ∷ xs) e h = go (eqb x 0) refl
  where
    go : (t : Bool) → eqb x 0 ≡ t → cond (eqb x 0) (a ∷ zeros_from (suc a) xs) (zeros_from (suc a) xs) ≡ b ∷ zeros_from (suc a) xs
    go true q = rw q (ap (λ m. m ∷ zeros_from (suc a) xs) (some-injective a b (rw q at h)))
    go false q = absurd (let r = place-stands 0 (suc a) b xs (rw q at h) in omega (arith, r.place))
first-zero a (suc k) b (x ∷ xs) e h = go (eqb x 0) refl (first-zero (suc a) k b xs (omega arith))
  where
    go : (t : Bool) → eqb x 0 ≡ t → (place_from (suc a) 0 xs ≡ some b → zeros_from (suc a) xs ≡ b ∷ zeros_from (suc a) (set xs k 1))
        → cond (eqb x 0) (a ∷ zeros_from (suc a) xs) (zeros_from (suc a) xs) ≡ b ∷ cond (eqb x 0) (a ∷ zeros_from (suc a) (set xs k 1)) (zeros_from (suc a) (set xs k 1))
    go true q ih = absurd (let z = some-injective a b (rw q at h) in omega arith)
    go false q ih = rw q (ih (rw q at h))

-- "each the lowest free one in the working bit table"
pub picks-zeros : (bits : List ℕ) (n : ℕ) → n ≤ free_bits bits → picks bits n ≡ take n (zeros_from 0 bits)
unfolding picks
picks-zeros bits zero h = refl
picks-zeros bits (suc n) h =
    let f = pick-lowest bits (omega arith) in
    let s = free-set bits (pick bits) f.inside f.zero_bit in
    ap (λ (l : List ℕ). pick bits ∷ l) (picks-zeros (set bits (pick bits) 1) n (omega arith))
    ∙ ap (take (suc n)) (sym (first-zero 0 (pick bits) (pick bits) bits (omega arith) (picked bits (omega arith))))
