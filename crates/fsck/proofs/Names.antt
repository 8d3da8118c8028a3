-- Names as numbers. Assumes nothing.
use Prim.Native.Nat.{ℕ, zero, suc, ◌+◌, ◌-◌, ◌%◌, ◌<◌, ◌≤◌}
use mathlib.Core.Path.{◌≡◌, refl, sym, ap, ◌∙◌}
use mathlib.Core.Bool.{Bool, true, false, ◌||◌, true≢false}
use mathlib.Core.Logic.{⊎_elim}
use mathlib.Core.List.{List, [], ◌∷◌}
use mathlib.Core.Option.{Option, none, some}
use native.Mathlib.Omega.{arith}
use borrow.Author.Tests.{eqb-true, eqb-false, eq-eqb, ne_eqb}
use lib.Dec.{eqb}
use lib.ListN.{length, take, get_or, set, length-take, length-drop, length-set}
use lib.Seq.{take-nil, get_or-set_same, get_or-set_other}
use Rattle.spec.specs.Bytes.{exactly, found, all_zero}
use Rattle.spec.specs.Disk.{Disk}
use Rattle.spec.specs.Inode.{inode_bytes, name_at, is_empty, find, block_of_inode}
use Rattle.spec.specs.Sound.{first_of_name}
use Rattle.lists.specs.Lowest.{lowest-some, lowest-none, lowest-no}
use Rattle.block.proofs.Laws.{lt-or-le, same_self}
use Rattle.zeros.proofs.Laws.{zero-at}
use Rattle.std.proofs.lemmas.Bool.{or_parts}
use Rattle.std.proofs.lemmas.List.{get_or_past}
use Rattle.block.specs.Keys.{key_of, Name}
use Rattle.block.proofs.Keys.{same_key, zero-key, key-as}
use Rattle.std.specs.Prelude.{Option as Returned, Some, None, fold}
use Rattle.std.specs.List.{list_any}
use Rattle.std.specs.Array.{AllOfLen}
use Rattle.inode.specs.Records.{record_in, found_of, lowest_to}
use Rattle.block.proofs.Places.{found-some}
use Rattle.inode.proofs.Laws.{record-at, lowest-hit, lowest-in, lowest-past, named_at, find-all}
use Rattle.fsck.specs.declared.NameTable.{NameTable}
use Rattle.fsck.specs.Names.{Seen, Told, seen_to}

pub found-none : (o : Option ℕ) → found_of o ≡ None → o ≡ none
found-none none e = refl
found-none (some i) e = cc

-- ---- numbers seen before

module _ (x : ℕ) where
  seen_none : (numbers : List ℕ) (n : ℕ) → ((j : ℕ) → j < n → eqb (get_or numbers j 0) x ≡ false) → seen_to n x numbers ≡ false
  seen_none [] n h = rw (take-nil {A = ℕ} n)
  seen_none (y ∷ ys) zero h = refl
  seen_none (y ∷ ys) (suc n) h = rw (h 0 (omega arith)) (seen_none ys n (λ j l. h (suc j) (omega arith)))

  seen_all : (numbers : List ℕ) (n : ℕ) → n ≤ length numbers → seen_to n x numbers ≡ false → (j : ℕ) → j < n → eqb (get_or numbers j 0) x ≡ false
  seen_all [] n l e j h = absurd (omega arith)
  seen_all (y ∷ ys) zero l e j h = absurd (omega arith)
  seen_all (y ∷ ys) (suc n) l e zero h = (or_parts (eqb y x) _ e).0
  seen_all (y ∷ ys) (suc n) l e (suc j) h = seen_all ys n (omega arith) (or_parts (eqb y x) _ e).1 j (omega arith)

-- ---- the table of remainders

-- a number whose remainder was not seen
-- a look at each number
seen-from : (x : ℕ) (found : Bool) (xs : List ℕ) → fold (λ found n. found || eqb n x) found xs ≡ found || list_any (λ y. eqb y x) xs
seen-from x true [] = refl
seen-from x false [] = refl
seen-from x true (y ∷ ys) = seen-from x true ys
seen-from x false (y ∷ ys) = seen-from x (eqb y x) ys

pub seen-fold : (x : ℕ) (xs : List ℕ) → fold (λ found n. found || eqb n x) false xs ≡ list_any (λ y. eqb y x) xs
seen-fold x xs = seen-from x false xs

pub seen-new : (t : NameTable) (i x : ℕ) → Seen t i → (x ≡ 0 → ⊥) → get_or t.seen (x % 1021) false ≡ false → false ≡ seen_to i x t.numbers
seen-new t i x g ne z = sym (seen_none x t.numbers i (λ j h. ne_eqb (get_or t.numbers j 0) x (λ e. clash j h e)))
  where
    clash : (j : ℕ) → j < i → get_or t.numbers j 0 ≡ x → ⊥
    clash j h e = true≢false (sym (ap (λ (n : ℕ). get_or t.seen (n % 1021) false) (sym e) ∙ g.told j h (λ q. ne (sym e ∙ q))) ∙ z)

-- one more number
seen-add : (t u : NameTable) (i x : ℕ) → Seen t i → i < length t.numbers → u ≡ record { numbers = set t.numbers i x; seen = set t.seen (x % 1021) true } → Seen u (i + 1)
seen-add t u i x g l q = rw q (record { full = simp length-set g.full; told = told })
  where
    after : (k : ℕ) → get_or t.seen k false ≡ true → get_or (set t.seen (x % 1021) true) k false ≡ true
    after k h = go (eqb k (x % 1021)) refl
      where
        go : (d : Bool) → eqb k (x % 1021) ≡ d → get_or (set t.seen (x % 1021) true) k false ≡ true
        go true q = rw (eqb-true k (x % 1021) q) (get_or-set_same t.seen (x % 1021) true false (omega (arith, g.full)))
        go false q = get_or-set_other t.seen (x % 1021) k true false (eqb-false k (x % 1021) q) ∙ h

    told : (j : ℕ) → j < i + 1 → (get_or (set t.numbers i x) j 0 ≡ 0 → ⊥) → get_or (set t.seen (x % 1021) true) (get_or (set t.numbers i x) j 0 % 1021) false ≡ true
    told j h ne = go (eqb j i) refl
      where
        go : (d : Bool) → eqb j i ≡ d → get_or (set t.seen (x % 1021) true) (get_or (set t.numbers i x) j 0 % 1021) false ≡ true
        go true q =
            rw (eqb-true j i q) (ap (λ (n : ℕ). get_or (set t.seen (x % 1021) true) (n % 1021) false) (get_or-set_same t.numbers i x 0 l)
            ∙ get_or-set_same t.seen (x % 1021) true false (omega (arith, g.full)))
        go false q =
            let d = eqb-false j i q in
            let e = get_or-set_other t.numbers i j x 0 d in
            ap (λ (n : ℕ). get_or (set t.seen (x % 1021) true) (n % 1021) false) e ∙ after (get_or t.numbers j 0 % 1021) (g.told j (omega arith) (λ z. ne (e ∙ z)))

-- ---- the table of names

module _ (v : Disk) (full : (b : ℕ) → length (v b) ≡ 512) where
  name-length : (j : ℕ) → length (name_at v j) ≡ 8
  unfolding inode_bytes
  name-length j = simp (length-take, length-drop, full) (omega arith)

  pub told-start : (z : NameTable) → AllOfLen (λ x. x ≡ 0) z.numbers 128 × AllOfLen (λ b. b ≡ false) z.seen 1021 → Told v z 0
  told-start z e = record {
    names = record {
      full = e.0.long;
      number = λ j h. absurd (omega arith);
      bytes = λ j h. absurd (omega arith);
      rest = λ j h. ⊎_elim (e.0.at j 0) (λ l. get_or_past z.numbers j 0 (omega (arith, e.0.long))) (lt-or-le j 128);
    };
    remainders = record { full = e.1.long; told = λ j h. absurd (omega arith) };
  }

  -- records without a name
  pub told-on : (t : NameTable) (n m : ℕ) → n ≤ m → Told v t n → ((j : ℕ) → n ≤ j → j < m → all_zero (name_at v j) ≡ true) → Told v t m
  told-on t n m more g z = record {
    names = record { full = g.names.full; number = number; bytes = bytes; rest = λ j h. g.names.rest j (omega arith) };
    remainders = record { full = g.remainders.full; told = λ j h ne. ⊎_elim (λ l. g.remainders.told j l ne) (λ l. absurd (ne (g.names.rest j l))) (lt-or-le j n) };
  }
    where
      number : (j : ℕ) → j < m → get_or t.numbers j 0 ≡ key_of (name_at v j)
      number j h = ⊎_elim (g.names.number j) (λ l. g.names.rest j l ∙ sym (eqb-true (key_of (name_at v j)) 0 (zero-key (name_at v j) _ refl ∙ z j l h))) (lt-or-le j n)

      bytes : (j : ℕ) → j < m → Name (name_at v j)
      bytes j h = ⊎_elim (g.names.bytes j) (λ l. record { long = name-length j; small = λ k. omega (arith, zero-at (name_at v j) k (z j l h)) }) (lt-or-le j n)

  pub told-empty : (t : NameTable) (i : ℕ) → Told v t i → is_empty v i ≡ true → Told v t (i + 1)
  told-empty t i g z = told-on t i (i + 1) (omega arith) g (λ j l h. let e : j ≡ i = omega arith in rw e z)

  -- record i, whose name is the number x
  module _ (t : List ℕ) (i x : ℕ) (lent : exactly 512 t ≡ v (block_of_inode i)) (key : (x ≡ key_of (take 8 (record_in t i))) × Name (take 8 (record_in t i))) where
    named : (x ≡ key_of (name_at v i)) × Name (name_at v i)
    named = key-as (take 8 (record_in t i)) (name_at v i) x (ap (take 8) (record-at v t i lent)) key

    -- a record without a name
    pub empty-by : eqb x 0 ≡ is_empty v i
    empty-by = zero-key (name_at v i) x named.0

    module _ (names : NameTable) (told : Told v names i) (inside : i < 128) where
      -- one more name
      pub told-more : (u : NameTable) → u ≡ record { numbers = set names.numbers i x; seen = set names.seen (x % 1021) true } → Told v u (i + 1)
      told-more u q = record {
        names = rw q (record {
          full = simp length-set told.names.full;
          number = number;
          bytes = bytes;
          rest = λ j k. get_or-set_other names.numbers i j x 0 (λ z. omega arith) ∙ told.names.rest j (omega arith);
        });
        remainders = seen-add names u i x told.remainders (omega (arith, told.names.full)) q;
      }
        where
          number : (j : ℕ) → j < i + 1 → get_or (set names.numbers i x) j 0 ≡ key_of (name_at v j)
          number j l = go (eqb j i) refl
            where
              go : (s : Bool) → eqb j i ≡ s → get_or (set names.numbers i x) j 0 ≡ key_of (name_at v j)
              go true z = rw (eqb-true j i z) (get_or-set_same names.numbers i x 0 (omega (arith, told.names.full)) ∙ named.0)
              go false z = let d = eqb-false j i z in get_or-set_other names.numbers i j x 0 d ∙ told.names.number j (omega arith)

          bytes : (j : ℕ) → j < i + 1 → Name (name_at v j)
          bytes j l = go (eqb j i) refl
            where
              go : (s : Bool) → eqb j i ≡ s → Name (name_at v j)
              go true z = rw (eqb-true j i z) named.1
              go false z = let d = eqb-false j i z in told.names.bytes j (omega arith)

      -- whether number j is that of record i
      agree : (j : ℕ) → j < i → eqb (get_or names.numbers j 0) x ≡ named_at v (name_at v i) j
      unfolding named_at
      agree j h =
          let n = told.names.bytes j h in
          rw (told.names.number j h, named.0) (sym (same_key (name_at v j) (name_at v i) (n.long ∙ sym named.1.long) n.small named.1.small))

      before : (j : ℕ) → lowest_to i (named_at v (name_at v i)) 0 ≡ Some j → j < i
      unfolding lowest_to
      before j h = omega (arith, (lowest-some 0 (i - 0) (named_at v (name_at v i)) j (found-some _ j h)).below)

      hit : (j : ℕ) → lowest_to i (named_at v (name_at v i)) 0 ≡ Some j → first_of_name v i ≡ false
      hit j h =
          let l = before j h in
          let f = find-all v (name_at v i) ∙ lowest-in i 128 (named_at v (name_at v i)) 0 (omega arith) (omega arith) j h in
          ap (λ (o : Option ℕ). found o false (λ k. eqb k i)) (found-some (find v (name_at v i)) j f) ∙ ne_eqb j i (λ z. omega arith)

      miss : lowest_to i (named_at v (name_at v i)) 0 ≡ None → first_of_name v i ≡ true
      unfolding named_at
      miss h =
          let f = find-all v (name_at v i) ∙ lowest-past i 128 (named_at v (name_at v i)) 0 (omega arith) (omega arith) h
          ∙ lowest-hit 128 (named_at v (name_at v i)) i inside (same_self (name_at v i)) in
          ap (λ (o : Option ℕ). found o false (λ k. eqb k i)) (found-some (find v (name_at v i)) i f) ∙ eq-eqb i i refl

      -- a record before has the name, or none does
      module _ (r : Bool) (q : r ≡ seen_to i x names.numbers) where
        pub first_off : r ≡ true → first_of_name v i ≡ false
        unfolding lowest_to
        first_off h = go (lowest_to i (named_at v (name_at v i)) 0) refl
          where
            go : (s : Returned ℕ) → lowest_to i (named_at v (name_at v i)) 0 ≡ s → first_of_name v i ≡ false
            go (Some j) e = hit j e
            go None e =
                absurd (true≢false (sym (sym q ∙ h) ∙ seen_none x names.numbers i
                (λ j l. agree j l ∙ lowest-none 0 (i - 0) (named_at v (name_at v i)) (found-none _ e) j (omega arith) (omega arith))))

        pub first_on : r ≡ false → first_of_name v i ≡ true
        unfolding lowest_to
        first_on h = miss (ap found_of (lowest-no 0 (i - 0) (named_at v (name_at v i))
            (λ j a l. sym (agree j (omega arith)) ∙ seen_all x names.numbers i (omega (arith, told.names.full)) (sym q ∙ h) j (omega arith))))
