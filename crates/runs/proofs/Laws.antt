-- Laws of extents held by value. Assumes nothing.
use Prim.Native.Nat.{ℕ, zero, suc, ◌+◌, ◌-◌, ◌<◌, ◌≤◌}
use mathlib.Core.Path.{◌≡◌, refl, sym, ap, ◌∙◌}
use mathlib.Core.Bool.{Bool, true, false, ◌&&◌, true≢false}
use mathlib.Core.List.{List, [], ◌∷◌, ◌++◌}
use native.Mathlib.Omega.{arith}
use native.Mathlib.Numerals.{add-one}
use borrow.Author.Tests.{eqb-true, eqb-false, eq-eqb, ne_eqb, lt-ltb, ltb-true, leb-true, leb-false, le-leb, lt-leb}
use lib.Dec.{eqb, ltb, leb}
use Rattle.std.specs.Prelude.{Option, Some, None, MatchOption, slice_range}
use Rattle.std.specs.Option.{option_copied}
use Rattle.std.specs.Borrow.{Bor}
use Rattle.std.proofs.lemmas.Bool.{and_parts}
use mathlib.Core.Logic.{◌⊎◌, inl, inr}
use lib.ListN.{length, take, get_or, set, replicate, length-set, length-append, length-replicate}
use lib.Seq.{take_all, take-suc-set, take-append-le, take-set-lt, take-set-le, get_or-take, take-nil}
use Rattle.spec.specs.declared.Extent.{Extent}
use Rattle.spec.specs.Bytes.{up_from}
use Rattle.spec.specs.Inode.{extent, prepend, runs}
use Rattle.runs.specs.declared.ExtentList.{ExtentList}
use Rattle.runs.specs.Runs.{listed}
use Rattle.runs.specs.Push.{Holds, Small, Pushed, list_with, end_from, grown, no_extents}

-- ---- growing at the end

-- by cases: the last one longer, or another one
pub record Longer (es out : List Extent) (a b c : ℕ) : Type 0 where
  pub many : length out ≡ length es
  pub is : out ≡ set es (length es - 1) (extent (get_or es (length es - 1) (extent 0 0)).first ((get_or es (length es - 1) (extent 0 0)).count + c))
  pub next : end_from a out ≡ b + c

pub record Another (es out : List Extent) (a b c : ℕ) : Type 0 where
  pub is : out ≡ es ++ (extent b c ∷ [])
  pub next : end_from a out ≡ b + c

pub grown-longer : (es : List Extent) (a b c : ℕ) → 0 < length es → end_from a es ≡ b → Longer es (grown es b c) a b c
unfolding end_from grown
grown-longer [] a b c h e = absurd (omega arith)
grown-longer (x ∷ []) a b c h e = rw (eq-eqb (x.first + x.count) b e) (record { many = refl; is = refl; next = omega arith })
grown-longer (x ∷ y ∷ zs) a b c h e =
    let r = grown-longer (y ∷ zs) (x.first + x.count) b c (omega arith) e in
    let q : suc (suc (length zs)) - 1 ≡ suc (suc (length zs) - 1) = omega arith in
    record { many = ap suc r.many; is = rw q (ap (λ (l : List Extent). x ∷ l) r.is); next = r.next }

pub grown-another : (es : List Extent) (a b c : ℕ) → (0 < length es → end_from a es ≡ b → ⊥) → Another es (grown es b c) a b c
unfolding end_from grown
grown-another [] a b c h = record { is = refl; next = refl }
grown-another (x ∷ []) a b c h = rw (ne_eqb (x.first + x.count) b (h (omega arith))) (record { is = refl; next = refl })
grown-another (x ∷ y ∷ zs) a b c h =
    let r = grown-another (y ∷ zs) (x.first + x.count) b c (λ l. h (omega arith)) in
    record { is = ap (λ (l : List Extent). x ∷ l) r.is; next = r.next }

-- what the code's test tells
pub joins-true : (n x b : ℕ) → ltb 0 n && eqb x b ≡ true → (0 < n) × (x ≡ b)
joins-true n x b h = let t = and_parts (ltb 0 n) (eqb x b) h in (ltb-true 0 n t.0, eqb-true x b t.1)

pub joins-false : (n x b : ℕ) → ltb 0 n && eqb x b ≡ false → 0 < n → x ≡ b → ⊥
joins-false n x b h l e = let z : true ≡ false = rw (lt-ltb 0 n l, eq-eqb x b e) at h in absurd (true≢false z)

-- what holds of each entry and of a new one holds of each when that is put in
set-each : (P : Extent → Type 0) (xs : List Extent) (m : ℕ) (a : Extent) → P a → ((k : ℕ) → P (get_or xs k (extent 0 0))) → (k : ℕ) → P (get_or (set xs m a) k (extent 0 0))
set-each P [] m a p f k = f k
set-each P (x ∷ xs) zero a p f zero = p
set-each P (x ∷ xs) zero a p f (suc k) = f (suc k)
set-each P (x ∷ xs) (suc m) a p f zero = f 0
set-each P (x ∷ xs) (suc m) a p f (suc k) = set-each P xs m a p (λ j. f (suc j)) k

-- the four ways of `push`
module _ (r : ExtentList) (b c : ℕ) where
  abbrev longer : Extent
  longer = extent (get_or r.cells (r.end.len - 1) (extent 0 0)).first ((get_or r.cells (r.end.len - 1) (extent 0 0)).count + c)

  module _ (some : 0 < r.end.len) (ends : r.end.next ≡ b) where
    held-joined : (es : List Extent) → Holds r es → Longer es (grown es b c) 0 b c
    held-joined es h = let l : 0 < length es = omega (arith, h.many) in grown-longer es 0 b c l (sym (h.next l) ∙ ends)

    pub push-joined : r.end.len ≤ length r.cells → Pushed r b c (list_with (set r.cells (r.end.len - 1) longer) (record { len = r.end.len; next = b + c }))
    push-joined l =
        record {
          holds = λ es h.
              let j = held-joined es h in
              let m = h.many in
              let q : take r.end.len r.cells ≡ es = h.cells ∙ take_all (length r.cells) es (omega arith) in
              let g : get_or r.cells (r.end.len - 1) (extent 0 0) ≡ get_or es (r.end.len - 1) (extent 0 0) =
              sym (get_or-take r.end.len r.cells (r.end.len - 1) (extent 0 0) (omega arith)) ∙ ap (λ (t : List Extent). get_or t (r.end.len - 1) (extent 0 0)) q in
              let z : length (set es (r.end.len - 1) longer) ≤ length r.cells = simp length-set (omega arith) in
              let w : grown es b c ≡ set es (r.end.len - 1) longer = let i = j.is in rw g (rw (← m) at i) in
              record {
                many = m ∙ sym j.many;
                cells =
                    rw (
                      take-set-lt r.end.len r.cells (r.end.len - 1) longer (omega arith),
                      q,
                      length-set r.cells (r.end.len - 1) longer,
                      w,
                      take_all (length r.cells) (set es (r.end.len - 1) longer) z,
                    );
                next = λ z. sym j.next;
              };
          small = λ n s lo some. record {
            full = length-set r.cells (r.end.len - 1) longer ∙ s.full;
            first = set-each (λ e. e.first < 131072) r.cells (r.end.len - 1) longer (s.first (r.end.len - 1)) s.first;
            count = set-each (λ e. e.count ≤ n + c) r.cells (r.end.len - 1) longer (omega (arith, s.count (r.end.len - 1))) (λ k. omega (arith, s.count k));
            len = omega (arith, s.len);
            next = omega (arith, s.next);
          };
        }

    pub push-joined-over : length r.cells < r.end.len → Pushed r b c (list_with r.cells (record { len = r.end.len; next = b + c }))
    push-joined-over l =
        record {
          holds = λ es h.
              let j = held-joined es h in
              record {
                many = h.many ∙ sym j.many;
                cells = rw j.is (rw (take-set-le (length r.cells) es (length es - 1) _ (omega (arith, h.many))) h.cells);
                next = λ z. sym j.next;
              };
          small = λ n s lo some. record { full = s.full; first = s.first; count = λ k. omega (arith, s.count k); len = omega (arith, s.len); next = omega (arith, s.next) };
        }

  module _ (apart : 0 < r.end.len → r.end.next ≡ b → ⊥) where
    held-another : (es : List Extent) → Holds r es → Another es (grown es b c) 0 b c
    held-another es h = grown-another es 0 b c (λ l e. apart (omega (arith, h.many)) (h.next l ∙ e))

    many-another : (es : List Extent) → Holds r es → r.end.len + 1 ≡ length (grown es b c)
    many-another es h = rw (held-another es h).is (rw (length-append es (extent b c ∷ [])) (omega (arith, h.many)))

    pub push-another : r.end.len < length r.cells → Pushed r b c (list_with (set r.cells r.end.len (extent b c)) (record { len = r.end.len + 1; next = b + c }))
    push-another l =
        record {
          holds = λ es h.
              let m = h.many in
              let q : take r.end.len r.cells ≡ es = h.cells ∙ take_all (length r.cells) es (omega arith) in
              let z : length (es ++ (extent b c ∷ [])) ≤ length r.cells = simp length-append (omega arith) in
              record {
                many = many-another es h;
                cells =
                    rw (
                      add-one r.end.len,
                      take-suc-set r.cells r.end.len (extent b c) l,
                      q,
                      length-set r.cells r.end.len (extent b c),
                      (held-another es h).is,
                      take_all (length r.cells) (es ++ (extent b c ∷ [])) z,
                    );
                next = λ z. sym (held-another es h).next;
              };
          small = λ n s lo some. record {
            full = length-set r.cells r.end.len (extent b c) ∙ s.full;
            first = set-each (λ e. e.first < 131072) r.cells r.end.len (extent b c) lo s.first;
            count = set-each (λ e. e.count ≤ n + c) r.cells r.end.len (extent b c) (omega arith) (λ k. omega (arith, s.count k));
            len = omega (arith, s.len);
            next = omega arith;
          };
        }

    pub push-another-over : length r.cells ≤ r.end.len → Pushed r b c (list_with r.cells (record { len = r.end.len + 1; next = b + c }))
    push-another-over l =
        record {
          holds = λ es h.
              let m = h.many in
              record {
                many = many-another es h;
                cells =
                    rw (
                      (held-another es h).is,
                      take-append-le (length r.cells) es (extent b c ∷ []) (omega arith),
                      ← h.cells,
                      take_all r.end.len r.cells l,
                      take_all (r.end.len + 1) r.cells (omega arith),
                    );
                next = λ z. sym (held-another es h).next;
              };
          small = λ n s lo some. record { full = s.full; first = s.first; count = λ k. omega (arith, s.count k); len = omega (arith, s.len); next = omega arith };
        }

pub holds-none : (r : ExtentList) → r.end.len ≡ 0 → Holds r []
holds-none r e = record { many = e; cells = rw e (sym (take-nil (length r.cells))); next = λ z. absurd (omega arith) }

-- ---- the runs of more blocks

prepend-grown : (a : ℕ) (es : List Extent) (b c : ℕ) → prepend a (grown es b c) ≡ grown (prepend a es) b c
unfolding grown
prepend-grown a [] b c = go (eqb b (suc a)) refl
  where
    go : (t : Bool) → eqb b (suc a) ≡ t → prepend a (grown [] b c) ≡ grown (prepend a []) b c
    go true h =
        let p = eqb-true b (suc a) h in
        let q : 1 + c ≡ suc c = omega arith in
        simp (h, eq-eqb (a + 1) b (omega arith), q)
    go false h = simp (h, ne_eqb (a + 1) b (λ r. eqb-false b (suc a) h (omega arith)))
prepend-grown a (e ∷ []) b c = go (eqb e.first (suc a)) (eqb (e.first + e.count) b) refl refl
  where
    go : (s t : Bool) → eqb e.first (suc a) ≡ s → eqb (e.first + e.count) b ≡ t → prepend a (grown (e ∷ []) b c) ≡ grown (prepend a (e ∷ [])) b c
    go true true hs ht =
        let p = eqb-true e.first (suc a) hs in
        let q = eqb-true (e.first + e.count) b ht in
        let z : suc e.count + c ≡ suc (e.count + c) = omega arith in
        simp (hs, ht, eq-eqb (a + suc e.count) b (omega arith), z)
    go true false hs ht =
        let p = eqb-true e.first (suc a) hs in
        simp (hs, ht, ne_eqb (a + suc e.count) b (λ r. eqb-false (e.first + e.count) b ht (omega arith)))
    go false true hs ht = simp (hs, ht)
    go false false hs ht = simp (hs, ht)
prepend-grown a (e ∷ f ∷ es) b c = go (eqb e.first (suc a)) refl
  where
    go : (s : Bool) → eqb e.first (suc a) ≡ s → prepend a (grown (e ∷ f ∷ es) b c) ≡ grown (prepend a (e ∷ f ∷ es)) b c
    go true hs = rw hs
    go false hs = rw hs

runs-one : (b c : ℕ) → runs (up_from b (suc c)) ≡ extent b (suc c) ∷ []
unfolding runs
runs-one b zero = refl
runs-one b (suc c) = rw (runs-one (suc b) c, eq-eqb (suc b) (suc b) refl)

-- a run behind some blocks
pub runs-grown : (bs : List ℕ) (b c : ℕ) → runs (bs ++ up_from b (suc c)) ≡ grown (runs bs) b (suc c)
unfolding grown runs
runs-grown [] b c = runs-one b c
runs-grown (a ∷ bs) b c = ap (prepend a) (runs-grown bs b c) ∙ prepend-grown a (runs bs) b (suc c)

pub pushed-blocks : (r q : ExtentList) (b c : ℕ) → Pushed r b c q → 0 < c → (bs : List ℕ) → Holds r (runs bs) → Holds q (runs (bs ++ up_from b c))
pushed-blocks r q b zero p h bs holds = absurd (omega arith)
pushed-blocks r q b (suc c) p h bs holds = rw (runs-grown bs b c) (p.holds (runs bs) holds)

-- ---- all extents, where the array holds them

-- as the array gives them
pub listed-got : (r : ExtentList) (o : Option (Bor (List Extent))) → length r.cells ≡ 512
    → MatchOption o ((r.end.len < 0) ⊎ (length r.cells < r.end.len)) (λ x. (0 ≤ r.end.len) × (r.end.len ≤ length r.cells) × (x.now ≡ slice_range r.cells 0 r.end.len) × (length x.now + 0 ≡ r.end.len))
    → option_copied o ≡ listed r
unfolding listed
listed-got r None full (inl l) = absurd (omega arith)
listed-got r None full (inr l) = rw (lt-leb r.end.len 512 (omega arith)) refl
listed-got r (Some x) full h =
    let z : r.end.len - 0 ≡ r.end.len = omega arith in
    rw (le-leb r.end.len 512 (omega (arith, h.1))) (ap (λ (xs : List Extent). Some xs) (h.2 ∙ rw z))

-- there are too many
pub listed-none : (r : ExtentList) → None ≡ listed r → 512 < r.end.len
unfolding listed
listed-none r e = go (leb r.end.len 512) refl
  where
    go : (t : Bool) → leb r.end.len 512 ≡ t → 512 < r.end.len
    go true h = let z : None ≡ Some (take r.end.len r.cells) = rw h at e in cc
    go false h = leb-false r.end.len 512 h

module _ (r : ExtentList) (xs : List Extent) (e : Some xs ≡ listed r) where
  listed-both : (r.end.len ≤ 512) × (xs ≡ take r.end.len r.cells)
  unfolding listed
  listed-both = go (leb r.end.len 512) refl
    where
      go : (t : Bool) → leb r.end.len 512 ≡ t → (r.end.len ≤ 512) × (xs ≡ take r.end.len r.cells)
      go true h = let z : Some xs ≡ Some (take r.end.len r.cells) = rw h at e in (leb-true r.end.len 512 h, cc)
      go false h = let z : Some xs ≡ None = rw h at e in cc

  pub listed-few : r.end.len ≤ 512
  listed-few = listed-both.0

  module _ (n : ℕ) (s : Small r n) where
    pub listed-is : (es : List Extent) → Holds r es → xs ≡ es
    listed-is es h = listed-both.1 ∙ h.cells ∙ take_all (length r.cells) es (omega (arith, h.many, s.full, listed-few))

    -- its numbers are small, as those of the array are
    listed-each : (P : Extent → Type 0) → P (extent 0 0) → ((k : ℕ) → P (get_or r.cells k (extent 0 0))) → (k : ℕ) → P (get_or xs k (extent 0 0))
    listed-each P p f k = rw listed-both.1 (taken r.end.len r.cells k f)
      where
        taken : (m : ℕ) (ys : List Extent) (k : ℕ) → ((k : ℕ) → P (get_or ys k (extent 0 0))) → P (get_or (take m ys) k (extent 0 0))
        taken zero ys k f = p
        taken (suc m) [] k f = p
        taken (suc m) (y ∷ ys) zero f = f 0
        taken (suc m) (y ∷ ys) (suc k) f = taken m ys k (λ j. f (suc j))

    pub listed-first : (k : ℕ) → (get_or xs k (extent 0 0)).first < 131072
    listed-first k = listed-each (λ e. e.first < 131072) (omega arith) s.first k

    pub listed-count : (k : ℕ) → (get_or xs k (extent 0 0)).count ≤ n
    listed-count k = listed-each (λ e. e.count ≤ n) (omega arith) s.count k

-- ---- numbers stay small

each-zero : (n k : ℕ) → get_or (replicate n (extent 0 0)) k (extent 0 0) ≡ extent 0 0
each-zero zero k = refl
each-zero (suc n) zero = refl
each-zero (suc n) (suc k) = each-zero n k

pub small-none : Small no_extents 0
small-none =
    record {
      full = length-replicate 512 (extent 0 0);
      first = λ k. rw (each-zero 512 k) (omega arith);
      count = λ k. rw (each-zero 512 k) (omega arith);
      len = omega arith;
      next = omega arith;
    }
