-- The run list in cells. Assumes nothing.
use Prim.Native.Nat.{ℕ, zero, suc, ◌+◌, ◌*◌, ◌/◌, ◌<◌, ◌≤◌}
use native.Mathlib.Omega.{arith}
use native.Mathlib.Numerals.{add-one}
use mathlib.Core.Path.{◌≡◌, refl, sym, ap, ◌∙◌, subst}
use mathlib.Core.List.{List, [], ◌∷◌, ◌++◌}
use Rattle.std.specs.Prelude.{Ok, Err}
use Rattle.std.specs.Prelude.{Result as Returned}
use lib.ListN.{length, take, drop, get_or, set, length-take, length-drop, length-set}
use lib.Seq.{take-length, take_all}
use Rattle.spec.specs.declared.Extent.{Extent}
use Rattle.spec.specs.declared.Refusal.{Refusal}
use Rattle.spec.specs.declared.Refusal.TheVariants.{ListShort}
use Rattle.spec.specs.Inode.{extent}
use Rattle.spec.specs.Answers.{refuse, accept, counted_of as answer_of}
use Rattle.spec.specs.Transaction.{State}
use Rattle.spec.specs.Calls.{Outcome, file_ok, runs_of, run_list}
use Rattle.runlist.specs.Lists.{counts_of, count_ok, named_runs, many_of, filled}
use Rattle.runlist.proofs.Laws.{Told, told, count-bad, count-fine, count-short}
use Rattle.mirror.specs.Mirror.{counted_of, Stays, Lists, extents_of, with_extents}
use Rattle.capi.proofs.Kept.{true≢false}
use Rattle.mirror.proofs.Cells.{length-extents, with_none, with-next, with_rest}

-- ---- the cells as they are filled

-- the front of a list that goes on
record Next (es : List Extent) (k : ℕ) (e : Extent) (rest : List Extent) : Type 0 where
  inside : k < length es
  is : e ≡ get_or es k (extent 0 0)
  after : rest ≡ drop (suc k) es

next_of : (es : List Extent) (k : ℕ) (e : Extent) (rest : List Extent) → drop k es ≡ e ∷ rest → Next es k e rest
next_of [] zero e rest q = let z : ◌≡◌ {A = ℕ} 0 1 = cc in absurd (omega arith)
next_of [] (suc k) e rest q = let z : ◌≡◌ {A = ℕ} 0 1 = cc in absurd (omega arith)
next_of (x ∷ xs) zero e rest q = record { inside = omega arith; is = cc; after = cc }
next_of (x ∷ xs) (suc k) e rest q =
    let n = next_of xs k e rest q in
    record { inside = omega (arith, n.inside); is = n.is; after = n.after }

-- k of the runs es are in the cells, and the others are still to come
pub record Filling (es : List Extent) (before after : List ℕ) (left : List Extent) (k : ℕ) : Type 0 where
  pub rest : left ≡ drop k es
  pub inside : k ≤ length es
  pub room : length es ≤ length before / 2
  pub size : length after ≡ length before
  pub cells : after ≡ with_extents before (take k es)

pub fill_start : (es : List Extent) (cells : List ℕ) (left : List Extent) → left ≡ es → length es ≤ length cells / 2 → Filling es cells cells left 0
fill_start es cells left e h = record { rest = e; inside = omega arith; room = h; size = refl; cells = sym (with_none cells) }

module _ (es : List Extent) (before after : List ℕ) (left : List Extent) (k : ℕ) (f : Filling es before after left k) where
  module _ (e : Extent) (rest : List Extent) (r : left ≡ e ∷ rest) where
    here : Next es k e rest
    here = next_of es k e rest (sym f.rest ∙ r)

    -- a run is in its pair of cells
    pub fill_low : 2 * k + 1 < length after
    fill_low = omega (arith, here.inside, f.room, f.size)

    pub fill_more : Filling es before (set (set after (2 * k) e.first) (2 * k + 1) e.count) rest (k + 1)
    fill_more =
        record {
          rest = rw (add-one k) here.after;
          inside = omega (arith, here.inside);
          room = f.room;
          size = simp length-set f.size;
          cells = with-next es before after k e f.cells here.is here.inside (omega (arith, fill_low, f.size));
        }

  pub fill_end : left ≡ [] → after ≡ with_extents before es
  fill_end q =
      let l : length es ≤ k = omega (arith, length-drop k es, ap length (sym f.rest ∙ q)) in
      f.cells ∙ ap (with_extents before) (take_all k es l)

-- ---- what is answered and left in the cells

module _ (s : State) (name : List ℕ) (from n : ℕ) (cells : List ℕ) where
  module _ (a : Returned ℕ Refusal) (e : counts_of a ≡ count_ok s name from n (length cells / 2)) where
    told_in : Told s (length (extents_of cells)) (named_runs s name from n) (extents_of cells) a (run_list s name from n (extents_of cells))
    told_in = told s name from n (extents_of cells) a (e ∙ ap (count_ok s name from n) (sym (length-extents cells)))

    rest : with_extents cells (take (many_of a) (named_runs s name from n)) ≡ with_extents cells (filled (named_runs s name from n) (many_of a) (extents_of cells))
    unfolding filled
    rest =
        let m = many_of a in
        let es = named_runs s name from n in
        let i = told_in.inside in
        let f = told_in.fits in
        let l : length (take m es) ≡ m = simp (length-take) (omega (arith, i)) in
        with_rest (take m es) cells (omega (arith, f, l)) ∙ ap (λ (k : ℕ). with_extents cells (take m es ++ drop k (extents_of cells))) l

    listed : (after : List ℕ) → after ≡ with_extents cells (take (many_of a) (named_runs s name from n)) → Stays (answer_of a) cells after
        → Lists (counted_of (answer_of a)) cells after (run_list s name from n (extents_of cells))
    listed after g k = subst (λ (o : Outcome). Lists (counted_of (answer_of a)) cells after o) told_in.outcome (refl, g ∙ rest, k)

  pub list-bad : (r : Refusal) → refuse r ≡ file_ok s name → Lists (counted_of (answer_of (Err r))) cells cells (run_list s name from n (extents_of cells))
  list-bad r e = listed (Err r) (count-bad s name from n (length cells / 2) r e) cells (sym (with_none cells)) (λ t. refl)

  module _ (i count : ℕ) (e : accept i ≡ file_ok s name) (c : count ≡ length (runs_of s i from n)) where
    all_runs : runs_of s i from n ≡ take count (named_runs s name from n)
    unfolding named_runs
    all_runs = rw (← e, c) (sym (take-length (runs_of s i from n)))

    pub list-fine : (after : List ℕ) → count ≤ length cells / 2 → after ≡ with_extents cells (runs_of s i from n)
        → Lists (counted_of (answer_of (Ok count))) cells after (run_list s name from n (extents_of cells))
    list-fine after h g = listed (Ok count) (count-fine s name from n (length cells / 2) i count e c h) after (g ∙ ap (with_extents cells) all_runs) (λ t. absurd (true≢false (sym t)))

    pub list-short : length cells / 2 < count → Lists (counted_of (answer_of (Err ListShort))) cells cells (run_list s name from n (extents_of cells))
    list-short h = listed (Err ListShort) (count-short s name from n (length cells / 2) i count e c h) cells (sym (with_none cells)) (λ t. refl)
