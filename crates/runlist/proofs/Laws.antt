-- The list as it is filled, and the call's cases. Assumes nothing.
use Prim.Native.Nat.{ℕ, zero, suc, ◌+◌, ◌-◌, ◌<◌, ◌≤◌, zero-le}
use native.Mathlib.Omega.{arith}
use mathlib.Core.Path.{◌≡◌, refl, sym, ap, ◌∙◌}
use mathlib.Core.List.{List, [], ◌∷◌, ◌++◌}
use lib.ListN.{length, take, drop, set, get_or, get_elem?, length-set}
use lib.Seq.{take-length, take_all}
use borrow.Author.Tests.{le-leb, lt-leb, leb-true}
use Rattle.std.proofs.lemmas.List.{take_more, take_more_set}
use Rattle.spec.specs.declared.Extent.{Extent}
use Rattle.spec.specs.declared.Refusal.TheVariants.{ListShort}
use Rattle.spec.specs.Inode.{extent}
use Rattle.std.specs.Prelude.{Ok, Err, Some, None, Option as Maybe}
use Rattle.std.specs.Option.{is_some}
use Rattle.extents.specs.Stretches.{run_of}
use Rattle.std.specs.Prelude.{Result as Returned}
use Rattle.spec.specs.declared.Refusal.{Refusal}
use lib.Dec.{leb}
use mathlib.Core.Bool.{Bool, true, false}
use Rattle.runlist.specs.Lists.{counts_of, count_ok, runs_in, named_runs, many_of, filled}
use Rattle.spec.specs.Answers.{counted, counted_of, refusal_of, Result, refuse, accept, require, ◌>>=◌, ◌>>◌}
use Rattle.spec.specs.Transaction.{State}
use Rattle.spec.specs.Calls.{Outcome, with_list, list_into, settle, file_ok, runs_of, run_list}

-- k of the runs es are in their places of the list
pub record Filling (es list : List Extent) (k : ℕ) : Type 0 where
  pub size : length list ≡ length es
  pub front : take k list ≡ take k es

pub fill_start : (es list : List Extent) → length list ≡ length es → Filling es list 0
fill_start es list h = record { size = h; front = refl }

-- the run that an answer names is that of its place
run_at : (es : List Extent) (k : ℕ) (e : Extent) → Some e ≡ run_of (get_elem? es k) → e ≡ get_or es k (extent 0 0)
run_at [] k e q = cc
run_at (x ∷ xs) zero e q = cc
run_at (x ∷ xs) (suc k) e q = run_at xs k e q

-- and there is one at each place
run_there : (es : List Extent) (k : ℕ) → k < length es → None ≡ run_of (get_elem? es k) → ⊥
run_there [] k h q = absurd (omega arith)
run_there (x ∷ xs) zero h q = cc
run_there (x ∷ xs) (suc k) h q = run_there xs k (omega arith) q

module _ (es list : List Extent) (k : ℕ) (f : Filling es list k) (l : k < length list) where
  pub fill_more : (e : Extent) → Some e ≡ run_of (get_elem? es k) → Filling es (set list k e) (k + 1)
  fill_more e q =
      let a = run_at es k e q in
      record {
        size = length-set list k e ∙ f.size;
        front = take_more_set list k e l ∙ rw (f.front, a) (sym (take_more es k (extent 0 0) (omega (arith, f.size))));
      }

  pub fill_there : (o : Maybe Extent) → o ≡ run_of (get_elem? es k) → is_some o ≡ true
  fill_there (Some e) q = refl
  fill_there None q = absurd (run_there es k (omega (arith, f.size)) q)

-- every place is filled
pub fill_end : (es list : List Extent) (k : ℕ) → Filling es list k → length list ≤ k → list ≡ es
fill_end es list k f h = sym (take_all k list h) ∙ f.front ∙ take_all k es (omega (arith, f.size))

-- the call, where the record is found and `es` are the runs
module _ (s : State) (name : List ℕ) (from n i : ℕ) (list es : List Extent) (e : accept i ≡ file_ok s name) (q : es ≡ runs_of s i from n) where
  pub list-short : (r : Refusal) (count : ℕ) → count ≡ length es → refuse r ≡ require (leb count (length list)) ListShort → with_list s (refusal_of r) list ≡ run_list s name from n list
  unfolding run_list
  list-short r count c h = rw (← e, ← q, ← c, ← h)

  pub list-filled : (count : ℕ) (part : List Extent) → count ≡ length es → count ≤ length list → part ≡ es
      → with_list s (counted count) (part ++ drop (count - 0) list) ≡ run_list s name from n list
  unfolding run_list
  list-filled count part c h p =
      let z : count - 0 ≡ length es = omega arith in
      rw (← e, ← q, le-leb (length es) (length list) (omega arith), z, p, c)

-- the first none of the runs are no list, and all of them are
filled_none : (es list : List Extent) → filled es 0 list ≡ list
unfolding filled
filled_none es list = refl

filled-all : (es list : List Extent) → filled es (length es) list ≡ es ++ drop (length es) list
unfolding filled
filled-all es list = ap (λ (xs : List Extent). xs ++ drop (length es) list) (take-length es)

-- ---- how many runs

module _ (s : State) (name : List ℕ) (from n room : ℕ) where
  pub count-bad : (r : Refusal) → refuse r ≡ file_ok s name → refuse r ≡ count_ok s name from n room
  unfolding count_ok
  count-bad r e = rw (← e)

  module _ (i count : ℕ) (e : accept i ≡ file_ok s name) (c : count ≡ length (runs_of s i from n)) where
    pub count-fine : count ≤ room → accept count ≡ count_ok s name from n room
    unfolding count_ok
    count-fine h = rw (← e, ← c, le-leb count room h)

    pub count-short : room < count → refuse ListShort ≡ count_ok s name from n room
    unfolding count_ok
    count-short h = rw (← e, ← c, lt-leb count room h)

-- ---- what an answer that counts the runs of a stretch says

-- all of it, of the runs and the test of 19
pub record Told (s : State) (room : ℕ) (es list : List Extent) (a : Returned ℕ Refusal) (o : Outcome) : Type 0 where
  pub inside : many_of a ≤ length es
  pub fits : many_of a ≤ room
  pub outcome : with_list s (counted_of a) (filled es (many_of a) list) ≡ o

in-room : (s : State) (room : ℕ) (es list : List Extent) (a : Returned ℕ Refusal) (t : Bool) → leb (length es) room ≡ t
    → counts_of a ≡ (require t ListShort >> accept (length es))
    → Told s room es list a (settle (λ x. with_list s x list) (require t ListShort >> accept (list_into s list es)))
in-room s room es list (Err r) true h e = cc
in-room s room es list (Ok m) true h e =
    let q : m ≡ length es = cc in
    let z : length es ≤ room = leb-true (length es) room h in
    record { inside = omega arith; fits = omega arith; outcome = rw q (ap (with_list s (counted (length es))) (filled-all es list)) }
in-room s room es list (Err r) false h e =
    let q : r ≡ ListShort = cc in
    record { inside = zero-le; fits = zero-le; outcome = rw q (ap (with_list s (refusal_of ListShort)) (filled_none es list)) }
in-room s room es list (Ok m) false h e = cc

pub told : (s : State) (name : List ℕ) (from n : ℕ) (list : List Extent) (a : Returned ℕ Refusal) → counts_of a ≡ count_ok s name from n (length list)
    → Told s (length list) (named_runs s name from n) list a (run_list s name from n list)
unfolding count_ok named_runs run_list
told s name from n list a e = go (file_ok s name) e
  where
    go : (f : Result ℕ) → counts_of a ≡ (f >>= λ i. require (leb (length (runs_of s i from n)) (length list)) ListShort >> accept (length (runs_of s i from n)))
        → Told s (length list) (runs_in s f from n) list a
        (settle (λ x. with_list s x list) (f >>= λ i. require (leb (length (runs_of s i from n)) (length list)) ListShort >> accept (list_into s list (runs_of s i from n))))
    go (refuse r) q = bad a q
      where
        bad : (a : Returned ℕ Refusal) → counts_of a ≡ refuse r → Told s (length list) [] list a (with_list s (refusal_of r) list)
        bad (Err x) p =
            let y : x ≡ r = cc in
            record { inside = zero-le; fits = zero-le; outcome = rw y (ap (with_list s (refusal_of r)) (filled_none [] list)) }
        bad (Ok m) p = cc
    go (accept i) q = in-room s (length list) (runs_of s i from n) list a (leb (length (runs_of s i from n)) (length list)) refl q
