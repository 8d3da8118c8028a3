-- What queries answer, from what files are.
use Rattle.std.specs.Prelude.{ℕ, suc, ◌+◌, ◌≡◌, cond, not, ◌||◌, ◌⊎◌, T, eqb, drop}
use Rattle.std.proofs.Math.Path.{refl, sym, ap}
use Rattle.std.proofs.Common.{◌∙◌, inl, length-take, arith}
use Rattle.std.proofs.Math.Bool.{Bool, true, false}
use Rattle.std.proofs.Math.Logic.{inr}
use mathlib.Core.List.{List, [], ◌∷◌}
use Rattle.std.proofs.Math.Option.{Option, none, some}
use Rattle.std.proofs.Math.Dec.{leb, ltb}
use Rattle.std.proofs.Math.ListN.{length, take, get_elem?, length-drop}
use borrow.Author.Tests.{eq-eqb, leb-true, leb-false, le-ltb, lt-ltb}
use Rattle.spec.specs.Bytes.{found}
use Rattle.spec.specs.Layout.{inode_count, name_size}
use Rattle.spec.specs.Disk.{Disk}
use Rattle.spec.specs.declared.Extent.{Extent}
use Rattle.spec.specs.Inode.{is_name, inode_bytes, block_of_inode, inode_at, name_at, is_empty, find, data_of, extent, prepend, runs}
use Rattle.spec.specs.Map.{content_of, files_of}
use Rattle.spec.specs.declared.Refusal.TheVariants.{Unknown, ListShort}
use Rattle.spec.specs.Answers.{refuse, accept, file, no_file, run, no_run, is_refused}
use Rattle.spec.specs.Transaction.{State, view}
use Rattle.spec.specs.Calls.{Outcome, outcome, known, file_ok, read, size_of, free_count, record_at, runs_of, nth_extent, run_list, Query, Read, Size, Free, Record, RunList, NthExtent, query_step, Ask}
use Rattle.spec.specs.Sentences.{file_at, breaks, extent_count}
use Rattle.spec.specs.Refusals.{wrong_name}
use Rattle.spec.specs.CutRule.{Both, Says}
use Rattle.logs.specs.Stores.{Whole}
use Rattle.crash.specs.Interface.{FilesOn}
use Rattle.crash.specs.Tests.{Answered, turned_down, taken, asked-name, Passed, ready-passed, file-passed}

-- ---- runs: one, and one more at each block that does not follow on

runs-first : (b : ℕ) (bs : List ℕ) → (e : Extent) × (es : List Extent) × (runs (b ∷ bs) ≡ e ∷ es) × (e.first ≡ b)
unfolding runs
runs-first b bs = go (runs bs)
  where
    go : (l : List Extent) → (e : Extent) × (es : List Extent) × (prepend b l ≡ e ∷ es) × (e.first ≡ b)
    go [] = (extent b 1, [], refl, refl)
    go (f ∷ l) = pick (eqb f.first (suc b))
      where
        pick : (t : Bool) → (e : Extent) × (es : List Extent) × (cond t (extent b (suc f.count) ∷ l) (extent b 1 ∷ f ∷ l) ≡ e ∷ es) × (e.first ≡ b)
        pick true = (extent b (suc f.count), l, refl, refl)
        pick false = (extent b 1, f ∷ l, refl, refl)

length_runs : (b : ℕ) (bs : List ℕ) → length (runs (b ∷ bs)) ≡ suc (breaks b bs)
unfolding runs
length_runs b [] = refl
length_runs b (c ∷ bs) = go (runs (c ∷ bs)) (runs-first c bs) (length_runs c bs)
  where
    go : (l : List Extent) → ((e : Extent) × (es : List Extent) × (l ≡ e ∷ es) × (e.first ≡ c)) → length l ≡ suc (breaks c bs)
        → length (prepend b l) ≡ suc (cond (eqb c (suc b)) 0 1 + breaks c bs)
    go l (e, es, q, f) h = rw q (pick (eqb c (suc b)) (ap (λ n. eqb n (suc b)) f) (sym (ap length q) ∙ h))
      where
        pick : (t : Bool) → eqb e.first (suc b) ≡ t → suc (length es) ≡ suc (breaks c bs)
            → length (cond (eqb e.first (suc b)) (extent b (suc e.count) ∷ es) (extent b 1 ∷ e ∷ es)) ≡ suc (cond t 0 1 + breaks c bs)
        pick true x y = rw x (omega (arith, y))
        pick false x y = rw x (omega (arith, y))

runs-count : (bs : List ℕ) → length (runs bs) ≡ extent_count bs
runs-count [] = unfold runs in refl
runs-count (b ∷ bs) = length_runs b bs ∙ omega arith

-- ---- the file that a query names

module _ {N : ℕ} (F : FilesOn N) (b : Both) (whole : Whole (view b.store)) (good : F.Good (view b.store))
    (working : (name : List ℕ) → files_of (view b.store) name ≡ b.plain.working name) where
  abbrev s : State
  s = b.store

  abbrev v : Disk
  v = view b.store

  -- unknown, or record i with its content
  abbrev Known : List ℕ → Type 0
  Known name =
      ((b.plain.working name ≡ none) × (file_ok s name ≡ refuse Unknown))
      ⊎ ((i : ℕ) × (find v name ≡ some i) × (b.plain.working name ≡ some (content_of v (inode_at v i))) × (file_ok s name ≡ accept i))

  known-file : (name : List ℕ) → is_name name ≡ true → file_ok s name ≡ known s name → Known name
  known-file name n h = go (find v name) refl
    where
      go : (o : Option ℕ) → find v name ≡ o → Known name
      go none e = inl (sym (working name) ∙ (unfold files_of in rw (n, e) refl), h ∙ rw e)
      go (some i) e = inr (i, e, sym (working name) ∙ (unfold files_of in rw (n, e) refl), h ∙ rw e)

  named : (q : Query) (name : List ℕ) → Passed N b (Ask q) → not (wrong_name (Ask q)) ≡ is_name name → Known name
  named q name p e =
      let n : is_name name ≡ true = sym e ∙ ap not p.names in
      known-file name n (file-passed s p.lent p.ready name n)

  read-answered : (name : List ℕ) (x : ℕ) (buffer : List ℕ) → Passed N b (Ask (Read name x buffer)) → Known name
      → Answered N b (Ask (Read name x buffer)) (Says N b (Read name x buffer) (query_step s (Read name x buffer)))
  unfolding read
  read-answered name x buffer p (inl (w, f)) = turned_down Unknown (p.late ∙ rw w) (rw f)
  read-answered name x buffer p (inr (i, e, w, f)) = taken (p.late ∙ rw w) (content_of v (inode_at v i), w, rw f)

  size-answered : (name : List ℕ) → Passed N b (Ask (Size name)) → Known name → Answered N b (Ask (Size name)) (Says N b (Size name) (query_step s (Size name)))
  unfolding size_of
  size-answered name p (inl (w, f)) = turned_down Unknown (p.late ∙ rw w) (rw f)
  size-answered name p (inr (i, e, w, f)) = taken (p.late ∙ rw w) (content_of v (inode_at v i), w, rw (f, F.long v whole good name i e))

  -- 19. "Lent list shorter than the run list."
  runs-answered : (name : List ℕ) (from n : ℕ) (list : List Extent) → Passed N b (Ask (RunList name from n list)) → Known name
      → Answered N b (Ask (RunList name from n list)) (Says N b (RunList name from n list) (query_step s (RunList name from n list)))
  unfolding run_list runs_of
  runs-answered name from n list p (inl (w, f)) = turned_down Unknown (p.late ∙ rw w) (rw f)
  runs-answered name from n list p (inr (i, e, w, f)) = go (take n (drop from (data_of v (inode_at v i)))) refl (leb (length (runs (take n (drop from (data_of v (inode_at v i)))))) (length list)) refl
    where
      go : (l : List ℕ) → take n (drop from (data_of v (inode_at v i))) ≡ l → (t : Bool) → leb (length (runs (take n (drop from (data_of v (inode_at v i)))))) (length list) ≡ t → Answered N b (Ask (RunList name from n list)) (Says N b (RunList name from n list) (query_step s (RunList name from n list)))
      go l q true h =
          let x : ltb (length list) (extent_count l) ≡ false = le-ltb (length list) (extent_count l) (omega (arith, runs-count l, leb-true (length (runs l)) (length list) (rw q at h))) in
          taken (p.late ∙ rw (w, e, q, x)) (i, e, rw (f, h))
      go l q false h =
          let x : ltb (length list) (extent_count l) ≡ true = lt-ltb (length list) (extent_count l) (omega (arith, runs-count l, leb-false (length (runs l)) (length list) (rw q at h))) in
          turned_down ListShort (p.late ∙ rw (w, e, q, x)) (rw (f, h))

  nth-answered : (name : List ℕ) (from n k : ℕ) → Passed N b (Ask (NthExtent name from n k)) → Known name
      → Answered N b (Ask (NthExtent name from n k)) (Says N b (NthExtent name from n k) (query_step s (NthExtent name from n k)))
  unfolding nth_extent runs_of
  nth-answered name from n k p (inl (w, f)) = turned_down Unknown (p.late ∙ rw w) (rw f)
  nth-answered name from n k p (inr (i, e, w, f)) = taken (p.late ∙ rw w) (i, e, rw f)

  free-answered : Passed N b (Ask Free) → Answered N b (Ask Free) (Says N b Free (query_step s Free))
  unfolding free_count
  free-answered p = taken p.late (rw (ready-passed s p.lent p.ready, F.free v whole good))

  -- ---- record i

  name-length : (i : ℕ) → length (name_at v i) ≡ name_size
  unfolding inode_bytes
  name-length i =
      let h : length (v (block_of_inode i)) ≡ 512 = whole (block_of_inode i) in
      simp (length-take, length-drop, h) (omega arith)

  named-record : (i : ℕ) → is_empty v i ≡ false → is_name (name_at v i) ≡ true
  unfolding is_name
  named-record i h = rw (eq-eqb (length (name_at v i)) name_size (name-length i), h)

  record-answered : (i : ℕ) → Passed N b (Ask (Record i)) → Answered N b (Ask (Record i)) (Says N b (Record i) (query_step s (Record i)))
  unfolding record_at
  record-answered i p = taken p.late (rw (ready-passed s p.lent p.ready) (go (leb inode_count i) refl (is_empty v i) refl))
    where
      Told : Bool → Type 0
      Told t =
          (T t × (outcome s (cond t no_file (file (name_at v i) (inode_at v i).size)) ≡ outcome s no_file))
          ⊎ ((content : List ℕ) × (b.plain.working (name_at v i) ≡ some content) × (find v (name_at v i) ≡ some i)
          × (outcome s (cond t no_file (file (name_at v i) (inode_at v i).size)) ≡ outcome s (file (name_at v i) (length content))))

      go : (x : Bool) → leb inode_count i ≡ x → (y : Bool) → is_empty v i ≡ y → Told (leb inode_count i || is_empty v i)
      go true e y f = rw e (inl (tt, refl))
      go false e true f = rw (e, f) (inl (tt, refl))
      go false e false f =
          let q = F.own_name v whole good i (leb-false inode_count i e) f in
          rw (e, f) (inr (
            content_of v (inode_at v i),
            sym (working (name_at v i)) ∙ (unfold files_of in rw (named-record i f, q) refl),
            q,
            ap (λ n. outcome s (file (name_at v i) n)) (sym (F.long v whole good (name_at v i) i q)),
          ))

  -- ---- all

  pub query-answered : (q : Query) → Passed N b (Ask q) → Answered N b (Ask q) (Says N b q (query_step s q))
  query-answered (Read name x buffer) p = read-answered name x buffer p (named (Read name x buffer) name p (asked-name (is_name name)))
  query-answered (Size name) p = size-answered name p (named (Size name) name p (asked-name (is_name name)))
  query-answered Free p = free-answered p
  query-answered (Record i) p = record-answered i p
  query-answered (RunList name from n list) p = runs-answered name from n list p (named (RunList name from n list) name p (asked-name (is_name name)))
  query-answered (NthExtent name from n k) p = nth-answered name from n k p (named (NthExtent name from n k) name p (asked-name (is_name name)))

-- ---- what a query leaves

pub record Still (s : State) (o : Outcome) : Type 0 where
  pub after : o.after ≡ s
  pub answer : is_refused o.answer ≡ false

pub run-told : (o : Option Extent) → is_refused (found o no_run run) ≡ false
run-told none = refl
run-told (some e) = refl

pub file-told : (t : Bool) (name : List ℕ) (size : ℕ) → is_refused (cond t no_file (file name size)) ≡ false
file-told true name size = refl
file-told false name size = refl

still-by : (s : State) (o x : Outcome) → o ≡ x → x.after ≡ s → is_refused x.answer ≡ false → Still s o
still-by s o x e a n = record { after = ap (λ (y : Outcome). y.after) e ∙ a; answer = ap (λ (y : Outcome). is_refused y.answer) e ∙ n }

pub says-still : (N : ℕ) (b : Both) (q : Query) (o : Outcome) → Says N b q o → Still b.store o
says-still N b (Read name x buffer) o (content, m, e) = still-by b.store o _ e refl refl
says-still N b (Size name) o (content, m, e) = still-by b.store o _ e refl refl
says-still N b Free o e = still-by b.store o _ e refl refl
says-still N b (Record i) o (inl (h, e)) = still-by b.store o _ e refl refl
says-still N b (Record i) o (inr (content, m, f, e)) = still-by b.store o _ e refl refl
says-still N b (RunList name from n list) o (i, f, e) = still-by b.store o _ e refl refl
says-still N b (NthExtent name from n k) o (i, f, e) = still-by b.store o _ e refl (run-told (get_elem? (runs (take n (drop from (file_at (view b.store) i).blocks))) k))
