-- What an accepted change leaves, and refusal 18, from what its stores make of the working copy.
use Rattle.std.specs.Prelude.{ℕ, ◌+◌, ◌-◌, ◌≤◌, ◌<◌, max, ◌≡◌, Bool, true, leb, ltb, get_or}
use Rattle.std.proofs.Math.Path.{refl, sym, ap, subst}
use Rattle.std.proofs.Common.{◌∙◌, leb-true, leb-false, le-ltb, lt-ltb, arith}
use Rattle.std.proofs.Math.Bool.{false, cond, not}
use mathlib.Core.List.{List, [], ◌∷◌, ◌++◌}
use Rattle.std.proofs.Math.Option.{Option, none, some, some-ne-none}
use Rattle.std.proofs.Math.Dec.{T}
use Rattle.std.proofs.Math.ListN.{length}
use Rattle.spec.specs.Layout.{bitmap_block, log_length}
use Rattle.spec.specs.Bytes.{found, is_some, keep, member, up_from}
use Rattle.spec.specs.Disk.{Disk}
use Rattle.spec.specs.Inode.{is_name, inode_bytes, inode_at, name_at, find, find_empty}
use Rattle.spec.specs.Map.{files_of}
use Rattle.spec.specs.declared.Refusal.{Refusal}
use Rattle.spec.specs.declared.Refusal.TheVariants.{Unknown, Taken, NoInode, TooManyStaged, ListShort}
use Rattle.spec.specs.Answers.{Answer, done, Result, refuse, accept, require, ◌>>=◌, ◌>>◌}
use Rattle.spec.specs.Session.{staged_in}
use Rattle.spec.specs.Transaction.{State, view, BlockStore, ascending, Staged, staged_of, stage_all, with_staging}
use Rattle.spec.specs.Plan.{Tree, tree_for, rewrites, creates, removes, renames}
use Rattle.spec.specs.Calls.{Outcome, outcome, settle, is_ready, lent_ok, staging, rewrite, create, remove, rename, write, set_size, Change, Create, Remove, Rename, Write, SetSize, change_step, Do}
use Rattle.spec.specs.Plain.{changed_files}
use Rattle.spec.specs.Sentences.{file_at, call_stages, staged_by}
use Rattle.spec.specs.Refusals.{wrong_name, over_limit, of_record, overstaged, Test, test, first_failed}
use Rattle.spec.specs.CutRule.{Both, Changes}
use Rattle.transaction.proofs.Laws.{staged-with, view-shown, Listed}
use Rattle.logs.specs.Stores.{Long, applied, targets_of}
use Rattle.logs.specs.Targets.{Targets, targets_of_lem, truth}
use Rattle.logs.specs.View.{view-is}
use Rattle.logs.specs.Staging.{member-keep, keep-targets, each-blocks, each-images, each-shown, count-staged}
use Rattle.crash.specs.Interface.{rewritten, planned, plan_tests, Makes, Plans, hindered, stages, FilesOn}
use Rattle.crash.specs.Tests.{Answered, turned_down, taken, one_name, two-names, size_fits_lem, late_tests, Passed, name-passed, file-passed, sized-passed}

-- ---- a change is its plan, staged

module _ (s : State) where
  known-bind : (K : Answer → Outcome) (o : Option ℕ) (f : ℕ → Result (List BlockStore)) (g : ℕ → Result Outcome) → ((i : ℕ) → g i ≡ (f i >>= staging s))
      → settle K (found o (refuse Unknown) accept >>= g) ≡ settle K ((found o (refuse Unknown) accept >>= f) >>= staging s)
  known-bind K none f g h = refl
  known-bind K (some i) f g h = ap (settle K) (h i)

  rewrite-planned : (i size x : ℕ) (bytes : List ℕ) → rewrite s i size x bytes ≡ (rewritten (view s) i size x bytes >>= staging s)
  unfolding rewrite
  rewrite-planned i size x bytes = go (tree_for (view s) (inode_at (view s) i) size)
    where
      go : (m : Result Tree) → (m >>= (λ t. staging s (rewrites (view s) i (name_at (view s) i) size x bytes t)))
          ≡ ((m >>= (λ t. accept (rewrites (view s) i (name_at (view s) i) size x bytes t))) >>= staging s)
      go (refuse r) = refl
      go (accept t) = refl

  tested-planned : (t : Bool) (ws : List BlockStore) → (require t Taken >> staging s ws) ≡ ((require t Taken >> accept ws) >>= staging s)
  tested-planned true ws = refl
  tested-planned false ws = refl

  created-planned : (t : Bool) (o : Option ℕ) (f : ℕ → List BlockStore)
      → settle (outcome s) (require t Taken >> (found o (refuse NoInode) accept >>= (λ i. staging s (f i))))
      ≡ settle (outcome s) ((require t Taken >> (found o (refuse NoInode) accept >>= (λ i. accept (f i)))) >>= staging s)
  created-planned false o f = refl
  created-planned true none f = refl
  created-planned true (some i) f = refl

  pub change-planned : (c : Change) → lent_ok s ≡ accept true → is_ready s.session.phase ≡ true → wrong_name (Do c) ≡ false → over_limit (Do c) ≡ false
      → change_step s c ≡ settle (outcome s) (planned (view s) c >>= staging s)
  unfolding planned create remove rename write set_size
  change-planned (Create name) l r n z =
      rw (name-passed s l r name (sym (one_name (is_name name)) ∙ ap not n))
      (created-planned (not (is_some (find (view s) name))) (find_empty (view s)) (λ i. creates (view s) i name))
  change-planned (Remove name) l r n z =
      rw (file-passed s l r name (sym (one_name (is_name name)) ∙ ap not n))
      (known-bind (outcome s) (find (view s) name) (λ i. accept (removes (view s) i)) (λ i. staging s (removes (view s) i)) (λ i. refl))
  change-planned (Rename name new) l r n z =
      rw (l, sym (two-names (is_name name) (is_name new)) ∙ ap not n, r)
      (known-bind (outcome s) (find (view s) name) (λ i. require (not (is_some (find (view s) new))) Taken >> accept (renames (view s) i new))
      (λ i. require (not (is_some (find (view s) new))) Taken >> staging s (renames (view s) i new)) (λ i. tested-planned (not (is_some (find (view s) new))) (renames (view s) i new)))
  change-planned (Write name x bytes) l r n z =
      rw (sized-passed s l r name (x + length bytes) (sym (one_name (is_name name)) ∙ ap not n) (sym (size_fits_lem (x + length bytes)) ∙ ap not z))
      (known-bind (outcome s) (find (view s) name) (λ i. rewritten (view s) i (max (inode_at (view s) i).size (x + length bytes)) x bytes)
      (λ i. rewrite s i (max (inode_at (view s) i).size (x + length bytes)) x bytes) (λ i. rewrite-planned i (max (inode_at (view s) i).size (x + length bytes)) x bytes))
  change-planned (SetSize name size) l r n z =
      rw (sized-passed s l r name size (sym (one_name (is_name name)) ∙ ap not n) (sym (size_fits_lem size) ∙ ap not z))
      (known-bind (outcome s) (find (view s) name) (λ i. rewritten (view s) i size 0 []) (λ i. rewrite s i size 0 []) (λ i. rewrite-planned i size 0 []))

-- ---- tests in a row

first-front : (ts us : List Test) (r : Refusal) → first_failed ts ≡ some r → first_failed (ts ++ us) ≡ some r
first-front [] us r h = absurd (some-ne-none r (sym h))
first-front (t ∷ ts) us r h = go t.fails refl (first-front ts us r)
  where
    go : (b : Bool) → t.fails ≡ b → (first_failed ts ≡ some r → first_failed (ts ++ us) ≡ some r) → first_failed ((t ∷ ts) ++ us) ≡ some r
    go true e ih = rw e (rw e at h)
    go false e ih = rw e (ih (rw e at h))

first-behind : (ts us : List Test) → first_failed ts ≡ none → first_failed (ts ++ us) ≡ first_failed us
first-behind [] us h = refl
first-behind (t ∷ ts) us h = go t.fails refl (first-behind ts us)
  where
    go : (b : Bool) → t.fails ≡ b → (first_failed ts ≡ none → first_failed (ts ++ us) ≡ first_failed us) → first_failed ((t ∷ ts) ++ us) ≡ first_failed us
    go true e ih = absurd (some-ne-none t.refusal (rw e at h))
    go false e ih = rw e (ih (rw e at h))

-- ---- what is left

pub record Changed {N : ℕ} (F : FilesOn N) (b : Both) (c : Change) : Type 0 where
  pub stores : List BlockStore
  pub targets : Targets N (targets_of (ascending stores))
  pub long : Long stores
  pub few : length (stage_all b.store stores).blocks ≤ log_length
  pub leaves : change_step b.store c ≡ outcome (with_staging b.store (stage_all b.store stores)) done
  pub changes : Changes N b c (change_step b.store c)
  pub good : F.Good (view (with_staging b.store (stage_all b.store stores)))
  pub files : (name : List ℕ) → files_of (view (with_staging b.store (stage_all b.store stores))) name ≡ changed_files (files_of (view b.store)) c name

module _ {N : ℕ} (F : FilesOn N) (b : Both) (c : Change) (q : Passed N b (Do c)) (listed : Listed N (staged_in b.store.session)) where
  abbrev s : State
  s = b.store

  abbrev v : Disk
  v = view b.store

  abbrev old : List ℕ
  old = staged_in b.store.session

  is-planned : change_step s c ≡ settle (outcome s) (planned v c >>= staging s)
  is-planned = change-planned s c q.lent q.ready q.names q.sizes

  module _ (ws : List BlockStore) (m : Makes N F.Good v c ws) where
    abbrev t : Staged
    t = stage_all s ws

    targets : Targets N (targets_of (ascending ws))
    targets = subst (Targets N) (sym m.staged) (keep-targets N 33 (N - 33) (call_stages N v m.inode c) (omega arith) (omega (arith, F.fewest)))

    blocks-are : t.blocks ≡ old ++ keep (λ x. not (member x old)) (staged_by N v m.inode c)
    unfolding stage_all
    blocks-are = each-blocks N (ascending ws) (staged_of s) targets ∙ ap (λ (l : List ℕ). old ++ keep (λ x. not (member x old)) l) m.staged

    -- 18. "More than 32 blocks would be staged."
    overstaged-is : overstaged N s m.inode c ≡ ltb log_length (length t.blocks)
    overstaged-is =
        ap (ltb log_length) (sym (ap length blocks-are ∙ count-staged N old (call_stages N v m.inode c) (targets_of_lem N old listed.targets listed.differ)))

    view-now : view (with_staging s t) ≡ applied (ascending ws) v
    unfolding stage_all
    view-now =
        view-shown s (stage_all s ws) ∙ each-shown s.device.block (ascending ws) (staged_of s)
        ∙ ap (applied (ascending ws)) (sym (view-is s old refl))

    staged-now : staged_in (with_staging s t).session ≡ t.blocks
    staged-now = staged-with s.session t.blocks

    images-now : (i : ℕ) → (T (call_stages N v m.inode c (get_or (staged_in (with_staging s t).session) i 0)) → i < length (staged_in (with_staging s t).session) → ⊥)
        → t.image i ≡ s.work.block i
    unfolding stage_all
    images-now i h =
        each-images N (ascending ws) (staged_of s) targets i
        (λ x k. subst (λ (l : List ℕ). T (call_stages N v m.inode c (get_or l i 0)) → i < length l → ⊥) staged-now h
        (truth (call_stages N v m.inode c (get_or t.blocks i 0))
        (member-keep (get_or t.blocks i 0) (call_stages N v m.inode c) (up_from bitmap_block (N - bitmap_block)) (ap (member (get_or t.blocks i 0)) (sym m.staged) ∙ x))) k)

    changes-now : Changes N b c (outcome (with_staging s t) done)
    changes-now =
        record {
          answer = refl;
          device = refl;
          inode = m.inode;
          is-inode = m.is-inode;
          file = ap (λ (u : Disk). file_at u m.inode) view-now ∙ m.file;
          others = λ j h k. ap (λ (u : Disk). inode_bytes u j) view-now ∙ m.others j h k;
          staged = staged-now ∙ blocks-are;
          work = refl;
          images = images-now;
        }

    changed : change_step s c ≡ outcome (with_staging s t) done → length t.blocks ≤ log_length → Changed F b c
    changed e k =
        record {
          stores = ws;
          targets = targets;
          long = m.long;
          few = k;
          leaves = e;
          changes = subst (Changes N b c) (sym e) changes-now;
          good = subst F.Good (sym view-now) m.good;
          files = λ name. ap (λ (u : Disk). files_of u name) view-now ∙ m.files name;
        }

    staged-answered : first_failed (plan_tests N b.plain s c) ≡ none → planned v c ≡ accept ws → Answered N b (Do c) (Changed F b c)
    unfolding staging
    staged-answered d e = go (leb (length t.blocks) log_length) refl
      where
        late : first_failed (late_tests N b.plain s (Do c)) ≡ cond (ltb log_length (length t.blocks)) (some TooManyStaged) none
        late =
            first-behind (plan_tests N b.plain s c) (test (of_record (overstaged N s) s (Do c)) TooManyStaged ∷ test false ListShort ∷ []) d
            ∙ rw (m.is-inode, overstaged-is)

        go : (x : Bool) → leb (length t.blocks) log_length ≡ x → Answered N b (Do c) (Changed F b c)
        go true h =
            let k = leb-true (length t.blocks) log_length h in
            taken (q.late ∙ late ∙ rw (le-ltb log_length (length t.blocks) k)) (changed (is-planned ∙ rw (e, h)) k)
        go false h = turned_down TooManyStaged (q.late ∙ late ∙ rw (lt-ltb log_length (length t.blocks) (leb-false (length t.blocks) log_length h))) (is-planned ∙ rw (e, h))

  pub change-answered : Plans N F.Good b.plain s c → Answered N b (Do c) (Changed F b c)
  change-answered (hindered r d e) =
      turned_down r (q.late ∙ first-front (plan_tests N b.plain s c) (test (of_record (overstaged N s) s (Do c)) TooManyStaged ∷ test false ListShort ∷ []) r d) (is-planned ∙ rw e)
  change-answered (stages ws d e m) = staged-answered ws m d e
