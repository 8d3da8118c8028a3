-- Lists of stores put on a disk. Assumes nothing.
use Prim.Native.Nat.{ℕ, zero, suc, ◌+◌, ◌≤◌, ◌<◌}
use Rattle.std.specs.Prelude.{◌≡◌, refl, Bool, true, false, cond, ◌⊎◌, List, [], ◌∷◌, ◌++◌, map, eqb, ltb, length, take, drop}
use Rattle.std.proofs.Common.{sym, ap₂, ◌∙◌, inl, inr, length-append, get_or-append-add, drop-cons, le_of_suc-le-suc, not-suc-le-zero, eqb-true, ltb-true, ltb-false, ne_eqb, eq-eqb}
use Rattle.std.proofs.Math.Path.{ap, fun_ext, subst}
use Rattle.std.proofs.Math.Option.{some}
use Rattle.std.proofs.Math.ListN.{get_or, get_elem?, get_or-append}
use Rattle.std.proofs.Math.Seq.{get_or-append_seam}
use native.Mathlib.Omega.{arith}
use Rattle.std.proofs.lemmas.Bool.{eqb-false}
use Rattle.spec.specs.Layout.{block_size, header_block}
use Rattle.spec.specs.Bytes.{zeros}
use Rattle.spec.specs.Disk.{Disk, with_block}
use Rattle.spec.specs.Transaction.{BlockStore, put, insert, ascending}
use Rattle.spec.specs.Journal.{header_of, images_from, redo_from, clearing}
use Rattle.logs.specs.Targets.{Fresh, Targets}

-- ---- one store

unfoldable pub upd : BlockStore → Disk → Disk
upd e v = with_block e.block e.content v

module _ (e : BlockStore) (v : Disk) where
  pub upd_same : upd e v e.block ≡ e.content
  unfolding upd
  upd_same = rw (eq-eqb e.block e.block refl)

  pub upd_other : (n : ℕ) → (n ≡ e.block → ⊥) → upd e v n ≡ v n
  unfolding upd
  upd_other n h = rw (ne_eqb n e.block h)

-- what a block holds then rests on what that block held
pub upd-agree : (e : BlockStore) (v w : Disk) (n : ℕ) → v n ≡ w n → upd e v n ≡ upd e w n
unfolding upd
upd-agree e v w n q = ap (cond (eqb n e.block) e.content) q

-- of two stores to one block the later counts
upd-upd : (e f : BlockStore) (v : Disk) → f.block ≡ e.block → upd e (upd f v) ≡ upd e v
unfolding upd
upd-upd e f v q = rw q (fun_ext (λ n. go n (eqb n e.block)))
  where
    go : (n : ℕ) (t : Bool) → cond t e.content (cond t f.content (v n)) ≡ cond t e.content (v n)
    go n true = refl
    go n false = refl

-- two stores to different blocks may change places
upd-comm : (e f : BlockStore) (v : Disk) → (f.block ≡ e.block → ⊥) → upd e (upd f v) ≡ upd f (upd e v)
unfolding upd
upd-comm e f v h = fun_ext (λ n. go n (eqb n e.block) refl (eqb n f.block) refl)
  where
    go : (n : ℕ) (t : Bool) → eqb n e.block ≡ t → (u : Bool) → eqb n f.block ≡ u
        → cond t e.content (cond u f.content (v n)) ≡ cond u f.content (cond t e.content (v n))
    go n true p true q = absurd (h (sym (eqb-true n f.block q) ∙ eqb-true n e.block p))
    go n true p false q = refl
    go n false p true q = refl
    go n false p false q = refl

-- ---- whole blocks

abbrev pub Whole : Disk → Type 0
Whole v = (b : ℕ) → length (v b) ≡ block_size

abbrev pub Long : List BlockStore → Type 0
Long [] = Unit {0}
Long (e ∷ s) = (length e.content ≡ block_size) × Long s

pub upd-whole : (e : BlockStore) (v : Disk) → length e.content ≡ block_size → Whole v → Whole (upd e v)
unfolding upd
upd-whole e v h w n = go (eqb n e.block)
  where
    go : (t : Bool) → length (cond t e.content (v n)) ≡ block_size
    go true = h
    go false = w n

-- ---- stores in a row

abbrev pub applied : List BlockStore → Disk → Disk
applied [] v = v
applied (e ∷ s) v = applied s (upd e v)

pub applied-whole : (s : List BlockStore) (v : Disk) → Long s → Whole v → Whole (applied s v)
applied-whole [] v g w = w
applied-whole (e ∷ s) v g w = applied-whole s (upd e v) g.1 (upd-whole e v g.0 w)

pub applied-agree : (s : List BlockStore) (v w : Disk) (n : ℕ) → v n ≡ w n → applied s v n ≡ applied s w n
applied-agree [] v w n q = q
applied-agree (e ∷ s) v w n q = applied-agree s (upd e v) (upd e w) n (upd-agree e v w n q)

abbrev pub targets_of : List BlockStore → List ℕ
targets_of s = map (λ w. w.block) s

-- a block that is not stored to
abbrev pub Avoids : ℕ → List BlockStore → Type 0
Avoids n s = Fresh n (targets_of s)

pub applied-off : (n : ℕ) (s : List BlockStore) (v : Disk) → Avoids n s → applied s v n ≡ v n
applied-off n [] v g = refl
applied-off n (e ∷ s) v g = applied-off n s (upd e v) g.1 ∙ upd_other e v n g.0

-- ---- redone in part, then as a whole

-- a store of a list, and stores that all are, in any order and any number of times
abbrev pub Entry : BlockStore → List BlockStore → Type 0
Entry e [] = ⊥
Entry e (f ∷ s) = (e ≡ f) ⊎ Entry e s

abbrev pub Entries : List BlockStore → List BlockStore → Type 0
Entries [] s = Unit {0}
Entries (e ∷ es) s = Entry e s × Entries es s

-- a store of the list makes no difference before the whole list
pub absorb : (e : BlockStore) (s : List BlockStore) (v : Disk) → Entry e s → applied s (upd e v) ≡ applied s v
absorb e [] v h = absurd h
absorb e (f ∷ s) v (inl q) = ap (applied s) (upd-upd f e v (ap (λ (x : BlockStore). x.block) q))
absorb e (f ∷ s) v (inr h) = go (eqb e.block f.block) refl (absorb e s (upd f v) h)
  where
    go : (t : Bool) → eqb e.block f.block ≡ t → applied s (upd e (upd f v)) ≡ applied s (upd f v) → applied s (upd f (upd e v)) ≡ applied s (upd f v)
    go true q ih = ap (applied s) (upd-upd f e v (eqb-true e.block f.block q))
    go false q ih = ap (applied s) (upd-comm f e v (eqb-false e.block f.block q)) ∙ ih

-- nor do any that all are of the list
pub absorb-all : (es s : List BlockStore) (v : Disk) → Entries es s → applied s (applied es v) ≡ applied s v
absorb-all [] s v h = refl
absorb-all (e ∷ es) s v h = absorb-all es s (upd e v) h.1 ∙ absorb e s v h.0

-- ---- places in a list

abbrev pub blank : BlockStore
blank = put 0 []

pub entry_at : (s : List BlockStore) (i : ℕ) → i < length s → Entry (get_or s i blank) s
entry_at [] i h = absurd (not-suc-le-zero h)
entry_at (e ∷ s) zero h = inl refl
entry_at (e ∷ s) (suc i) h = inr (entry_at s i (le_of_suc-le-suc h))

entries-more : (e : BlockStore) (es s : List BlockStore) → Entries es s → Entries es (e ∷ s)
entries-more e [] s h = tt
entries-more e (f ∷ es) s h = (inr h.0, entries-more e es s h.1)

pub entries-take : (j : ℕ) (s : List BlockStore) → Entries (take j s) s
entries-take zero s = tt
entries-take (suc j) [] = tt
entries-take (suc j) (e ∷ s) = (inl refl, entries-more e (take j s) s (entries-take j s))

-- a recovery cut anywhere and begun again
pub redo-again : (j : ℕ) (s : List BlockStore) (v : Disk) → applied s (applied (take j s) v) ≡ applied s v
redo-again j s v = absorb-all (take j s) s v (entries-take j s)

pub long-entry : (e : BlockStore) (s : List BlockStore) → Entry e s → Long s → length e.content ≡ block_size
long-entry e [] h g = absurd h
long-entry e (f ∷ s) (inl q) g = ap (λ (x : BlockStore). length x.content) q ∙ g.0
long-entry e (f ∷ s) (inr h) g = long-entry e s h g.1

pub avoids-entry : (n : ℕ) (e : BlockStore) (s : List BlockStore) → Entry e s → Avoids n s → n ≡ e.block → ⊥
avoids-entry n e [] h g q = absurd h
avoids-entry n e (f ∷ s) (inl h) g q = g.0 (q ∙ ap (λ (x : BlockStore). x.block) h)
avoids-entry n e (f ∷ s) (inr h) g q = avoids-entry n e s h g.1 q

-- the rest of a list after one store more
pub applied-drop : (s : List BlockStore) (j : ℕ) (v : Disk) → j < length s → applied (drop j s) v ≡ applied (drop (suc j) s) (upd (get_or s j blank) v)
applied-drop s j v h = ap (λ (l : List BlockStore). applied l v) (drop-cons s j blank h)

module _ {A : Type 0} where
  pub element-at : (l : List A) (d : ℕ) (a : A) → d < length l → get_elem? l d ≡ some (get_or l d a)
  element-at [] d a h = absurd (not-suc-le-zero h)
  element-at (x ∷ l) zero a h = refl
  element-at (x ∷ l) (suc d) a h = element-at l d a (le_of_suc-le-suc h)

-- ---- in ascending order of block, each from lo to N - 1

abbrev pub Ascending : ℕ → ℕ → List BlockStore → Type 0
Ascending N lo [] = Unit {0}
Ascending N lo (e ∷ s) = (lo ≤ e.block) × (e.block < N) × Ascending N (suc e.block) s

pub ascending-avoids : (N lo n : ℕ) (s : List BlockStore) → n < lo → Ascending N lo s → Avoids n s
ascending-avoids N lo n [] h g = tt
ascending-avoids N lo n (e ∷ s) h g = ((λ q. omega arith), ascending-avoids N (suc e.block) n s (omega arith) g.2)

pub ascending-targets : (N lo : ℕ) (s : List BlockStore) → 33 ≤ lo → Ascending N lo s → Targets N (targets_of s)
ascending-targets N lo [] h g = tt
ascending-targets N lo (e ∷ s) h g =
    (omega (arith, g.0), g.1, ascending-avoids N (suc e.block) e.block s (omega arith) g.2, ascending-targets N (suc e.block) s (omega (arith, g.0)) g.2)

-- what holds of a list with a new block inserted: by where it goes
module _ (P : List BlockStore → List BlockStore → Type 0) (x : BlockStore)
    (last : P [] (x ∷ []))
    (here : (e : BlockStore) (s : List BlockStore) → x.block < e.block → P (e ∷ s) (x ∷ e ∷ s))
    (later : (e : BlockStore) (s t : List BlockStore) → e.block < x.block → P s t → P (e ∷ s) (e ∷ t)) where
  inserted : (s : List BlockStore) → Avoids x.block s → P s (insert x s)
  inserted [] g = last
  inserted (e ∷ s) g = go (ltb x.block e.block) refl (eqb x.block e.block) refl (inserted s g.1)
    where
      go : (t : Bool) → ltb x.block e.block ≡ t → (u : Bool) → eqb x.block e.block ≡ u → P s (insert x s)
          → P (e ∷ s) (cond t (x ∷ e ∷ s) (cond u (e ∷ s) (e ∷ insert x s)))
      go true p u q ih = here e s (ltb-true x.block e.block p)
      go false p true q ih = absurd (g.0 (eqb-true x.block e.block q))
      go false p false q ih = later e s (insert x s) (omega (arith, ltb-false x.block e.block p, g.0)) ih

-- a store to a block that the others leave alone may come last
applied-last : (x : BlockStore) (s : List BlockStore) (v : Disk) → Avoids x.block s → applied s (upd x v) ≡ upd x (applied s v)
applied-last x [] v g = refl
applied-last x (e ∷ s) v g = ap (applied s) (upd-comm e x v g.0) ∙ applied-last x s (upd e v) g.1

-- the first store of a list to each block, on a disk
abbrev pub over : List BlockStore → Disk → Disk
over [] v = v
over (e ∷ s) v = upd e (over s v)

-- what sorting leaves of a list whose blocks differ
pub record Sorted (N : ℕ) (s t : List BlockStore) : Type 0 where
  pub ascending : Ascending N 33 t
  pub avoids : (n : ℕ) → Avoids n s → Avoids n t
  pub length : length t ≡ length s
  pub applied : (v : Disk) → applied t v ≡ over s v

module _ (N : ℕ) (x : BlockStore) (s : List BlockStore) (g : Avoids x.block s) where
  insert-ascending : (lo : ℕ) → lo ≤ x.block → x.block < N → Ascending N lo s → Ascending N lo (insert x s)
  insert-ascending lo h k a = inserted P x (λ lo h a. (h, k, tt)) here later s g lo h a
    where
      P : List BlockStore → List BlockStore → Type 0
      P s t = (lo : ℕ) → lo ≤ x.block → Ascending N lo s → Ascending N lo t

      here : (e : BlockStore) (s : List BlockStore) → x.block < e.block → P (e ∷ s) (x ∷ e ∷ s)
      here e s q lo h a = (h, k, (q, a.1, a.2))

      later : (e : BlockStore) (s t : List BlockStore) → e.block < x.block → P s t → P (e ∷ s) (e ∷ t)
      later e s t q ih lo h a = (a.0, a.1, ih (suc e.block) q a.2)

  insert-avoids : (n : ℕ) → (n ≡ x.block → ⊥) → Avoids n s → Avoids n (insert x s)
  insert-avoids n h = inserted (λ s t. Avoids n s → Avoids n t) x (λ a. (h, tt)) (λ e s q a. (h, a)) (λ e s t q ih a. (a.0, ih a.1)) s g

  insert-length : length (insert x s) ≡ suc (length s)
  insert-length = inserted (λ s t. length t ≡ suc (length s)) x refl (λ e s q. refl) (λ e s t q ih. ap suc ih) s g

  insert-applied : (v : Disk) → applied (insert x s) v ≡ upd x (applied s v)
  insert-applied v =
      inserted (λ s t. (v : Disk) → Avoids x.block s → applied t v ≡ upd x (applied s v)) x
      (λ v a. refl) (λ e s q v a. applied-last x (e ∷ s) v a) (λ e s t q ih v a. ih (upd e v) a.1) s g v g

pub sorted : (N : ℕ) (s : List BlockStore) → Targets N (targets_of s) → Sorted N s (ascending s)
unfolding ascending
sorted N [] g = record { ascending = tt; avoids = λ n a. a; length = refl; applied = λ v. refl }
sorted N (e ∷ s) g =
    let r = sorted N s g.3 in
    let a = r.avoids e.block g.2 in
    record {
      ascending = insert-ascending N e (ascending s) a 33 g.0 g.1 r.ascending;
      avoids = λ n h. insert-avoids N e (ascending s) a n h.0 (r.avoids n h.1);
      length = insert-length N e (ascending s) a ∙ ap suc r.length;
      applied = λ v. insert-applied N e (ascending s) a v ∙ ap (upd e) (r.applied v);
    }

-- whole contents stay whole
long-insert : (x : BlockStore) (ws : List BlockStore) → Long (x ∷ ws) → Long (insert x ws)
long-insert x [] h = h
long-insert x (y ∷ ws) h = go (ltb x.block y.block) (eqb x.block y.block) (long-insert x ws (h.0, h.1.1))
  where
    go : (t u : Bool) → Long (insert x ws) → Long (cond t (x ∷ y ∷ ws) (cond u (y ∷ ws) (y ∷ insert x ws)))
    go true u ih = h
    go false true ih = h.1
    go false false ih = (h.1.0, ih)

pub long-ascending : (ws : List BlockStore) → Long ws → Long (ascending ws)
unfolding ascending
long-ascending [] h = tt
long-ascending (w ∷ ws) h = long-insert w (ascending ws) (h.0, long-ascending ws h.1)

-- ---- the stores of a commit and of a recovery, by place

pub length-images : (b : ℕ) (s : List BlockStore) → length (images_from b s) ≡ length s
length-images b [] = refl
length-images b (e ∷ s) = ap suc (length-images (suc b) s)

images-at : (b : ℕ) (s : List BlockStore) (i : ℕ) → i < length s → get_or (images_from b s) i blank ≡ put (b + i) (get_or s i blank).content
images-at b [] i h = absurd (not-suc-le-zero h)
images-at b (e ∷ s) zero h = let q : b ≡ b + 0 = omega arith in ap (λ n. put n e.content) q
images-at b (e ∷ s) (suc i) h =
    let q : suc b + i ≡ b + suc i = omega arith in
    images-at (suc b) s i (le_of_suc-le-suc h) ∙ ap (λ n. put n (get_or s i blank).content) q

pub length-redo : (b : ℕ) (v : Disk) (ts : List ℕ) → length (redo_from b v ts) ≡ length ts
length-redo b v [] = refl
length-redo b v (t ∷ ts) = ap suc (length-redo (suc b) v ts)

-- once the images are in the log, the stores of a redo are the list
pub redo-is : (b : ℕ) (v : Disk) (s : List BlockStore) → ((i : ℕ) → i < length s → v (b + i) ≡ (get_or s i blank).content) → redo_from b v (targets_of s) ≡ s
redo-is b v [] h = refl
redo-is b v (e ∷ s) h =
    let q : b ≡ b + 0 = omega arith in
    ap₂ {C = List BlockStore} (λ x xs. put e.block x ∷ xs) (ap v q ∙ h 0 (omega arith))
    (redo-is (suc b) v s (λ i k. let z : suc b + i ≡ b + suc i = omega arith in ap v z ∙ h (suc i) (omega arith)))

-- images, the list, the stores to the targets, the clearing
unfoldable pub commit_list : List BlockStore → List BlockStore → List BlockStore
commit_list s redo = images_from 1 s ++ (put header_block (header_of (targets_of s)) ∷ (redo ++ clearing))

module _ (s redo : List BlockStore) where
  pub commit-image : (d : ℕ) → d < length s → get_or (commit_list s redo) d blank ≡ put (suc d) (get_or s d blank).content
  unfolding commit_list
  commit-image d h =
      let q : 1 + d ≡ suc d = omega arith in
      get_or-append (images_from 1 s) (put header_block (header_of (targets_of s)) ∷ (redo ++ clearing)) blank d (rw length-images h)
      ∙ images-at 1 s d h ∙ ap (λ n. put n (get_or s d blank).content) q

  pub commit-header : get_or (commit_list s redo) (length s) blank ≡ put header_block (header_of (targets_of s))
  unfolding commit_list
  commit-header =
      subst (λ (n : ℕ). get_or (commit_list s redo) n blank ≡ put header_block (header_of (targets_of s))) (length-images 1 s)
      (get_or-append_seam (images_from 1 s) (put header_block (header_of (targets_of s))) (redo ++ clearing) blank)

  behind : (j : ℕ) → get_or (commit_list s redo) (length s + suc j) blank ≡ get_or (redo ++ clearing) j blank
  unfolding commit_list
  behind j =
      subst (λ (n : ℕ). get_or (commit_list s redo) (n + suc j) blank ≡ get_or (redo ++ clearing) j blank) (length-images 1 s)
      (get_or-append-add (images_from 1 s) (put header_block (header_of (targets_of s)) ∷ (redo ++ clearing)) (suc j) blank)

  pub commit-target : (j : ℕ) → j < length redo → get_or (commit_list s redo) (length s + suc j) blank ≡ get_or redo j blank
  commit-target j h = behind j ∙ get_or-append redo clearing blank j h

  pub commit-clear : get_or (commit_list s redo) (length s + suc (length redo)) blank ≡ put header_block (zeros block_size)
  commit-clear = behind (length redo) ∙ get_or-append_seam redo (put header_block (zeros block_size)) [] blank

  pub commit-length : length (commit_list s redo) ≡ length s + (length redo + 2)
  unfolding commit_list
  commit-length = rw (length-append, length-images, length-append) (omega arith)
