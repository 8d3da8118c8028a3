-- The staged blocks with their images: put on the device in ascending order they make the working copy. Assumes nothing.
use Rattle.std.specs.Prelude.{ℕ, suc, ◌≤◌, ◌<◌, ◌≡◌, refl, Bool, true, false, cond, List, [], ◌∷◌, map, eqb, length, get_or}
use Rattle.std.proofs.Common.{sym, ap, ◌∙◌, subst, length-append, arith, eqb-true}
use Rattle.std.proofs.Math.Path.{fun_ext}
use Rattle.std.proofs.Math.Option.{Option, none, some}
use Rattle.std.proofs.lemmas.List.{length-map}
use Rattle.std.proofs.lemmas.Bool.{eqb-false}
use Rattle.spec.specs.Layout.{block_size, log_length}
use Rattle.spec.specs.Bytes.{found, place, place_from, up_from}
use Rattle.spec.specs.Disk.{Disk, with_block}
use Rattle.spec.specs.Session.{staged_in}
use Rattle.spec.specs.Transaction.{State, view, BlockStore, put, ascending, Staged, stage, stage_each, staged_of, stage_all, with_staging}
use Rattle.spec.specs.Journal.{staged_stores}
use Rattle.transaction.proofs.Laws.{shown, stage-new, stage-again, Listed, stage-listed, Valid, valid-staged, stage-longer}
use Rattle.logs.specs.Stores.{upd, applied, Long, over, Ascending, Sorted, sorted, targets_of, long-ascending}
use Rattle.logs.specs.Targets.{Targets, range-target}
use Rattle.logs.specs.Header.{map-up}

-- ---- the staged blocks with their images

abbrev pub pairs : List ℕ → Disk → List BlockStore
pairs [] f = []
pairs (b ∷ bs) f = put b (f 0) ∷ pairs bs (λ i. f (suc i))

pairs-are : (bs : List ℕ) (f : Disk) → map (λ i. put (get_or bs i 0) (f i)) (up_from 0 (length bs)) ≡ pairs bs f
pairs-are [] f = refl
pairs-are (b ∷ bs) f =
    ap {B = List BlockStore} (λ xs. put b (f 0) ∷ xs)
    (map-up (λ i. put (get_or (b ∷ bs) i 0) (f i)) 0 (length bs) ∙ pairs-are bs (λ i. f (suc i)))

pairs-targets : (bs : List ℕ) (f : Disk) → targets_of (pairs bs f) ≡ bs
pairs-targets [] f = refl
pairs-targets (b ∷ bs) f = ap {B = List ℕ} (λ xs. b ∷ xs) (pairs-targets bs (λ i. f (suc i)))

pairs-long : (bs : List ℕ) (f : Disk) → ((i : ℕ) → i < length bs → length (f i) ≡ block_size) → Long (pairs bs f)
pairs-long [] f h = tt
pairs-long (b ∷ bs) f h = (h 0 (omega arith), pairs-long bs (λ i. f (suc i)) (λ i k. h (suc i) (omega arith)))

-- ---- they make the working copy

found_up : (b i : ℕ) (bs : List ℕ) (z : List ℕ) (f : Disk) → found (place_from (suc i) b bs) z f ≡ found (place_from i b bs) z (λ j. f (suc j))
found_up b i [] z f = refl
found_up b i (x ∷ bs) z f = go (eqb x b) (found_up b (suc i) bs z f)
  where
    go : (t : Bool) → found (place_from (suc (suc i)) b bs) z f ≡ found (place_from (suc i) b bs) z (λ j. f (suc j))
        → found (cond t (some (suc i)) (place_from (suc (suc i)) b bs)) z f ≡ found (cond t (some i) (place_from (suc i) b bs)) z (λ j. f (suc j))
    go true ih = refl
    go false ih = ih

found-over : (bs : List ℕ) (f : Disk) (d : Disk) (b : ℕ) → found (place b bs) (d b) f ≡ over (pairs bs f) d b
unfolding upd
found-over [] f d b = refl
found-over (x ∷ bs) f d b = go (eqb x b) refl (eqb b x) refl (found_up b 0 bs (d b) f ∙ found-over bs (λ i. f (suc i)) d b)
  where
    go : (t : Bool) → eqb x b ≡ t → (u : Bool) → eqb b x ≡ u
        → found (place_from 1 b bs) (d b) f ≡ over (pairs bs (λ i. f (suc i))) d b
        → found (cond t (some 0) (place_from 1 b bs)) (d b) f ≡ cond u (f 0) (over (pairs bs (λ i. f (suc i))) d b)
    go true p true q ih = refl
    go true p false q ih = absurd (eqb-false b x q (sym (eqb-true x b p)))
    go false p true q ih = absurd (eqb-false x b p (sym (eqb-true b x q)))
    go false p false q ih = ih

-- ---- of a session

-- the numbers that a session holds and the images of a work space
pub record Held (N : ℕ) (bs : List ℕ) (f : Disk) : Type 0 where
  pub targets : Targets N bs
  pub few : length bs ≤ log_length
  pub images : (i : ℕ) → i < length bs → length (f i) ≡ block_size

pub held_none : (N : ℕ) (f : Disk) → Held N [] f
held_none N f = record { targets = tt; few = omega arith; images = λ i h. absurd (omega (arith, h)) }

abbrev pub numbered : List ℕ → Disk → Staged
numbered bs f = record { blocks = bs; image = f }

-- the list that a commit takes: "in ascending order of target"
unfoldable pub list_of : List ℕ → Disk → List BlockStore
list_of bs f = ascending (pairs bs f)

pub staged_stores_lem : (s : State) (bs : List ℕ) → staged_in s.session ≡ bs → staged_stores s ≡ list_of bs s.work.block
unfolding list_of staged_stores
staged_stores_lem s bs q =
    ap (λ (l : List ℕ). ascending (map (λ i. put (get_or l i 0) (s.work.block i)) (up_from 0 (length l)))) q
    ∙ ap ascending (pairs-are bs s.work.block)

module _ {N : ℕ} {bs : List ℕ} {f : Disk} (h : Held N bs f) where
  sorted-list : Sorted N (pairs bs f) (list_of bs f)
  unfolding list_of
  sorted-list = sorted N (pairs bs f) (subst (Targets N) (sym (pairs-targets bs f)) h.targets)

  pub list-ascending : Ascending N 33 (list_of bs f)
  list-ascending = sorted-list.ascending

  pub list-long : Long (list_of bs f)
  unfolding list_of
  list-long = long-ascending (pairs bs f) (pairs-long bs f h.images)

  pub list_length : length (list_of bs f) ≡ length bs
  list_length = sorted-list.length ∙ sym (length-map (pairs bs f) (λ w. w.block)) ∙ ap length (pairs-targets bs f)

  -- put on a disk it gives the working copy over that disk
  pub list-view : (v : Disk) → applied (list_of bs f) v ≡ shown v (numbered bs f)
  list-view v = sorted-list.applied v ∙ fun_ext (λ b. sym (found-over bs f v b))

pub view-is : (s : State) (bs : List ℕ) → staged_in s.session ≡ bs → view s ≡ shown s.device.block (numbered bs s.work.block)
unfolding view
view-is s bs q = fun_ext (λ b. ap (λ (l : List ℕ). found (place b l) (s.device.block b) s.work.block) q)

-- ---- staging keeps them

abbrev pub Imaged : Staged → Type 0
Imaged t = (i : ℕ) → i < length t.blocks → length (t.image i) ≡ block_size

stage-imaged : (t : Staged) (w : BlockStore) → length w.content ≡ block_size → Imaged t → Imaged (stage t w)
stage-imaged t w long g = go (place w.block t.blocks) refl
  where
    one : (i j : ℕ) → ((j ≡ i → ⊥) → length (t.image j) ≡ block_size) → length (with_block i w.content t.image j) ≡ block_size
    one i j h = pick (eqb j i) refl
      where
        pick : (b : Bool) → eqb j i ≡ b → length (cond b w.content (t.image j)) ≡ block_size
        pick true q = long
        pick false q = h (eqb-false j i q)

    go : (o : Option ℕ) → place w.block t.blocks ≡ o → Imaged (stage t w)
    go none q = rw (stage-new t w q)
        (λ i h. one (length t.blocks) i (λ z. g i (omega (arith, z, h, length-append t.blocks (w.block ∷ [])))))
    go (some j) q = rw (stage-again t w j q) (λ i h. one j i (λ z. g i h))

-- after a call's stores
record Grown (N : ℕ) (t u : Staged) : Type 0 where
  listed : Listed N u.blocks
  images : Imaged u
  longer : length t.blocks ≤ length u.blocks

stage-each : (N : ℕ) (ws : List BlockStore) (t : Staged) → Targets N (targets_of ws) → Long ws → Listed N t.blocks → Imaged t → Grown N t (stage_each t ws)
stage-each N [] t h a l g = record { listed = l; images = g; longer = omega arith }
stage-each N (w ∷ ws) t h a l g =
    let r = stage-each N ws (stage t w) h.3 a.1 (stage-listed N t w l (range-target N w.block h.0 h.1)) (stage-imaged t w a.0 g) in
    record { listed = r.listed; images = r.images; longer = omega (arith, r.longer, stage-longer t w) }

module _ (N : ℕ) (s : State) (valid : Valid N s.session) (images : Imaged (staged_of s)) (ws : List BlockStore) (targets : Targets N (targets_of (ascending ws))) (long : Long ws)
    (few : length (stage_all s ws).blocks ≤ log_length) where
  grown : Grown N (staged_of s) (stage_all s ws)
  unfolding stage_all
  grown = stage-each N (ascending ws) (staged_of s) targets (long-ascending ws long) valid.listed images

  pub staging-valid : Valid N (with_staging s (stage_all s ws)).session
  staging-valid = valid-staged N s.session (stage_all s ws).blocks valid grown.longer few grown.listed

  pub staging-images : Imaged (stage_all s ws)
  staging-images = grown.images
