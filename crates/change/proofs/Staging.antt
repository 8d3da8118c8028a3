-- Laws of staging an agenda block by block, each content from the working copy as it then is. Assumes nothing.
use Prim.Native.Nat.{ℕ, suc, ◌+◌, ◌<◌, ◌≤◌}
use mathlib.Core.Path.{◌≡◌, refl, sym, ap, ap₂, ◌∙◌, subst}
use mathlib.Core.Bool.{Bool, true, false}
use mathlib.Core.List.{List, [], ◌∷◌, ◌++◌}
use mathlib.Core.Option.{Option, none, some}
use native.Mathlib.Omega.{arith}
use borrow.Author.Tests.{ne_eqb, leb-true, lt-leb}
use lib.Dec.{leb}
use lib.ListN.{length, drop, get_or, length-append, drop_of_length-le}
use lib.Seq.{drop-cons}
use native.Mathlib.Numerals.{add-one}
use Rattle.spec.specs.Bytes.{found, place}
use Rattle.spec.specs.Disk.{Disk, with_block}
use Rattle.spec.specs.declared.Session.{Session}
use Rattle.spec.specs.Session.{staged_in, with_staged}
use Rattle.spec.specs.Answers.{done, refused}
use Rattle.spec.specs.Transaction.{State, state_of, view, BlockStore, put, Staged, stage, stage_each, staged_of, stage_all, with_staging, ascending}
use Rattle.spec.specs.Calls.{left, outcome, settle, staging}
use Rattle.lists.specs.Places.{place-lt}
use Rattle.transaction.specs.Places.{spot, blocks_with}
use Rattle.transaction.proofs.Laws.{staged-with, view-stage, with_staged-twice, stage-longer, stage_is}
use Rattle.agenda.specs.declared.Content.{Content}
use Rattle.agenda.specs.declared.Planned.{Planned}
use Rattle.agenda.specs.Agenda.{stores_by, Rising, Lists, fresh_in}
use Rattle.agenda.proofs.Laws.{ascending-rising, fits-is, told-over, none_yet}
use Rattle.change.specs.Change.{Change, change_stores}
use Rattle.change.specs.Contents.{content_of, content_in}

each-longer : (ws : List BlockStore) (u : Staged) → length u.blocks ≤ length (stage_each u ws).blocks
each-longer [] u = omega arith
each-longer (w ∷ ws) u = let a = stage-longer u w in let b = each-longer ws (stage u w) in omega arith

-- where all fit, the next one has a place
spot-fits : (s : Session) (device work : List ℕ) (b : ℕ) (x : List ℕ) (ws : List BlockStore)
    → length (stage_each (staged_of (state_of s device work)) (put b x ∷ ws)).blocks ≤ 32 → spot (staged_in s) b < 32
unfolding spot blocks_with
spot-fits s device work b x ws h = go (place b (staged_in s)) refl
  where
    m : length (found (place b (staged_in s)) (staged_in s ++ (b ∷ [])) (λ i. staged_in s)) ≤ 32
    m =
        let k = each-longer ws (stage (staged_of (state_of s device work)) (put b x)) in
        let e = ap (λ (t : Staged). length t.blocks) (stage_is s device work b x) in
        omega arith

    go : (o : Option ℕ) → place b (staged_in s) ≡ o → found (place b (staged_in s)) (length (staged_in s)) (λ i. i) < 32
    go none q =
        let z : length (staged_in s ++ (b ∷ [])) ≤ 32 = rw q at m in
        rw q (omega (arith, length-append (staged_in s) (b ∷ [])))
    go (some i) q =
        let z : length (staged_in s) ≤ 32 = rw q at m in
        rw q (omega (arith, place-lt b i (staged_in s) q))

-- higher blocks are not touched, so their stores stay what they were
module _ (i : ℕ) (c : Change) where
  stores-agree : (v : Disk) (b low : ℕ) (y : List ℕ) (es : List Planned) → b < low → Rising low (stores_by (content_in v i c) es)
      → stores_by (content_in (with_block b y v) i c) es ≡ stores_by (content_in v i c) es
  unfolding stores_by Rising content_in
  stores-agree v b low y [] h r = refl
  stores-agree v b low y (e ∷ es) h r =
      rw (ne_eqb e.block.0 b (λ q. omega (arith, r.0)), stores-agree v b (suc e.block.0) y es (omega (arith, r.0)) r.1)

  rising-lower : (low lower : ℕ) (ws : List BlockStore) → lower ≤ low → Rising low ws → Rising lower ws
  unfolding Rising
  rising-lower low lower [] h r = r
  rising-lower low lower (w ∷ ws) h r = (omega (arith, r.0), r.1)

  -- what is left to stage from a state leads to a goal
  pub record Going (goal t : State) (es : List Planned) : Type 0 where
    pub is : goal ≡ with_staging t (stage_each (staged_of t) (stores_by (content_in (view t) i c) es))
    pub rising : Rising 0 (stores_by (content_in (view t) i c) es)
    pub room : length (stage_each (staged_of t) (stores_by (content_in (view t) i c) es)).blocks ≤ 32

  pub going-room : (goal : State) (s : Session) (device work : List ℕ) (e : Planned) (es : List Planned) → Going goal (state_of s device work) (e ∷ es) → spot (staged_in s) e.block.0 < 32
  unfolding stores_by
  going-room goal s device work e es g =
      spot-fits s device work e.block.0 (content_in (view (state_of s device work)) i c e.block.0 e.content) (stores_by (content_in (view (state_of s device work)) i c) es) g.room

  staged-stage : (t : State) (u : Staged) → staged_of (with_staging t u) ≡ u
  staged-stage t u = rw (staged-with t.session u.blocks)

  twice : (t : State) (u w : Staged) → length u.blocks ≤ length w.blocks → with_staging (with_staging t u) w ≡ with_staging t w
  twice t u w h = rw (with_staged-twice t.session u.blocks w.blocks h)

  going_step : (goal t t' : State) (e : Planned) (es : List Planned) → Going goal t (e ∷ es)
      → t' ≡ with_staging t (stage (staged_of t) (put e.block.0 (content_in (view t) i c e.block.0 e.content))) → Going goal t' es
  unfolding stores_by Rising
  going_step goal t t' e es g et =
      let b = e.block.0 in
      let y = content_in (view t) i c b e.content in
      let ws = stores_by (content_in (view t) i c) es in
      let u = stage (staged_of t) (put b y) in
      let agree : stores_by (content_in (view (with_staging t u)) i c) es ≡ ws =
      ap (λ (d : Disk). stores_by (content_in d i c) es) (view-stage t (put b y)) ∙ stores-agree (view t) b (suc b) y es (omega arith) g.rising.1
      in
      let all : stage_each (staged_of (with_staging t u)) (stores_by (content_in (view (with_staging t u)) i c) es) ≡ stage_each u ws =
      ap₂ stage_each (staged-stage t u) agree
      in
      subst (λ (z : State). Going goal z es) (sym et)
      (record {
        is = g.is ∙ sym (twice t u (stage_each u ws) (each-longer ws u)) ∙ ap (with_staging (with_staging t u)) (sym all);
        rising = rw agree (rising-lower (suc b) 0 ws (omega arith) g.rising.1);
        room = rw all g.room;
      })

  pub going_end : (goal : State) (s q : Session) (device work : List ℕ) → Going goal (state_of s device work) [] → q ≡ with_staged s (staged_in s) → state_of q device work ≡ goal
  unfolding stores_by
  going_end goal s q device work g e = ap (λ (z : Session). state_of z device work) e ∙ sym g.is

-- the same on the entries of an agenda, from place k on
module _ (i : ℕ) (c : Change) (goal : State) (s : Session) (device work : List ℕ) (es : List Planned) (k : ℕ)
    (g : Going i c goal (state_of s device work) (drop k es)) where
  module _ (h : k < length es) where
    here : Going i c goal (state_of s device work) (get_or es k none_yet ∷ drop (k + 1) es)
    here = let q : drop k es ≡ get_or es k none_yet ∷ drop (k + 1) es = drop-cons es k none_yet h ∙ rw (add-one k) in rw (← q) g

    pub stage-room : spot (staged_in s) (get_or es k none_yet).block.0 < 32
    stage-room = going-room i c goal s device work (get_or es k none_yet) (drop (k + 1) es) here

    pub stage-step : (t : State)
        → t ≡ with_staging (state_of s device work) (stage (staged_of (state_of s device work)) (put (get_or es k none_yet).block.0 (content_of i c (get_or es k none_yet).content (view (state_of s device work) (get_or es k none_yet).block.0))))
        → Going i c goal t (drop (k + 1) es)
    unfolding content_in
    stage-step t et = going_step i c goal (state_of s device work) t (get_or es k none_yet) (drop (k + 1) es) here et

  pub stage-end : length es ≤ k → (q : Session) → q ≡ with_staged s (staged_in s) → state_of q device work ≡ goal
  stage-end h q e = going_end i c goal s q device work (rw (drop_of_length-le es h) at g) e

-- ---- 18

module _ (s : State) (ws : List BlockStore) (r : Bool) (e : r ≡ leb (length (stage_each (staged_of s) (ascending ws)).blocks) 32) where
  pub fits-done : (t : Session) (device work : List ℕ) → r ≡ true → state_of t device work ≡ with_staging s (stage_each (staged_of s) (ascending ws))
      → left t device work done ≡ settle (outcome s) (staging s ws)
  unfolding staging stage_all
  fits-done t device work q h =
      let z : leb (length (stage_each (staged_of s) (ascending ws)).blocks) 32 ≡ true = sym e ∙ q in
      rw z (ap (λ (u : State). outcome u done) h)

  pub fits_not : r ≡ false → outcome s (refused 18 []) ≡ settle (outcome s) (staging s ws)
  unfolding staging stage_all
  fits_not q = let z : leb (length (stage_each (staged_of s) (ascending ws)).blocks) 32 ≡ false = sym e ∙ q in rw z

-- what the answer of `fits` says of the agenda of some stores
module _ (f : ℕ → Content → List ℕ) (s : Session) (device work : List ℕ) (a : List Planned) (ws : List BlockStore) (l : Lists f a (ascending ws)) (r : Bool)
    (e : r ≡ leb (length (staged_in s) + fresh_in (staged_in s) a) 32) where
  fits-ends : r ≡ leb (length (stage_each (staged_of (state_of s device work)) (ascending ws)).blocks) 32
  fits-ends = e ∙ fits-is f a (ascending ws) (staged_of (state_of s device work)) (staged_in s) l (ascending-rising ws) refl

  module _ (h : r ≡ true) where
    fits-rising : Rising 0 (stores_by f a)
    fits-rising = rw l.stores (ascending-rising ws)

    fits-room : length (stage_each (staged_of (state_of s device work)) (stores_by f a)).blocks ≤ 32
    fits-room = rw l.stores (leb-true (length (stage_each (staged_of (state_of s device work)) (ascending ws)).blocks) 32 (sym fits-ends ∙ h))

    fits-staged : (t : State) → t ≡ with_staging (state_of s device work) (stage_each (staged_of (state_of s device work)) (stores_by f a))
        → t ≡ with_staging (state_of s device work) (stage_each (staged_of (state_of s device work)) (ascending ws))
    fits-staged t q = q ∙ rw l.stores

-- of all that a change stages
module _ (s : Session) (device work : List ℕ) (i : ℕ) (c : Change) where
  abbrev before : State
  before = state_of s device work

  abbrev stores : List BlockStore
  stores = change_stores (view before) i c

  -- as code tells it, over a disk u that is the one seen
  module _ (u : Disk) (seen : u ≡ view before) where
    -- 18: more than 32 blocks
    pub change-over : 32 < length (ascending (change_stores u i c)) → outcome before (refused 18 []) ≡ settle (outcome before) (staging before stores)
    change-over l =
        let m : 32 < length (ascending stores) = rw (← seen) l in
        let z : leb (length (stage_each (staged_of before) (ascending stores)).blocks) 32 ≡ false =
        lt-leb (length (stage_each (staged_of before) (ascending stores)).blocks) 32 (told-over (ascending stores) (staged_of before) (ascending-rising stores) m) in
        fits_not before stores false (sym z) refl

    -- its agenda, and whether that fits behind the blocks that are staged
    module _ (xs : List ℕ) (held : xs ≡ staged_in s) (a : List Planned) (lists : Lists (content_in u i c) a (ascending (change_stores u i c)))
        (r : Bool) (fits : r ≡ leb (length xs + fresh_in xs a) 32) where
      l : Lists (content_in (view before) i c) a (ascending stores)
      l = subst (λ (v : Disk). Lists (content_in v i c) a (ascending (change_stores v i c))) seen lists

      e : r ≡ leb (length (staged_in s) + fresh_in (staged_in s) a) 32
      e = subst (λ (ys : List ℕ). r ≡ leb (length ys + fresh_in ys a) 32) held fits

      ends : r ≡ leb (length (stage_each (staged_of before) (ascending stores)).blocks) 32
      ends = fits-ends _ s device work a stores l r e

      module _ (q : r ≡ true) where
        pub change-rising : Rising 0 (stores_by (content_in (view before) i c) a)
        change-rising = fits-rising _ s device work a stores l r e q

        pub change-room : length (stage_each (staged_of before) (stores_by (content_in (view before) i c) a)).blocks ≤ 32
        change-room = fits-room _ s device work a stores l r e q

        pub change-done : (t : Session) (d w : List ℕ)
            → state_of t d w ≡ with_staging before (stage_each (staged_of before) (stores_by (content_in (view before) i c) a))
            → outcome (state_of t d w) done ≡ settle (outcome before) (staging before stores)
        change-done t d w z = fits-done before stores r ends t d w q (fits-staged _ s device work a stores l r e q (state_of t d w) z)

      pub change-full : r ≡ false → outcome before (refused 18 []) ≡ settle (outcome before) (staging before stores)
      change-full q = fits_not before stores r ends q
