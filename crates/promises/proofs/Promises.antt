-- What the store promises of the three calls of a line, at any moment of any list of calls and cuts: 14, 15 and 16 alone hinder them. Assumes nothing.
use Rattle.std.specs.Prelude.{ℕ, zero, suc, ◌+◌, ◌*◌, ◌-◌, ◌≤◌, ◌<◌, ◌≡◌, refl, Bool, true, cond, not, ◌&&◌, ◌||◌, eqb, ltb, length}
use Rattle.std.proofs.Common.{sym, ap₂, ◌∙◌, subst, true≢false, arith, ne_eqb}
use Rattle.std.proofs.Math.Path.{ap, fun_ext}
use Rattle.std.proofs.Math.Bool.{false}
use mathlib.Core.List.{List, [], ◌∷◌, ◌++◌}
use Rattle.std.proofs.Math.Option.{Option, none, some, map, some-injective, some-ne-none}
use Rattle.spec.specs.Layout.{block_size, data_start, fewest_blocks, most_blocks, work_size, max_file_size, inode_count}
use Rattle.spec.specs.Bytes.{found, place, is_some, all_zero, keep, up_from, member, all}
use Rattle.spec.specs.Disk.{Disk, Slice, disk_block, is_allowed}
use Rattle.spec.specs.Bitmap.{bits_of, free_bits}
use Rattle.spec.specs.Inode.{is_name, name_at, is_empty, find, find_empty, reached}
use Rattle.spec.specs.Sound.{free_blocks}
use Rattle.spec.specs.declared.Session.{Session}
use Rattle.spec.specs.declared.Refusal.{Refusal}
use Rattle.spec.specs.declared.Refusal.TheVariants.{DeviceSize, WorkSize, BadName, TooLarge, BadHeader, NotReady, Unknown, Taken, NoInode, NoSpace, TooManyExtents, TooManyStaged, ListShort, DamagedInode, DamagedBlock}
use Rattle.spec.specs.Session.{staged_in, with_staged}
use Rattle.spec.specs.Answers.{Answer, refused, done, started, stored, idle, counted, file, no_file, run, no_run, refusal_of, is_refused, Result, refuse, accept}
use Rattle.spec.specs.Transaction.{State, view}
use Rattle.spec.specs.Calls.{outcome, is_ready, lent_ok, create, write, commit, Change, Create, Write, Call, Do, step}
use Rattle.spec.specs.Plain.{Plain, Mode, Closed, Ready, Committing, Recovering, phase_in, phase_of, place_of, after_change}
use Rattle.spec.specs.Sentences.{File, file_at, free_list, staged_by}
use Rattle.spec.specs.Refusals.{wrong_device, wrong_work, wrong_name, over_limit, wrong_phase, is_ready_mode, name_unknown, of_record, lacks_room, is_scattered, overstaged, fault_of, inode_fault_of, block_fault_of, test, first_failed, due}
use Rattle.spec.specs.CutRule.{call, Both, refusal_in, Moment, Changes, next, Rightly}
use Rattle.block.proofs.Laws.{same_self}
use Rattle.logs.specs.Stores.{Whole}
use Rattle.crash.specs.Theorem.{bounds}
use Rattle.laws.specs.Volume.{VolumeSound, volume-sound, own_name}
use Rattle.laws.specs.Free.{free-count}
use Rattle.laws.specs.FreeList.{free-length}
use Rattle.laws.specs.Records.{name-nonzero}
use Rattle.laws.specs.Tests.{named-known, none-empty}
use Rattle.promises.specs.Reached.{Reached, reached-next, moment-of, rightly-of}
use Rattle.promises.specs.Ready.{create-ready, write-ready, ready_of, commit-eight}
use Rattle.promises.specs.FirstCreate.{Creates, Made, create-makes}
use Rattle.promises.specs.FirstCreate as first
use Rattle.promises.specs.FirstWrite.{made, room-is, extents-is, three-staged, not-overstaged}
use Rattle.promises.specs.Promises.{promised, LineGoes, taken, full, no_room, fits}

-- ---- answers and tests

told-refusal : (a x : Answer) → refusal_in a ≡ some x → a ≡ x
told-refusal (refused n vs) x h = some-injective (refused n vs) x h
told-refusal done x h = absurd (some-ne-none x (sym h))
told-refusal (started n) x h = absurd (some-ne-none x (sym h))
told-refusal (stored b l n) x h = absurd (some-ne-none x (sym h))
told-refusal idle x h = absurd (some-ne-none x (sym h))
told-refusal (counted n) x h = absurd (some-ne-none x (sym h))
told-refusal (file y n) x h = absurd (some-ne-none x (sym h))
told-refusal no_file x h = absurd (some-ne-none x (sym h))
told-refusal (run e) x h = absurd (some-ne-none x (sym h))
told-refusal no_run x h = absurd (some-ne-none x (sym h))

told-accepted : (a : Answer) → refusal_in a ≡ none → is_refused a ≡ false
told-accepted (refused n vs) h = absurd (some-ne-none (refused n vs) h)
told-accepted done h = refl
told-accepted (started n) h = refl
told-accepted (stored b l n) h = refl
told-accepted idle h = refl
told-accepted (counted n) h = refl
told-accepted (file y n) h = refl
told-accepted no_file h = refl
told-accepted (run e) h = refl
told-accepted no_run h = refl

-- the tests of a call on a state, by their results
abbrev rows : (a b c d e f g h i j k l m n o : Bool) → State → Option Refusal
rows a b c d e f g h i j k l m n o s =
    first_failed
    (test a DeviceSize ∷ test b WorkSize ∷ test c BadName ∷ test d TooLarge ∷ test e (BadHeader (found (fault_of s) 0 (λ x. x)))
    ∷ test f (DamagedInode (found (inode_fault_of s) 0 (λ x. x))) ∷ test g (DamagedBlock (disk_block (found (block_fault_of s) 0 (λ x. x)))) ∷ test h NotReady
    ∷ test i Unknown ∷ test j Taken ∷ test k NoInode ∷ test l NoSpace ∷ test m TooManyExtents ∷ test n TooManyStaged ∷ test o ListShort ∷ [])

lent-shows : (s : State) (t : Bool) → lent_ok s ≡ accept t
    → (is_allowed s.device.size ≡ true) × (eqb (block_size * s.session.blocks) s.device.size ≡ true) × (eqb s.work.size work_size ≡ true)
unfolding lent_ok
lent-shows s t h = go (is_allowed s.device.size) refl (eqb (block_size * s.session.blocks) s.device.size) refl (eqb s.work.size work_size) refl
  where
    no : {r : Refusal} → ◌≡◌ {A = Result Bool} (refuse r) (accept t) → ⊥
    no e = let z : ◌≡◌ {A = ℕ} 0 1 = cc in omega arith

    go : (a : Bool) → is_allowed s.device.size ≡ a → (b : Bool) → eqb (block_size * s.session.blocks) s.device.size ≡ b → (c : Bool) → eqb s.work.size work_size ≡ c
        → (is_allowed s.device.size ≡ true) × (eqb (block_size * s.session.blocks) s.device.size ≡ true) × (eqb s.work.size work_size ≡ true)
    go true p true q true u = (p, q, u)
    go true p true q false u = let z : refuse WorkSize ≡ accept t = rw (p, q, u) at h in absurd (no z)
    go true p false q c u = let z : refuse DeviceSize ≡ accept t = rw (p, q) at h in absurd (no z)
    go false p b q c u = let z : refuse DeviceSize ≡ accept t = rw p at h in absurd (no z)

pub ready-mode : (m : Mode) (d : ℕ) → is_ready (phase_in m d) ≡ true → m ≡ Ready
ready-mode Closed d h = absurd (true≢false (sym h))
ready-mode Ready d h = refl
ready-mode Committing d h = absurd (true≢false (sym h))
ready-mode Recovering d h = absurd (true≢false (sym h))

head_in : (f : ℕ → Bool) (a n x : ℕ) (xs : List ℕ) → keep f (up_from a n) ≡ x ∷ xs → (a ≤ x) × (x < a + n)
head_in f a zero x xs h = let z : ◌≡◌ {A = ℕ} 0 1 = cc in absurd (omega arith)
head_in f a (suc n) x xs h = go (f a) refl (head_in f (suc a) n x xs)
  where
    go : (t : Bool) → f a ≡ t → (keep f (up_from (suc a) n) ≡ x ∷ xs → (suc a ≤ x) × (x < suc a + n)) → (a ≤ x) × (x < a + suc n)
    go true e ih = let q : a ∷ keep f (up_from (suc a) n) ≡ x ∷ xs = rw e at h in let z : a ≡ x = cc in (omega arith, omega arith)
    go false e ih = let q = ih (rw e at h) in (omega (arith, q.0), omega (arith, q.1))

-- ---- create, a write of eight bytes at 0 and commit, on a ready session with nothing staged

module _ (N : ℕ) (b : Both) (r : Reached N b) (t : Bool) (lent : lent_ok b.store ≡ accept t) (ready : is_ready b.store.session.phase ≡ true)
    (bare : staged_in b.store.session ≡ []) (name amount : List ℕ) (named : is_name name ≡ true) (eight : length amount ≡ 8)
  where
    abbrev s : State
    s = b.store

    abbrev p : Plain
    p = b.plain

    abbrev v : Disk
    v = view b.store

    m : Moment N b
    m = moment-of N b r

    bare-view : view s ≡ s.device.block
    unfolding view
    bare-view = fun_ext (λ c. ap (λ (bs : List ℕ). found (place c bs) (s.device.block c) s.work.block) bare)

    whole : Whole (view s)
    whole = subst Whole (sym bare-view) m.whole

    blocks_is : s.session.blocks ≡ p.blocks
    unfolding with_staged
    blocks_is = ap (λ (n : Session). n.blocks) m.session

    phase-is : s.session.phase ≡ phase_of p
    unfolding with_staged
    phase-is = ap (λ (n : Session). n.phase) m.session

    mode-is : p.mode ≡ Ready
    mode-is = ready-mode p.mode (place_of p) (ap is_ready (sym phase-is) ∙ ready)

    map_is : is_some (p.working name) ≡ is_some (find v name)
    map_is = ap is_some (sym (m.view-files mode-is name)) ∙ named-known v name named

    limits : (fewest_blocks ≤ N) × (N ≤ most_blocks)
    limits = bounds N s.device.size (lent-shows s t lent).0 m.size

    low : data_start ≤ N
    low = omega (arith, limits.0)

    sound-is : VolumeSound N v
    sound-is = (volume-sound N v).0 (m.view-sound mode-is)

    free-is : find v name ≡ none → p.working name ≡ none
    free-is e = go (p.working name) (map_is ∙ ap is_some e)
      where
        go : (o : Option (List ℕ)) → is_some o ≡ false → o ≡ none
        go none h = refl
        go (some x) h = absurd (true≢false h)

    known_is : (i : ℕ) → find v name ≡ some i → (content : List ℕ) × (p.working name ≡ some content)
    known_is i e = go (p.working name) (map_is ∙ ap is_some e)
      where
        go : (o : Option (List ℕ)) → is_some o ≡ true → (content : List ℕ) × (o ≡ some content)
        go none h = absurd (true≢false (sym h))
        go (some x) h = (x, refl)

    records-are : (q : Option ℕ) → find_empty v ≡ q → all (λ i. not (is_empty v i)) (up_from 0 inode_count) ≡ not (is_some q)
    records-are q e = none-empty v ∙ ap (λ (o : Option ℕ). not (is_some o)) e

    -- ---- the file is made

    module _ (i : ℕ) (found-empty : find_empty v ≡ some i) (hi : i < inode_count) (cr : Creates s i (create s name)) where
      abbrev b₁ : Both
      b₁ = next step N b (call (Do (Create name)))

      abbrev v₁ : Disk
      v₁ = view (create s name).after

      unrefused : is_refused (create s name).answer ≡ false
      unrefused = ap is_refused cr.answer

      r₁ : Reached N b₁
      r₁ = reached-next N b (call (Do (Create name))) r

      m₁ : Moment N b₁
      m₁ = moment-of N b₁ r₁

      plain-is : b₁.plain ≡ after_change p (Create name)
      plain-is = (promised N b r (Create name)).plainly unrefused

      mode₁ : b₁.plain.mode ≡ Ready
      mode₁ = ap (λ (q : Plain). q.mode) plain-is ∙ mode-is

      ch : Changes N b (Create name) (create s name)
      ch = (rightly-of N b r (Do (Create name))).accepted unrefused

      file₁ : file_at v₁ i ≡ made name
      file₁ = ap (file_at v₁) (some-injective i ch.inode (sym found-empty ∙ ch.is-inode)) ∙ ch.file

      sound₁ : VolumeSound N v₁
      sound₁ = (volume-sound N v₁).0 (m₁.view-sound mode₁)

      name₁ : name_at v₁ i ≡ name
      name₁ = ap (λ (f : File). f.name) file₁

      find₁ : find v₁ name ≡ some i
      find₁ = ap (find v₁) (sym name₁) ∙ own_name N v₁ sound₁ i hi (ap all_zero name₁ ∙ name-nonzero name named)

      -- the free blocks are those of before
      free₁ : length (free_list N v₁) ≡ free_blocks N v
      free₁ =
          free-length N v₁ low limits.1 cr.whole sound₁
          ∙ ap (λ (x : List ℕ). free_bits (bits_of x)) cr.table
          ∙ free-count N v low limits.1 whole sound-is

      -- ---- the tests of the write, in their order

      abbrev c₁ : Call
      c₁ = Do (Write name 0 amount)

      abbrev s₁ : State
      s₁ = (create s name).after

      device-passes : wrong_device b₁.plain s₁ c₁ ≡ false
      device-passes =
          let l = lent-shows s t lent in
          let d : s₁.device.size ≡ s.device.size = ap (λ (x : Slice). x.size) ch.device in
          let a : is_allowed s₁.device.size ≡ true = ap is_allowed d ∙ l.0 in
          let n : b₁.plain.blocks ≡ s.session.blocks = ap (λ (q : Plain). q.blocks) plain-is ∙ sym blocks_is in
          let e : eqb (block_size * b₁.plain.blocks) s₁.device.size ≡ true = ap₂ (λ (x y : ℕ). eqb (block_size * x) y) n d ∙ l.1 in
          λ j. not (a j) || not (false || false) && not (e j)

      work-passes : wrong_work s₁ c₁ ≡ false
      work-passes =
          let e : eqb s₁.work.size work_size ≡ true = ap (λ (n : ℕ). eqb n work_size) ch.work ∙ (lent-shows s t lent).2 in
          λ j. not (false || false) && not (e j)

      name-passes : wrong_name c₁ ≡ false
      name-passes = λ j. not (not (not (named j)) && true) || false

      size-passes : over_limit c₁ ≡ false
      size-passes = ap (λ (n : ℕ). ltb max_file_size (0 + n)) eight

      phase-passes : wrong_phase b₁.plain c₁ ≡ false
      phase-passes = λ j. not (false || false || false) && not (is_ready_mode (mode₁ j))

      known-passes : name_unknown b₁.plain c₁ ≡ false
      known-passes =
          let w : b₁.plain.working name ≡ some [] = ap (λ (q : Plain). q.working name) plain-is ∙ ap (λ u. cond u (some []) (p.working name)) (same_self name) in
          λ j. not (not (not (is_some (w j))) && true) || false

      of-record : (f : ℕ → Change → Bool) → of_record f s₁ c₁ ≡ f i (Write name 0 amount)
      of-record f = ap (λ (o : Option ℕ). found o false (λ k. f k (Write name 0 amount))) find₁

      room-passes : of_record (lacks_room N s₁) s₁ c₁ ≡ eqb (length (free_list N v₁)) 0
      room-passes = of-record (lacks_room N s₁) ∙ room-is name amount eight N s₁ i file₁

      extents-pass : of_record (is_scattered N s₁) s₁ c₁ ≡ false
      extents-pass = of-record (is_scattered N s₁) ∙ extents-is name amount eight N s₁ i file₁

      due-is : (k o : Bool) → eqb (length (free_list N v₁)) 0 ≡ k → of_record (overstaged N s₁) s₁ c₁ ≡ o
          → due N b₁.plain s₁ c₁ ≡ rows false false false false false false false false false false false k false o false s₁
      unfolding due
      due-is k o e f =
          let z = room-passes ∙ e in
          λ j. rows (device-passes j) (work-passes j) (name-passes j) (size-passes j) false false false (phase-passes j) (known-passes j) false false (z j) (extents-pass j) (f j) false s₁

      write-rightly : Rightly step N b₁ c₁
      write-rightly = rightly-of N b₁ r₁ c₁

      wrote : refusal_in (write s₁ name 0 amount).answer ≡ map refusal_of (due N b₁.plain s₁ c₁)
      wrote = write-rightly.refused

      -- no block is free
      write-stops : eqb (length (free_list N v₁)) 0 ≡ true → write s₁ name 0 amount ≡ outcome s₁ (refusal_of NoSpace)
      write-stops e =
          let a : (write s₁ name 0 amount).answer ≡ refusal_of NoSpace =
          told-refusal (write s₁ name 0 amount).answer (refusal_of NoSpace) (wrote ∙ ap (map refusal_of) (due-is true (of_record (overstaged N s₁) s₁ c₁) e refl)) in
          write-rightly.kept (ap is_refused a) ∙ ap (outcome s₁) a

      -- a block is free
      module _ (x : ℕ) (xs : List ℕ) (free : free_list N v₁ ≡ x ∷ xs) where
        inside : (data_start ≤ x) × (x < N)
        inside = let h = head_in (λ k. not (member k (reached v₁))) data_start (N - data_start) x xs free in (h.0, omega (arith, h.1, low))

        few : of_record (overstaged N s₁) s₁ c₁ ≡ false
        few = of-record (overstaged N s₁) ∙ not-overstaged name amount eight N v₁ i file₁ x xs free inside.0 inside.1 hi (staged_in s₁.session) cr.staged

        some-free : eqb (length (free_list N v₁)) 0 ≡ false
        some-free = ap (λ (l : List ℕ). eqb (length l) 0) free ∙ ne_eqb (suc (length xs)) 0 (λ q. omega arith)

        passes : is_refused (write s₁ name 0 amount).answer ≡ false
        passes = told-accepted (write s₁ name 0 amount).answer (wrote ∙ ap (map refusal_of) (due-is false false some-free few))

        ch₂ : Changes N b₁ (Write name 0 amount) (write s₁ name 0 amount)
        ch₂ = write-rightly.accepted passes

        write_goes : (write s₁ name 0 amount).answer ≡ done
        write_goes = ch₂.answer

        staged₂ : length (staged_in (write s₁ name 0 amount).after.session) ≡ 3
        staged₂ =
            let e : ch₂.inode ≡ i = some-injective ch₂.inode i (sym ch₂.is-inode ∙ find₁) in
            ap length ch₂.staged
            ∙ ap (λ (k : ℕ). length (staged_in s₁.session ++ keep (λ y. not (member y (staged_in s₁.session))) (staged_by N v₁ k (Write name 0 amount)))) e
            ∙ three-staged name amount eight N v₁ i file₁ x xs free inside.0 inside.1 hi (staged_in s₁.session) cr.staged

        commit-goes : (commit (write s₁ name 0 amount).after).answer ≡ started 8
        commit-goes =
            commit-eight (write s₁ name 0 amount).after true
            (write-ready s₁ name 0 amount passes ∙ create-ready s name unrefused ∙ ready_of s t lent ready) staged₂

      after-create : find v name ≡ none → LineGoes N b name amount
      after-create e = go (free_list N v₁) refl
        where
          go : (l : List ℕ) → free_list N v₁ ≡ l → LineGoes N b name amount
          go [] h =
              no_room (free-is e) (records-are (some i) found-empty) (sym free₁ ∙ ap length h) cr.answer
              (write-stops (ap (λ (l : List ℕ). eqb (length l) 0) h))
          go (x ∷ xs) h =
              fits (free-is e) (records-are (some i) found-empty) (let z : length (free_list N v₁) ≡ suc (length xs) = ap length h in omega (arith, free₁)) cr.answer
              (write_goes x xs h) (commit-goes x xs h)

    -- the three calls, and what hinders them
    pub line-promise : LineGoes N b name amount
    line-promise = go (create-makes s bare whole name named t lent ready)
      where
        go : Made s bare whole name named → LineGoes N b name amount
        go (first.taken i e h) = let k = known_is i e in taken k.0 k.1 h
        go (first.full e q h) = full (free-is e) (records-are none q) h
        go (first.makes i e q hi cr) = after-create i q hi cr e
