-- A2: refusal 22 of open names the lowest record that breaks S2 to S6 or S8, and 23 the lowest block that breaks S1 or S7. Assumes nothing.
use Rattle.std.specs.Prelude.{ℕ, zero, suc, ◌/◌, ◌≤◌, ◌<◌, ◌≡◌, refl, Bool, true, false, cond, not, ◌↔◌, [], ◌∷◌, eqb, length}
use Rattle.std.proofs.Common.{sym, ap, ap₂, ◌∙◌, inl, inr, eqb-true, eq-eqb, arith}
use Rattle.std.proofs.lemmas.Bool.{not-true, not-false, eqb-false}
use Rattle.std.proofs.Math.Option.{Option, none, some}
use Rattle.spec.specs.Layout.{block_size, header_block, inode_count}
use Rattle.spec.specs.Bytes.{occurs, same}
use Rattle.spec.specs.Disk.{Disk, is_allowed, in_data}
use Rattle.spec.specs.Inode.{inode_bytes, name_at, is_empty, find, reached}
use Rattle.spec.specs.Sound.{first_of_name, file_sound, inode_sound, inode_fault, block_sound, block_fault}
use Rattle.spec.specs.Answers.{Answer, refused, done}
use Rattle.spec.specs.Transaction.{State}
use Rattle.spec.specs.Journal.{targets_in, header_fault}
use Rattle.spec.specs.Calls.{open_phase, open_store, Open, step}
use Rattle.lists.specs.Tests.{and_both, both_true, not-both, false_of}
use Rattle.lists.specs.Lowest.{lowest-some, lowest-is, lowest-none, lowest-no}
use Rattle.block.proofs.Laws.{same_true}
use Rattle.crash.specs.Exact.{opening}
use Rattle.laws.specs.Bytes.{same_of}
use Rattle.laws.specs.Soundness.{Inside, inside_of, outside_of, file-of, file-test}
use Rattle.laws.specs.Volume.{bit, bit_count, first_of, first-test, record-used, record-empty, record-test, block-lowest}
use Rattle.laws.specs.Reached.{bit-small, files-inside}
use Rattle.laws.specs.Damage.{InodeSound, LowestInode, InUse, BlockDamaged, LowestBlock, OpensEmpty}

-- ---- one record

module _ (v : Disk) (i : ℕ) where
  first-says : first_of_name v i ≡ true → (j : ℕ) → j < i → name_at v j ≡ name_at v i → ⊥
  unfolding find
  first-says h j l e =
      let r = lowest-some 0 inode_count (λ k. same (name_at v k) (name_at v i)) i (first_of v i h) in
      not-both (same_of (name_at v j) (name_at v i) e) (r.first j (omega arith) l)

  first-of : i < inode_count → ((j : ℕ) → j < i → name_at v j ≡ name_at v i → ⊥) → first_of_name v i ≡ true
  unfolding find
  first-of up h =
      first-test v i
      (lowest-is 0 inode_count (λ k. same (name_at v k) (name_at v i)) i
      (record {
        passes = same_of (name_at v i) (name_at v i) refl;
        from = omega arith;
        below = up;
        first = λ j lo l. false_of (same (name_at v j) (name_at v i)) (λ p. h j l (same_true (name_at v j) (name_at v i) p));
      }))

module _ (N : ℕ) (v : Disk) (i : ℕ) where
  inode-of : inode_sound N v i ≡ true → InodeSound N v i
  inode-of h =
      let used : (e : is_empty v i ≡ false) → (first_of_name v i ≡ true) × (file_sound N v (inode_bytes v i) ≡ true) =
      λ e. both_true (first_of_name v i) (file_sound N v (inode_bytes v i)) (record-used N v i h e)
      in
      record { empty = record-empty N v i h; name = λ e. first-says v i (used e).0; file = λ e. file-of N v (inode_bytes v i) (used e).1 }

  inode-test : i < inode_count → InodeSound N v i → inode_sound N v i ≡ true
  inode-test up s =
      record-test N v i s.empty (λ e. and_both (first_of_name v i) (file_sound N v (inode_bytes v i)) (first-of v i up (s.name e)) (file-test N v (inode_bytes v i) (s.file e)))

module _ (N : ℕ) (v : Disk) where
  pub inode-fault : (i : ℕ) → (inode_fault N v ≡ some i) ↔ LowestInode N v i
  unfolding inode_fault
  inode-fault i = (says, finds)
    where
      says : inode_fault N v ≡ some i → LowestInode N v i
      says h =
          let r = lowest-some 0 inode_count (λ i. not (inode_sound N v i)) i h in
          record {
            inside = r.below;
            damaged = λ s. not-both (inode-test N v i r.below s) (not-true (inode_sound N v i) r.passes);
            lower = λ j l. inode-of N v j (not-false (inode_sound N v j) (r.first j (omega arith) l));
          }

      finds : LowestInode N v i → inode_fault N v ≡ some i
      finds l =
          lowest-is 0 inode_count (λ i. not (inode_sound N v i)) i
          (record {
            passes = ap not (false_of (inode_sound N v i) (λ h. l.damaged (inode-of N v i h)));
            from = omega arith;
            below = l.inside;
            first = λ j lo up. ap not (inode-test N v j (let k = l.inside in omega arith) (l.lower j up));
          })

  pub inodes-sound : (inode_fault N v ≡ none) ↔ ((i : ℕ) → i < inode_count → InodeSound N v i)
  unfolding inode_fault
  inodes-sound = (
    λ h i up. inode-of N v i (not-false (inode_sound N v i) (lowest-none 0 inode_count (λ i. not (inode_sound N v i)) h i (omega arith) up)),
    λ s. lowest-no 0 inode_count (λ i. not (inode_sound N v i)) (λ i lo up. ap not (inode-test N v i up (s i up))),
  )

-- ---- one block, where all records are fine

module _ (N : ℕ) (v : Disk) (s : (i : ℕ) → i < inode_count → InodeSound N v i) (b : ℕ) where
  reached-inside : 1 ≤ occurs b (reached v) → Inside N b
  reached-inside = files-inside N v (λ i up. (s i up).file) b

  -- within 42 to N-1: how often it is reached is its bit
  within-right : Inside N b → occurs b (reached v) ≡ bit v b → BlockDamaged N v b → ⊥
  within-right i e (inr o) = let l = bit-small v b in omega (arith, e, l)
  within-right i e (inl w) = w (record { one = one; zero = zero-of })
    where
      one : InUse N v b → bit v b ≡ 1
      one (inl o) = absurd (o i)
      one (inr o) = let l = bit-small v b in omega (arith, e, l)

      zero-of : (InUse N v b → ⊥) → bit v b ≡ 0
      zero-of u = go (occurs b (reached v)) refl
        where
          go : (k : ℕ) → occurs b (reached v) ≡ k → bit v b ≡ 0
          go zero q = sym e ∙ q
          go (suc k) q = absurd (u (inr (omega arith)))

  within-wrong : Inside N b → (occurs b (reached v) ≡ bit v b → ⊥) → BlockDamaged N v b
  within-wrong i ne = go (occurs b (reached v)) refl
    where
      go : (k : ℕ) → occurs b (reached v) ≡ k → BlockDamaged N v b
      go zero q = inl (λ r. ne (q ∙ sym (r.zero free)))
        where
          free : InUse N v b → ⊥
          free (inl o) = o i
          free (inr o) = omega arith
      go (suc zero) q = inl (λ r. ne (q ∙ sym (r.one (inr (omega arith)))))
      go (suc (suc k)) q = inr (omega arith)

  -- below 42 and from N up: the bit is 1
  outside-right : (Inside N b → ⊥) → bit v b ≡ 1 → BlockDamaged N v b → ⊥
  outside-right o e (inr r) = o (reached-inside (omega arith))
  outside-right o e (inl w) = w (record { one = λ u. e; zero = λ u. absurd (u (inl o)) })

  block-right : block_sound N (reached v) b (bit v b) ≡ true → BlockDamaged N v b → ⊥
  block-right h = go (in_data N b) refl h
    where
      go : (t : Bool) → in_data N b ≡ t → cond t (eqb (occurs b (reached v)) (bit v b)) (eqb (bit v b) 1) ≡ true → BlockDamaged N v b → ⊥
      go true e q = within-right (inside_of N b e) (eqb-true (occurs b (reached v)) (bit v b) q)
      go false e q = outside-right (outside_of N b e) (eqb-true (bit v b) 1 q)

  block-wrong : block_sound N (reached v) b (bit v b) ≡ false → BlockDamaged N v b
  block-wrong h = go (in_data N b) refl h
    where
      go : (t : Bool) → in_data N b ≡ t → cond t (eqb (occurs b (reached v)) (bit v b)) (eqb (bit v b) 1) ≡ false → BlockDamaged N v b
      go true e q = within-wrong (inside_of N b e) (eqb-false (occurs b (reached v)) (bit v b) q)
      go false e q = inl (λ r. eqb-false (bit v b) 1 q (r.one (inl (outside_of N b e))))

  block-test : (BlockDamaged N v b → ⊥) → block_sound N (reached v) b (bit v b) ≡ true
  block-test h = go (block_sound N (reached v) b (bit v b)) refl
    where
      go : (t : Bool) → block_sound N (reached v) b (bit v b) ≡ t → t ≡ true
      go true e = refl
      go false e = absurd (h (block-wrong e))

module _ (N : ℕ) (v : Disk) where
  abbrev wrong : ℕ → Bool
  wrong b = not (block_sound N (reached v) b (bit v b))

  -- the lowest damaged block, where no record is
  pub block-fault : (b : ℕ) → ((inode_fault N v ≡ none) × (block_fault N v ≡ some b)) ↔ LowestBlock N v b
  block-fault b = (says, finds)
    where
      says : (inode_fault N v ≡ none) × (block_fault N v ≡ some b) → LowestBlock N v b
      says h =
          let s = (inodes-sound N v).0 h.0 in
          let r = lowest-some 0 (bit_count v) wrong b (sym (block-lowest N v) ∙ h.1) in
          let up = r.below in
          record {
            inodes = s;
            inside = omega (arith, up);
            damaged = block-wrong N v s b (not-true (block_sound N (reached v) b (bit v b)) r.passes);
            lower = λ c l. block-right N v s c (not-false (block_sound N (reached v) c (bit v c)) (r.first c (omega arith) l));
          }

      finds : LowestBlock N v b → (inode_fault N v ≡ none) × (block_fault N v ≡ some b)
      finds l = (
        (inodes-sound N v).1 l.inodes,
        block-lowest N v
            ∙ lowest-is 0 (bit_count v) wrong b
            (record {
              passes = ap not (false_of (block_sound N (reached v) b (bit v b)) (λ h. block-right N v l.inodes b h l.damaged));
              from = omega arith;
              below = let up = l.inside in omega (arith, up);
              first = λ c lo up. ap not (block-test N v l.inodes c (l.lower c up));
            }),
      )

-- ---- what open answers

-- by the two searches
abbrev told : Option ℕ → Option ℕ → Answer
told (some i) b = refused 22 (i ∷ [])
told none (some b) = refused 23 (b ∷ [])
told none none = done

told-inode : (o p : Option ℕ) (i : ℕ) → told o p ≡ refused 22 (i ∷ []) → o ≡ some i
told-inode (some j) p i h = cc
told-inode none (some b) i h = cc
told-inode none none i h = cc

told-block : (o p : Option ℕ) (b : ℕ) → told o p ≡ refused 23 (b ∷ []) → (o ≡ none) × (p ≡ some b)
told-block (some j) p b h = absurd (let z : ◌≡◌ {A = ℕ} 22 23 = cc in omega arith)
told-block none (some c) b h = (refl, cc)
told-block none none b h = (refl, cc)

module _ (s : State) (e : OpensEmpty s) where
  abbrev N : ℕ
  N = s.device.size / block_size

  abbrev v : Disk
  v = s.device.block

  opened : (a : Bool) (o : Option ℕ) (t : Bool) → a ≡ true → o ≡ none → t ≡ true → (i b : Option ℕ) → (opening a o t i b s).answer ≡ told i b
  opened a o t ea eo et i b = rw (ea, eo, et) (go i b)
    where
      go : (i b : Option ℕ) → (opening true none true i b s).answer ≡ told i b
      go (some i) b = refl
      go none (some b) = refl
      go none none = refl

  opened-told : (step s Open).answer ≡ told (inode_fault N v) (block_fault N v)
  unfolding open_store open_phase
  opened-told =
      opened (is_allowed s.device.size) (header_fault N (v header_block)) (eqb (length (targets_in (v header_block))) 0) e.length-allowed e.header
      (eq-eqb (length (targets_in (v header_block))) 0 e.unlisted) (inode_fault N v) (block_fault N v)

  -- 22 with record i exactly where it is the lowest that breaks S2 to S6 or S8
  pub damaged-inode : (i : ℕ) → ((step s Open).answer ≡ refused 22 (i ∷ [])) ↔ LowestInode N v i
  damaged-inode i = (
    λ h. (inode-fault N v i).0 (told-inode (inode_fault N v) (block_fault N v) i (sym opened-told ∙ h)),
    λ l. opened-told ∙ ap (λ o. told o (block_fault N v)) ((inode-fault N v i).1 l),
  )

  -- 23 with block b exactly where all records are fine and it is the lowest whose bit is wrong or which is reached twice
  pub damaged-block : (b : ℕ) → ((step s Open).answer ≡ refused 23 (b ∷ [])) ↔ LowestBlock N v b
  damaged-block b = (
    λ h. (block-fault N v b).0 (told-block (inode_fault N v) (block_fault N v) b (sym opened-told ∙ h)),
    λ l. let f = (block-fault N v b).1 l in opened-told ∙ ap₂ told f.0 f.1,
  )
