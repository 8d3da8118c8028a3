-- "Replace file i": a sound disk on which record i, its blocks and the bits change is sound, and its map changes at record i's names alone. Assumes nothing.
use Rattle.std.specs.Prelude.{ℕ, ◌+◌, ◌≤◌, ◌<◌, ◌≡◌, refl, Bool, true, false, cond, List, eqb, length}
use Rattle.std.proofs.Common.{sym, ap, ◌∙◌, subst, arith, eqb-true, eq-eqb}
use Rattle.std.proofs.Math.Option.{Option, none, some}
use Rattle.std.proofs.lemmas.Bool.{eqb-false}
use Rattle.spec.specs.Layout.{bitmap_block, inode_count, name_size}
use Rattle.spec.specs.Bytes.{found, same, occurs, all_zero}
use Rattle.spec.specs.Disk.{Disk}
use Rattle.spec.specs.Inode.{is_name, inode_bytes, inode_at, name_at, is_empty, find, reached_from, reached}
use Rattle.spec.specs.Map.{content_of, files_of}
use Rattle.spec.specs.Plain.{at}
use Rattle.lists.specs.Tests.{both_ways, not-both, false_of}
use Rattle.block.proofs.Laws.{same_true}
use Rattle.bitmap.specs.Words.{Below}
use Rattle.laws.specs.Bytes.{same_of}
use Rattle.laws.specs.Soundness.{Inside, FileSound}
use Rattle.laws.specs.Volume.{bit, bit_count, VolumeSound, find-some, find-only, find-no, find-agree}
use Rattle.laws.specs.Frame.{Agree}
use Rattle.laws.specs.Good.{InBytes, Good, kept-bytes}
use Rattle.laws.specs.Reached.{name-used, files-named, files-unnamed, reached-replace, reach-inside, reach-marked, reach-apart, kept-name, kept-empty, kept-reach, kept-content, kept-file}

-- disk w is v with record i replaced
pub record Replaced (N : ℕ) (v w : Disk) (i : ℕ) : Type 0 where
  -- the other records
  pub others : (j : ℕ) → j < inode_count → (j ≡ i → ⊥) → inode_bytes w j ≡ inode_bytes v j
  -- blocks that are neither record i's nor free
  pub kept : (b : ℕ) → Inside N b → occurs b (reached_from v i) ≡ 0 → (bit v b ≡ 0 → ⊥) → w b ≡ v b
  -- record i
  pub emptied : is_empty w i ≡ true → all_zero (inode_bytes w i) ≡ true
  pub filed : is_empty w i ≡ false → FileSound N w (inode_bytes w i)
  pub fresh : is_empty w i ≡ false → (j : ℕ) → j < inode_count → (j ≡ i → ⊥) → name_at v j ≡ name_at w i → ⊥
  -- the bits
  pub table : bit_count w ≡ bit_count v
  pub fixed : (b : ℕ) → b < bit_count v → (Inside N b → ⊥) → bit w b ≡ bit v b
  pub balance : (b : ℕ) → Inside N b → bit w b + occurs b (reached_from v i) ≡ bit v b + occurs b (reached_from w i)

is_eq : (i j : ℕ) → ((i ≡ j → ⊥) → ⊥) → i ≡ j
is_eq i j h = go (eqb i j) refl
  where
    go : (t : Bool) → eqb i j ≡ t → i ≡ j
    go true e = eqb-true i j e
    go false e = absurd (h (eqb-false i j e))

same-comm : (xs ys : List ℕ) → same xs ys ≡ same ys xs
same-comm xs ys = both_ways (same xs ys) (same ys xs) (λ h. same_of ys xs (sym (same_true xs ys h))) (λ h. same_of xs ys (sym (same_true ys xs h)))

module _ (N : ℕ) (v w : Disk) (i : ℕ) (hi : i < inode_count) (whole : N ≤ bit_count v) (s : VolumeSound N v) (r : Replaced N v w i) where
  -- another record's blocks are as they were
  other-agree : (j : ℕ) → j < inode_count → (j ≡ i → ⊥) → Agree v w (reached_from v j)
  unfolding Agree
  other-agree j hj ne b o =
      r.kept b (reach-inside N v s j b hj o) (reach-apart N v s whole j i b hj hi ne o)
      (λ z. let m = reach-marked N v s whole j b hj o in omega arith)

  other-empty : (j : ℕ) → j < inode_count → (j ≡ i → ⊥) → is_empty w j ≡ is_empty v j
  other-empty j hj ne = kept-empty v w j (r.others j hj ne)

  other_name : (j : ℕ) → j < inode_count → (j ≡ i → ⊥) → name_at w j ≡ name_at v j
  other_name j hj ne = kept-name v w j (r.others j hj ne)

  -- S7
  balanced : (b : ℕ) → b < bit_count w → Inside N b → occurs b (reached w) ≡ bit w b
  balanced b up inn =
      let t = r.table in
      omega (
        arith,
        s.counted b (omega arith) inn,
        r.balance b inn,
        reached-replace v b w i hi (λ j hj ne. kept-reach v w j (r.others j hj ne) (other-agree j hj ne)),
      )

  -- S2
  apart-names : (j k : ℕ) → j < inode_count → k < inode_count → is_empty w j ≡ false → name_at w j ≡ name_at w k → j ≡ k
  apart-names j k hj hk e q = go (eqb j i) refl (eqb k i) refl
    where
      go : (t : Bool) → eqb j i ≡ t → (u : Bool) → eqb k i ≡ u → j ≡ k
      go true p true p' = eqb-true j i p ∙ sym (eqb-true k i p')
      go true p false p' =
          let ji = eqb-true j i p in
          let ne = eqb-false k i p' in
          absurd (r.fresh (ap (is_empty w) (sym ji) ∙ e) k hk ne (sym (other_name k hk ne) ∙ sym q ∙ ap (name_at w) ji))
      go false p true p' =
          let ki = eqb-true k i p' in
          let ne = eqb-false j i p in
          let used : is_empty w i ≡ false = ap (is_empty w) (sym ki) ∙ ap all_zero (sym q) ∙ e in
          absurd (r.fresh used j hj ne (sym (other_name j hj ne) ∙ q ∙ ap (name_at w) ki))
      go false p false p' =
          let nj = eqb-false j i p in
          let nk = eqb-false k i p' in
          s.names j k hj hk (sym (other-empty j hj nj) ∙ e) (sym (other_name j hj nj) ∙ q ∙ other_name k hk nk)

  pub replace-sound : VolumeSound N w
  replace-sound =
      record {
        outside = λ b up o. let t = r.table in let u : b < bit_count v = omega arith in r.fixed b u o ∙ s.outside b u o;
        names = apart-names;
        empties = λ j hj e. empty j hj e (eqb j i) refl;
        files = λ j hj e. file j hj e (eqb j i) refl;
        counted = balanced;
      }
    where
      empty : (j : ℕ) → j < inode_count → is_empty w j ≡ true → (t : Bool) → eqb j i ≡ t → all_zero (inode_bytes w j) ≡ true
      empty j hj e true p = let q = eqb-true j i p in rw q (r.emptied (ap (is_empty w) (sym q) ∙ e))
      empty j hj e false p =
          let ne = eqb-false j i p in
          rw (r.others j hj ne) (s.empties j hj (sym (other-empty j hj ne) ∙ e))

      file : (j : ℕ) → j < inode_count → is_empty w j ≡ false → (t : Bool) → eqb j i ≡ t → FileSound N w (inode_bytes w j)
      file j hj e true p = let q = eqb-true j i p in rw q (r.filed (ap (is_empty w) (sym q) ∙ e))
      file j hj e false p =
          let ne = eqb-false j i p in
          let u = sym (other-empty j hj ne) ∙ e in
          kept-file v w j (r.others j hj ne) (other-agree j hj ne) N u (s.files j hj u)

  pub replace-good : Good N v → Below 256 (w bitmap_block) → InBytes w i → Good N w
  replace-good g t own = record { sound = replace-sound; table = t; files = λ j hj. file j hj (eqb j i) refl }
    where
      file : (j : ℕ) → j < inode_count → (u : Bool) → eqb j i ≡ u → InBytes w j
      file j hj true p = subst (InBytes w) (sym (eqb-true j i p)) own
      file j hj false p =
          let ne = eqb-false j i p in
          kept-bytes v w j (r.others j hj ne) (other-agree j hj ne) (g.files j hj)

  -- the map, at each name
  replace-files : (name : List ℕ) → is_name name ≡ true
      → files_of w name ≡ at (name_at w i) (some (content_of w (inode_at w i))) (at (name_at v i) none (files_of v)) name
  replace-files name h = files-named w name h ∙ go (same name (name_at w i)) refl (same name (name_at v i)) refl
    where
      mine : name ≡ name_at w i → find w name ≡ some i
      mine q =
          let used = name-used w i name h (sym q) in
          find-only w name i hi (sym q) (λ j hj e. is_eq j i (λ ne. r.fresh used j hj ne (sym (other_name j hj ne) ∙ e ∙ q)))

      gone : (name ≡ name_at w i → ⊥) → name ≡ name_at v i → find w name ≡ none
      gone not-mine q =
          find-no w name
          (λ j hj e.
          let ne : j ≡ i → ⊥ = λ p. not-mine (sym e ∙ ap (name_at w) p) in
          ne (sym (s.names i j hi hj (name-used v i name h (sym q)) (sym q ∙ sym e ∙ other_name j hj ne))))

      stays : same name (name_at w i) ≡ false → same name (name_at v i) ≡ false → find w name ≡ find v name
      stays p q = find-agree v w name (λ j hj. test j hj (eqb j i) refl)
        where
          test : (j : ℕ) → j < inode_count → (t : Bool) → eqb j i ≡ t → same (name_at w j) name ≡ same (name_at v j) name
          test j hj true e =
              let ji = eqb-true j i e in
              rw ji (same-comm (name_at w i) name ∙ p ∙ sym q ∙ same-comm name (name_at v i))
          test j hj false e = ap (λ (l : List ℕ). same l name) (other_name j hj (eqb-false j i e))

      kept-files : same name (name_at v i) ≡ false → (o : Option ℕ) → find v name ≡ o
          → found o none (λ k. some (content_of w (inode_at w k))) ≡ found o none (λ k. some (content_of v (inode_at v k)))
      kept-files q none e = refl
      kept-files q (some k) e =
          let f = find-some v name k e in
          let ne : k ≡ i → ⊥ = λ p. not-both (same_of name (name_at v i) (sym f.1 ∙ ap (name_at v) p)) q in
          ap some (kept-content v w k (r.others k f.0 ne) (other-agree k f.0 ne) (name-used v k name h f.1))

      go : (t : Bool) → same name (name_at w i) ≡ t → (u : Bool) → same name (name_at v i) ≡ u
          → found (find w name) none (λ k. some (content_of w (inode_at w k))) ≡ at (name_at w i) (some (content_of w (inode_at w i))) (at (name_at v i) none (files_of v)) name
      go true p u q = rw (p, mine (same_true name (name_at w i) p))
      go false p true q =
          rw (p, q, gone (λ e. not-both (same_of name (name_at w i) e) p) (same_true name (name_at v i) q))
      go false p false q =
          rw (p, q, stays p q) (kept-files q (find v name) refl ∙ sym (files-named v name h))

  -- the same at every name, by what becomes of record i
  at_none : (name : List ℕ) → is_name name ≡ false → files_of w name ≡ at (name_at v i) none (files_of v) name
  at_none name h = files-unnamed w name h ∙ go (same name (name_at v i))
    where
      go : (t : Bool) → none ≡ cond t none (files_of v name)
      go true = refl
      go false = sym (files-unnamed v name h)

  is_name_lem : is_empty w i ≡ false → length (name_at w i) ≡ name_size → is_name (name_at w i) ≡ true
  unfolding is_name
  is_name_lem e l = rw (eq-eqb (length (name_at w i)) 8 l, e)

  -- record i is used afterwards: created, rewritten or renamed
  pub replace-used : is_empty w i ≡ false → length (name_at w i) ≡ name_size → (name : List ℕ)
      → files_of w name ≡ at (name_at w i) (some (content_of w (inode_at w i))) (at (name_at v i) none (files_of v)) name
  replace-used e l name = go (is_name name) refl
    where
      go : (t : Bool) → is_name name ≡ t → files_of w name ≡ at (name_at w i) (some (content_of w (inode_at w i))) (at (name_at v i) none (files_of v)) name
      go true h = replace-files name h
      go false h =
          let ne : same name (name_at w i) ≡ false = false_of (same name (name_at w i)) (λ p. not-both (is_name_lem e l) (ap is_name (sym (same_true name (name_at w i) p)) ∙ h)) in
          rw ne (at_none name h)

  -- record i is empty afterwards: removed
  pub replace-removed : is_empty w i ≡ true → (name : List ℕ) → files_of w name ≡ at (name_at v i) none (files_of v) name
  replace-removed e name = go (is_name name) refl
    where
      go : (t : Bool) → is_name name ≡ t → files_of w name ≡ at (name_at v i) none (files_of v) name
      go false h = at_none name h
      go true h =
          let ne : same name (name_at w i) ≡ false = false_of (same name (name_at w i)) (λ p. not-both e (name-used w i name h (sym (same_true name (name_at w i) p)))) in
          replace-files name h ∙ rw ne

  -- record i was empty before: created
  pub replace-created : is_empty v i ≡ true → is_empty w i ≡ false → length (name_at w i) ≡ name_size → (name : List ℕ)
      → files_of w name ≡ at (name_at w i) (some (content_of w (inode_at w i))) (files_of v) name
  replace-created z e l name = replace-used e l name ∙ go (is_name name) refl (same name (name_at v i)) refl
    where
      go : (t : Bool) → is_name name ≡ t → (u : Bool) → same name (name_at v i) ≡ u
          → at (name_at w i) (some (content_of w (inode_at w i))) (at (name_at v i) none (files_of v)) name ≡ at (name_at w i) (some (content_of w (inode_at w i))) (files_of v) name
      go t h false q = rw q
      go false h true q = rw (q, files-unnamed v name h)
      go true h true q = absurd (not-both z (name-used v i name h (sym (same_true name (name_at v i) q))))

  -- record i keeps its name: written or set to a size
  pub replace-written : is_empty w i ≡ false → length (name_at w i) ≡ name_size → name_at w i ≡ name_at v i → (name : List ℕ)
      → files_of w name ≡ at (name_at v i) (some (content_of w (inode_at w i))) (files_of v) name
  replace-written e l q name = replace-used e l name ∙ rw q (go (same name (name_at v i)))
    where
      go : (t : Bool) → cond t (some (content_of w (inode_at w i))) (cond t none (files_of v name)) ≡ cond t (some (content_of w (inode_at w i))) (files_of v name)
      go true = refl
      go false = refl
