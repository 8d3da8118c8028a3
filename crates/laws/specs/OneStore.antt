-- On any session, device and work space as code holds them: an advance stores the one block that it answers, which lies on the device, or nothing. Assumes nothing.
use Rattle.std.specs.Prelude.{ℕ, zero, suc, ◌+◌, ◌*◌, ◌<◌, ◌≤◌, ◌≡◌, ◌⊎◌, Bool, cond, not, ◌&&◌, eqb}
use Rattle.std.proofs.Math.Path.{refl}
use Rattle.std.proofs.Math.Logic.{inl}
use Rattle.std.proofs.Common.{inr, eqb-true}
use Rattle.std.proofs.Math.Bool.{true, false}
use mathlib.Core.List.{List, [], ◌∷◌, ◌++◌, map}
use Rattle.std.proofs.Math.Option.{Option, none, some}
use Rattle.std.proofs.Math.ListN.{length, get_elem?, length-take}
use native.Mathlib.Omega.{arith}
use Rattle.spec.specs.Layout.{block_size, log_length, header_block}
use Rattle.spec.specs.Bytes.{all, distinct}
use Rattle.spec.specs.Disk.{Disk, blocks_of, with_block, is_allowed, is_target}
use Rattle.spec.specs.declared.Session.{Session}
use Rattle.spec.specs.declared.Phase.{Phase}
use Rattle.spec.specs.declared.Phase.TheVariants.{Closed, Ready, Committing, Recovering}
use Rattle.spec.specs.declared.Refusal.{Refusal}
use Rattle.spec.specs.Session.{staged_in}
use Rattle.spec.specs.Answers.{idle, stored, refusal_of, Result, refuse, accept, ◌>>◌}
use Rattle.spec.specs.Transaction.{State, BlockStore, put, state_of}
use Rattle.spec.specs.Journal.{header_of, targets_in, are_targets, staged_stores, images_from, redo_from, clearing, commit_stores, recovery_stores}
use Rattle.spec.specs.Calls.{Outcome, outcome, settle, lent_ok, perform, advance_in, advance, Advance, step}
use Rattle.block.proofs.Laws.{block-length, allowed-says}
use Rattle.logs.specs.Targets.{Targets, targets_of_lem}
use Rattle.logs.specs.Stores.{Ascending}
use Rattle.logs.specs.View.{Held, list_of, staged_stores_lem, list-ascending, list_length}
use Rattle.lists.specs.Tests.{both_true}

-- ---- stores to blocks of the device

abbrev Below : ℕ → List BlockStore → Type 0
Below N [] = Unit {0}
Below N (w ∷ ws) = (w.block < N) × Below N ws

below-append : (N : ℕ) (xs ys : List BlockStore) → Below N xs → Below N ys → Below N (xs ++ ys)
below-append N [] ys p q = q
below-append N (x ∷ xs) ys p q = (p.0, below-append N xs ys p.1 q)

below-entry : (N : ℕ) (ws : List BlockStore) (d : ℕ) (w : BlockStore) → Below N ws → get_elem? ws d ≡ some w → w.block < N
below-entry N [] d w p e = let z : ◌≡◌ {A = ℕ} 0 1 = cc in absurd (omega arith)
below-entry N (x ∷ xs) zero w p e = let q : x ≡ w = cc in rw (← q) p.0
below-entry N (x ∷ xs) (suc d) w p e = below-entry N xs d w p.1 e

below-ascending : (N lo : ℕ) (ws : List BlockStore) → Ascending N lo ws → Below N ws
below-ascending N lo [] a = tt
below-ascending N lo (w ∷ ws) a = (a.1, below-ascending N (suc w.block) ws a.2)

images-below : (N b : ℕ) (ws : List BlockStore) → b + length ws ≤ N → Below N (images_from b ws)
images-below N b [] h = tt
images-below N b (w ∷ ws) h = (omega arith, images-below N (suc b) ws (omega arith))

redo-below : (N b : ℕ) (d : Disk) (ws : List BlockStore) → Below N ws → Below N (redo_from b d (map (λ w. w.block) ws))
redo-below N b d [] p = tt
redo-below N b d (w ∷ ws) p = (p.0, redo-below N (suc b) d ws p.1)

targets-below : (N b : ℕ) (d : Disk) (ts : List ℕ) → Targets N ts → Below N (redo_from b d ts)
targets-below N b d [] g = tt
targets-below N b d (t ∷ ts) g = (g.1, targets-below N (suc b) d ts g.3)

targets-told : (N : ℕ) (ts : List ℕ) → are_targets N ts ≡ true → Targets N ts
unfolding are_targets
targets-told N ts h =
    let a = both_true (not (eqb (length ts) 0) && all (is_target N) ts) (distinct ts) h in
    let b = both_true (not (eqb (length ts) 0)) (all (is_target N) ts) a.0 in
    targets_of_lem N ts b.1 a.1

-- ---- an advance

-- the block answered is stored, and nothing else: one of the device, at the place in the sequence that the number tells
pub record StoresOne (s : State) (o : Outcome) : Type 0 where
  pub block : ℕ
  pub content : List ℕ
  pub last : Bool
  pub number : ℕ
  pub answer : o.answer ≡ stored block last number
  pub device : o.after.device ≡ record { size = s.device.size; block = with_block block content s.device.block }
  pub work : o.after.work ≡ s.work
  pub inside : block < s.session.blocks

-- nothing under way, or refused: everything as it was
abbrev pub StoresNothing : State → Outcome → Type 0
StoresNothing s o = (o ≡ outcome s idle) ⊎ ((r : Refusal) × (o ≡ outcome s (refusal_of r)))

module _ (s : State) (ws : List BlockStore) (d : ℕ) (next last : Session) (below : Below s.session.blocks ws) where
  performs : StoresNothing s (perform s ws d next last) ⊎ StoresOne s (perform s ws d next last)
  performs = go (get_elem? ws d) refl
    where
      go : (e : Option BlockStore) → get_elem? ws d ≡ e → StoresNothing s (perform s ws d next last) ⊎ StoresOne s (perform s ws d next last)
      go none q = inl (inl (rw q))
      go (some w) q =
          rw q (inr (record {
            block = w.block;
            content = w.content;
            last = eqb (suc d) (length ws);
            number = suc d;
            answer = refl;
            device = refl;
            work = refl;
            inside = below-entry s.session.blocks ws d w below q;
          }))

module _ (s : Session) (d w : List ℕ) (few : length s.staged ≤ log_length) (most : log_length < s.blocks) where
  staged-few : length (staged_in s) ≤ log_length
  unfolding staged_in
  staged-few = simp length-take (omega arith)

  commit-below : Below s.blocks (commit_stores (state_of s d w))
  unfolding commit_stores
  commit-below = go (are_targets s.blocks (staged_in s)) refl
    where
      go : (t : Bool) → are_targets s.blocks (staged_in s) ≡ t
          → Below s.blocks (cond t (images_from 1 (staged_stores (state_of s d w)) ++ (put header_block (header_of (map (λ w. w.block) (staged_stores (state_of s d w))))
          ∷ (redo_from 1 (blocks_of d) (map (λ w. w.block) (staged_stores (state_of s d w))) ++ clearing))) [])
      go false q = tt
      go true q =
          let h : Held s.blocks (staged_in s) (blocks_of w) = record { targets = targets-told s.blocks (staged_in s) q; few = staged-few; images = λ i l. block-length w i } in
          let ws = list_of (staged_in s) (blocks_of w) in
          let ts = map (λ (x : BlockStore). x.block) ws in
          let room : 1 + length ws ≤ s.blocks = omega (arith, list_length h, staged-few) in
          rw (staged_stores_lem (state_of s d w) (staged_in s) refl)
          (below-append s.blocks (images_from 1 ws) (put header_block (header_of ts) ∷ (redo_from 1 (blocks_of d) ts ++ clearing)) (images-below s.blocks 1 ws room)
          (omega arith, below-append s.blocks (redo_from 1 (blocks_of d) ts) clearing (redo-below s.blocks 1 (blocks_of d) ws (below-ascending s.blocks 33 ws (list-ascending h))) (omega arith, tt)))

  recovery-below : Below s.blocks (recovery_stores s.blocks (blocks_of d))
  unfolding recovery_stores
  recovery-below = go (are_targets s.blocks (targets_in (blocks_of d header_block))) refl
    where
      go : (t : Bool) → are_targets s.blocks (targets_in (blocks_of d header_block)) ≡ t
          → Below s.blocks (cond t (redo_from 1 (blocks_of d) (targets_in (blocks_of d header_block)) ++ clearing) [])
      go false q = tt
      go true q =
          let ts = targets_in (blocks_of d header_block) in
          below-append s.blocks (redo_from 1 (blocks_of d) ts) clearing (targets-below s.blocks 1 (blocks_of d) ts (targets-told s.blocks ts q)) (omega arith, tt)

  in-phase : (p : Phase) → StoresNothing (state_of s d w) (advance_in (state_of s d w) p) ⊎ StoresOne (state_of s d w) (advance_in (state_of s d w) p)
  unfolding advance_in
  in-phase Closed = inl (inl refl)
  in-phase Ready = inl (inl refl)
  in-phase (Committing p) = performs (state_of s d w) (commit_stores (state_of s d w)) p _ _ commit-below
  in-phase (Recovering p) = performs (state_of s d w) (recovery_stores s.blocks (blocks_of d)) p _ _ recovery-below

lent-blocks : (s : Session) (d w : List ℕ) (t : Bool) → lent_ok (state_of s d w) ≡ accept t → log_length < s.blocks
unfolding lent_ok
lent-blocks s d w t h = go (is_allowed (length d)) refl (eqb (block_size * s.blocks) (length d)) refl
  where
    go : (a : Bool) → is_allowed (length d) ≡ a → (b : Bool) → eqb (block_size * s.blocks) (length d) ≡ b → log_length < s.blocks
    go true p true q = let a = (allowed-says (length d) p).low in let e = eqb-true (block_size * s.blocks) (length d) q in omega arith
    go true p false q = let r = rw (p, q) at h in let z : ◌≡◌ {A = ℕ} 0 1 = cc in absurd (omega arith)
    go false p b q = let r = rw p at h in let z : ◌≡◌ {A = ℕ} 0 1 = cc in absurd (omega arith)

-- "besides format only advance may then store, one block at most"
pub advance-one : (s : Session) (d w : List ℕ) → length s.staged ≤ log_length
    → StoresNothing (state_of s d w) (step (state_of s d w) Advance) ⊎ StoresOne (state_of s d w) (step (state_of s d w) Advance)
unfolding advance
advance-one s d w few = go (lent_ok (state_of s d w)) refl
  where
    go : (r : Result Bool) → lent_ok (state_of s d w) ≡ r
        → StoresNothing (state_of s d w) (settle (outcome (state_of s d w)) (r >> accept (advance_in (state_of s d w) s.phase)))
        ⊎ StoresOne (state_of s d w) (settle (outcome (state_of s d w)) (r >> accept (advance_in (state_of s d w) s.phase)))
    go (refuse r) e = inl (inr (r, refl))
    go (accept t) e = in-phase s d w few (lent-blocks s d w t e) s.phase
