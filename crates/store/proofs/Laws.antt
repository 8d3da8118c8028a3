-- The cases of the public calls. Assumes nothing.
use Prim.Native.Nat.{ℕ, ◌*◌, ◌/◌}
use mathlib.Core.Path.{◌≡◌, refl, sym, ap, ap₂, ◌∙◌}
use mathlib.Core.Bool.{Bool, true, false}
use mathlib.Core.List.{List}
use native.Mathlib.Omega.{arith}
use mathlib.Core.Option as math
use mathlib.Core.Option.{none, some}
use Rattle.std.specs.Prelude.{Option, None, Some, Result as Returned, IfOk, IfErr}
use Rattle.block.specs.Places.{found_at}
use borrow.Author.Tests.{eq-eqb, ne_eqb}
use lib.ListN.{length, take, drop, length-take, length-drop}
use Rattle.spec.specs.Disk.{Slice, blocks_of, disk_block, is_allowed, slice_of}
use Rattle.spec.specs.Sound.{inode_fault, block_fault}
use Rattle.spec.specs.Journal.{header_fault, targets_in}
use Rattle.block.proofs.Laws.{allowed-says, block-is, exactly-all}
use Rattle.spec.specs.declared.Session.{Session}
use Rattle.spec.specs.declared.Phase.TheVariants.{Ready, Recovering}
use Rattle.spec.specs.declared.Refusal.{Refusal}
use Rattle.spec.specs.declared.Refusal.TheVariants.{DeviceSize, BadHeader, DamagedInode, DamagedBlock}
use Rattle.spec.specs.Session.{opened, closed_on}
use Rattle.spec.specs.Answers.{done, refusal_of, refuse, accept, require}
use Rattle.spec.specs.Transaction.{state_of}
use Rattle.fsck.specs.Damage.{damage_of}
use Rattle.spec.specs.Calls.{outcome, left, ready_ok, empty_disk, format, open_phase, open_store, abort}

-- ---- format

module _ (s : Session) (d w : List ℕ) where
  pub format-bad : is_allowed (length d) ≡ false → left s d w (refusal_of DeviceSize) ≡ format (state_of s d w)
  unfolding format
  format-bad e = rw e

  pub format-done : (next : Session) (after : List ℕ) → is_allowed (length d) ≡ true → next ≡ closed_on (length d / 512)
      → slice_of after ≡ record { size = length d; block = empty_disk (length d / 512) } → left next after w done ≡ format (state_of s d w)
  unfolding format
  format-done next after e f g =
      rw e (ap₂ (λ (n : Session) (x : Slice). outcome (record { session = n; device = x; work = slice_of w }) done) f g)

-- ---- open

pub require-refused : (t : Bool) (r why : Refusal) → refuse r ≡ require t why → (t ≡ false) × (r ≡ why)
require-refused true r why e = cc
require-refused false r why e = (refl, cc)

-- the first 512 bytes of a device are its header
pub head-is : (d : List ℕ) → is_allowed (length d) ≡ true → take 512 (drop (512 * 0) d) ≡ blocks_of d 0
head-is d h =
    let a = allowed-says (length d) h in
    let l : length (take 512 (drop (512 * 0) d)) ≡ 512 = simp (length-take, length-drop) (omega arith) in
    sym (block-is d 0 ∙ exactly-all 512 (take 512 (drop (512 * 0) d)) l)

abbrev fault_in : Option ℕ → math.Option ℕ
fault_in None = none
fault_in (Some i) = some i

fault-in : (o : math.Option ℕ) → o ≡ fault_in (found_at o)
fault-in none = refl
fault-in (some i) = refl

-- the header's fault and its targets, from what was found in the first block
module _ (d x : List ℕ) (e : is_allowed (length d) ≡ true) (h : x ≡ take 512 (drop (512 * 0) d)) where
  head : blocks_of d 0 ≡ x
  head = sym (h ∙ head-is d e)

  pub fault-at : (n i : ℕ) (b : Option ℕ) → b ≡ found_at (header_fault n x) → b ≡ Some i → header_fault n (blocks_of d 0) ≡ some i
  fault-at n i b p q = rw head (fault-in (header_fault n x) ∙ ap fault_in (sym p ∙ q))

  pub no-fault : (n : ℕ) (b : Option ℕ) → b ≡ found_at (header_fault n x) → b ≡ None → header_fault n (blocks_of d 0) ≡ none
  no-fault n b p q = rw head (fault-in (header_fault n x) ∙ ap fault_in (sym p ∙ q))

  pub counted : (n : ℕ) → n ≡ length (targets_in x) → n ≡ length (targets_in (blocks_of d 0))
  counted n k = rw head k

module _ (s : Session) (d w : List ℕ) where
  pub open-device : is_allowed (length d) ≡ false → left s d w (refusal_of DeviceSize) ≡ open_store (state_of s d w)
  unfolding open_store
  open-device e = rw e

  module _ (e : is_allowed (length d) ≡ true) where
    pub open-header : (i : ℕ) → header_fault (length d / 512) (blocks_of d 0) ≡ some i → left s d w (refusal_of (BadHeader i)) ≡ open_store (state_of s d w)
    unfolding open_store
    open-header i f = rw (e, f)

    module _ (f : header_fault (length d / 512) (blocks_of d 0) ≡ none) where
      pub open-log : (length (targets_in (blocks_of d 0)) ≡ 0 → ⊥) → left (opened (length d / 512) (Recovering 0)) d w done ≡ open_store (state_of s d w)
      unfolding open_store open_phase
      open-log h = rw (e, f, ne_eqb (length (targets_in (blocks_of d 0))) 0 h)

      module _ (h : length (targets_in (blocks_of d 0)) ≡ 0) where
        pub open-inode : (i : ℕ) → inode_fault (length d / 512) (blocks_of d) ≡ some i → left s d w (refusal_of (DamagedInode i)) ≡ open_store (state_of s d w)
        unfolding open_store open_phase
        open-inode i g = rw (e, f, eq-eqb (length (targets_in (blocks_of d 0))) 0 h, g)

        module _ (g : inode_fault (length d / 512) (blocks_of d) ≡ none) where
          pub open-block : (b : ℕ) → block_fault (length d / 512) (blocks_of d) ≡ some b → left s d w (refusal_of (DamagedBlock (disk_block b))) ≡ open_store (state_of s d w)
          unfolding open_store open_phase
          open-block b k = rw (e, f, eq-eqb (length (targets_in (blocks_of d 0))) 0 h, g, k)

          pub open-ready : block_fault (length d / 512) (blocks_of d) ≡ none → left (opened (length d / 512) Ready) d w done ≡ open_store (state_of s d w)
          unfolding open_store open_phase
          open-ready k = rw (e, f, eq-eqb (length (targets_in (blocks_of d 0))) 0 h, g, k)

        -- by what is damaged
        pub open-damaged : (r : Returned (Unit {0}) Refusal) → r ≡ damage_of (inode_fault (length d / 512) (blocks_of d)) (block_fault (length d / 512) (blocks_of d))
            → IfOk r (λ _. left (opened (length d / 512) Ready) d w done ≡ open_store (state_of s d w)) × IfErr r (λ why. left s d w (refusal_of why) ≡ open_store (state_of s d w))
        open-damaged r q = rw q (go (inode_fault (length d / 512) (blocks_of d)) refl (block_fault (length d / 512) (blocks_of d)) refl)
          where
            go : (o : math.Option ℕ) → inode_fault (length d / 512) (blocks_of d) ≡ o → (p : math.Option ℕ) → block_fault (length d / 512) (blocks_of d) ≡ p
                → IfOk (damage_of o p) (λ _. left (opened (length d / 512) Ready) d w done ≡ open_store (state_of s d w)) × IfErr (damage_of o p) (λ why. left s d w (refusal_of why) ≡ open_store (state_of s d w))
            go (some i) g p k = (tt, open-inode i g)
            go none g (some b) k = (tt, open-block g b k)
            go none g none k = (open-ready g k, tt)

-- ---- commit and abort

module _ (s : Session) (d w : List ℕ) where
  pub abort-bad : (r : Refusal) → refuse r ≡ ready_ok (state_of s d w) → left s d w (refusal_of r) ≡ abort (state_of s d w)
  unfolding abort
  abort-bad r e = rw (← e)

  pub abort-fine : (next : Session) → accept true ≡ ready_ok (state_of s d w) → next ≡ opened s.blocks Ready → left next d w done ≡ abort (state_of s d w)
  unfolding abort
  abort-fine next e n = rw (← e, n)
