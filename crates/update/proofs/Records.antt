-- Records as the changing calls make them. Assumes nothing.
use Prim.Native.Nat.{ℕ, ◌-◌, ◌<◌, ◌≤◌, max}
use mathlib.Core.Path.{◌≡◌, refl, sym, ap, ◌∙◌}
use mathlib.Core.Bool.{Bool, true, false, true≢false}
use mathlib.Core.List.{List, [], ◌++◌}
use mathlib.Core.Option.{none}
use native.Mathlib.Omega.{arith}
use lib.ListN.{length, take, drop, replicate, length-take, length-append}
use lib.Seq.{take_at, take-take}
use Rattle.spec.specs.Bytes.{exactly, part, same}
use Rattle.spec.specs.Disk.{Disk}
use Rattle.spec.specs.Inode.{Inode, inode_of, inode_at, name_at, inode_with, bytes_of_inode, inode_bytes, block_of_inode, place_of_inode, find}
use Rattle.spec.specs.declared.Extent.{Extent}
use Rattle.spec.specs.declared.Session.{Session}
use Rattle.spec.specs.Transaction.{view, state_of}
use Rattle.inode.proofs.Laws.{view-length}
use Rattle.lists.specs.Lowest.{lowest-none}
use Rattle.block.proofs.Laws.{same_self, same_true}
use Rattle.inode.specs.Records.{record_in}
use Rattle.inode.proofs.Laws.{record-at, inode-at}
use Rattle.content.specs.Content.{with_record}
use Rattle.change.proofs.Images.{laid-back}
use Rattle.update.specs.Records.{new_record, Differs}

-- ---- a new record, as the code fills it

pub name-laid : (name q : List ℕ) → length name ≡ 8 → q ≡ name → q ++ drop (8 - 0) (replicate 32 0) ≡ new_record name
unfolding new_record
name-laid name q l e = rw e refl

-- that of the specification
pub new-record : (name : List ℕ) → new_record name ≡ bytes_of_inode (inode_with name 0 [] [])
unfolding new_record bytes_of_inode
new-record name = refl

-- it begins with the name
module _ (name q : List ℕ) (l : length name ≡ 8) (e : q ≡ new_record name) where
  pub new-length : length q ≤ 32
  unfolding new_record
  new-length = rw e (simp length-append (omega arith))

  pub new-name : take 8 q ≡ name
  unfolding new_record
  new-name = rw e (take_at name (replicate 24 0) 8 l)

-- ---- a record that changes

module _ (v : Disk) (i : ℕ) where
  -- no record has a name that is free
  pub free-name : (name : List ℕ) → find v name ≡ none → i < 128 → same (name_at v i) name ≡ false
  unfolding find
  free-name name e h = lowest-none 0 128 (λ (k : ℕ). same (name_at v k) name) e i (omega arith) (omega arith)

  module _ (name bytes : List ℕ) (k : length (v (block_of_inode i)) ≡ 512) (few : length bytes ≤ 32) (l : length name ≡ 8) (t : take 8 bytes ≡ name) where
    abbrev at : ℕ
    at = place_of_inode i

    long : 8 ≤ length bytes
    long = omega (arith, ap length t, length-take 8 bytes, l)

    laid-name : part at 8 (with_record i bytes (v (block_of_inode i))) ≡ name
    unfolding with_record
    laid-name =
        sym (take-take 8 (length bytes) (drop at (with_record i bytes (v (block_of_inode i)))) long)
        ∙ ap (take 8) (laid-back at bytes (v (block_of_inode i)) (omega (arith, few, k)))
        ∙ t

    name-was : part at 8 (v (block_of_inode i)) ≡ name_at v i
    unfolding inode_bytes
    name-was = sym (take-take 8 32 (drop at (v (block_of_inode i))) (omega arith))

    -- one that begins with another name
    pub differs : same (name_at v i) name ≡ false → Differs v i bytes
    differs h = go (same (with_record i bytes (v (block_of_inode i))) (v (block_of_inode i))) refl
      where
        go : (r : Bool) → same (with_record i bytes (v (block_of_inode i))) (v (block_of_inode i)) ≡ r → r ≡ false
        go false e = refl
        go true e =
            let q : name ≡ name_at v i = sym laid-name ∙ ap (part at 8) (same_true (with_record i bytes (v (block_of_inode i))) (v (block_of_inode i)) e) ∙ name-was in
            absurd (true≢false (sym (ap (same (name_at v i)) q ∙ same_self (name_at v i)) ∙ h))

-- a record that gets a name which no file has differs from what it was
pub named-anew : (s : Session) (device work : List ℕ) (i : ℕ) (name bytes : List ℕ) → length bytes ≤ 32 → length name ≡ 8 → take 8 bytes ≡ name
    → find (view (state_of s device work)) name ≡ none → i < 128 → Differs (view (state_of s device work)) i bytes
named-anew s device work i name bytes few l t free low =
    let v = view (state_of s device work) in
    differs v i name bytes (view-length s device work _) few l t (free-name v i name free low)

-- name and size as the record of the working copy tells them
module _ (v : Disk) (i : ℕ) (block : List ℕ) where
  pub kept_record : (name : List ℕ) (size : ℕ) (es : List Extent) (levels : List (List ℕ)) → name ≡ take 8 (record_in block i) → exactly 512 block ≡ v (block_of_inode i)
      → bytes_of_inode (inode_with name size es levels) ≡ bytes_of_inode (inode_with (name_at v i) size es levels)
  kept_record name size es levels n e = ap (λ (x : List ℕ). bytes_of_inode (inode_with x size es levels)) (n ∙ ap (take 8) (record-at v block i e))

  pub kept-size : (size : ℕ) → size ≡ (inode_of (record_in block i)).size → exactly 512 block ≡ v (block_of_inode i) → size ≡ (inode_at v i).size
  kept-size size n e = n ∙ ap (λ (x : Inode). x.size) (inode-at v block i e)

  pub kept-end : (size end : ℕ) → size ≡ (inode_of (record_in block i)).size → exactly 512 block ≡ v (block_of_inode i) → max size end ≡ max (inode_at v i).size end
  kept-end size end n e = ap (λ (x : ℕ). max x end) (kept-size size n e)
