-- The cases of the calls that only read. Assumes nothing.
use Prim.Native.Nat.{ℕ, ◌<◌, ◌≤◌}
use mathlib.Core.Path.{◌≡◌, refl, ap, ap₂, ◌∙◌}
use mathlib.Core.Bool.{Bool, true, false, cond}
use mathlib.Core.List.{List}
use borrow.Author.Tests.{le-leb, lt-leb}
use mathlib.Core.Option.{Option, none, some}
use lib.ListN.{length, take, drop, get_elem?}
use Rattle.spec.specs.Bytes.{exactly, all_zero, found}
use Rattle.spec.specs.Bitmap.{bits_of, free_bits}
use Rattle.spec.specs.Inode.{Inode, inode_of, inode_at, block_of_inode}
use Rattle.spec.specs.Map.{content_of}
use Rattle.spec.specs.declared.Extent.{Extent}
use Rattle.spec.specs.Answers.{counted, file, no_file, run, no_run, recorded_of, run_of, accept}
use Rattle.spec.specs.Disk.{Disk}
use Rattle.spec.specs.Transaction.{State, view}
use Rattle.std.specs.Prelude.{Option as Returned, Some, None, Ok, if◌then◌else◌}
use Rattle.query.specs.Records.{record_told}
use Rattle.extents.specs.Stretches.{run_of as as_run}
use Rattle.transaction.specs.Volumes.{working, Shows}
use Rattle.transaction.specs.declared.volume.Volume.{Volume}
use Rattle.transaction.proofs.Laws.{shows-view}
use Rattle.file.specs.Bytes.{Filled}
use Rattle.inode.specs.Records.{record_in}
use Rattle.inode.proofs.Laws.{inode-at, record-at, empty-at}
use Rattle.spec.specs.Calls.{outcome, with_buffer, ready_ok, file_ok, read, size_of, free_count, record_at, runs_of, nth_extent}

-- a block of the volume is one of a state that it shows
pub block_of : (v : Volume) (s : State) (block : List ℕ) (b : ℕ) → Shows v s → exactly 512 block ≡ working v.copy b → exactly 512 block ≡ view s b
block_of v s block b e f = f ∙ ap (λ (d : Disk). d b) (shows-view v s e)

module _ (s : State) where
  pub size-fine : (name : List ℕ) (i n : ℕ) (table : List ℕ) → accept i ≡ file_ok s name → n ≡ (inode_of (record_in table i)).size
      → exactly 512 table ≡ view s (block_of_inode i) → outcome s (counted n) ≡ size_of s name
  unfolding size_of
  size-fine name i n table e f g =
      rw (← e) (ap (λ (k : ℕ). outcome s (counted k)) (f ∙ ap (λ (x : Inode). x.size) (inode-at (view s) table i g)))

  pub free-fine : (n : ℕ) (block : List ℕ) → accept true ≡ ready_ok s → n ≡ free_bits (bits_of (exactly 512 block))
      → exactly 512 block ≡ view s 33 → outcome s (counted n) ≡ free_count s
  unfolding free_count
  free-fine n block e f h =
      rw (← e) (ap (λ (k : ℕ). outcome s (counted k)) (f ∙ ap (λ (t : List ℕ). free_bits (bits_of t)) h))

  pub record-past : (i : ℕ) → accept true ≡ ready_ok s → 128 ≤ i → outcome s no_file ≡ record_at s i
  unfolding record_at
  record-past i e h = rw (← e, le-leb 128 i h)

  pub record-fine : (i : ℕ) (table : List ℕ) → accept true ≡ ready_ok s → i < 128 → exactly 512 table ≡ view s (block_of_inode i)
      → outcome s (recorded_of (Ok (record_told table i))) ≡ record_at s i
  unfolding record_at record_told
  record-fine i table e h g =
      let v = view s in
      rw (← e, lt-leb 128 i h, ← empty-at v table i g, ← inode-at v table i g, ← record-at v table i g) (go (all_zero (take 8 (record_in table i))))
    where
      go : (t : Bool) → outcome s (recorded_of (Ok (if t then None else Some (record { name = take 8 (record_in table i); size = (inode_of (record_in table i)).size }))))
          ≡ outcome s (cond t no_file (file (take 8 (record_in table i)) (inode_of (record_in table i)).size))
      go true = refl
      go false = refl

  pub read-fine : (name buffer after : List ℕ) (x i n : ℕ) → accept i ≡ file_ok s name
      → (v : Disk) → v ≡ view s → Filled (take (length buffer) (drop x (content_of v (inode_at v i)))) buffer after n
      → with_buffer s (counted n) after ≡ read s name x buffer
  unfolding read
  read-fine name buffer after x i n e v q g =
      let f : Filled (take (length buffer) (drop x (content_of (view s) (inode_at (view s) i)))) buffer after n = rw q at g in
      rw (← e) (ap₂ (λ (k : ℕ) (b : List ℕ). with_buffer s (counted k) b) f.count f.bytes)

  pub nth-fine : (name : List ℕ) (from n k i : ℕ) → accept i ≡ file_ok s name → (r : Returned Extent) → r ≡ as_run (get_elem? (runs_of s i from n) k)
      → outcome s (run_of (Ok r)) ≡ nth_extent s name from n k
  unfolding nth_extent
  nth-fine name from n k i e r q = rw (← e, q) (go (get_elem? (runs_of s i from n) k))
    where
      go : (o : Option Extent) → outcome s (run_of (Ok (as_run o))) ≡ outcome s (found o no_run run)
      go none = refl
      go (some x) = refl
