-- The header (document 01: commit block), and the stores of a commit and of a recovery in order.
use Rattle.std.specs.Prelude.{ℕ, suc, ◌+◌, ◌*◌, Bool, cond, not, ◌&&◌, ◌||◌, List, [], ◌∷◌, ◌++◌, map, length, get_or, eqb}
use Rattle.std.proofs.Math.Option.{Option}
use Rattle.spec.specs.Layout.{block_size, header_block, log_length, log_record_size}
use Rattle.spec.specs.Bytes.{exactly, zeros, part, number2, bytes2, all_zero, all, leading, concat, up_from, lowest, member, distinct}
use Rattle.spec.specs.Disk.{Disk, is_target}
use Rattle.spec.specs.Session.{staged_in}
use Rattle.spec.specs.Transaction.{State, BlockStore, put, ascending}

-- ---- the header

-- "32 records of 16 bytes, no header. Bytes 0 and 1 of record i are a target block; the other 14 are zero."
unfoldable pub header_of : List ℕ → List ℕ
header_of targets = exactly block_size (concat (map (λ t. bytes2 t ++ zeros 14) targets))

abbrev pub target_at : List ℕ → ℕ → ℕ
target_at xs i = number2 (log_record_size * i) xs

abbrev pub targets_before : List ℕ → ℕ → List ℕ
targets_before xs i = map (target_at xs) (up_from 0 i)

-- "Target 0 means empty.": the targets of the leading used records
unfoldable pub targets_in : List ℕ → List ℕ
targets_in xs = leading (λ t. not (eqb t 0)) (targets_before xs log_length)

-- 10. "used with a target outside 33 to N-1 or seen before, used after an empty one, or other bytes not zero"
abbrev pub is_record_wrong : ℕ → List ℕ → ℕ → Bool
is_record_wrong N xs i =
    let t = target_at xs i in
    let before = targets_before xs i in
    not (eqb t 0) && (not (is_target N t) || member t before || member 0 before)
    || not (all_zero (part (log_record_size * i + 2) 14 xs))

-- 10. "the lowest record that is"
unfoldable pub header_fault : ℕ → List ℕ → Option ℕ
header_fault N xs = lowest 0 log_length (is_record_wrong N xs)

-- ---- the stores

-- what a log may list: at least one target, each within 33 to N-1, none twice. A session or header that tells anything else was tampered with.
unfoldable pub are_targets : ℕ → List ℕ → Bool
are_targets N ts = not (eqb (length ts) 0) && all (is_target N) ts && distinct ts

-- the staged blocks with their images, "in ascending order of target"
unfoldable pub staged_stores : State → List BlockStore
staged_stores s =
    let bs = staged_in s.session in
    ascending (map (λ i. put (get_or bs i 0) (s.work.block i)) (up_from 0 (length bs)))

-- "images .. to 1, 2, and so on"
abbrev pub images_from : ℕ → List BlockStore → List BlockStore
images_from b [] = []
images_from b (w ∷ ws) = put b w.content ∷ images_from (suc b) ws

-- "A used record i says that block 1+i holds the new content of the target.": each target, from log block b on
abbrev pub redo_from : ℕ → Disk → List ℕ → List BlockStore
redo_from b d [] = []
redo_from b d (t ∷ ts) = put t (d b) ∷ redo_from (suc b) d ts

abbrev pub redo_targets : Disk → List BlockStore
redo_targets d = redo_from 1 d (targets_in (d header_block))

-- "block 0 cleared"
abbrev pub clearing : List BlockStore
clearing = put header_block (zeros block_size) ∷ []

-- "images in ascending order of target to 1, 2, and so on; block 0 with the list; each target; block 0 cleared": 2k+2 stores
unfoldable pub commit_stores : State → List BlockStore
commit_stores s =
    let ws = staged_stores s in
    let ts = map (λ w. w.block) ws in
    cond (are_targets s.session.blocks (staged_in s.session))
    (images_from 1 ws ++ (put header_block (header_of ts) ∷ (redo_from 1 s.device.block ts ++ clearing)))
    []

-- "Recovery is k targets in record order and the clearing"
unfoldable pub recovery_stores : ℕ → Disk → List BlockStore
recovery_stores N d = cond (are_targets N (targets_in (d header_block))) (redo_targets d ++ clearing) []

-- opens what this module seals
unfoldable pub open-Journal : Unit {0}
unfolding header_of targets_in header_fault are_targets staged_stores commit_stores recovery_stores
open-Journal = tt
