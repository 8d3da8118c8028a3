-- Definitions at work on small values, so that a wrong one does not pass here. The examples of document 01 as a whole stand in crate examples.
use Prim.Native.Nat.{ℕ}
use mathlib.Core.Path.{◌≡◌, refl}
use mathlib.Core.Bool.{true, false}
use mathlib.Core.List.{List, [], ◌∷◌, ◌++◌}
use mathlib.Core.Option.{none, some}
use lib.ListN.{take, replicate}
use Rattle.spec.specs.Bytes.{zeros, number2, number4, bytes2, bytes4}
use Rattle.spec.specs.Disk.{Disk, with_block, in_data, is_target, is_allowed, open-Disk}
use Rattle.spec.specs.Bitmap.{bits_of, bytes_of, picks, open-Bitmap}
use Rattle.spec.specs.Inode.{Extent, extent, slots_in, bytes_of_slots, Inode, block_of_inode, place_of_inode, runs, levels_for, inode_with, bytes_of_inode, inode_of, levels_of, data_of, node_bytes, open-Inode}
use Rattle.spec.specs.Sound.{apart, limits_hold, bit_fault}
use Rattle.spec.specs.Session.{opened, staged_in, with_staged, Ready, open-Session}
use Rattle.spec.specs.Transaction.{put, ascending, stage, open-Transaction}
use Rattle.spec.specs.Plan.{Tree, resized, overlay, clear_tail, holds_data, is_last_kept, open-Plan}
use Rattle.spec.specs.Journal.{header_of, header_fault, targets_in, are_targets, open-Journal}
use Rattle.spec.specs.Plain.{new_file}

-- "All numbers are little-endian"
number-order : number4 1 (9 ∷ 1 ∷ 2 ∷ 3 ∷ 4 ∷ []) ≡ 67305985
number-order = refl

number-bytes : bytes4 67305985 ≡ 1 ∷ 2 ∷ 3 ∷ 4 ∷ []
number-bytes = refl

short-order : number2 1 (9 ∷ 44 ∷ 1 ∷ []) ≡ 300
short-order = refl

short-bytes : bytes2 300 ≡ 44 ∷ 1 ∷ []
short-bytes = refl

-- "N from 64 to 4,096"
fewest : is_allowed 32768 ≡ true
unfolding is_allowed
fewest = refl

too_few : is_allowed 32256 ≡ false
unfolding is_allowed
too_few = refl

odd-length : is_allowed 32769 ≡ false
unfolding is_allowed
odd-length = refl

-- "33 to N-1", "42 to N-1"
first-target : is_target 64 33 ≡ true
unfolding open-Disk
first-target = refl

log-is-no-target : is_target 64 32 ≡ false
unfolding open-Disk
log-is-no-target = refl

end-is-no-target : is_target 64 64 ≡ false
unfolding open-Disk
end-is-no-target = refl

inodes-hold-no-data : in_data 64 41 ≡ false
unfolding open-Disk
inodes-hold-no-data = refl

-- "block b is bit b mod 8 (lowest first) of byte b div 8"
bit-order : bits_of (3 ∷ 128 ∷ []) ≡ 1 ∷ 1 ∷ 0 ∷ 0 ∷ 0 ∷ 0 ∷ 0 ∷ 0 ∷ 0 ∷ 0 ∷ 0 ∷ 0 ∷ 0 ∷ 0 ∷ 0 ∷ 1 ∷ []
unfolding bits_of
bit-order = refl

bits_back : take 2 (bytes_of (1 ∷ 1 ∷ 0 ∷ 0 ∷ 0 ∷ 0 ∷ 0 ∷ 0 ∷ 0 ∷ 0 ∷ 0 ∷ 0 ∷ 0 ∷ 0 ∷ 0 ∷ 1 ∷ [])) ≡ 3 ∷ 128 ∷ []
unfolding bytes_of
bits_back = refl

-- each of the eight bits of a byte at its place: no two of them are alike in these three bytes
bits-apart : bits_of (170 ∷ 204 ∷ 240 ∷ [])
    ≡ 0 ∷ 1 ∷ 0 ∷ 1 ∷ 0 ∷ 1 ∷ 0 ∷ 1 ∷ 0 ∷ 0 ∷ 1 ∷ 1 ∷ 0 ∷ 0 ∷ 1 ∷ 1 ∷ 0 ∷ 0 ∷ 0 ∷ 0 ∷ 1 ∷ 1 ∷ 1 ∷ 1 ∷ []
unfolding bits_of
bits-apart = refl

bits-together : take 3 (bytes_of (0 ∷ 1 ∷ 0 ∷ 1 ∷ 0 ∷ 1 ∷ 0 ∷ 1 ∷ 0 ∷ 0 ∷ 1 ∷ 1 ∷ 0 ∷ 0 ∷ 1 ∷ 1 ∷ 0 ∷ 0 ∷ 0 ∷ 0 ∷ 1 ∷ 1 ∷ 1 ∷ 1 ∷ []))
    ≡ 170 ∷ 204 ∷ 240 ∷ []
unfolding bytes_of
bits-together = refl

-- "each the lowest free one"
lowest-free : picks (1 ∷ 0 ∷ 1 ∷ 0 ∷ 0 ∷ []) 2 ≡ 1 ∷ 3 ∷ []
unfolding open-Bitmap
lowest-free = refl

-- extents "are the largest possible"
joined-runs : runs (42 ∷ 43 ∷ 45 ∷ 44 ∷ []) ≡ extent 42 2 ∷ extent 45 1 ∷ extent 44 1 ∷ []
unfolding runs
joined-runs = refl

-- "one for each 128 extents begun, when there are more than 4"
nodes-of-four : levels_for 4 ≡ []
unfolding levels_for
nodes-of-four = refl

nodes-of-five : levels_for 5 ≡ 1 ∷ []
unfolding levels_for
nodes-of-five = refl

nodes-of-many : levels_for 513 ≡ 5 ∷ []
unfolding levels_for
nodes-of-many = refl

-- "A slot is a block number (2 bytes) and a count (2 bytes)", with numbers above 255
slot-bytes : bytes_of_slots (extent 300 513 ∷ extent 42 2 ∷ []) ≡ 44 ∷ 1 ∷ 1 ∷ 2 ∷ 42 ∷ 0 ∷ 2 ∷ 0 ∷ []
slot-bytes = refl

slots_read : slots_in 2 (44 ∷ 1 ∷ 1 ∷ 2 ∷ 42 ∷ 0 ∷ 2 ∷ 0 ∷ []) ≡ extent 300 513 ∷ extent 42 2 ∷ []
unfolding slots_in
slots_read = refl

node-bytes : node_bytes (extent 300 513 ∷ extent 42 2 ∷ []) ≡ 44 ∷ 1 ∷ 1 ∷ 2 ∷ 42 ∷ 0 ∷ 2 ∷ 0 ∷ replicate 504 0
unfolding open-Inode
node-bytes = refl

-- "Bytes 0 to 7 name; 8 to 11 size in bytes; 12 depth, 0 or 1; 13 to 15 zero; 16 to 31 four slots.": a size above 65,535
large-record : List ℕ
large-record =
    65 ∷ 66 ∷ 67 ∷ 68 ∷ 69 ∷ 70 ∷ 71 ∷ 72 ∷ 112 ∷ 17 ∷ 1 ∷ 0 ∷ 1 ∷ 0 ∷ 0 ∷ 0
    ∷ 44 ∷ 1 ∷ 1 ∷ 2 ∷ 42 ∷ 0 ∷ 2 ∷ 0 ∷ 0 ∷ 0 ∷ 0 ∷ 0 ∷ 0 ∷ 0 ∷ 0 ∷ 0 ∷ []

large : Inode
large =
    record {
      name = 65 ∷ 66 ∷ 67 ∷ 68 ∷ 69 ∷ 70 ∷ 71 ∷ 72 ∷ [];
      size = 70000;
      depth = 1;
      slots = extent 300 513 ∷ extent 42 2 ∷ extent 0 0 ∷ extent 0 0 ∷ [];
    }

large-read : inode_of large-record ≡ large
unfolding open-Inode large large-record
large-read = refl

large-bytes : bytes_of_inode large ≡ large-record
unfolding open-Inode large large-record
large-bytes = refl

-- "128 file records of 32 bytes, 16 to a block"
record-block : block_of_inode 17 ≡ 35
record-block = refl

record-place : place_of_inode 17 ≡ 32
record-place = refl

-- a record and an extent block read back: five extents of one block each below block 51
five : List Extent
five = extent 42 1 ∷ extent 44 1 ∷ extent 46 1 ∷ extent 48 1 ∷ extent 50 1 ∷ []

record-of-five : List ℕ
record-of-five = 65 ∷ 66 ∷ 67 ∷ 68 ∷ 69 ∷ 70 ∷ 71 ∷ 72 ∷ 0 ∷ 10 ∷ 0 ∷ 0 ∷ 1 ∷ 0 ∷ 0 ∷ 0 ∷ 51 ∷ 0 ∷ 5 ∷ 0 ∷ replicate 12 0

name-of-five : List ℕ
name-of-five = 65 ∷ 66 ∷ 67 ∷ 68 ∷ 69 ∷ 70 ∷ 71 ∷ 72 ∷ []

record-bytes : bytes_of_inode (inode_with name-of-five 2560 five ((51 ∷ []) ∷ [])) ≡ record-of-five
unfolding open-Inode five record-of-five name-of-five
record-bytes = refl

disk-of-five : Disk
unfolding five
disk-of-five = with_block 51 (node_bytes five) (λ b. [])

data-read : data_of disk-of-five (inode_of record-of-five) ≡ 42 ∷ 44 ∷ 46 ∷ 48 ∷ 50 ∷ []
unfolding open-Inode five record-of-five disk-of-five
data-read = refl

levels-read : levels_of disk-of-five (inode_of record-of-five) ≡ (51 ∷ []) ∷ []
unfolding open-Inode five record-of-five disk-of-five
levels-read = refl

-- S3, S6
limits-hold : limits_hold record-of-five ≡ true
unfolding open-Inode record-of-five
limits-hold = refl

touching : apart (extent 42 2 ∷ extent 44 1 ∷ []) ≡ false
touching = refl

-- S1, S7: of the blocks from 40 on, with these bits, where files reach 43 and 44
as-reached : bit_fault 46 (43 ∷ 44 ∷ []) 40 (1 ∷ 1 ∷ 0 ∷ 1 ∷ 1 ∷ 0 ∷ 1 ∷ []) ≡ none
unfolding open-Disk
as-reached = refl

-- A2: "the lowest block whose bit is wrong or which is reached twice"
reached-twice : bit_fault 46 (44 ∷ 43 ∷ 43 ∷ []) 40 (1 ∷ 1 ∷ 0 ∷ 1 ∷ 1 ∷ 1 ∷ 1 ∷ []) ≡ some 43
unfolding open-Disk
reached-twice = refl

bit-below-it : bit_fault 46 (44 ∷ 43 ∷ 43 ∷ []) 40 (1 ∷ 0 ∷ 0 ∷ 1 ∷ 1 ∷ 0 ∷ 1 ∷ []) ≡ some 41
unfolding open-Disk
bit-below-it = refl

free-but-marked : bit_fault 46 (43 ∷ 44 ∷ []) 40 (1 ∷ 1 ∷ 0 ∷ 1 ∷ 1 ∷ 1 ∷ 0 ∷ []) ≡ some 45
unfolding open-Disk
free-but-marked = refl

bit-behind : bit_fault 46 (43 ∷ 44 ∷ []) 40 (1 ∷ 1 ∷ 0 ∷ 1 ∷ 1 ∷ 0 ∷ 0 ∷ []) ≡ some 46
unfolding open-Disk
bit-behind = refl

-- "Image i of the work space is that of the i-th block staged": a block staged before keeps its place
staged-again : (stage (record { blocks = 34 ∷ 33 ∷ []; image = λ i. [] }) (put 34 (7 ∷ []))).blocks ≡ 34 ∷ 33 ∷ []
unfolding open-Transaction
staged-again = refl

image-kept : (stage (record { blocks = 34 ∷ 33 ∷ []; image = λ i. [] }) (put 34 (7 ∷ []))).image 0 ≡ 7 ∷ []
unfolding open-Transaction
image-kept = refl

later-wins : ascending (put 43 [] ∷ put 42 (1 ∷ []) ∷ put 42 (2 ∷ []) ∷ []) ≡ put 42 (2 ∷ []) ∷ put 43 [] ∷ []
unfolding open-Transaction
later-wins = refl

staged-numbers : staged_in (with_staged (opened 64 Ready) (42 ∷ [])) ≡ 42 ∷ []
unfolding open-Session
staged-numbers = refl

count-past-end : staged_in (record { blocks = 64; phase = Ready; staged = replicate 32 7; count = 40 }) ≡ replicate 32 7
unfolding open-Session
count-past-end = refl

-- "first the data blocks in file order .. then extent blocks likewise": a fifth extent, and back to four
grown : Tree
grown = resized (1 ∷ 1 ∷ 1 ∷ 1 ∷ 0 ∷ 0 ∷ 0 ∷ []) (9 ∷ 11 ∷ 13 ∷ 15 ∷ []) [] 5

data-first : grown.blocks ≡ 9 ∷ 11 ∷ 13 ∷ 15 ∷ 4 ∷ []
unfolding open-Plan open-Inode open-Bitmap grown
data-first = refl

node-next : grown.levels ≡ (5 ∷ []) ∷ []
unfolding open-Plan open-Inode open-Bitmap grown
node-next = refl

given_back : (resized [] (9 ∷ 11 ∷ 13 ∷ 15 ∷ 4 ∷ []) ((5 ∷ []) ∷ []) 4).dropped ≡ 4 ∷ 5 ∷ []
unfolding open-Plan open-Inode open-Bitmap
given_back = refl

-- the data laid over a block, byte by byte; the tail cleared
laid-over : overlay 3 (7 ∷ 8 ∷ []) 1 (1 ∷ 1 ∷ 1 ∷ 1 ∷ 1 ∷ []) ≡ 1 ∷ 1 ∷ 7 ∷ 8 ∷ 1 ∷ []
laid-over = refl

tail-cleared : take 4 (clear_tail 514 1 (5 ∷ 5 ∷ 5 ∷ 5 ∷ [])) ≡ 5 ∷ 5 ∷ 0 ∷ 0 ∷ []
tail-cleared = refl

data-held : holds_data 512 (1 ∷ []) 0 ≡ false
data-held = refl

last-kept : is_last_kept 600 100 0 ≡ true
last-kept = refl

last-not-cut : is_last_kept 600 512 1 ≡ false
last-not-cut = refl

-- "Commit block targets 33, 33: 10 at record 1. Target 32 first: 10 at record 0."
seen-before : header_fault 64 (header_of (33 ∷ 33 ∷ [])) ≡ some 1
unfolding open-Journal open-Disk zeros
seen-before = refl

below-targets : header_fault 64 (header_of (32 ∷ [])) ≡ some 0
unfolding open-Journal open-Disk zeros
below-targets = refl

-- a used record behind an empty one, and a byte that is not zero
used-after-empty : header_fault 64 (header_of (33 ∷ 0 ∷ 34 ∷ [])) ≡ some 2
unfolding open-Journal open-Disk zeros
used-after-empty = refl

other_byte : header_fault 64 (33 ∷ 0 ∷ replicate 13 0 ++ (1 ∷ replicate 496 0)) ≡ some 0
unfolding open-Journal open-Disk zeros
other_byte = refl

good-header : header_fault 64 (header_of (63 ∷ 33 ∷ [])) ≡ none
unfolding open-Journal open-Disk zeros
good-header = refl

listed : targets_in (header_of (63 ∷ 33 ∷ [])) ≡ 63 ∷ 33 ∷ []
unfolding open-Journal open-Disk zeros
listed = refl

-- "Bytes 0 and 1 of record i are a target block; the other 14 are zero.": block 0 with targets 33 and 300, byte by byte
listing-two : List ℕ
listing-two = 33 ∷ 0 ∷ replicate 14 0 ++ (44 ∷ 1 ∷ replicate 494 0)

header-bytes : header_of (33 ∷ 300 ∷ []) ≡ listing-two
unfolding open-Journal zeros listing-two
header-bytes = refl

header_read : targets_in listing-two ≡ 33 ∷ 300 ∷ []
unfolding open-Journal zeros listing-two
header_read = refl

repeated : are_targets 64 (33 ∷ 42 ∷ 33 ∷ []) ≡ false
unfolding open-Journal open-Disk
repeated = refl

-- NewFile in its first form
gap-of-zeros : new_file 3 (7 ∷ []) (1 ∷ []) ≡ 1 ∷ 0 ∷ 0 ∷ 7 ∷ []
gap-of-zeros = refl

end_kept : new_file 1 (7 ∷ []) (1 ∷ 1 ∷ 1 ∷ []) ≡ 1 ∷ 7 ∷ 1 ∷ []
end_kept = refl
