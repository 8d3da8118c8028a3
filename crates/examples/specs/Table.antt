-- The examples of document 01 as rows, in its order and its words, and the theorem that each row holds.
use Rattle.std.specs.Prelude.{ℕ, ◌*◌, List, [], ◌∷◌, ◌++◌, take, replicate, T}
use Rattle.spec.specs.Bytes.{zeros, up_from}
use Rattle.spec.specs.Disk.{open-Disk}
use Rattle.spec.specs.Bitmap.{open-Bitmap}
use Rattle.spec.specs.Inode.{extent, open-Inode}
use Rattle.spec.specs.Sound.{open-Sound}
use Rattle.spec.specs.Map.{open-Map}
use Rattle.spec.specs.Session.{open-Session}
use Rattle.spec.specs.Answers.{refused, done, started, counted, run}
use Rattle.spec.specs.Transaction.{State, open-Transaction}
use Rattle.spec.specs.Plan.{open-Plan}
use Rattle.spec.specs.Journal.{open-Journal}
use Rattle.spec.specs.Calls.{Outcome, Create, Rename, Write, SetSize, Read, Size, Free, NthExtent, Call, Format, Open, Commit, Do, Ask, step, open-Calls}
use Rattle.spec.specs.Listing.{open-Listing}
use Rattle.examples.specs.Lines.{Line, gives, fills, cuts, tampers, device, working, stages, prints, Row, row, all_hold, stores_to}

-- "Name A is 01 02 03 04 05 06 07 08."
abbrev pub A : List ℕ
A = up_from 1 8

abbrev pub B : List ℕ
B = up_from 11 8

-- 600 bytes of data
abbrev pub data600 : List ℕ
data600 = replicate 600 170

-- ---- what several rows begin with

-- "Format"
abbrev pub formatted : List Line
formatted = gives Format done ∷ []

-- "E1 opened"
abbrev pub opened : List Line
opened = formatted ++ (gives Open done ∷ [])

-- "E1 opened, create A"
abbrev pub created : List Line
created = opened ++ (gives (Do (Create A)) done ∷ [])

-- "E1 opened, create A, write 600 bytes at 0, commit"
abbrev pub begun : List Line
begun = created ++ (gives (Do (Write A 0 data600)) done ∷ gives Commit (started 10) ∷ [])

-- "1, 2, 3, 4, 0, 33, 34, 42, 43, 0"
abbrev pub ten_stores : List Line
ten_stores = stores_to 1 (1 ∷ 2 ∷ 3 ∷ 4 ∷ 0 ∷ 33 ∷ 34 ∷ 42 ∷ 43 ∷ 0 ∷ [])

-- "E3 committed"
abbrev pub committed : List Line
committed = begun ++ ten_stores

-- ---- the starred examples

-- "E1* Format, N = 64: bytes 0 to 4 of block 33 are FF, 5 is 03, 6 and 7 are 00, the rest FF. 22 free."
abbrev pub E1 : Row
E1 =
    row 64 (formatted ++ (device 33 0 (replicate 5 255 ++ (3 ∷ 0 ∷ 0 ∷ replicate 504 255)) ∷ device 63 0 (zeros 512)
    ∷ gives Open done ∷ gives (Ask Free) (counted 22) ∷ []))

-- "E2* E1 opened, create A, commit: stores go to 1, 0, 34, 0."
abbrev pub E2 : Row
E2 = row 64 (created ++ (gives Commit (started 4) ∷ stores_to 1 (1 ∷ 0 ∷ 34 ∷ 0 ∷ [])))

-- "E3* .. Slot 0 is (42, 2); bytes 88 to 511 of block 43 are zero.": with the whole of block 34, and the bits of 40 to 71
abbrev pub E3 : Row
E3 =
    row 64 (committed ++ (device 34 16 (42 ∷ 0 ∷ 2 ∷ 0 ∷ []) ∷ device 43 88 (zeros 424)
    ∷ device 34 0 (A ++ (88 ∷ 2 ∷ 0 ∷ 0 ∷ 0 ∷ 0 ∷ 0 ∷ 0 ∷ 42 ∷ 0 ∷ 2 ∷ 0 ∷ zeros 492)) ∷ device 33 5 (15 ∷ 0 ∷ 0 ∷ 255 ∷ []) ∷ []))

-- "E4* E3 cut after 4 stores: opens ready, A unknown."
abbrev pub E4-early : Row
E4-early = row 64 (begun ++ (take 4 ten_stores ++ (cuts ∷ gives Open done ∷ gives (Ask (Size A)) (refused 13 []) ∷ [])))

-- "After 5: recovery stores 33, 34, 42, 43, 0, and A is there.": with the whole of block 0
abbrev pub E4-late : Row
E4-late =
    row 64 (begun ++ (take 5 ten_stores
    ++ (device 0 0 (33 ∷ 0 ∷ zeros 14 ++ (34 ∷ 0 ∷ zeros 14 ++ (42 ∷ 0 ∷ zeros 14 ++ (43 ∷ 0 ∷ zeros 462))))
    ∷ cuts ∷ gives Open done ∷ (stores_to 1 (33 ∷ 34 ∷ 42 ∷ 43 ∷ 0 ∷ [])
    ++ (gives Open done ∷ gives (Ask (Size A)) (counted 600) ∷ fills (Ask (Read A 0 (zeros 600))) (counted 600) data600 ∷ [])))))

-- "E5* Size 600, read at 590 into 20 bytes: 10 bytes, 10 untouched. At 600: none."
abbrev pub E5 : Row
E5 =
    row 64 (committed ++ (fills (Ask (Read A 590 (replicate 20 9))) (counted 10) (replicate 10 170 ++ replicate 10 9)
    ∷ fills (Ask (Read A 600 (replicate 20 9))) (counted 0) (replicate 20 9) ∷ []))

-- "E6* Empty data at 1,000 in an empty file: size 1,000, all zeros."
abbrev pub E6-gap : Row
E6-gap =
    row 64 (created ++ (gives (Do (Write A 1000 [])) done ∷ gives (Ask (Size A)) (counted 1000)
    ∷ fills (Ask (Read A 0 (replicate 1001 9))) (counted 1000) (zeros 1000 ++ (9 ∷ [])) ∷ []))

-- "Empty data at 0 there stages nothing."
abbrev pub E6-nothing : Row
E6-nothing =
    row 64 (created ++ (gives Commit (started 4) ∷ (stores_to 1 (1 ∷ 0 ∷ 34 ∷ 0 ∷ [])
    ++ (gives (Do (Write A 0 [])) done ∷ stages [] ∷ gives Commit (started 0) ∷ []))))

-- "E7* N = 64, one file: size 11,264 passes, 11,265 gives 16."
abbrev pub E7 : Row
E7 = row 64 (created ++ (gives (Do (SetSize A 11265)) (refused 16 []) ∷ gives (Do (SetSize A 11264)) done ∷ []))

-- "E8* N = 128, create and set-size in one transaction: 15,360 passes with 32 staged, 15,361 gives 18."
abbrev pub E8 : Row
E8 =
    row 128 (created ++ (gives (Do (SetSize A 15361)) (refused 18 []) ∷ gives (Do (SetSize A 15360)) done
    ∷ stages (34 ∷ 33 ∷ up_from 42 30) ∷ []))

-- "E9* E3 committed, then A set to 100: stages 33, 34, 42; block 43 is free."
abbrev pub E9 : Row
E9 =
    row 64 (committed ++ (gives (Do (SetSize A 100)) done ∷ stages (33 ∷ 34 ∷ 42 ∷ []) ∷ working 33 5 (7 ∷ [])
    ∷ gives (Ask Free) (counted 21) ∷ []))

-- "E10* Commit block targets 33, 33: 10 at record 1. Target 32 first: 10 at record 0."
abbrev pub E10 : Row
E10 =
    row 64 (formatted ++ (tampers 0 (33 ∷ 0 ∷ zeros 14 ++ (33 ∷ 0 ∷ zeros 494)) ∷ gives Open (refused 10 (1 ∷ []))
    ∷ tampers 0 (32 ∷ 0 ∷ zeros 510) ∷ gives Open (refused 10 (0 ∷ [])) ∷ []))

-- ---- the others

-- both files set to n blocks, A first
abbrev pub grow : ℕ → List Line
grow n = gives (Do (SetSize A (512 * n))) done ∷ gives (Do (SetSize B (512 * n))) done ∷ []

-- "E11 A and B grown by one block in turn, A first: A's fifth block is 50, its extent block 51; slot 0 is (51, 5). Set to 2,048 bytes: depth 0,
-- 50 and 51 free.": with the whole of extent block 51
abbrev pub E11 : Row
E11 =
    row 64 (created ++ (gives (Do (Create B)) done ∷ (grow 1 ++ (grow 2 ++ (grow 3 ++ (grow 4
    ++ (gives (Do (SetSize A 2560)) done ∷ gives (Ask (NthExtent A 0 100 4)) (run (extent 50 1))
    ∷ working 34 12 (1 ∷ 0 ∷ 0 ∷ 0 ∷ 51 ∷ 0 ∷ 5 ∷ 0 ∷ []) ∷ working 33 6 (15 ∷ 0 ∷ [])
    ∷ working 51 0 (42 ∷ 0 ∷ 1 ∷ 0 ∷ 44 ∷ 0 ∷ 1 ∷ 0 ∷ 46 ∷ 0 ∷ 1 ∷ 0 ∷ 48 ∷ 0 ∷ 1 ∷ 0 ∷ 50 ∷ 0 ∷ 1 ∷ 0 ∷ zeros 492)
    ∷ gives (Do (SetSize A 2048)) done ∷ working 34 12 (0 ∷ []) ∷ working 33 6 (3 ∷ 0 ∷ []) ∷ [])))))))

-- "E12 A write ending at 1,048,576 passes 4; at 1,048,577 it does not."
abbrev pub E12 : Row
E12 = row 64 (created ++ (gives (Do (Write A 1048575 (1 ∷ []))) (refused 16 []) ∷ gives (Do (Write A 1048576 (1 ∷ []))) (refused 4 []) ∷ []))

-- "E13 Rename A to A: 14."
abbrev pub E13 : Row
E13 = row 64 (created ++ (gives (Do (Rename A A)) (refused 14 []) ∷ []))

-- "For E3 committed it prints in whole: files 1 free 20, 0102030405060708 600 42+2"
abbrev pub E3-printed : Row
E3-printed =
    row 64 (committed
    ++ (prints (102 ∷ 105 ∷ 108 ∷ 101 ∷ 115 ∷ 32 ∷ 49 ∷ 32 ∷ 102 ∷ 114 ∷ 101 ∷ 101 ∷ 32 ∷ 50 ∷ 48 ∷ 10
    ∷ 48 ∷ 49 ∷ 48 ∷ 50 ∷ 48 ∷ 51 ∷ 48 ∷ 52 ∷ 48 ∷ 53 ∷ 48 ∷ 54 ∷ 48 ∷ 55 ∷ 48 ∷ 56 ∷ 32 ∷ 54 ∷ 48 ∷ 48 ∷ 32 ∷ 52 ∷ 50 ∷ 43 ∷ 50 ∷ 10 ∷ []) ∷ []))

-- ---- "All numbers are little-endian": numbers that one byte does not hold

-- A has 300,000 bytes in 586 blocks from 300 on, written from outside: so they are read, and so 270,000 bytes in 528 blocks are written
abbrev pub large-file : Row
large-file =
    row 1024 (opened ++ (tampers 34 (A ++ (224 ∷ 147 ∷ 4 ∷ 0 ∷ 0 ∷ 0 ∷ 0 ∷ 0 ∷ 44 ∷ 1 ∷ 74 ∷ 2 ∷ zeros 492))
    ∷ gives (Ask (Size A)) (counted 300000) ∷ gives (Ask (NthExtent A 0 2048 0)) (run (extent 300 586))
    ∷ gives (Do (SetSize A 270000)) done
    ∷ working 34 0 (A ++ (176 ∷ 30 ∷ 4 ∷ 0 ∷ 0 ∷ 0 ∷ 0 ∷ 0 ∷ 44 ∷ 1 ∷ 16 ∷ 2 ∷ zeros 492)) ∷ []))

-- no block below 300 is free: 600 bytes go to 300 and 301, block 0 lists them, and a recovery stores to them
abbrev pub far-blocks : Row
far-blocks =
    row 512 (opened ++ (tampers 33 (replicate 37 255 ++ (15 ∷ replicate 26 0 ++ replicate 448 255))
    ∷ gives (Do (Create A)) done ∷ gives (Do (Write A 0 data600)) done ∷ gives Commit (started 10)
    ∷ (take 5 (stores_to 1 (1 ∷ 2 ∷ 3 ∷ 4 ∷ 0 ∷ 33 ∷ 34 ∷ 300 ∷ 301 ∷ 0 ∷ []))
    ++ (device 0 0 (33 ∷ 0 ∷ zeros 14 ++ (34 ∷ 0 ∷ zeros 14 ++ (44 ∷ 1 ∷ zeros 14 ++ (45 ∷ 1 ∷ zeros 462))))
    ∷ cuts ∷ gives Open done ∷ (stores_to 1 (33 ∷ 34 ∷ 300 ∷ 301 ∷ 0 ∷ [])
    ++ (device 34 0 (A ++ (88 ∷ 2 ∷ 0 ∷ 0 ∷ 0 ∷ 0 ∷ 0 ∷ 0 ∷ 44 ∷ 1 ∷ 2 ∷ 0 ∷ zeros 492)) ∷ device 33 37 (63 ∷ 0 ∷ []) ∷ []))))))

-- ---- A2: "22 record damaged, with its number; 23 block damaged, with its number"

-- the 32 bytes of a record: a file of one block b, and an empty file
abbrev pub record_with : List ℕ → ℕ → List ℕ
record_with name b = name ++ (0 ∷ 2 ∷ zeros 6 ++ (b ∷ 0 ∷ 1 ∷ 0 ∷ zeros 12))

abbrev pub record_without : List ℕ → List ℕ
record_without name = name ++ zeros 24

-- block 33 as E1 has it, but for byte 5: the bits of blocks 40 to 47
abbrev pub bits_with : ℕ → List ℕ
bits_with byte = replicate 5 255 ++ (byte ∷ 0 ∷ 0 ∷ replicate 504 255)

-- an empty record with a stray byte; A in records 0 and 1, and in 2 too; with a stray byte in record 3; A in record 1 only; a block below 42
abbrev pub damaged-inodes : Row
damaged-inodes =
    row 64 (formatted ++ (tampers 34 (zeros 8 ++ (1 ∷ zeros 503)) ∷ gives Open (refused 22 (0 ∷ []))
    ∷ tampers 34 (record_without A ++ (record_without A ++ zeros 448)) ∷ gives Open (refused 22 (1 ∷ []))
    ∷ tampers 34 (record_without A ++ (record_without A ++ (record_without A ++ zeros 416))) ∷ gives Open (refused 22 (1 ∷ []))
    ∷ tampers 34 (zeros 52 ++ (1 ∷ zeros 11 ++ (record_without A ++ (record_without A ++ zeros 384)))) ∷ gives Open (refused 22 (1 ∷ []))
    ∷ tampers 34 (zeros 32 ++ (record_without A ++ zeros 448)) ∷ gives Open done
    ∷ tampers 34 (record_without B ++ (record_with A 41 ++ zeros 448)) ∷ gives Open (refused 22 (1 ∷ [])) ∷ []))

-- bit 42 set, then bit 41 cleared; block 42 in two files, its bit set, then cleared, then bit 41 cleared too; a stray byte in record 5 besides: "22 comes
-- before 23"; no bit set
abbrev pub damaged-blocks : Row
damaged-blocks =
    row 64 (formatted ++ (tampers 33 (bits_with 7) ∷ gives Open (refused 23 (42 ∷ []))
    ∷ tampers 33 (bits_with 1) ∷ gives Open (refused 23 (41 ∷ []))
    ∷ tampers 34 (record_with A 42 ++ (record_with B 42 ++ zeros 448)) ∷ tampers 33 (bits_with 7) ∷ gives Open (refused 23 (42 ∷ []))
    ∷ tampers 33 (bits_with 3) ∷ gives Open (refused 23 (42 ∷ []))
    ∷ tampers 33 (bits_with 5) ∷ gives Open (refused 23 (41 ∷ []))
    ∷ tampers 34 (record_with A 42 ++ (record_with B 42 ++ (zeros 106 ++ (1 ∷ zeros 341)))) ∷ gives Open (refused 22 (5 ∷ []))
    ∷ tampers 34 (record_with A 42 ++ zeros 480) ∷ tampers 33 (bits_with 7) ∷ gives Open done
    ∷ tampers 33 (zeros 512) ∷ gives Open (refused 23 (0 ∷ [])) ∷ []))

-- ---- the table

abbrev pub table : List Row
table =
    E1 ∷ E2 ∷ E3 ∷ E4-early ∷ E4-late ∷ E5 ∷ E6-gap ∷ E6-nothing ∷ E7 ∷ E8 ∷ E9 ∷ E10
    ∷ E11 ∷ E12 ∷ E13 ∷ E3-printed ∷ large-file ∷ far-blocks ∷ damaged-inodes ∷ damaged-blocks ∷ []

-- the store that the rows are about: the definitions of the calls
abbrev pub store : State → Call → Outcome
store s c = step s c

-- every row holds
pub every-row : T (all_hold store table)
unfolding zeros open-Disk open-Bitmap open-Inode open-Sound open-Map open-Session open-Transaction open-Plan open-Journal open-Calls open-Listing
every-row = tt
