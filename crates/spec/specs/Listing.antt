-- What the program purselist prints for a device image, as bytes.
use Rattle.std.specs.Prelude.{ℕ, zero, suc, ◌+◌, ◌/◌, ◌%◌, cond, not, List, [], ◌∷◌, ◌++◌, map, length, ltb}
use Rattle.spec.specs.Layout.{header_block, bitmap_block, inode_count}
use Rattle.spec.specs.Bytes.{concat, keep, up_from}
use Rattle.spec.specs.Disk.{Disk, Slice, slice_of}
use Rattle.spec.specs.Bitmap.{bits_of, free_bits}
use Rattle.spec.specs.Inode.{Extent, inode_at, name_at, is_empty, data_of, runs}
use Rattle.spec.specs.Session.{Phase, Closed, Ready, Committing, Recovering, never_opened}
use Rattle.spec.specs.Answers.{Answer, refused, done, started, stored, idle, counted, file, no_file, run, no_run}
use Rattle.spec.specs.Journal.{targets_in}
use Rattle.spec.specs.Calls.{open_store}

-- ---- words and numbers

-- "files ", " free ", "refused ", "recover "
abbrev pub files_word : List ℕ
files_word = 102 ∷ 105 ∷ 108 ∷ 101 ∷ 115 ∷ 32 ∷ []

abbrev pub free_word : List ℕ
free_word = 32 ∷ 102 ∷ 114 ∷ 101 ∷ 101 ∷ 32 ∷ []

abbrev pub refused_word : List ℕ
refused_word = 114 ∷ 101 ∷ 102 ∷ 117 ∷ 115 ∷ 101 ∷ 100 ∷ 32 ∷ []

abbrev pub recover_word : List ℕ
recover_word = 114 ∷ 101 ∷ 99 ∷ 111 ∷ 118 ∷ 101 ∷ 114 ∷ 32 ∷ []

-- line feed, blank, plus, comma, minus
abbrev pub feed : List ℕ
feed = 10 ∷ []

abbrev pub blank : List ℕ
blank = 32 ∷ []

abbrev pub plus : List ℕ
plus = 43 ∷ []

abbrev pub comma : List ℕ
comma = 44 ∷ []

abbrev pub minus : List ℕ
minus = 45 ∷ []

-- a number in decimal, of at most so many digits; twenty are enough for any number of 64 bits
abbrev pub digits : ℕ → ℕ → List ℕ
digits zero n = []
digits (suc most) n = cond (ltb n 10) ((48 + n) ∷ []) (digits most (n / 10) ++ ((48 + n % 10) ∷ []))

abbrev pub decimal : ℕ → List ℕ
decimal n = digits 20 n

-- "name in hexadecimal": capitals
abbrev pub hex_digit : ℕ → ℕ
hex_digit n = cond (ltb n 10) (48 + n) (55 + n)

abbrev pub hexadecimal : List ℕ → List ℕ
hexadecimal [] = []
hexadecimal (x ∷ xs) = hex_digit (x / 16) ∷ hex_digit (x % 16) ∷ hexadecimal xs

-- ---- lines

-- "extents as first+count joined by commas, or - for none"
abbrev pub extent_text : Extent → List ℕ
extent_text e = decimal e.first ++ (plus ++ decimal e.count)

abbrev pub more_extents : List Extent → List ℕ
more_extents [] = []
more_extents (e ∷ es) = comma ++ (extent_text e ++ more_extents es)

abbrev pub extents_text : List Extent → List ℕ
extents_text [] = minus
extents_text (e ∷ es) = extent_text e ++ more_extents es

-- "name in hexadecimal, size, extents"
abbrev pub file_line : List ℕ → ℕ → List ℕ → List ℕ
file_line name size extents = hexadecimal name ++ (blank ++ (decimal size ++ (blank ++ (extents ++ feed))))

abbrev pub line_at : Disk → ℕ → List ℕ
line_at v i = file_line (name_at v i) (inode_at v i).size (extents_text (runs (data_of v (inode_at v i))))

-- "Then a line for each file in record order"
abbrev pub used_inodes : Disk → List ℕ
used_inodes v = keep (λ i. not (is_empty v i)) (up_from 0 inode_count)

-- "Line one: number of files, free blocks."
abbrev pub files_text : Disk → List ℕ
files_text v =
    files_word ++ (decimal (length (used_inodes v)) ++ (free_word ++ (decimal (free_bits (bits_of (v bitmap_block))) ++ (feed
    ++ concat (map (line_at v) (used_inodes v))))))

-- "A refusal prints one line, refused and the number"
abbrev pub refused_text : ℕ → List ℕ
refused_text n = refused_word ++ (decimal n ++ feed)

-- "Used log records print one line in place of the listing: recover and how many."
abbrev pub recover_text : Disk → List ℕ
recover_text d = recover_word ++ (decimal (length (targets_in (d header_block))) ++ feed)

abbrev pub opened_text : Disk → Phase → List ℕ
opened_text d Closed = []
opened_text d Ready = files_text d
opened_text d (Committing p) = []
opened_text d (Recovering p) = recover_text d

abbrev pub outcome_text : Disk → Phase → Answer → List ℕ
outcome_text d p (refused n vs) = refused_text n
outcome_text d p done = opened_text d p
outcome_text d p (started n) = []
outcome_text d p (stored b l n) = []
outcome_text d p idle = []
outcome_text d p (counted n) = []
outcome_text d p (file x n) = []
outcome_text d p no_file = []
outcome_text d p (run e) = []
outcome_text d p no_run = []

-- "reads a device image of at most 65,536 bytes", "a longer image gives 1"
abbrev pub longest_image : ℕ
longest_image = 65536

unfoldable pub text_of : Slice → List ℕ
text_of image =
    let o = open_store (record { session = never_opened; device = image; work = slice_of [] }) in
    cond (ltb longest_image image.size) (refused_text 1)
    (outcome_text image.block o.after.session.phase o.answer)

-- the text for the bytes of an image
abbrev pub listing : List ℕ → List ℕ
listing image = text_of (slice_of image)

-- opens what this module seals
unfoldable pub open-Listing : Unit {0}
unfolding text_of
open-Listing = tt
