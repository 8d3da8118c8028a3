-- The parts of the listing, as the functions of this crate put them.
use Rattle.std.specs.Prelude.{ℕ, ◌-◌, min, ◌≡◌, cond, not, ◌&&◌, Bool, nat_lt, List, [], ◌++◌, map, length, take, drop}
use Rattle.spec.specs.declared.Extent.{Extent}
use Rattle.spec.specs.declared.Phase.{Phase}
use Rattle.spec.specs.declared.Phase.TheVariants.{Closed, Ready, Committing, Recovering}
use Rattle.spec.specs.declared.Refusal.{Refusal}
use Rattle.spec.specs.Bytes.{concat, keep, up_from}
use Rattle.spec.specs.Disk.{Disk, blocks_of}
use Rattle.spec.specs.Inode.{inode_at, is_empty, data_of, runs}
use Rattle.spec.specs.Session.{never_opened}
use Rattle.spec.specs.Answers.{refusal_of, refusal_number}
use Rattle.spec.specs.Transaction.{state_of}
use Rattle.spec.specs.Calls.{open_store}
use Rattle.spec.specs.Listing.{extent_text, more_extents, extents_text, line_at, files_text, refused_text, recover_text, outcome_text, feed, listing}
use Rattle.text.specs.Written.{number}

-- "first+count"
unfoldable pub span_text : Extent → List ℕ
span_text e = extent_text e

-- "joined by commas": those behind the first
unfoldable pub more_text : List Extent → List ℕ
more_text es = more_extents es

-- "extents as first+count joined by commas, or - for none"
unfoldable pub runs_text : Disk → ℕ → List ℕ
runs_text v i = extents_text (runs (data_of v (inode_at v i)))

-- "name in hexadecimal, size, extents", for a used record
unfoldable pub line_text : Disk → ℕ → List ℕ
line_text v i = cond (is_empty v i) [] (line_at v i)

-- whether there is a record i, and it is used
unfoldable pub used : Disk → ℕ → Bool
used v i = nat_lt i 128 && not (is_empty v i)

-- the used records from record i on, and their lines
unfoldable pub used_from : Disk → ℕ → List ℕ
used_from v i = keep (λ j. not (is_empty v j)) (up_from i (128 - i))

unfoldable pub lines_text : Disk → ℕ → List ℕ
lines_text v i = concat (map (line_at v) (used_from v i))

-- "number of files, free blocks", "Then a line for each file in record order"
unfoldable pub files_lines : Disk → List ℕ
files_lines v = files_text v

-- a word and a number on a line
unfoldable pub told_text : List ℕ → ℕ → List ℕ
told_text word n = word ++ (number n ++ feed)

-- "refused and the number", "recover and how many"
unfoldable pub refused_line : Refusal → List ℕ
refused_line r = refused_text (refusal_number (refusal_of r))

unfoldable pub recover_line : Disk → List ℕ
recover_line d = recover_text d

abbrev pub opened_lines : Disk → Phase → List ℕ
opened_lines d Closed = []
opened_lines d Ready = files_lines d
opened_lines d (Committing p) = []
opened_lines d (Recovering p) = recover_line d

-- the text of an image of any length
unfoldable pub device_text : List ℕ → List ℕ
device_text image =
    let o = open_store (state_of never_opened image []) in
    outcome_text (blocks_of image) o.after.session.phase o.answer

-- the lent bytes hold the image's text at their front, as far as they reach, and are unchanged behind it; n is how many bytes of it they hold
pub record Listed (image out after : List ℕ) (n : ℕ) : Type 0 where
  pub bytes : after ≡ take (length out) (listing image) ++ drop (length (listing image)) out
  pub count : n ≡ min (length (listing image)) (length out)
