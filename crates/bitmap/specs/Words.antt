-- The bitmap by whole words, for the contracts of this crate.
use Rattle.std.specs.Prelude.{ℕ, ◌+◌, ◌*◌, ◌<◌, ◌≡◌, List, Option, Some, None, length, get_or, replicate}
use Rattle.std.proofs.Math.Option as math
use Rattle.std.proofs.Math.Option.{none, some}
use Rattle.std.specs.Int.{w64, count_zeros, from_le_bytes}
use Rattle.spec.specs.declared.DiskBlock.{DiskBlock}
use Rattle.spec.specs.Disk.{disk_block}
use Rattle.spec.specs.Bytes.{up_from}
use Rattle.spec.specs.Bitmap.{byte_of, mark}

-- each entry is below n
abbrev pub Below : ℕ → List ℕ → Type 0
Below n xs = (i : ℕ) → get_or xs i 0 < n

-- a table is 512 bytes
pub record Table (t : List ℕ) : Type 0 where
  pub full : length t ≡ 512
  pub bytes : Below 256 t

-- word w of the table: the bytes 8 * w to 8 * w + 7, the lowest first
abbrev pub word_of : List ℕ → ℕ → ℕ
word_of t w =
    ((((((get_or t (8 * w + 7) 0 * 256 + get_or t (8 * w + 6) 0) * 256 + get_or t (8 * w + 5) 0) * 256 + get_or t (8 * w + 4) 0) * 256
    + get_or t (8 * w + 3) 0) * 256 + get_or t (8 * w + 2) 0) * 256 + get_or t (8 * w + 1) 0) * 256 + get_or t (8 * w) 0

-- how many bits of a word's eight bytes are 0
unfoldable pub free_of_word : List ℕ → ℕ
free_of_word w = count_zeros w64 (from_le_bytes w64 w)

-- the byte with n ones from bit s on
unfoldable pub mask_of : ℕ → ℕ → ℕ
mask_of n s = byte_of (mark 1 (up_from s n) (replicate 8 0))

-- a place as the code tells it
abbrev pub found_of : math.Option ℕ → Option DiskBlock
found_of none = None
found_of (some b) = Some (disk_block b)
