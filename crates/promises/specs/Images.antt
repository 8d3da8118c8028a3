-- The first image of a work space, kept and put back: laws of copied bytes. Assumes nothing.
use Rattle.std.specs.Prelude.{ℕ, ◌≤◌, ◌≡◌, List, ◌++◌, length, take, drop}
use Rattle.std.proofs.Common.{sym, ◌∙◌, length-take-le}
use Rattle.spec.specs.Disk.{slice_of, blocks_of}
use Rattle.block.specs.Stores.{stored_in}
use Rattle.block.proofs.Laws.{exactly-all, block-is}
use Rattle.block.proofs.Steps.{slice-stored}
pub use Rattle.block.proofs.Steps.{placed-more, placed-all}

-- the first 512 bytes are image 0
pub image-is : (w x : List ℕ) → 512 ≤ length w → x ≡ take 512 w → x ≡ blocks_of w 0
image-is w x h e = e ∙ sym (exactly-all 512 (take 512 w) (length-take-le 512 w h)) ∙ sym (block-is w 0)

-- they are lent, and given back with the image in them
pub image-stored : (x y w : List ℕ) → y ≡ x → length x ≡ 512 → 512 ≤ length w → slice_of (y ++ drop 512 w) ≡ stored_in (slice_of w) 0 x
image-stored x y w e full fits = slice-stored 0 x y w e full fits
