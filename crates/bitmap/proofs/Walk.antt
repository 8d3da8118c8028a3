-- What a loop over the words from one on has passed. Assumes nothing.
use Prim.Native.Nat.{ℕ, zero, suc, ◌*◌, ◌/◌, ◌<◌, ◌≤◌}
use mathlib.Core.Path.{◌≡◌, refl, ap, ◌∙◌}
use mathlib.Core.List.{List, []}
use native.Mathlib.Omega.{arith}
use lib.ListN.{length, take, drop, get_or}
use Rattle.std.specs.Int.{w64, from_le_bytes}
use Rattle.std.specs.Simd.{first_chunks}
use Rattle.spec.specs.Bitmap.{bits_of}
use Rattle.bitmap.specs.Words.{Table}
use Rattle.bitmap.proofs.Words.{Word, word-says, word-read, all_words}

words-many : (k : ℕ) (t : List ℕ) → length (first_chunks 8 k t) ≡ k
words-many zero t = refl
words-many (suc k) t = ap suc (words-many k (drop 8 t))

-- of a table's words
module _ (t : List ℕ) (table : Table t) (words : List (List ℕ)) (front : words ≡ first_chunks 8 (length t / 8) t) where
  many : length words ≡ 64
  many = ap length front ∙ words-many (length t / 8) t ∙ omega (arith, table.full)

  pub word-at : (k x : ℕ) → k < length words → x ≡ from_le_bytes w64 (get_or words k []) → Word t k x
  word-at k x h e =
      let i : k < 64 = omega (arith, h, many) in
      word-says t table k x i (word-read t table.full words front k x [] i e)

  pub all-passed : (k : ℕ) → length words ≤ k → take (64 * k) (bits_of t) ≡ bits_of t
  all-passed k l = all_words t k table.full (omega (arith, l, many))
