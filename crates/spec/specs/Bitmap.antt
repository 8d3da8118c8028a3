-- The bitmap (document 01: bit table, block 33) as a list of 4,096 bits, 1 for a block in use.
use Rattle.std.specs.Prelude.{ℕ, zero, suc, ◌+◌, ◌*◌, ◌/◌, ◌%◌, List, [], ◌∷◌, ◌++◌, map, set}
use Rattle.std.proofs.Math.Option.{get_or}
use Rattle.spec.specs.Layout.{block_size}
use Rattle.spec.specs.Bytes.{occurs, place, pieces}

-- "block b is bit b mod 8 (lowest first) of byte b div 8"
abbrev pub bits_of_byte : ℕ → List ℕ
bits_of_byte x = x % 2 ∷ x / 2 % 2 ∷ x / 4 % 2 ∷ x / 8 % 2 ∷ x / 16 % 2 ∷ x / 32 % 2 ∷ x / 64 % 2 ∷ x / 128 % 2 ∷ []

unfoldable pub bits_of : List ℕ → List ℕ
bits_of [] = []
bits_of (x ∷ xs) = bits_of_byte x ++ bits_of xs

-- the byte of eight bits, and the bytes of the table's bits
abbrev pub byte_of : List ℕ → ℕ
byte_of [] = 0
byte_of (x ∷ xs) = x + 2 * byte_of xs

unfoldable pub bytes_of : List ℕ → List ℕ
bytes_of bits = map byte_of (pieces block_size 8 bits)

-- "the number of zero bits"
abbrev pub free_bits : List ℕ → ℕ
free_bits bits = occurs 0 bits

-- the bits at some places made 1, or 0
unfoldable pub mark : ℕ → List ℕ → List ℕ → List ℕ
mark value [] bits = bits
mark value (b ∷ bs) bits = mark value bs (set bits b value)

-- "each the lowest free one in the working bit table": the next block to take; 0 where none is free
unfoldable pub pick : List ℕ → ℕ
pick bits = get_or (place 0 bits) 0

-- n picks in turn
unfoldable pub picks : List ℕ → ℕ → List ℕ
picks bits zero = []
picks bits (suc n) = pick bits ∷ picks (set bits (pick bits) 1) n

-- opens what this module seals
unfoldable pub open-Bitmap : Unit {0}
unfolding bits_of bytes_of mark pick picks
open-Bitmap = tt
