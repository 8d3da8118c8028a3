-- Entries below a number: bits, bytes, and lists made of them; equal lists. Assumes nothing.
use Rattle.std.specs.Prelude.{ℕ, zero, suc, ◌+◌, ◌^◌, ◌<◌, ◌≡◌, true, List, [], ◌∷◌, ◌++◌, map, take, drop, get_or, replicate}
use Rattle.std.proofs.Common.{get_or-drop, pow-suc, arith}
use Rattle.spec.specs.Layout.{block_size, inode_size}
use Rattle.spec.specs.Bytes.{pieces, same}
use Rattle.spec.specs.Disk.{Disk}
use Rattle.spec.specs.Bitmap.{byte_of, bytes_of}
use Rattle.spec.specs.Inode.{inode_bytes, block_of_inode, place_of_inode}
use Rattle.block.proofs.Laws.{same_self}
use Rattle.bitmap.specs.Words.{Below}

-- ---- bytes of bits are below 256

byte_small : (k : ℕ) (xs : List ℕ) → Below 2 xs → byte_of (take k xs) < 2 ^ k
byte_small zero xs h = omega arith
byte_small (suc k) [] h = omega (arith, pow-suc 2 k, byte_small k [] h)
byte_small (suc k) (x ∷ xs) h = omega (arith, h 0, pow-suc 2 k, byte_small k xs (λ i. h (suc i)))

pieces-small : (m : ℕ) (bits : List ℕ) (i : ℕ) → Below 2 bits → get_or (map byte_of (pieces m 8 bits)) i 0 < 256
pieces-small zero bits i h = omega arith
pieces-small (suc m) bits zero h = byte_small 8 bits h
pieces-small (suc m) bits (suc i) h = pieces-small m (drop 8 bits) i (λ k. omega (arith, get_or-drop 8 bits k 0, h (8 + k)))

pub bytes_small : (bits : List ℕ) → Below 2 bits → Below 256 (bytes_of bits)
unfolding bytes_of
bytes_small bits h i = pieces-small block_size bits i h

-- ---- lists of entries below a number

pub below-append : (n : ℕ) (xs ys : List ℕ) → Below n xs → Below n ys → Below n (xs ++ ys)
below-append n [] ys f g i = g i
below-append n (x ∷ xs) ys f g zero = f 0
below-append n (x ∷ xs) ys f g (suc i) = below-append n xs ys (λ k. f (suc k)) g i

pub below-replicate : (n m x : ℕ) → 0 < n → x < n → Below n (replicate m x)
below-replicate n zero x z h i = z
below-replicate n (suc m) x z h zero = h
below-replicate n (suc m) x z h (suc i) = below-replicate n m x z h i

pub below-take : (n k : ℕ) (xs : List ℕ) → 0 < n → Below n xs → Below n (take k xs)
below-take n zero xs z h i = z
below-take n (suc k) [] z h i = z
below-take n (suc k) (x ∷ xs) z h zero = h 0
below-take n (suc k) (x ∷ xs) z h (suc i) = below-take n k xs z (λ j. h (suc j)) i

pub below-drop : (n k : ℕ) (xs : List ℕ) → Below n xs → Below n (drop k xs)
below-drop n k xs h i = rw (get_or-drop k xs i 0) (h (k + i))

pub record-small : (v : Disk) (i : ℕ) → ((b : ℕ) → Below 256 (v b)) → Below 256 (inode_bytes v i)
unfolding inode_bytes
record-small v i h = below-take 256 inode_size (drop (place_of_inode i) (v (block_of_inode i))) (omega arith) (below-drop 256 (place_of_inode i) (v (block_of_inode i)) (h (block_of_inode i)))

-- ---- equal lists

pub same_of : (xs ys : List ℕ) → xs ≡ ys → same xs ys ≡ true
same_of xs ys e = rw e (same_self ys)
