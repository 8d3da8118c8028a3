-- Lists of bytes, numbers in them, and what the other modules need of lists. Everything is total: 0 past an end.
use Rattle.std.specs.Prelude.{ℕ, zero, suc, ◌+◌, ◌*◌, ◌-◌, ◌/◌, ◌%◌, Bool, true, false, cond, not, ◌&&◌, List, [], ◌∷◌, ◌++◌, length, take, drop, get_or, replicate, eqb}
use Rattle.std.proofs.Math.Option.{Option, none, some}

-- n zero bytes
unfoldable pub zeros : ℕ → List ℕ
zeros n = replicate n 0

-- the first n bytes, with zeros past the end
abbrev pub exactly : ℕ → List ℕ → List ℕ
exactly zero xs = []
exactly (suc n) [] = 0 ∷ exactly n []
exactly (suc n) (x ∷ xs) = x ∷ exactly n xs

-- n bytes from a place
abbrev pub part : ℕ → ℕ → List ℕ → List ℕ
part at n xs = take n (drop at xs)

-- a list with another laid over it from a place
abbrev pub patch : ℕ → List ℕ → List ℕ → List ℕ
patch at new old = take at old ++ (new ++ drop (at + length new) old)

-- "All numbers are little-endian"
abbrev pub number2 : ℕ → List ℕ → ℕ
number2 at xs = get_or xs at 0 + 256 * get_or xs (at + 1) 0

abbrev pub number4 : ℕ → List ℕ → ℕ
number4 at xs = number2 at xs + 65536 * number2 (at + 2) xs

abbrev pub bytes2 : ℕ → List ℕ
bytes2 n = n % 256 ∷ n / 256 % 256 ∷ []

abbrev pub bytes4 : ℕ → List ℕ
bytes4 n = bytes2 (n % 65536) ++ bytes2 (n / 65536)

-- rounded up
abbrev pub quotient_up : ℕ → ℕ → ℕ
quotient_up n m = (n + (m - 1)) / m

-- by cases on a value that may be missing
module _ {A B : Type 0} where
  abbrev pub found : Option A → B → (A → B) → B
  found none b f = b
  found (some a) b f = f a

-- tests of lists
abbrev pub same : List ℕ → List ℕ → Bool
same [] [] = true
same [] (y ∷ ys) = false
same (x ∷ xs) [] = false
same (x ∷ xs) (y ∷ ys) = let r = same xs ys in eqb x y && r

module _ {A : Type 0} where
  abbrev pub all : (A → Bool) → List A → Bool
  all f [] = true
  all f (x ∷ xs) = let r = all f xs in f x && r

  abbrev pub any : (A → Bool) → List A → Bool
  any f xs = not (all (λ x. not (f x)) xs)

  abbrev pub keep : (A → Bool) → List A → List A
  keep f [] = []
  keep f (x ∷ xs) = let r = keep f xs in cond (f x) (x ∷ r) r

  -- the leading entries that pass
  abbrev pub leading : (A → Bool) → List A → List A
  leading f [] = []
  leading f (x ∷ xs) = let r = x ∷ leading f xs in cond (f x) r []

  abbrev pub concat : List (List A) → List A
  concat [] = []
  concat (x ∷ xs) = x ++ concat xs

  -- the list in m pieces of n
  abbrev pub pieces : ℕ → ℕ → List A → List (List A)
  pieces zero n xs = []
  pieces (suc m) n xs = take n xs ∷ pieces m n (drop n xs)

  abbrev pub is_some : Option A → Bool
  is_some none = false
  is_some (some a) = true

abbrev pub all_zero : List ℕ → Bool
all_zero xs = all (λ x. eqb x 0) xs

abbrev pub sum : List ℕ → ℕ
sum [] = 0
sum (x ∷ xs) = x + sum xs

-- how often b occurs
abbrev pub occurs : ℕ → List ℕ → ℕ
occurs b [] = 0
occurs b (x ∷ xs) = cond (eqb x b) 1 0 + occurs b xs

abbrev pub member : ℕ → List ℕ → Bool
member b xs = any (λ x. eqb x b) xs

-- no number occurs twice
abbrev pub distinct : List ℕ → Bool
distinct [] = true
distinct (x ∷ xs) = let r = distinct xs in not (member x xs) && r

-- a, a + 1, .. : n numbers
abbrev pub up_from : ℕ → ℕ → List ℕ
up_from a zero = []
up_from a (suc n) = a ∷ up_from (suc a) n

-- the lowest of the n numbers from a that passes
abbrev pub lowest : ℕ → ℕ → (ℕ → Bool) → Option ℕ
lowest a zero f = none
lowest a (suc n) f = let r = lowest (suc a) n f in cond (f a) (some a) r

-- where b first stands in a list, counted from i
abbrev pub place_from : ℕ → ℕ → List ℕ → Option ℕ
place_from i b [] = none
place_from i b (x ∷ xs) = let r = place_from (suc i) b xs in cond (eqb x b) (some i) r

abbrev pub place : ℕ → List ℕ → Option ℕ
place b xs = place_from 0 b xs
