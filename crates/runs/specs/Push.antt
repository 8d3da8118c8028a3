-- Extents held by value, and growing a list of extents at its end.
use Rattle.std.specs.Prelude.{ℕ, ◌+◌, ◌-◌, ◌<◌, ◌≤◌, ◌≡◌, cond, List, [], ◌∷◌, length, take, get_or, replicate, eqb}
use Rattle.spec.specs.declared.Extent.{Extent}
use Rattle.spec.specs.Inode.{extent}
use Rattle.runs.specs.declared.ExtentList.{ExtentList}
use Rattle.runs.specs.declared.ListEnd.{ListEnd}

-- of an array and an end as code holds them
abbrev pub list_with : List Extent → ListEnd → ExtentList
list_with cells end = record { cells = cells; end = end }

-- no extents
abbrev pub no_extents : ExtentList
no_extents = list_with (replicate 512 (extent 0 0)) (record { len = 0; next = 0 })

-- the block after the last extent, and `a` where there is none
unfoldable pub end_from : ℕ → List Extent → ℕ
end_from a [] = a
end_from a (e ∷ es) = end_from (e.first + e.count) es

-- c blocks from b on behind some extents: joined to the last one where that ends at b
unfoldable pub grown : List Extent → ℕ → ℕ → List Extent
grown [] b c = extent b c ∷ []
grown (e ∷ []) b c = cond (eqb (e.first + e.count) b) (extent e.first (e.count + c) ∷ []) (e ∷ extent b c ∷ [])
grown (e ∷ f ∷ es) b c = e ∷ grown (f ∷ es) b c

-- the list holds the first of these extents, beside how many they are and where the last of them ends
pub record Holds (r : ExtentList) (es : List Extent) : Type 0 where
  pub many : r.end.len ≡ length es
  pub cells : take r.end.len r.cells ≡ take (length r.cells) es
  pub next : 0 < length es → r.end.next ≡ end_from 0 es

-- the count of the last extent, where the list has it
abbrev pub last_count : ExtentList → ℕ
last_count r = (get_or r.cells (r.end.len - 1) (extent 0 0)).count

-- no number is large where n blocks are held, and the array has its length
pub record Small (r : ExtentList) (n : ℕ) : Type 0 where
  pub full : length r.cells ≡ 512
  pub first : (k : ℕ) → (get_or r.cells k (extent 0 0)).first < 131072
  pub count : (k : ℕ) → (get_or r.cells k (extent 0 0)).count ≤ n
  pub len : r.end.len ≤ n
  pub next : r.end.next ≤ 131072 + n

-- what one more run does
pub record Pushed (r : ExtentList) (b c : ℕ) (q : ExtentList) : Type 0 where
  pub holds : (es : List Extent) → Holds r es → Holds q (grown es b c)
  pub small : (n : ℕ) → Small r n → b < 131072 → 0 < c → Small q (n + c)
