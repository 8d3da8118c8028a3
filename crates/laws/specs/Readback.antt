-- A file's record and nodes, as written, are read back, and are sound: S3 to S6. Assumes nothing.
use Prim.Native.Nat.{ℕ, zero, suc, ◌+◌, ◌*◌, ◌-◌, ◌/◌, ◌%◌, ◌≤◌, ◌<◌}
use Rattle.std.specs.Prelude.{◌≡◌, Bool, true, false, ◌&&◌, eqb, take, drop, replicate}
use Rattle.std.proofs.Math.Path.{refl, ap, ap₂}
use Rattle.std.proofs.Common.{sym, ◌∙◌, take-append-drop, length-drop, length-take, not-suc-le-zero, eqb-true, ne_eqb}
use mathlib.Core.List.{List, [], ◌∷◌, ◌++◌, map}
use Rattle.std.proofs.Math.ListN.{length, length-append}
use Rattle.std.proofs.Math.Seq.{drop_at, drop-append_seam}
use native.Mathlib.Omega.{arith}
use Rattle.spec.specs.Layout.{block_size, name_size, inode_size, slots_per_inode, slots_per_node, max_file_size, most_blocks}
use Rattle.spec.specs.Bytes.{part, all, all_zero, exactly, bytes4, occurs}
use Rattle.spec.specs.Disk.{Disk}
use Rattle.spec.specs.declared.Extent.{Extent}
use Rattle.spec.specs.Inode.{extent, slots_in, used, bytes_of_slots, bytes_of_inode, inode_of, slots_at, below, node_slots, node_bytes, counts}
use Rattle.spec.specs.Sound.{slots_packed}
use Rattle.lists.specs.Tests.{and_both}
use Rattle.lists.specs.All.{All}
use Rattle.block.proofs.Laws.{length-exactly, exactly-small, number4-bytes4}
use Rattle.bitmap.specs.Words.{Below}
use Rattle.laws.specs.Bytes.{below-append}
use Rattle.laws.specs.Soundness.{Inside, Counted}
use Rattle.laws.specs.RunsOf.{Fits}
use Rattle.laws.specs.Records.{told_is, told-reserved}

-- ---- slots

-- a slot that is used and has two bytes for each number
pub record Slot (e : Extent) : Type 0 where
  pub first_fits : e.first < 65536
  pub some : 1 ≤ e.count
  pub count_fits : e.count < 65536

pub slot_of : (N : ℕ) (es : List Extent) → N ≤ most_blocks → All (Fits N) es → All Slot es
slot_of N [] h a = tt
slot_of N (e ∷ es) h a =
    let i = a.0.inside in
    (record { first_fits = omega (arith, i.begin.high); some = a.0.some; count_fits = omega (arith, i.end.high) }, slot_of N es h a.1)

pub All-take : {A : Type 0} (P : A → Type 0) (n : ℕ) (xs : List A) → All P xs → All P (take n xs)
All-take P zero xs a = tt
All-take P (suc n) [] a = tt
All-take P (suc n) (x ∷ xs) a = (a.0, All-take P n xs a.1)

pub All-drop : {A : Type 0} (P : A → Type 0) (n : ℕ) (xs : List A) → All P xs → All P (drop n xs)
All-drop P zero xs a = a
All-drop P (suc n) [] a = tt
All-drop P (suc n) (x ∷ xs) a = All-drop P n xs a.1

-- an unused slot, and slots filled up with it
abbrev unused : Extent
unused = extent 0 0

unfoldable pub padded : ℕ → List Extent → List Extent
padded m es = es ++ replicate (m - length es) (extent 0 0)

read-unused : (m : ℕ) → slots_in m (exactly (4 * m) []) ≡ replicate m unused
unfolding slots_in
read-unused zero = refl
read-unused (suc m) =
    let q : 4 * suc m ≡ suc (suc (suc (suc (4 * m)))) = omega arith in
    rw q (ap (λ (l : List Extent). unused ∷ l) (read-unused m))

pub read-slots : (m : ℕ) (es : List Extent) → length es ≤ m → All Slot es → slots_in m (exactly (4 * m) (bytes_of_slots es)) ≡ padded m es
unfolding padded slots_in
read-slots m [] h a = let z : m - 0 ≡ m = omega arith in rw z (read-unused m)
read-slots zero (e ∷ es) h a = absurd (omega arith)
read-slots (suc m) (e ∷ es) h a =
    let q : 4 * suc m ≡ suc (suc (suc (suc (4 * m)))) = omega arith in
    let z : suc m - suc (length es) ≡ m - length es = omega arith in
    let f : e.first % 256 + 256 * (e.first / 256 % 256) ≡ e.first = omega (arith, a.0.first_fits) in
    let c : e.count % 256 + 256 * (e.count / 256 % 256) ≡ e.count = omega (arith, a.0.count_fits) in
    rw (q, z, f, c) (ap (λ (l : List Extent). e ∷ l) (read-slots m es (omega arith) a.1))

used-front : (k : ℕ) (es : List Extent) → All Slot es → used (es ++ replicate k unused) ≡ es
used-front zero [] a = refl
used-front (suc k) [] a = refl
used-front k (e ∷ es) a =
    rw (ne_eqb e.count 0 (λ q. omega (arith, a.0.some))) (ap (λ (l : List Extent). e ∷ l) (used-front k es a.1))

pub used-padded : (m : ℕ) (es : List Extent) → All Slot es → used (padded m es) ≡ es
unfolding padded
used-padded m es a = used-front (m - length es) es a

all-unused : (k : ℕ) → all (λ e. eqb e.first 0 && eqb e.count 0) (replicate k unused) ≡ true
all-unused zero = refl
all-unused (suc k) = all-unused k

pub padded-packed : (m : ℕ) (es : List Extent) → All Slot es → slots_packed (padded m es) ≡ true
unfolding padded
padded-packed m es a = rw (used-padded m es a, drop-append_seam es (replicate (m - length es) unused)) (all-unused (m - length es))

-- bytes of slots are bytes
pub slots_small : (es : List Extent) → Below 256 (bytes_of_slots es)
slots_small [] i = omega arith
slots_small (e ∷ es) zero = omega arith
slots_small (e ∷ es) (suc zero) = omega arith
slots_small (e ∷ es) (suc (suc zero)) = omega arith
slots_small (e ∷ es) (suc (suc (suc zero))) = omega arith
slots_small (e ∷ es) (suc (suc (suc (suc i)))) = slots_small es i

-- ---- a record

module _ (name : List ℕ) (size depth : ℕ) (ss : List Extent) (eight : length name ≡ name_size) where
  unfoldable rest : List ℕ
  rest = bytes4 size ++ (depth ∷ 0 ∷ 0 ∷ 0 ∷ exactly 16 (bytes_of_slots ss))

  abbrev written : List ℕ
  written = bytes_of_inode (record { name = name; size = size; depth = depth; slots = ss })

  written_is : written ≡ name ++ rest
  unfolding rest bytes_of_inode
  written_is = refl

  pub read-inode : size ≤ max_file_size → length ss ≤ slots_per_inode → All Slot ss → inode_of written ≡ record { name = name; size = size; depth = depth; slots = padded slots_per_inode ss }
  unfolding rest
  read-inode h l a =
      ap inode_of written_is ∙ told_is name rest eight
      ∙ ap₂ (λ (n : ℕ) (es : List Extent). record { name = name; size = n; depth = depth; slots = es }) (number4-bytes4 size (omega arith)) (read-slots 4 ss l a)

  pub read-reserved : all_zero (part 13 3 written) ≡ true
  unfolding rest
  read-reserved = ap (λ (xs : List ℕ). all_zero (part 13 3 xs)) written_is ∙ ap all_zero (told-reserved name rest eight)

  pub length-written : length written ≡ inode_size
  unfolding rest
  length-written = ap length written_is ∙ length-append name rest ∙ omega (arith, length-exactly 16 (bytes_of_slots ss))

  -- behind the name it is told in bytes
  pub written_small : depth < 256 → Below 256 (drop name_size written)
  unfolding rest
  written_small d =
      rw (ap (drop name_size) written_is ∙ drop_at name rest name_size eight)
      (below-append 256 (bytes4 size) (depth ∷ 0 ∷ 0 ∷ 0 ∷ exactly 16 (bytes_of_slots ss)) number_small tail-small)
    where
      number_small : Below 256 (bytes4 size)
      number_small zero = omega arith
      number_small (suc zero) = omega arith
      number_small (suc (suc zero)) = omega arith
      number_small (suc (suc (suc zero))) = omega arith
      number_small (suc (suc (suc (suc i)))) = omega arith

      tail-small : Below 256 (depth ∷ 0 ∷ 0 ∷ 0 ∷ exactly 16 (bytes_of_slots ss))
      tail-small zero = d
      tail-small (suc zero) = omega arith
      tail-small (suc (suc zero)) = omega arith
      tail-small (suc (suc (suc zero))) = omega arith
      tail-small (suc (suc (suc (suc i)))) = exactly-small 16 256 (bytes_of_slots ss) (omega arith) (slots_small ss) i

-- ---- the slots that name nodes

pub counts-split : (n : ℕ) (es : List Extent) → counts es ≡ counts (take n es) + counts (drop n es)
counts-split zero es = omega arith
counts-split (suc n) [] = omega arith
counts-split (suc n) (e ∷ es) = omega (arith, counts-split n es)

pub length-node_slots : (bs : List ℕ) (es : List Extent) → length (node_slots bs es) ≡ length bs
length-node_slots [] es = refl
length-node_slots (b ∷ bs) es = ap suc (length-node_slots bs (drop slots_per_node es))

pub tops-node_slots : (bs : List ℕ) (es : List Extent) → map (λ e. e.first) (node_slots bs es) ≡ bs
tops-node_slots [] es = refl
tops-node_slots (b ∷ bs) es = ap (λ (l : List ℕ). b ∷ l) (tops-node_slots bs (drop slots_per_node es))

front-some : (n : ℕ) (es : List Extent) → All Slot es → 1 ≤ n → 1 ≤ length es → 1 ≤ counts (take n es)
front-some zero es a k h = absurd (omega arith)
front-some (suc n) [] a k h = absurd (omega arith)
front-some (suc n) (e ∷ es) a k h = omega (arith, a.0.some)

pub node_slots-slot : (N : ℕ) (bs : List ℕ) (es : List Extent) → N ≤ most_blocks → All (Inside N) bs → All Slot es → counts es < 65536
    → slots_per_node * length bs < length es + slots_per_node → All Slot (node_slots bs es)
node_slots-slot N [] es n a f c h = tt
node_slots-slot N (b ∷ bs) es n a f c h =
    let s = counts-split slots_per_node es in (
      record {
        first_fits = omega (arith, a.0.high);
        some = front-some slots_per_node es f (omega arith) (omega arith);
        count_fits = omega (arith, s);
      },
      node_slots-slot N bs (drop slots_per_node es) n a.1 (All-drop Slot slots_per_node es f) (omega (arith, s)) (rw length-drop (omega arith)),
    )

pub counts-node_slots : (bs : List ℕ) (es : List Extent) → length es ≤ slots_per_node * length bs → counts (node_slots bs es) ≡ counts es
counts-node_slots [] [] h = refl
counts-node_slots [] (e ∷ es) h = absurd (omega arith)
counts-node_slots (b ∷ bs) es h =
    omega (arith, counts-node_slots bs (drop slots_per_node es) (rw length-drop (omega arith)), counts-split slots_per_node es)

-- ---- nodes that hold extents, 128 to each but the last

abbrev pub Filled : Disk → List ℕ → List Extent → Type 0
Filled w [] es = Unit {0}
Filled w (b ∷ bs) es = (w b ≡ node_bytes (take slots_per_node es)) × Filled w bs (drop slots_per_node es)

pub filled-small : (w : Disk) (bs : List ℕ) (es : List Extent) → Filled w bs es → (b : ℕ) → 1 ≤ occurs b bs → Below 256 (w b)
filled-small w [] es f b o = absurd (not-suc-le-zero o)
filled-small w (c ∷ bs) es f b o = go (eqb c b) refl (filled-small w bs (drop slots_per_node es) f.1 b)
  where
    go : (t : Bool) → eqb c b ≡ t → (1 ≤ occurs b bs → Below 256 (w b)) → Below 256 (w b)
    go true e ih = rw (sym (eqb-true c b e), f.0) (exactly-small block_size 256 (bytes_of_slots (take slots_per_node es)) (omega arith) (slots_small (take slots_per_node es)))
    go false e ih = ih (let z = rw e at o in omega arith)

abbrev pub Packed : Disk → List ℕ → List Extent → Type 0
Packed w [] es = Unit {0}
Packed w (b ∷ bs) es = (slots_at w b ≡ padded slots_per_node (take slots_per_node es)) × Packed w bs (drop slots_per_node es)

node-read : (w : Disk) (b : ℕ) (es : List Extent) → w b ≡ node_bytes (take slots_per_node es) → All Slot es → slots_at w b ≡ padded slots_per_node (take slots_per_node es)
unfolding slots_at
node-read w b es e a = ap (slots_in slots_per_node) e ∙ read-slots 128 (take 128 es) (rw length-take (omega arith)) (All-take Slot 128 es a)

pub packed : (w : Disk) (bs : List ℕ) (es : List Extent) → All Slot es → Filled w bs es → Packed w bs es
packed w [] es a f = tt
packed w (b ∷ bs) es a f = (node-read w b es f.0 a, packed w bs (drop slots_per_node es) (All-drop Slot slots_per_node es a) f.1)

module _ (w : Disk) where
  pub packed-slots : (bs : List ℕ) (es : List Extent) → All Slot es → Packed w bs es → all (λ b. slots_packed (slots_at w b)) bs ≡ true
  packed-slots [] es a p = refl
  packed-slots (b ∷ bs) es a p =
      and_both (slots_packed (slots_at w b)) (all (λ b. slots_packed (slots_at w b)) bs)
      (ap slots_packed p.0 ∙ padded-packed slots_per_node (take slots_per_node es) (All-take Slot slots_per_node es a))
      (packed-slots bs (drop slots_per_node es) (All-drop Slot slots_per_node es a) p.1)

  node-used : (b : ℕ) (es : List Extent) → All Slot es → slots_at w b ≡ padded slots_per_node (take slots_per_node es) → used (slots_at w b) ≡ take slots_per_node es
  node-used b es a e = ap used e ∙ used-padded slots_per_node (take slots_per_node es) (All-take Slot slots_per_node es a)

  pub packed-counts : (bs : List ℕ) (es : List Extent) → All Slot es → Packed w bs es → All (Counted w) (node_slots bs es)
  packed-counts [] es a p = tt
  packed-counts (b ∷ bs) es a p =
      (ap counts (sym (node-used b es a p.0)), packed-counts bs (drop slots_per_node es) (All-drop Slot slots_per_node es a) p.1)

  pub packed-below : (bs : List ℕ) (es : List Extent) → All Slot es → length es ≤ slots_per_node * length bs → Packed w bs es → below w (node_slots bs es) ≡ es
  packed-below [] [] a h p = refl
  packed-below [] (e ∷ es) a h p = absurd (omega arith)
  packed-below (b ∷ bs) es a h p =
      ap₂ (λ (x y : List Extent). x ++ y) (node-used b es a p.0)
      (packed-below bs (drop slots_per_node es) (All-drop Slot slots_per_node es a) (rw length-drop (omega arith)) p.1)
      ∙ take-append-drop slots_per_node es

  pub packed-full : (bs : List ℕ) (es : List Extent) → All Slot es → Packed w bs es → slots_per_node * length bs < length es + slots_per_node
      → all (λ b. eqb (length (used (slots_at w b))) slots_per_node) (take (length bs - 1) bs) ≡ true
  packed-full [] es a p h = refl
  packed-full (b ∷ []) es a p h = refl
  packed-full (b ∷ c ∷ bs) es a p h =
      let z : suc (suc (length bs)) - 1 ≡ suc (suc (length bs) - 1) = omega arith in
      let l : length (used (slots_at w b)) ≡ slots_per_node = ap length (node-used b es a p.0) ∙ length-take slots_per_node es ∙ omega arith in
      rw (z, l) (packed-full (c ∷ bs) (drop slots_per_node es) (All-drop Slot slots_per_node es a) p.1 (rw length-drop (omega arith)))
