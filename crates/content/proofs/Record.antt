-- Laws of the bytes of a file record. Assumes nothing.
use Prim.Native.Nat.{ℕ, zero, suc, ◌+◌, ◌*◌, ◌/◌, ◌%◌, ◌<◌, ◌≤◌}
use mathlib.Core.Path.{◌≡◌, refl, sym, ap, subst, ◌∙◌}
use mathlib.Core.Logic.{⊎_elim}
use native.Mathlib.Nat.{eq-or-lt_of_le}
use denote.Param.Members.{Mut}
use Rattle.std.specs.Fn.{Called}
use Rattle.std.specs.Array.{IsFromFnResult, IsFromFnResultFrom}
use mathlib.Core.Bool.{Bool, true, false, cond}
use mathlib.Core.List.{List, [], ◌∷◌, ◌++◌, append_assoc, append-nil}
use native.Mathlib.Omega.{arith}
use borrow.Author.Tests.{eq-eqb, ne_eqb}
use lib.Dec.{eqb}
use lib.ListN.{length, take, drop, get_or, replicate, length-append, take-append-drop, drop_of_length-le}
use lib.Seq.{drop-drop, take-append_seam, drop-append_seam}
use Rattle.std.specs.Prelude.{sum_by}
use Rattle.std.specs.Int.{w32, to_le_bytes}
use Rattle.std.proofs.lemmas.List.Sums.{sum_by-cons}
use Rattle.spec.specs.declared.Extent.{Extent}
use Rattle.spec.specs.Bytes.{exactly, bytes4}
use Rattle.spec.specs.Inode.{extent, counts, bytes_of_slots, node_slots, top_slots, bytes_of_inode, inode_with}
use Rattle.runs.specs.Tree.{Tree, tree_with}
use Rattle.runs.specs.Runs.{nodes_in, levels_in}
use Rattle.lists.specs.Extents.{counts-append}
use Rattle.content.specs.Content.{tree_of, counts_below, slots_above}

-- ---- the data blocks below a node

-- the sum in the code
pub counts-by : (es : List Extent) → sum_by (λ (e : Extent). e.count) es ≡ counts es
counts-by [] = refl
counts-by (e ∷ es) = sum_by-cons (λ (e : Extent). e.count) e es ∙ ap (λ (n : ℕ). e.count + n) (counts-by es)

-- a part has no more blocks than the whole
pub counts-take : (n : ℕ) (es : List Extent) → counts (take n es) ≤ counts es
counts-take n es = let s = ap counts (take-append-drop n es) in let a = counts-append (take n es) (drop n es) in omega arith

counts-drop : (n : ℕ) (es : List Extent) → counts (drop n es) ≤ counts es
counts-drop n es = let s = ap counts (take-append-drop n es) in let a = counts-append (take n es) (drop n es) in omega arith

module _ (es : List Extent) (j : ℕ) (own : List Extent) (e : own ≡ take 128 (drop (128 * j) es)) where
  pub below-is : (n : ℕ) → n ≡ sum_by (λ (e : Extent). e.count) own → n ≡ counts_below es j
  unfolding counts_below
  below-is n h = h ∙ counts-by own ∙ ap counts e

  pub below-few : sum_by (λ (e : Extent). e.count) own ≤ counts es
  below-few =
      let c = counts-by own ∙ ap counts e in
      let a = counts-take 128 (drop (128 * j) es) in
      let b = counts-drop (128 * j) es in
      omega arith

-- ---- the slots of the record

node-slot : (bs : List ℕ) (es : List Extent) (k : ℕ) → k < length bs → get_or (node_slots bs es) k (extent 0 0) ≡ extent (get_or bs k 0) (counts (take 128 (drop (128 * k) es)))
node-slot [] es k h = absurd (omega arith)
node-slot (b ∷ bs) es zero h = refl
node-slot (b ∷ bs) es (suc k) h =
    let z : 128 + 128 * k ≡ 128 * suc k = omega arith in
    node-slot bs (drop 128 es) k (omega arith)
    ∙ ap (λ (l : List Extent). extent (get_or bs k 0) (counts (take 128 l))) (drop-drop (128 * k) 128 es ∙ ap (λ (n : ℕ). drop n es) z)

node-none : (bs : List ℕ) (es : List Extent) (k : ℕ) → length bs ≤ k → get_or (node_slots bs es) k (extent 0 0) ≡ extent 0 0
node-none [] es k h = refl
node-none (b ∷ bs) es zero h = absurd (omega arith)
node-none (b ∷ bs) es (suc k) h = node-none bs (drop 128 es) k (omega arith)

module _ (t : Tree) (k : ℕ) where
  pub top-flat : length t.nodes ≡ 0 → (e : Extent) → e ≡ get_or t.extents k (extent 0 0) → e ≡ get_or (slots_above t) k (extent 0 0)
  unfolding slots_above levels_in
  top-flat h e q = q ∙ rw (eq-eqb (length t.nodes) 0 h)

  module _ (deep : length t.nodes ≡ 0 → ⊥) where
    pub top-node : k < length t.nodes → (b n : ℕ) → b ≡ get_or t.nodes k 0 → n ≡ counts_below t.extents k → extent b n ≡ get_or (slots_above t) k (extent 0 0)
    unfolding slots_above levels_in nodes_in counts_below
    top-node h b n eb en =
        sym (rw (ne_eqb (length t.nodes) 0 deep, eb, en) (node-slot t.nodes t.extents k h))

    pub top-past : length t.nodes ≤ k → extent 0 0 ≡ get_or (slots_above t) k (extent 0 0)
    unfolding slots_above levels_in nodes_in
    top-past h = sym (rw (ne_eqb (length t.nodes) 0 deep) (node-none t.nodes t.extents k h))

pub depth-is : (t : Tree) → cond (eqb (length t.nodes) 0) 0 1 ≡ length (levels_in t)
unfolding levels_in
depth-is t = go (eqb (length t.nodes) 0)
  where
    go : (b : Bool) → cond b 0 1 ≡ length (cond b [] (nodes_in t ∷ []))
    go true = refl
    go false = refl

-- ---- the bytes

-- the four bytes that the code takes, the low one first
pub size-bytes : (n : ℕ) → to_le_bytes w32 n ≡ bytes4 n
size-bytes n =
    let a : n % 65536 % 256 ≡ n % 256 = omega arith in
    let b : n % 65536 / 256 % 256 ≡ n / 256 % 256 = omega arith in
    let d : n / 65536 / 256 % 256 ≡ n / 16777216 % 256 = omega arith in
    rw (a, b, d)

-- four slots fill their part of the record
four-slots : (es : List Extent)
    → exactly 16 (bytes_of_slots es) ≡ bytes_of_slots (get_or es 0 (extent 0 0) ∷ get_or es 1 (extent 0 0) ∷ get_or es 2 (extent 0 0) ∷ get_or es 3 (extent 0 0) ∷ [])
four-slots [] = refl
four-slots (a ∷ []) = refl
four-slots (a ∷ b ∷ []) = refl
four-slots (a ∷ b ∷ c ∷ []) = refl
four-slots (a ∷ b ∷ c ∷ d ∷ es) = refl

-- bytes stored right behind others
behind : (xs zs ys : List ℕ) (at k : ℕ) → length xs ≡ at → take at (xs ++ zs) ++ (ys ++ drop k (drop at (xs ++ zs))) ≡ xs ++ (ys ++ drop k zs)
behind xs zs ys at k e = rw (← e, take-append_seam xs zs, drop-append_seam xs zs)

-- the fields as the code stores them, in an array of zeros
module _ (n z : List ℕ) (d : ℕ) (ln : length n ≡ 8) (lz : length z ≡ 4) where
  abbrev behind_name : List ℕ
  behind_name = 0 ∷ 0 ∷ 0 ∷ 0 ∷ d ∷ replicate 19 0

  abbrev pub fields : List ℕ
  fields = take 8 (n ++ behind_name) ++ (z ++ drop 4 (drop 8 (n ++ behind_name)))

  fields-are : fields ≡ (n ++ (z ++ (d ∷ 0 ∷ 0 ∷ 0 ∷ []))) ++ replicate 16 0
  fields-are =
      behind n behind_name z 8 4 ln
      ∙ sym (append_assoc n (z ++ (d ∷ 0 ∷ 0 ∷ 0 ∷ [])) (replicate 16 0) ∙ ap (λ (xs : List ℕ). n ++ xs) (append_assoc z (d ∷ 0 ∷ 0 ∷ 0 ∷ []) (replicate 16 0)))

  pub fields-room : 32 ≤ length fields
  fields-room =
      omega (
        arith,
        ap length fields-are,
        length-append (n ++ (z ++ (d ∷ 0 ∷ 0 ∷ 0 ∷ []))) (replicate 16 0),
        length-append n (z ++ (d ∷ 0 ∷ 0 ∷ 0 ∷ [])),
        length-append z (d ∷ 0 ∷ 0 ∷ 0 ∷ []),
        ln,
        lz,
      )

  pub joined_is : (es : List Extent) (b w : List ℕ) → length es ≡ 4 → length w ≡ 16 → b ≡ bytes_of_slots es ++ drop (4 * length es) w
      → take 16 fields ++ (b ++ drop 16 (drop 16 fields)) ≡ n ++ (z ++ (d ∷ 0 ∷ 0 ∷ 0 ∷ bytes_of_slots es))
  joined_is es b w le lw eb =
      let xs = n ++ (z ++ (d ∷ 0 ∷ 0 ∷ 0 ∷ [])) in
      let l : length xs ≡ 16 = omega (arith, length-append n (z ++ (d ∷ 0 ∷ 0 ∷ 0 ∷ [])), length-append z (d ∷ 0 ∷ 0 ∷ 0 ∷ []), ln, lz) in
      let r : drop (4 * length es) w ≡ [] = drop_of_length-le w (omega (arith, le, lw)) in
      let q : b ≡ bytes_of_slots es = eb ∙ ap (λ (ys : List ℕ). bytes_of_slots es ++ ys) r ∙ append-nil (bytes_of_slots es) in
      ap (λ (ys : List ℕ). take 16 ys ++ (b ++ drop 16 (drop 16 ys))) fields-are
      ∙ behind xs (replicate 16 0) b 16 16 l
      ∙ ap (λ (ys : List ℕ). xs ++ ys) (append-nil b ∙ q)
      ∙ append_assoc n (z ++ (d ∷ 0 ∷ 0 ∷ 0 ∷ [])) (bytes_of_slots es)
      ∙ ap (λ (ys : List ℕ). n ++ ys) (append_assoc z (d ∷ 0 ∷ 0 ∷ 0 ∷ []) (bytes_of_slots es))

-- the record, from its fields
module _ (t : Tree) (n z q : List ℕ) (d size : ℕ) (a b c e : Extent) where
  pub record_is : z ≡ bytes4 size → d ≡ length (levels_in t)
      → a ≡ get_or (slots_above t) 0 (extent 0 0) → b ≡ get_or (slots_above t) 1 (extent 0 0)
      → c ≡ get_or (slots_above t) 2 (extent 0 0) → e ≡ get_or (slots_above t) 3 (extent 0 0)
      → q ≡ n ++ (z ++ (d ∷ 0 ∷ 0 ∷ 0 ∷ bytes_of_slots (a ∷ b ∷ c ∷ e ∷ [])))
      → q ≡ bytes_of_inode (inode_with n size t.extents (levels_in t))
  unfolding bytes_of_inode slots_above
  record_is ez ed qa qb qc qe eq =
      eq ∙ rw (ez, ed, qa, qb, qc, qe)
      (ap (λ (xs : List ℕ). n ++ (bytes4 size ++ (length (levels_in t) ∷ 0 ∷ 0 ∷ 0 ∷ xs))) (sym (four-slots (top_slots (levels_in t) t.extents))))

-- the four slots, made one after the other
module _ {F : Type 0} {g : Mut F (ℕ × Unit {0}) Extent} (slots : List Extent) (f : F)
    (told : (i : ℕ) (t : Extent) (q : F) → Called g f (i, tt) t q → (q ≡ f) × (t ≡ get_or slots i (extent 0 0))) where
  slot-made : (q : List Extent) (n a i : ℕ) → IsFromFnResultFrom g f q a n → a ≤ i → i < a + n → get_or q i (extent 0 0) ≡ get_or slots i (extent 0 0)
  slot-made q zero a i h lo up = absurd (omega arith)
  slot-made q (suc n) a i h lo up = ⊎_elim
      (λ (e : a ≡ i). ap (λ k. get_or q k (extent 0 0)) (sym e) ∙ h.2.1 (extent 0 0) ∙ (told a h.1 h.0 h.3).1 ∙ ap (λ k. get_or slots k (extent 0 0)) e)
      (λ (l : a < i). slot-made q n (a + 1) i (subst (λ p. IsFromFnResultFrom g p q (a + 1) n) (told a h.1 h.0 h.3).0 h.4) (omega arith) (omega arith))
      (eq-or-lt_of_le lo)

  four : (q : List Extent) → length q ≡ 4 → q ≡ get_or q 0 (extent 0 0) ∷ get_or q 1 (extent 0 0) ∷ get_or q 2 (extent 0 0) ∷ get_or q 3 (extent 0 0) ∷ []
  four (a ∷ b ∷ c ∷ d ∷ []) l = refl
  four [] l = absurd (omega (arith, l))
  four (a ∷ []) l = absurd (omega (arith, l))
  four (a ∷ b ∷ []) l = absurd (omega (arith, l))
  four (a ∷ b ∷ c ∷ []) l = absurd (omega (arith, l))
  four (a ∷ b ∷ c ∷ d ∷ x ∷ xs) l = absurd (omega (arith, l))

  pub slots-made : (q : List Extent) → IsFromFnResult g f q 4
      → q ≡ get_or slots 0 (extent 0 0) ∷ get_or slots 1 (extent 0 0) ∷ get_or slots 2 (extent 0 0) ∷ get_or slots 3 (extent 0 0) ∷ []
  slots-made q h =
      let at = λ (i : ℕ) (l : i < 4). slot-made q 4 0 i h.each (omega arith) l in
      let e = four q h.long in
      let a = at 0 (omega arith) in let b = at 1 (omega arith) in let c = at 2 (omega arith) in let d = at 3 (omega arith) in
      e ∙ rw (a, b, c, d) refl

-- a tree and its parts
module _ (table : List ℕ) (extents : List Extent) (nodes : List ℕ) (before held : ℕ) where
  pub parts-levels : levels_in (tree_of extents nodes) ≡ levels_in (tree_with table extents nodes before held)
  unfolding levels_in nodes_in
  parts-levels = refl
