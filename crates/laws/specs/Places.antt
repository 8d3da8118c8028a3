-- Which blocks the edits of nodes and data go to, by their places. Assumes nothing.
use Rattle.std.specs.Prelude.{ℕ, zero, suc, ◌+◌, ◌*◌, ◌≤◌, ◌≡◌, refl, Bool, true, false, cond, not, ◌&&◌, ◌||◌, List, [], ◌∷◌, map, eqb, leb, length, take, drop, get_or}
use Rattle.std.proofs.Common.{sym, ap, ap₂, ◌∙◌, append-nil, drop-drop, mul-suc, add_comm, arith, le-leb, leb-true}
use Rattle.std.proofs.lemmas.Bool.{lt-leb}
use Rattle.spec.specs.Layout.{slots_per_node}
use Rattle.spec.specs.Bytes.{any, member, keep, same, up_from, concat}
use Rattle.spec.specs.Disk.{Disk}
use Rattle.spec.specs.declared.Extent.{Extent}
use Rattle.spec.specs.Inode.{node_bytes}
use Rattle.spec.specs.Plan.{Edit, edit, lowest_level, node_edits, level_edits}
use Rattle.lists.specs.Tests.{both_ways}
use Rattle.lists.specs.All.{any-cons, any-up, any_same}
use Rattle.lists.specs.Members.{member-cons}
use Rattle.laws.specs.Edits.{blocks_of, changed-member}
use Rattle.laws.specs.TreeEdits.{placed}
use Rattle.laws.specs.Resized.{low-is}

-- ---- data blocks

pub placed-member : (v : Disk) (B : ℕ → ℕ) (C : ℕ → List ℕ → List ℕ) (f : ℕ → Bool) (b a n : ℕ)
    → member b (blocks_of v (placed v B C f a n)) ≡ any (λ p. f p && eqb (B p) b) (up_from a n)
placed-member v B C f b a zero = refl
placed-member v B C f b a (suc n) = go (f a) refl (placed-member v B C f b (suc a) n) ∙ sym (any-cons (λ p. f p && eqb (B p) b) a (up_from (suc a) n))
  where
    go : (t : Bool) → f a ≡ t → member b (blocks_of v (placed v B C f (suc a) n)) ≡ any (λ p. f p && eqb (B p) b) (up_from (suc a) n)
        → member b (blocks_of v (map (λ p. edit (B p) (C p)) (cond (f a) (a ∷ keep f (up_from (suc a) n)) (keep f (up_from (suc a) n)))))
        ≡ ((f a && eqb (B a) b) || any (λ p. f p && eqb (B p) b) (up_from (suc a) n))
    go true e ih = rw e (member-cons b (B a) (blocks_of v (placed v B C f (suc a) n)) ∙ ap (λ t. eqb (B a) b || t) ih)
    go false e ih = rw e ih

-- ---- nodes

-- node j is staged where it is new or its content changes
abbrev pub node_staged : Disk → ℕ → List ℕ → List Extent → ℕ → Bool
node_staged v held ns es j = leb held j || not (same (node_bytes (take slots_per_node (drop (slots_per_node * j) es))) (v (get_or ns j 0)))

next-node : (v : Disk) (held : ℕ) (n : ℕ) (ns : List ℕ) (es : List Extent) (j : ℕ) → node_staged v (suc held) (n ∷ ns) es (suc j) ≡ node_staged v held ns (drop slots_per_node es) j
next-node v held n ns es j =
    let e : slots_per_node * suc j ≡ slots_per_node + slots_per_node * j = mul-suc slots_per_node j ∙ add_comm (slots_per_node * j) slots_per_node in
    ap₂ (λ (t : Bool) (xs : List Extent). t || not (same (node_bytes (take slots_per_node xs)) (v (get_or ns j 0))))
    (both_ways (leb (suc held) (suc j)) (leb held j) (λ q. le-leb held j (let z = leb-true (suc held) (suc j) q in omega arith)) (λ q. le-leb (suc held) (suc j) (let z = leb-true held j q in omega arith)))
    (ap (λ k. drop k es) e ∙ sym (drop-drop (slots_per_node * j) slots_per_node es))

pub nodes-member : (v : Disk) (held : ℕ) (ns : List ℕ) (es : List Extent) (b : ℕ)
    → member b (blocks_of v (node_edits v held ns es)) ≡ any (λ j. node_staged v held ns es j && eqb (get_or ns j 0) b) (up_from 0 (length ns))
nodes-member v held [] es b = refl
nodes-member v zero (n ∷ ns) es b =
    member-cons b n (blocks_of v (node_edits v zero ns (drop slots_per_node es)))
    ∙ ap (λ t. eqb n b || t) (nodes-member v zero ns (drop slots_per_node es) b
    ∙ any_same (λ j. node_staged v zero ns (drop slots_per_node es) j && eqb (get_or ns j 0) b) (λ j. node_staged v zero (n ∷ ns) es (suc j) && eqb (get_or ns j 0) b) 0 (length ns)
    (λ j. ap (λ t. (t || not (same (node_bytes (take slots_per_node (drop (slots_per_node * j) (drop slots_per_node es)))) (v (get_or ns j 0)))) && eqb (get_or ns j 0) b) (le-leb 0 j (omega arith))
    ∙ sym (ap (λ t. (t || not (same (node_bytes (take slots_per_node (drop (slots_per_node * suc j) es))) (v (get_or ns j 0)))) && eqb (get_or ns j 0) b) (le-leb 0 (suc j) (omega arith))))
    ∙ sym (any-up (λ j. node_staged v zero (n ∷ ns) es j && eqb (get_or (n ∷ ns) j 0) b) 0 (length ns)))
    ∙ sym (any-cons (λ j. node_staged v zero (n ∷ ns) es j && eqb (get_or (n ∷ ns) j 0) b) 0 (up_from 1 (length ns)))
nodes-member v (suc held) (n ∷ ns) es b =
    changed-member v (edit n (λ old. node_bytes (take slots_per_node es))) (node_edits v held ns (drop slots_per_node es)) b
    ∙ ap₂ ◌||◌ (first (eqb n b) (same (node_bytes (take slots_per_node es)) (v n))
    ∙ ap (λ t. (t || not (same (node_bytes (take slots_per_node es)) (v n))) && eqb n b) (sym (lt-leb (suc held) 0 (omega arith)))) (nodes-member v held ns (drop slots_per_node es) b
    ∙ any_same (λ j. node_staged v held ns (drop slots_per_node es) j && eqb (get_or ns j 0) b) (λ j. node_staged v (suc held) (n ∷ ns) es (suc j) && eqb (get_or ns j 0) b) 0 (length ns)
    (λ j. ap (λ t. t && eqb (get_or ns j 0) b) (sym (next-node v held n ns es j)))
    ∙ sym (any-up (λ j. node_staged v (suc held) (n ∷ ns) es j && eqb (get_or (n ∷ ns) j 0) b) 0 (length ns)))
    ∙ sym (any-cons (λ j. node_staged v (suc held) (n ∷ ns) es j && eqb (get_or (n ∷ ns) j 0) b) 0 (up_from 1 (length ns)))
  where
    first : (t u : Bool) → (t && not u) ≡ ((false || not u) && t)
    first true true = refl
    first true false = refl
    first false true = refl
    first false false = refl

-- level by level: there is at most one
pub levels-member : (v : Disk) (held levels : List (List ℕ)) (es : List Extent) (b : ℕ) → length held ≤ 1 → length levels ≤ 1
    → member b (blocks_of v (level_edits v held levels es))
    ≡ any (λ j. node_staged v (length (concat held)) (concat levels) es j && eqb (get_or (concat levels) j 0) b) (up_from 0 (length (concat levels)))
levels-member v held [] es b h k = refl
levels-member v held (ns ∷ []) es b h k =
    ap (λ (l : List Edit). member b (blocks_of v l)) (append-nil (node_edits v (length (lowest_level held)) ns es))
    ∙ nodes-member v (length (lowest_level held)) ns es b
    ∙ ap₂ (λ (m : ℕ) (ms : List ℕ). any (λ j. node_staged v m ms es j && eqb (get_or ms j 0) b) (up_from 0 (length ms))) (ap length (low-is held h)) (sym (append-nil ns))
levels-member v held (ns ∷ ms ∷ ls) es b h k = absurd (omega arith)
