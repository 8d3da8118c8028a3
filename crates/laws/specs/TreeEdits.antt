-- The edits of a file's nodes and data blocks: where they go, and what they leave there. Assumes nothing.
use Rattle.std.specs.Prelude.{ℕ, zero, suc, ◌+◌, ◌≤◌, ◌<◌, ◌≡◌, refl, Bool, true, false, cond, ◌⊎◌, List, [], ◌∷◌, ◌++◌, map, length, take, drop, get_or}
use Rattle.std.proofs.Common.{sym, ap, ◌∙◌, inl, inr, eq-or-lt_of_le, arith}
use Rattle.spec.specs.Layout.{block_size, slots_per_node}
use Rattle.spec.specs.Bytes.{occurs, same, keep, concat, up_from}
use Rattle.spec.specs.Disk.{Disk}
use Rattle.spec.specs.declared.Extent.{Extent}
use Rattle.spec.specs.Inode.{node_bytes, node_slots, bytes_of_slots}
use Rattle.spec.specs.Transaction.{BlockStore, put}
use Rattle.spec.specs.Plan.{Edit, edit, if_changed, stores_of, lowest_level, node_edits, level_edits}
use Rattle.lists.specs.Counts.{occurs-head}
use Rattle.block.proofs.Laws.{length-exactly}
use Rattle.bitmap.proofs.Laws.{occurs-append}
use Rattle.logs.specs.Targets.{Fresh}
use Rattle.logs.specs.Header.{map-up}
use Rattle.logs.specs.Stores.{upd_same, upd_other, Long, over}
use Rattle.laws.specs.Edits.{blocks_of, changed-own, changed-other, changed-long, over-fresh}
use Rattle.laws.specs.Readback.{Filled}
use Rattle.laws.specs.Distinct.{fresh-none, head-once, long-append}

-- ---- nodes

pub filled-agree : (w u : Disk) (bs : List ℕ) (es : List Extent) → ((b : ℕ) → 1 ≤ occurs b bs → u b ≡ w b) → Filled w bs es → Filled u bs es
filled-agree w u [] es h f = tt
filled-agree w u (b ∷ bs) es h f = (h b (occurs-head b bs) ∙ f.0, filled-agree w u bs (drop slots_per_node es) (λ c o. h c (omega arith)) f.1)

module _ (v : Disk) where
  abbrev node_edit : ℕ → List Extent → Edit
  node_edit b es = edit b (λ old. node_bytes (take slots_per_node es))

  changed-occurs : (e : Edit) (es : List Edit) (b : ℕ) → occurs b (blocks_of v (if_changed v e ++ es)) ≤ occurs b (e.block ∷ blocks_of v es)
  changed-occurs e es b = go (same (e.change (v e.block)) (v e.block))
    where
      go : (t : Bool) → occurs b (blocks_of v (cond t [] (e ∷ []) ++ es)) ≤ occurs b (e.block ∷ blocks_of v es)
      go true = omega arith
      go false = omega arith

  -- edits go to the nodes, to each at most once
  pub nodes-occur : (held : ℕ) (bs : List ℕ) (es : List Extent) (b : ℕ) → occurs b (blocks_of v (node_edits v held bs es)) ≤ occurs b bs
  nodes-occur held [] es b = omega arith
  nodes-occur zero (c ∷ bs) es b = omega (arith, nodes-occur zero bs (drop slots_per_node es) b)
  nodes-occur (suc held) (c ∷ bs) es b =
      omega (arith, nodes-occur held bs (drop slots_per_node es) b, changed-occurs (node_edit c es) (node_edits v held bs (drop slots_per_node es)) b)

  pub nodes-long : (held : ℕ) (bs : List ℕ) (es : List Extent) → Long (stores_of v (node_edits v held bs es))
  nodes-long held [] es = tt
  nodes-long zero (b ∷ bs) es = (length-exactly block_size (bytes_of_slots (take slots_per_node es)), nodes-long zero bs (drop slots_per_node es))
  nodes-long (suc held) (b ∷ bs) es =
      changed-long v (node_edit b es) (node_edits v held bs (drop slots_per_node es)) (length-exactly block_size (bytes_of_slots (take slots_per_node es))) (nodes-long held bs (drop slots_per_node es))

  -- they hold the extents then
  pub nodes-filled : (held : ℕ) (bs : List ℕ) (es : List Extent) → ((b : ℕ) → occurs b bs ≤ 1) → Filled (over (stores_of v (node_edits v held bs es)) v) bs es
  nodes-filled held [] es o = tt
  nodes-filled zero (b ∷ bs) es o = (
    upd_same (put b (node_bytes (take slots_per_node es))) (over (stores_of v (node_edits v zero bs (drop slots_per_node es))) v),
    filled-agree (over (stores_of v (node_edits v zero bs (drop slots_per_node es))) v) (over (stores_of v (node_edits v zero (b ∷ bs) es)) v) bs (drop slots_per_node es)
        (λ c p. upd_other (put b (node_bytes (take slots_per_node es))) (over (stores_of v (node_edits v zero bs (drop slots_per_node es))) v) c
        (λ q. let z = head-once b bs (o b) in let y = ap (λ m. occurs m bs) q in omega arith))
        (nodes-filled zero bs (drop slots_per_node es) (λ c. let z = o c in omega arith)),
  )
  nodes-filled (suc held) (b ∷ bs) es o =
      let rest = node_edits v held bs (drop slots_per_node es) in (
        changed-own v (node_edit b es) rest (fresh-none b (blocks_of v rest) (omega (arith, head-once b bs (o b), nodes-occur held bs (drop slots_per_node es) b))),
        filled-agree (over (stores_of v rest) v) (over (stores_of v (node_edits v (suc held) (b ∷ bs) es)) v) bs (drop slots_per_node es)
            (λ c p. changed-other v (node_edit b es) rest c (λ q. let z = head-once b bs (o b) in let y = ap (λ m. occurs m bs) q in omega arith))
            (nodes-filled held bs (drop slots_per_node es) (λ c. let z = o c in omega arith)),
      )

  -- ---- level by level

  pub stores-append : (es fs : List Edit) → stores_of v (es ++ fs) ≡ stores_of v es ++ stores_of v fs
  stores-append [] fs = refl
  stores-append (e ∷ es) fs = ap (λ (l : List BlockStore). put e.block (e.change (v e.block)) ∷ l) (stores-append es fs)

  pub blocks-append : (es fs : List Edit) → blocks_of v (es ++ fs) ≡ blocks_of v es ++ blocks_of v fs
  blocks-append [] fs = refl
  blocks-append (e ∷ es) fs = ap (λ (l : List ℕ). e.block ∷ l) (blocks-append es fs)

  pub occurs-edits : (es fs : List Edit) (b : ℕ) → occurs b (blocks_of v (es ++ fs)) ≡ occurs b (blocks_of v es) + occurs b (blocks_of v fs)
  occurs-edits es fs b = ap (occurs b) (blocks-append es fs) ∙ occurs-append b (blocks_of v es) (blocks_of v fs)

  pub levels-occur : (held ls : List (List ℕ)) (es : List Extent) (b : ℕ) → occurs b (blocks_of v (level_edits v held ls es)) ≤ occurs b (concat ls)
  levels-occur held [] es b = omega arith
  levels-occur held (ns ∷ ls) es b =
      omega (
        arith,
        occurs-edits (node_edits v (length (lowest_level held)) ns es) (level_edits v (drop 1 held) ls (node_slots ns es)) b,
        nodes-occur (length (lowest_level held)) ns es b,
        levels-occur (drop 1 held) ls (node_slots ns es) b,
        occurs-append b ns (concat ls),
      )

  pub levels-long : (held ls : List (List ℕ)) (es : List Extent) → Long (stores_of v (level_edits v held ls es))
  levels-long held [] es = tt
  levels-long held (ns ∷ ls) es =
      rw (stores-append (node_edits v (length (lowest_level held)) ns es) (level_edits v (drop 1 held) ls (node_slots ns es)))
      (long-append (stores_of v (node_edits v (length (lowest_level held)) ns es)) (stores_of v (level_edits v (drop 1 held) ls (node_slots ns es)))
      (nodes-long (length (lowest_level held)) ns es) (levels-long (drop 1 held) ls (node_slots ns es)))

-- ---- data blocks, by place

module _ (v : Disk) (B : ℕ → ℕ) (C : ℕ → List ℕ → List ℕ) (f : ℕ → Bool) where
  abbrev pub placed : ℕ → ℕ → List Edit
  placed a n = map (λ p. edit (B p) (C p)) (keep f (up_from a n))

  placed-fresh : (b a n : ℕ) → ((p : ℕ) → a ≤ p → p < a + n → b ≡ B p → ⊥) → Fresh b (blocks_of v (placed a n))
  placed-fresh b a zero h = tt
  placed-fresh b a (suc n) h = go (f a) (placed-fresh b (suc a) n (λ p l u. h p (omega arith) (omega arith)))
    where
      go : (t : Bool) → Fresh b (blocks_of v (placed (suc a) n)) → Fresh b (blocks_of v (map (λ p. edit (B p) (C p)) (cond t (a ∷ keep f (up_from (suc a) n)) (keep f (up_from (suc a) n)))))
      go true r = (h a (omega arith) (omega arith), r)
      go false r = r

  -- a block is edited where its place passes
  pub placed-over : (a n p : ℕ) → ((q r : ℕ) → a ≤ q → q < a + n → a ≤ r → r < a + n → B q ≡ B r → q ≡ r) → a ≤ p → p < a + n
      → over (stores_of v (placed a n)) v (B p) ≡ cond (f p) (C p (v (B p))) (v (B p))
  placed-over a zero p inj lo up = absurd (omega arith)
  placed-over a (suc n) p inj lo up =
      go (eq-or-lt_of_le lo) (f a) refl (placed-over (suc a) n p (λ q r x y z w e. inj q r (omega arith) (omega arith) (omega arith) (omega arith) e))
    where
      step : (t : Bool) → f a ≡ t → placed a (suc n) ≡ cond t (edit (B a) (C a) ∷ placed (suc a) n) (placed (suc a) n)
      step true e = ap (λ t. map (λ p. edit (B p) (C p)) (cond t (a ∷ keep f (up_from (suc a) n)) (keep f (up_from (suc a) n)))) e
      step false e = ap (λ t. map (λ p. edit (B p) (C p)) (cond t (a ∷ keep f (up_from (suc a) n)) (keep f (up_from (suc a) n)))) e

      go : (a ≡ p) ⊎ (a < p) → (t : Bool) → f a ≡ t
          → (suc a ≤ p → p < suc a + n → over (stores_of v (placed (suc a) n)) v (B p) ≡ cond (f p) (C p (v (B p))) (v (B p)))
          → over (stores_of v (placed a (suc n))) v (B p) ≡ cond (f p) (C p (v (B p))) (v (B p))
      go (inl q) true e ih =
          ap (λ (es : List Edit). over (stores_of v es) v (B p)) (step true e)
          ∙ ap (λ k. over (stores_of v (edit (B a) (C a) ∷ placed (suc a) n)) v (B k)) (sym q)
          ∙ upd_same (put (B a) (C a (v (B a)))) (over (stores_of v (placed (suc a) n)) v)
          ∙ ap (λ k. C k (v (B k))) q ∙ sym (ap (λ t. cond t (C p (v (B p))) (v (B p))) (ap f (sym q) ∙ e))
      go (inl q) false e ih =
          ap (λ (es : List Edit). over (stores_of v es) v (B p)) (step false e)
          ∙ over-fresh v (B p) (stores_of v (placed (suc a) n)) (placed-fresh (B p) (suc a) n (λ r l u z. let y = inj p r (omega arith) (omega arith) (omega arith) (omega arith) z in omega arith))
          ∙ sym (ap (λ t. cond t (C p (v (B p))) (v (B p))) (ap f (sym q) ∙ e))
      go (inr l) true e ih =
          ap (λ (es : List Edit). over (stores_of v es) v (B p)) (step true e)
          ∙ upd_other (put (B a) (C a (v (B a)))) (over (stores_of v (placed (suc a) n)) v) (B p) (λ z. let y = inj p a (omega arith) (omega arith) (omega arith) (omega arith) z in omega arith)
          ∙ ih l (omega arith)
      go (inr l) false e ih = ap (λ (es : List Edit). over (stores_of v es) v (B p)) (step false e) ∙ ih l (omega arith)

  -- blocks in a row: each is edited at most once
  pub placed-occurs : (b a n : ℕ) → occurs b (blocks_of v (placed a n)) ≤ occurs b (map B (up_from a n))
  placed-occurs b a zero = omega arith
  placed-occurs b a (suc n) = go (f a) (placed-occurs b (suc a) n)
    where
      go : (t : Bool) → occurs b (blocks_of v (placed (suc a) n)) ≤ occurs b (map B (up_from (suc a) n))
          → occurs b (blocks_of v (map (λ p. edit (B p) (C p)) (cond t (a ∷ keep f (up_from (suc a) n)) (keep f (up_from (suc a) n))))) ≤ occurs b (map B (up_from a (suc n)))
      go true ih = omega arith
      go false ih = omega arith

  pub placed-long : (a n : ℕ) → ((p : ℕ) → a ≤ p → p < a + n → length (C p (v (B p))) ≡ block_size) → Long (stores_of v (placed a n))
  placed-long a zero h = tt
  placed-long a (suc n) h = go (f a) (placed-long (suc a) n (λ p l u. h p (omega arith) (omega arith)))
    where
      go : (t : Bool) → Long (stores_of v (placed (suc a) n)) → Long (stores_of v (map (λ p. edit (B p) (C p)) (cond t (a ∷ keep f (up_from (suc a) n)) (keep f (up_from (suc a) n)))))
      go true r = (h a (omega arith) (omega arith), r)
      go false r = r

pub map-places : (xs : List ℕ) → map (λ p. get_or xs p 0) (up_from 0 (length xs)) ≡ xs
map-places [] = refl
map-places (x ∷ xs) = ap (λ (l : List ℕ). x ∷ l) (map-up (λ p. get_or (x ∷ xs) p 0) 0 (length xs) ∙ map-places xs)
