-- Which nodes and data blocks a write or a change of size stages, place by place, and that the sentences tell the same. Assumes nothing.
use Rattle.std.specs.Prelude.{ℕ, ◌+◌, ◌*◌, ◌/◌, ◌%◌, ◌≤◌, ◌<◌, max, ◌≡◌, refl, Bool, true, false, not, ◌&&◌, ◌||◌, ◌⊎◌, List, eqb, leb, ltb, length, get_or}
use Rattle.std.proofs.Common.{sym, ap, ◌∙◌, inl, inr, arith, eqb-true, eq-eqb, ltb-true, lt-ltb, leb-true, le-leb}
use Rattle.std.proofs.lemmas.Bool.{eqb-false, not-true}
use Rattle.spec.specs.Layout.{block_size}
use Rattle.spec.specs.Bytes.{any, member, same, up_from, quotient_up}
use Rattle.spec.specs.Disk.{Disk}
use Rattle.spec.specs.Inode.{runs}
use Rattle.spec.specs.Plan.{holds_data, is_last_kept, is_staged}
use Rattle.spec.specs.Sentences.{File, reaches, is_new, node_content, node_changes, shortens}
use Rattle.lists.specs.Tests.{and_both, both_true, or_cases, or-first, or-second, both_ways, not-both}
use Rattle.lists.specs.All.{any_some, some-any}
use Rattle.lists.specs.Members.{member-at, member-place}
use Rattle.block.proofs.Laws.{lt-or-le}
use Rattle.laws.specs.Places.{node_staged}

-- f before, h after: the front of what is held keeps its places, the rest is new
pub record Extends (f h : File) : Type 0 where
  pub blocks-kept : (p : ℕ) → p < length f.blocks → p < length h.blocks → reaches f (get_or h.blocks p 0) ≡ true
  pub blocks-new : (p : ℕ) → length f.blocks ≤ p → p < length h.blocks → reaches f (get_or h.blocks p 0) ≡ false
  pub nodes-kept : (j : ℕ) → j < length f.nodes → j < length h.nodes → reaches f (get_or h.nodes j 0) ≡ true
  pub nodes-new : (j : ℕ) → length f.nodes ≤ j → j < length h.nodes → reaches f (get_or h.nodes j 0) ≡ false

module _ (v : Disk) (f h : File) (x : ℕ) (bytes : List ℕ) (enough : length h.blocks ≡ quotient_up h.size block_size) (fits : x + length bytes ≤ h.size) (ext : Extends f h) (b : ℕ) where
  abbrev passes : ℕ → Bool
  passes p = is_staged (length f.blocks) f.size h.size x bytes p

  abbrev pub data_staged : Bool
  data_staged = any (λ p. is_staged (length f.blocks) f.size h.size x bytes p && eqb (get_or h.blocks p 0) b) (up_from 0 (length h.blocks))

  abbrev pub nodes_staged : Bool
  nodes_staged = any (λ j. node_staged v (length f.nodes) h.nodes (runs h.blocks) j && eqb (get_or h.nodes j 0) b) (up_from 0 (length h.nodes))

  abbrev pub holds : Bool
  holds = any (λ q. eqb (get_or h.blocks (q / block_size) 0) b) (up_from x (length bytes))

  abbrev pub told : Bool
  told = ((holds || is_new f h b) || node_changes v h b) || shortens f h b

  by-holds : holds ≡ true → told ≡ true
  by-holds e = or-first ((holds || is_new f h b) || node_changes v h b) (shortens f h b) (or-first (holds || is_new f h b) (node_changes v h b) (or-first holds (is_new f h b) e))

  by-new : is_new f h b ≡ true → told ≡ true
  by-new e = or-first ((holds || is_new f h b) || node_changes v h b) (shortens f h b) (or-first (holds || is_new f h b) (node_changes v h b) (or-second holds (is_new f h b) e))

  by-nodes : node_changes v h b ≡ true → told ≡ true
  by-nodes e = or-first ((holds || is_new f h b) || node_changes v h b) (shortens f h b) (or-second (holds || is_new f h b) (node_changes v h b) e)

  is-new : reaches h b ≡ true → reaches f b ≡ false → is_new f h b ≡ true
  is-new p q = and_both (reaches h b) (not (reaches f b)) p (ap not q)

  -- ---- staged, so told

  data-told : data_staged ≡ true → told ≡ true
  data-told e =
      any_some (λ p. passes p && eqb (get_or h.blocks p 0) b) 0 (length h.blocks) (told ≡ true) e
      (λ p l u t. let z = both_true (passes p) (eqb (get_or h.blocks p 0) b) t in at p (omega arith) (eqb-true (get_or h.blocks p 0) b z.1) z.0)
    where
      at : (p : ℕ) → p < length h.blocks → get_or h.blocks p 0 ≡ b → passes p ≡ true → told ≡ true
      at p u q t = go (or_cases (leb (length f.blocks) p || holds_data x bytes p) (is_last_kept f.size h.size p) t)
        where
          go : ((leb (length f.blocks) p || holds_data x bytes p) ≡ true) ⊎ (is_last_kept f.size h.size p ≡ true) → told ≡ true
          go (inr k) =
              let z = both_true (ltb h.size f.size && not (eqb (h.size % block_size) 0)) (eqb p (h.size / block_size)) k in
              or-second ((holds || is_new f h b) || node_changes v h b) (shortens f h b)
              (and_both (ltb h.size f.size && not (eqb (h.size % block_size) 0)) (eqb (get_or h.blocks (h.size / block_size) 0) b) z.0
              (eq-eqb (get_or h.blocks (h.size / block_size) 0) b (ap (λ m. get_or h.blocks m 0) (sym (eqb-true p (h.size / block_size) z.1)) ∙ q)))
          go (inl k) = next (or_cases (leb (length f.blocks) p) (holds_data x bytes p) k)
            where
              next : (leb (length f.blocks) p ≡ true) ⊎ (holds_data x bytes p ≡ true) → told ≡ true
              next (inl m) =
                  by-new (is-new (or-first (member b h.blocks) (member b h.nodes) (ap (λ k. member k h.blocks) (sym q) ∙ member-at h.blocks p u))
                  (ap (reaches f) (sym q) ∙ ext.blocks-new p (leb-true (length f.blocks) p m) u))
              next (inr m) =
                  let z = both_true (ltb 0 (length bytes) && ltb x (block_size * (p + 1))) (ltb (block_size * p) (x + length bytes)) m in
                  let y = both_true (ltb 0 (length bytes)) (ltb x (block_size * (p + 1))) z.0 in
                  let a = ltb-true 0 (length bytes) y.0 in
                  let c = ltb-true x (block_size * (p + 1)) y.1 in
                  let d = ltb-true (block_size * p) (x + length bytes) z.1 in
                  let e : max x (block_size * p) / 512 ≡ p = omega arith in
                  by-holds (some-any (λ q. eqb (get_or h.blocks (q / block_size) 0) b) x (length bytes) (max x (block_size * p)) (omega arith) (omega arith)
                  (eq-eqb (get_or h.blocks (max x (block_size * p) / block_size) 0) b (ap (λ m. get_or h.blocks m 0) e ∙ q)))

  nodes-told : nodes_staged ≡ true → told ≡ true
  nodes-told e =
      any_some (λ j. node_staged v (length f.nodes) h.nodes (runs h.blocks) j && eqb (get_or h.nodes j 0) b) 0 (length h.nodes) (told ≡ true) e
      (λ j l u t.
      let z = both_true (node_staged v (length f.nodes) h.nodes (runs h.blocks) j) (eqb (get_or h.nodes j 0) b) t in
      at j (omega arith) (eqb-true (get_or h.nodes j 0) b z.1) (or_cases (leb (length f.nodes) j) (not (same (node_content h j) (v (get_or h.nodes j 0)))) z.0))
    where
      at : (j : ℕ) → j < length h.nodes → get_or h.nodes j 0 ≡ b → (leb (length f.nodes) j ≡ true) ⊎ (not (same (node_content h j) (v (get_or h.nodes j 0))) ≡ true) → told ≡ true
      at j u q (inl m) =
          by-new (is-new (or-second (member b h.blocks) (member b h.nodes) (ap (λ k. member k h.nodes) (sym q) ∙ member-at h.nodes j u))
          (ap (reaches f) (sym q) ∙ ext.nodes-new j (leb-true (length f.nodes) j m) u))
      at j u q (inr m) =
          by-nodes (some-any (λ j. eqb (get_or h.nodes j 0) b && not (same (node_content h j) (v b))) 0 (length h.nodes) j (omega arith) (omega arith)
          (and_both (eqb (get_or h.nodes j 0) b) (not (same (node_content h j) (v b))) (eq-eqb (get_or h.nodes j 0) b q) (ap (λ k. not (same (node_content h j) (v k))) (sym q) ∙ m)))

  -- ---- told, so staged

  stage-data : (p : ℕ) → p < length h.blocks → get_or h.blocks p 0 ≡ b → passes p ≡ true → (nodes_staged || data_staged) ≡ true
  stage-data p u q t =
      or-second nodes_staged data_staged
      (some-any (λ p. passes p && eqb (get_or h.blocks p 0) b) 0 (length h.blocks) p (omega arith) (omega arith) (and_both (passes p) (eqb (get_or h.blocks p 0) b) t (eq-eqb (get_or h.blocks p 0) b q)))

  stage-node : (j : ℕ) → j < length h.nodes → get_or h.nodes j 0 ≡ b → node_staged v (length f.nodes) h.nodes (runs h.blocks) j ≡ true → (nodes_staged || data_staged) ≡ true
  stage-node j u q t =
      or-first nodes_staged data_staged
      (some-any (λ j. node_staged v (length f.nodes) h.nodes (runs h.blocks) j && eqb (get_or h.nodes j 0) b) 0 (length h.nodes) j (omega arith) (omega arith)
      (and_both (node_staged v (length f.nodes) h.nodes (runs h.blocks) j) (eqb (get_or h.nodes j 0) b) t (eq-eqb (get_or h.nodes j 0) b q)))

  passes-new : (p : ℕ) → length f.blocks ≤ p → passes p ≡ true
  passes-new p l =
      or-first (leb (length f.blocks) p || holds_data x bytes p) (is_last_kept f.size h.size p)
      (or-first (leb (length f.blocks) p) (holds_data x bytes p) (le-leb (length f.blocks) p l))

  holds-staged : holds ≡ true → (nodes_staged || data_staged) ≡ true
  holds-staged e =
      any_some (λ q. eqb (get_or h.blocks (q / block_size) 0) b) x (length bytes) ((nodes_staged || data_staged) ≡ true) e
      (λ q l u t.
      stage-data (q / block_size) (omega (arith, enough)) (eqb-true (get_or h.blocks (q / block_size) 0) b t)
      (or-first (leb (length f.blocks) (q / block_size) || holds_data x bytes (q / block_size)) (is_last_kept f.size h.size (q / block_size))
      (or-second (leb (length f.blocks) (q / block_size)) (holds_data x bytes (q / block_size))
      (and_both (ltb 0 (length bytes) && ltb x (block_size * (q / block_size + 1))) (ltb (block_size * (q / block_size)) (x + length bytes))
      (and_both (ltb 0 (length bytes)) (ltb x (block_size * (q / block_size + 1))) (lt-ltb 0 (length bytes) (omega arith)) (lt-ltb x (block_size * (q / block_size + 1)) (omega arith)))
      (lt-ltb (block_size * (q / block_size)) (x + length bytes) (omega arith))))))

  new-staged : is_new f h b ≡ true → (nodes_staged || data_staged) ≡ true
  new-staged e =
      let z = both_true (reaches h b) (not (reaches f b)) e in
      go (or_cases (member b h.blocks) (member b h.nodes) z.0) (not-true (reaches f b) z.1)
    where
      go : (member b h.blocks ≡ true) ⊎ (member b h.nodes ≡ true) → reaches f b ≡ false → (nodes_staged || data_staged) ≡ true
      go (inl m) n = member-place h.blocks b ((nodes_staged || data_staged) ≡ true) m (λ p u q. at p u q (lt-or-le p (length f.blocks)))
        where
          at : (p : ℕ) → p < length h.blocks → get_or h.blocks p 0 ≡ b → (p < length f.blocks) ⊎ (length f.blocks ≤ p) → (nodes_staged || data_staged) ≡ true
          at p u q (inl l) = absurd (not-both (ext.blocks-kept p l u) (ap (reaches f) q ∙ n))
          at p u q (inr l) = stage-data p u q (passes-new p l)
      go (inr m) n = member-place h.nodes b ((nodes_staged || data_staged) ≡ true) m (λ j u q. at j u q (lt-or-le j (length f.nodes)))
        where
          at : (j : ℕ) → j < length h.nodes → get_or h.nodes j 0 ≡ b → (j < length f.nodes) ⊎ (length f.nodes ≤ j) → (nodes_staged || data_staged) ≡ true
          at j u q (inl l) = absurd (not-both (ext.nodes-kept j l u) (ap (reaches f) q ∙ n))
          at j u q (inr l) = stage-node j u q (or-first (leb (length f.nodes) j) (not (same (node_content h j) (v (get_or h.nodes j 0)))) (le-leb (length f.nodes) j l))

  changes-staged : node_changes v h b ≡ true → (nodes_staged || data_staged) ≡ true
  changes-staged e =
      any_some (λ j. eqb (get_or h.nodes j 0) b && not (same (node_content h j) (v b))) 0 (length h.nodes) ((nodes_staged || data_staged) ≡ true) e
      (λ j l u t.
      let z = both_true (eqb (get_or h.nodes j 0) b) (not (same (node_content h j) (v b))) t in
      let q = eqb-true (get_or h.nodes j 0) b z.0 in
      stage-node j (omega arith) q
      (or-second (leb (length f.nodes) j) (not (same (node_content h j) (v (get_or h.nodes j 0)))) (ap (λ k. not (same (node_content h j) (v k))) q ∙ z.1)))

  shortens-staged : shortens f h b ≡ true → (nodes_staged || data_staged) ≡ true
  shortens-staged e =
      let z = both_true (ltb h.size f.size && not (eqb (h.size % block_size) 0)) (eqb (get_or h.blocks (h.size / block_size) 0) b) e in
      let n = both_true (ltb h.size f.size) (not (eqb (h.size % block_size) 0)) z.0 in
      let d = eqb-false (h.size % block_size) 0 (not-true (eqb (h.size % block_size) 0) n.1) in
      stage-data (h.size / block_size) (omega (arith, enough, d)) (eqb-true (get_or h.blocks (h.size / block_size) 0) b z.1)
      (or-second (leb (length f.blocks) (h.size / block_size) || holds_data x bytes (h.size / block_size)) (is_last_kept f.size h.size (h.size / block_size))
      (and_both (ltb h.size f.size && not (eqb (h.size % block_size) 0)) (eqb (h.size / block_size) (h.size / block_size)) z.0 (eq-eqb (h.size / block_size) (h.size / block_size) refl)))

  -- each data block that holds a byte of the data, each new block, each node that changes, the last kept block
  pub staged-told : (nodes_staged || data_staged) ≡ told
  staged-told =
      both_ways (nodes_staged || data_staged) told
      (λ e. first (or_cases nodes_staged data_staged e))
      (λ e. second (or_cases ((holds || is_new f h b) || node_changes v h b) (shortens f h b) e))
    where
      first : (nodes_staged ≡ true) ⊎ (data_staged ≡ true) → told ≡ true
      first (inl e) = nodes-told e
      first (inr e) = data-told e

      third : (holds ≡ true) ⊎ (is_new f h b ≡ true) → (nodes_staged || data_staged) ≡ true
      third (inl e) = holds-staged e
      third (inr e) = new-staged e

      inner : ((holds || is_new f h b) ≡ true) ⊎ (node_changes v h b ≡ true) → (nodes_staged || data_staged) ≡ true
      inner (inl e) = third (or_cases holds (is_new f h b) e)
      inner (inr e) = changes-staged e

      second : (((holds || is_new f h b) || node_changes v h b) ≡ true) ⊎ (shortens f h b ≡ true) → (nodes_staged || data_staged) ≡ true
      second (inl e) = inner (or_cases (holds || is_new f h b) (node_changes v h b) e)
      second (inr e) = shortens-staged e
