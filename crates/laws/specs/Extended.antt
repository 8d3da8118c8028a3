-- A file at a new size keeps the front of its blocks and nodes in their places; what comes behind is free. Assumes nothing.
use Rattle.std.specs.Prelude.{ℕ, ◌+◌, ◌-◌, ◌≤◌, ◌<◌, ◌≡◌, true, false, not, ◌⊎◌, List, ◌++◌, length, take, drop, get_or}
use Rattle.std.proofs.Common.{sym, ap, ◌∙◌, inl, inr, length-append, length-take, get_or-append-add, get_or-take, arith}
use Rattle.std.proofs.Math.ListN.{get_or-append}
use Rattle.std.proofs.lemmas.Bool.{not-true}
use Rattle.spec.specs.Layout.{block_size, inode_count, data_start}
use Rattle.spec.specs.Bytes.{member, occurs, up_from, quotient_up}
use Rattle.spec.specs.Disk.{Disk}
use Rattle.spec.specs.Inode.{is_empty, reached}
use Rattle.spec.specs.Sentences.{File, file_at, free_list, more_blocks, blocks_then, extent_count, nodes_wanted, more_nodes, nodes_then, sized_to, reaches}
use Rattle.lists.specs.Tests.{or-first, or-second, false_of}
use Rattle.lists.specs.Counts.{occurs-take, occurs-drop, occurs-at}
use Rattle.lists.specs.Members.{member-append, member-at, member-occurs, absent-occurs, occurs-member}
use Rattle.logs.specs.Staging.{member-keep}
use Rattle.block.proofs.Laws.{lt-or-le}
use Rattle.laws.specs.Reached.{reached-used, reached-one}
use Rattle.laws.specs.Staged.{Extends}

-- places in front, and places behind
front : (k : ℕ) (xs ys : List ℕ) (p : ℕ) → p < length xs → p < k → get_or (take k xs ++ ys) p 0 ≡ get_or xs p 0
front k xs ys p h l = get_or-append (take k xs) ys 0 p (omega (arith, length-take k xs)) ∙ get_or-take k xs p 0 l

behind : (xs ys : List ℕ) (p : ℕ) → length xs ≤ p → p < length (xs ++ ys) → 1 ≤ occurs (get_or (xs ++ ys) p 0) ys
behind xs ys p h l =
    let e : p ≡ length xs + (p - length xs) = omega arith in
    let q : get_or (xs ++ ys) p 0 ≡ get_or ys (p - length xs) 0 = ap (λ m. get_or (xs ++ ys) m 0) e ∙ get_or-append-add xs ys (p - length xs) 0 in
    omega (arith, ap (λ b. occurs b ys) q, occurs-at ys (p - length xs) (omega (arith, length-append xs ys)))

module _ (N : ℕ) (v : Disk) (i : ℕ) (hi : i < inode_count) (used : is_empty v i ≡ false) (size : ℕ) where
  abbrev f : File
  f = file_at v i

  -- no file reaches a free block
  free-unreached : (b : ℕ) → 1 ≤ occurs b (free_list N v) → reaches f b ≡ false
  free-unreached b o =
      let m = not-true (member b (reached v)) (member-keep b (λ b. not (member b (reached v))) (up_from data_start (N - data_start)) (occurs-member b (free_list N v) o)) in
      let z = absent-occurs b (reached v) m in
      sym (member-append b f.blocks f.nodes)
      ∙ false_of (member b (f.blocks ++ f.nodes))
      (λ q. let y = member-occurs b (f.blocks ++ f.nodes) q in omega (arith, reached-one v b i hi, ap (occurs b) (reached-used v i used)))

  reached-block : (b : ℕ) → member b f.blocks ≡ true → reaches f b ≡ true
  reached-block b e = or-first (member b f.blocks) (member b f.nodes) e

  reached-node : (b : ℕ) → member b f.nodes ≡ true → reaches f b ≡ true
  reached-node b e = or-second (member b f.blocks) (member b f.nodes) e

  part-kept : (k : ℕ) (xs ys : List ℕ) (p : ℕ) → p < length xs → p < length (take k xs ++ ys) → (k ≤ p → length ys ≡ 0) → member (get_or (take k xs ++ ys) p 0) xs ≡ true
  part-kept k xs ys p h l none = go (lt-or-le p k)
    where
      go : (p < k) ⊎ (k ≤ p) → member (get_or (take k xs ++ ys) p 0) xs ≡ true
      go (inl m) = ap (λ b. member b xs) (front k xs ys p h m) ∙ member-at xs p h
      go (inr m) = absurd (let z = none m in omega (arith, length-append (take k xs) ys, length-take k xs))

  pub extends : Extends f (sized_to N v f size)
  extends =
      record {
        blocks-kept = λ p h l.
            reached-block (get_or (blocks_then N v f size) p 0)
            (part-kept (quotient_up size block_size) f.blocks (take (more_blocks f size) (free_list N v)) p h l (λ m. let z : more_blocks f size ≡ 0 = omega arith in ap (λ k. length (take k (free_list N v))) z));
        blocks-new = λ p h l.
            free-unreached (get_or (blocks_then N v f size) p 0)
            (omega (
              arith,
              occurs-take (get_or (blocks_then N v f size) p 0) (more_blocks f size) (free_list N v),
              behind (take (quotient_up size block_size) f.blocks) (take (more_blocks f size) (free_list N v)) p (omega (arith, length-take (quotient_up size block_size) f.blocks)) l,
            ));
        nodes-kept = λ p h l.
            reached-node (get_or (nodes_then N v f size) p 0)
            (part-kept (nodes_wanted (extent_count (blocks_then N v f size))) f.nodes (take (more_nodes N v f size) (drop (more_blocks f size) (free_list N v))) p h l
            (λ m. let z : more_nodes N v f size ≡ 0 = omega arith in ap (λ k. length (take k (drop (more_blocks f size) (free_list N v)))) z));
        nodes-new = λ p h l.
            free-unreached (get_or (nodes_then N v f size) p 0)
            (omega (
              arith,
              occurs-take (get_or (nodes_then N v f size) p 0) (more_nodes N v f size) (drop (more_blocks f size) (free_list N v)),
              occurs-drop (get_or (nodes_then N v f size) p 0) (more_blocks f size) (free_list N v),
              behind (take (nodes_wanted (extent_count (blocks_then N v f size))) f.nodes) (take (more_nodes N v f size) (drop (more_blocks f size) (free_list N v))) p
                  (omega (arith, length-take (nodes_wanted (extent_count (blocks_then N v f size))) f.nodes)) l,
            ));
      }
