-- Create: refused as the sentences tell, or the lowest empty record becomes an empty file of that name. Assumes nothing.
use Rattle.std.specs.Prelude.{ℕ, ◌/◌, ◌%◌, ◌≤◌, ◌<◌, ◌≡◌, Bool, true, ◌||◌, length, drop, get_or}
use Rattle.std.proofs.Math.Path.{refl, sym, ap, ap₂}
use Rattle.std.proofs.Common.{◌∙◌, subst, drop_of_length-le, not-suc-le-zero, arith, le-ltb}
use Rattle.std.proofs.Math.Bool.{false, not, ◌&&◌, and-false}
use mathlib.Core.List.{List, [], ◌++◌, append-nil}
use Rattle.std.proofs.Math.Option.{Option, none, some}
use Rattle.std.proofs.Math.Dec.{eqb}
use Rattle.std.proofs.Math.ListN.{take}
use Rattle.spec.specs.Layout.{fewest_blocks, most_blocks, bitmap_block, inode_count, inode_size, name_size, block_size}
use Rattle.spec.specs.Bytes.{found, is_some, patch, part, same, member, all_zero}
use Rattle.spec.specs.Disk.{Disk}
use Rattle.spec.specs.Inode.{is_name, inode_bytes, inode_of, inode_at, name_at, is_empty, block_of_inode, place_of_inode, find, find_empty, data_of, nodes_of}
use Rattle.spec.specs.Map.{content_of, files_of}
use Rattle.spec.specs.declared.Refusal.TheVariants.{Taken, NoInode}
use Rattle.spec.specs.Answers.{refuse, accept, require, ◌>>=◌, ◌>>◌}
use Rattle.spec.specs.Transaction.{State, view}
use Rattle.spec.specs.Plan.{if_changed, stores_of, inode_edit, creates}
use Rattle.spec.specs.Calls.{Change, Create, Do}
use Rattle.spec.specs.Plain.{Plain, at}
use Rattle.spec.specs.Sentences.{File, file_at, file_then, is_new, node_changes, bit_changes, record_changes, shortens, call_stages}
use Rattle.spec.specs.Refusals.{lacks_room, is_scattered, name_taken, no_record, of_record}
use Rattle.lists.specs.Tests.{not-both, false_of, eqb-turn}
use Rattle.logs.specs.Stores.{Whole, targets_of}
use Rattle.block.proofs.Laws.{same_true}
use Rattle.crash.specs.Interface.{planned, Makes, Plans, hindered, stages}
use Rattle.laws.specs.Soundness.{FileSound}
use Rattle.laws.specs.Volume.{find_none}
use Rattle.laws.specs.Good.{Good}
use Rattle.laws.specs.Reached.{bit-count, reached-empty, reached-used}
use Rattle.laws.specs.Content.{zero-byte}
use Rattle.laws.specs.Replace.{Replaced, replace-good, replace-created}
use Rattle.laws.specs.Patch.{length-record, inode-new}
use Rattle.laws.specs.Edits.{sorted-keep}
use Rattle.laws.specs.Records.{name-length, name-nonzero, blank, blank-length, blank-name, blank-rest, blank-bare, blank-sound, bare-data, bare-nodes, zero-bare}
use Rattle.laws.specs.OwnSize.{empty-fitted, own_room, own-extents}
use Rattle.laws.specs.Tests.{first-none, first_taken, first-inode, one_of, named-known, none-empty, empty-some, bits-same, two-of-six, file-is}
use Rattle.laws.specs.OneRecord.{laid_over, after, one-targets, one-long, one-own, one-member, one-others, one_table, one-replaced}

-- ---- what the stores make

module _ (N : ℕ) (v : Disk) (name : List ℕ) (i : ℕ) (lo : fewest_blocks ≤ N) (most : N ≤ most_blocks) (whole : Whole v) (g : Good N v)
    (named : is_name name ≡ true) (free : find v name ≡ none) (found-empty : find_empty v ≡ some i)
  where
    hi : i < inode_count
    hi = (empty-some v i found-empty).0

    empty : is_empty v i ≡ true
    empty = (empty-some v i found-empty).1

    zeros : all_zero (inode_bytes v i) ≡ true
    zeros = g.sound.empties i hi empty

    eight : length name ≡ name_size
    eight = name-length name named

    short : length (blank name) ≤ inode_size
    short = let e = blank-length name eight in omega arith

    abbrev w : Disk
    w = after N v i (blank name) (omega arith) hi whole short

    bytes-are : inode_bytes w i ≡ blank name
    bytes-are =
        let h : length (inode_bytes v i) ≤ length (blank name) = omega (arith, length-record v i whole, blank-length name eight) in
        inode-new v w i (blank name) whole short (one-own N v i (blank name) (omega arith) hi whole short)
        ∙ ap (λ (l : List ℕ). blank name ++ l) (drop_of_length-le (inode_bytes v i) h) ∙ append-nil (blank name)

    name-is : name_at w i ≡ name
    name-is = ap (take name_size) bytes-are ∙ blank-name name eight

    used-now : is_empty w i ≡ false
    used-now = ap all_zero name-is ∙ name-nonzero name named

    data_is : data_of w (inode_at w i) ≡ []
    data_is = ap (λ (xs : List ℕ). data_of w (inode_of xs)) bytes-are ∙ bare-data w (blank name) (blank-bare name eight)

    nodes-are : nodes_of w (inode_at w i) ≡ []
    nodes-are = ap (λ (xs : List ℕ). nodes_of w (inode_of xs)) bytes-are ∙ bare-nodes w (blank name) (blank-bare name eight)

    size_is : (inode_at w i).size ≡ 0
    size_is = ap (λ (xs : List ℕ). (inode_of xs).size) bytes-are ∙ (blank-bare name eight).size

    content-is : content_of w (inode_at w i) ≡ []
    unfolding content_of
    content-is = rw size_is

    replaced : Replaced N v w i
    replaced =
        one-replaced N v i (blank name) (omega arith) hi whole short used-now
        (subst (λ (xs : List ℕ). FileSound N w xs) (sym bytes-are) (blank-sound name eight N w))
        (λ j hj ne q. find_none v name free j hj (q ∙ name-is))
        (reached-used w i used-now ∙ ap₂ (λ (x y : List ℕ). x ++ y) data_is nodes-are ∙ sym (reached-empty v i empty))

    good : Good N w
    good =
        replace-good N v w i hi (omega (arith, bit-count v whole)) g.sound replaced g
        (rw (one_table N v i (blank name) (omega arith) hi whole short) g.table)
        (record {
          record-bytes = λ k. rw bytes-are (omega (arith, zero-byte (drop name_size (blank name)) k (blank-rest name eight)));
          node-bytes = λ e b o. absurd (not-suc-le-zero (rw nodes-are at o));
        })

    files : (n : List ℕ) → files_of w n ≡ at name (some []) (files_of v) n
    files n =
        replace-created N v w i hi (omega (arith, bit-count v whole)) g.sound replaced empty used-now (ap length name-is ∙ eight) n
        ∙ ap₂ (λ (a x : List ℕ). at a (some x) (files_of v) n) name-is content-is

    file : file_at w i ≡ file_then N v (file_at v i) (Create name)
    file = file-is (name_at w i) name (inode_at w i).size 0 (data_of w (inode_at w i)) [] (nodes_of w (inode_at w i)) [] name-is size_is data_is nodes-are

    -- ---- what is staged

    abbrev f : File
    f = file_at v i

    abbrev h : File
    h = file_then N v (file_at v i) (Create name)

    other_name : name_at v i ≡ name → ⊥
    other_name e = not-both empty (ap all_zero e ∙ name-nonzero name named)

    record-changes : record_changes f h ≡ true
    record-changes = go (same (name_at v i) name) refl
      where
        go : (t : Bool) → same (name_at v i) name ≡ t → not (t && eqb (inode_at v i).size 0 && same (data_of v (inode_at v i)) [] && same (nodes_of v (inode_at v i)) []) ≡ true
        go true e = absurd (other_name (same_true (name_at v i) name e))
        go false e = refl

    block-changes : same (patch (place_of_inode i) (blank name) (v (block_of_inode i))) (v (block_of_inode i)) ≡ false
    unfolding inode_bytes
    block-changes =
        false_of (same (patch (place_of_inode i) (blank name) (v (block_of_inode i))) (v (block_of_inode i)))
        (λ q.
        let e : w (block_of_inode i) ≡ v (block_of_inode i) =
        one-own N v i (blank name) (omega arith) hi whole short ∙ same_true (patch (place_of_inode i) (blank name) (v (block_of_inode i))) (v (block_of_inode i)) q
        in
        other_name (ap (λ (t : List ℕ). take name_size (part (place_of_inode i) inode_size t)) (sym e) ∙ name-is))

    no_bits : bit_changes N f h ≡ false
    no_bits =
        let bare = zero-bare (inode_bytes v i) zeros in
        bits-same N f h (λ b. ap₂ (λ (x y : List ℕ). member b x || member b y) (bare-data v (inode_bytes v i) bare) (bare-nodes v (inode_bytes v i) bare))

    staged-by : (b : ℕ) → call_stages N v i (Create name) b ≡ member b (targets_of (laid_over v i (blank name)))
    unfolding call_stages
    staged-by b =
        two-of-six false (is_new f h b) (node_changes v h b) (eqb b bitmap_block && bit_changes N f h) (eqb b (block_of_inode i) && record_changes f h) (shortens f h b)
        false (eqb (block_of_inode i) b && not (same (patch (place_of_inode i) (blank name) (v (block_of_inode i))) (v (block_of_inode i))))
        refl refl refl (ap (λ t. eqb b bitmap_block && t) no_bits ∙ and-false (eqb b bitmap_block))
        (ap₂ ◌&&◌ (eqb-turn b (block_of_inode i)) (record-changes ∙ ap not (sym block-changes)))
        (ap (λ t. t && not (eqb (0 % block_size) 0) && eqb (get_or [] (0 / block_size) 0) b) (le-ltb 0 f.size (omega (arith, (zero-bare (inode_bytes v i) zeros).size))))
        ∙ sym (one-member N v i (blank name) (omega arith) hi whole short b)

    create-makes : Makes N (Good N) v (Create name) (laid_over v i (blank name))
    create-makes =
        record {
          long = one-long N v i (blank name) (omega arith) hi whole short;
          inode = i;
          is-inode = found-empty;
          staged = sorted-keep N (laid_over v i (blank name)) (call_stages N v i (Create name)) (omega arith)
              (one-targets N v i (blank name) (omega arith) hi whole short) (λ b l u. staged-by b);
          file = file;
          others = λ j hj ne. one-others N v i (blank name) (omega arith) hi whole short j ne;
          good = good;
          files = files;
        }

-- ---- the call

are-stores : (v : Disk) (i : ℕ) (name : List ℕ) → creates v i name ≡ laid_over v i (blank name)
unfolding creates
are-stores v i name = ap (stores_of v) (sym (append-nil (if_changed v (inode_edit i (blank name)))))

module _ (N : ℕ) (lo : fewest_blocks ≤ N) (most : N ≤ most_blocks) (p : Plain) (s : State) (whole : Whole (view s)) (g : Good N (view s))
    (maps : (name : List ℕ) → files_of (view s) name ≡ p.working name) (name : List ℕ) (named : is_name name ≡ true)
  where
    abbrev v : Disk
    v = view s

    plan : (o q : Option ℕ) → find v name ≡ o → find_empty v ≡ q
        → planned v (Create name) ≡ (require (not (is_some o)) Taken >> (found q (refuse NoInode) accept >>= (λ i. accept (creates v i name))))
    unfolding planned
    plan o q e d = ap₂ (λ (o q : Option ℕ). require (not (is_some o)) Taken >> (found q (refuse NoInode) accept >>= (λ i. accept (creates v i name)))) e d

    taken_is : (o : Option ℕ) → find v name ≡ o → name_taken p (Do (Create name)) ≡ is_some o
    taken_is o e = one_of (is_some (p.working name)) ∙ ap is_some (sym (maps name)) ∙ named-known v name named ∙ ap is_some e

    record_is : (q : Option ℕ) → find_empty v ≡ q → no_record s (Do (Create name)) ≡ not (is_some q)
    record_is q d = none-empty v ∙ ap (λ (o : Option ℕ). not (is_some o)) d

    room-is : (i : ℕ) → find_empty v ≡ some i → (f : ℕ → Change → Bool) → of_record f s (Do (Create name)) ≡ f i (Create name)
    room-is i d f = ap (λ (o : Option ℕ). found o false (λ i. f i (Create name))) d

    pub create-plans : Plans N (Good N) p s (Create name)
    create-plans = go (find v name) refl (find_empty v) refl
      where
        go : (o : Option ℕ) → find v name ≡ o → (q : Option ℕ) → find_empty v ≡ q → Plans N (Good N) p s (Create name)
        go (some k) e q d =
            hindered Taken
            (first_taken false (name_taken p (Do (Create name))) (no_record s (Do (Create name))) (of_record (lacks_room N s) s (Do (Create name))) (of_record (is_scattered N s) s (Do (Create name)))
            refl (taken_is (some k) e))
            (plan (some k) q e d)
        go none e none d =
            hindered NoInode
            (first-inode false (name_taken p (Do (Create name))) (no_record s (Do (Create name))) (of_record (lacks_room N s) s (Do (Create name))) (of_record (is_scattered N s) s (Do (Create name)))
            refl (taken_is none e) (record_is none d))
            (plan none none e d)
        go none e (some i) d =
            let fit = empty-fitted v i (g.sound.empties i (empty-some v i d).0 (empty-some v i d).1) in
            stages (laid_over v i (blank name))
            (first-none false (name_taken p (Do (Create name))) (no_record s (Do (Create name))) (of_record (lacks_room N s) s (Do (Create name))) (of_record (is_scattered N s) s (Do (Create name)))
            refl (taken_is none e) (record_is (some i) d)
            (room-is i d (lacks_room N s) ∙ own_room N s i (Create name) refl fit) (room-is i d (is_scattered N s) ∙ own-extents N s i (Create name) refl fit))
            (plan none (some i) e d ∙ ap accept (are-stores v i name))
            (create-makes N v name i lo most whole g named e d)
