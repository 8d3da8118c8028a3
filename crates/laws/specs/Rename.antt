-- Rename: refused as the sentences tell, or record i gets the new name in its place. Assumes nothing.
use Rattle.std.specs.Prelude.{ℕ, ◌/◌, ◌%◌, ◌≤◌, ◌<◌, ◌≡◌, Bool, true, cond, length, drop, get_or}
use Rattle.std.proofs.Math.Path.{refl, sym, ap, ap₂}
use Rattle.std.proofs.Common.{◌∙◌, subst, take_at, arith, eqb-true, le-ltb}
use Rattle.std.proofs.Math.Bool.{false, not, ◌&&◌, and-false}
use mathlib.Core.List.{List, ◌++◌, append-nil}
use Rattle.std.proofs.Math.Option.{Option, none, some}
use Rattle.std.proofs.Math.Dec.{eqb}
use Rattle.std.proofs.Math.ListN.{take}
use Rattle.std.proofs.Math.Seq.{drop_at}
use Rattle.spec.specs.Layout.{block_size, fewest_blocks, most_blocks, bitmap_block, data_start, inode_count, inode_size, name_size}
use Rattle.spec.specs.Bytes.{found, is_some, patch, part, same, member, occurs, all_zero}
use Rattle.spec.specs.Disk.{Disk}
use Rattle.spec.specs.Inode.{is_name, inode_bytes, inode_of, inode_at, name_at, is_empty, block_of_inode, place_of_inode, find, data_of, nodes_of, reached_from}
use Rattle.spec.specs.Map.{content_of, files_of}
use Rattle.spec.specs.declared.Refusal.TheVariants.{Unknown, Taken}
use Rattle.spec.specs.Answers.{refuse, accept, require, ◌>>=◌, ◌>>◌}
use Rattle.spec.specs.Transaction.{State, view, ascending}
use Rattle.spec.specs.Plan.{if_changed, stores_of, inode_edit, renames}
use Rattle.spec.specs.Calls.{Change, Rename, Do}
use Rattle.spec.specs.Plain.{Plain, at}
use Rattle.spec.specs.Sentences.{File, file_at, file_then, reaches, is_new, node_content, node_changes, bit_changes, record_changes, shortens, call_stages}
use Rattle.spec.specs.Refusals.{lacks_room, is_scattered, name_unknown, name_taken, of_record}
use Rattle.lists.specs.Tests.{false_of, eqb-turn}
use Rattle.lists.specs.All.{none_any}
use Rattle.logs.specs.Stores.{Whole, applied, targets_of}
use Rattle.block.proofs.Laws.{same_true}
use Rattle.crash.specs.Interface.{planned, Makes, Plans, hindered, stages}
use Rattle.laws.specs.Bytes.{same_of}
use Rattle.laws.specs.Soundness.{FileSound}
use Rattle.laws.specs.Volume.{bit_count, find-some, find_none}
use Rattle.laws.specs.Frame.{Agree, agree_left, agree_right, nodes-frame, data-frame, content-frame, file-frame}
use Rattle.laws.specs.Good.{Good}
use Rattle.laws.specs.Reached.{bit-count, name-used, files-named, reached-used, reach-inside}
use Rattle.laws.specs.Replace.{Replaced, replace-good, replace-used}
use Rattle.laws.specs.Patch.{inode-new}
use Rattle.laws.specs.Edits.{sorted-keep}
use Rattle.laws.specs.Records.{name-length, name-nonzero, with_name, renamed-inode, named-data, named-nodes, named-content, renamed-sound}
use Rattle.laws.specs.OwnSize.{sound-fitted, own_room, own-extents}
use Rattle.laws.specs.Nodes.{node-held}
use Rattle.laws.specs.Tests.{first-none, first-unknown, first_taken, one_of, unknown-one, named-known, bits-same, two-of-six, file-is}
use Rattle.laws.specs.OneRecord.{laid_over, one-targets, one-long, one-own, one-member, one-others, one_inside, one_table, one-replaced}

-- ---- what the stores make

module _ (N : ℕ) (v : Disk) (name new : List ℕ) (i : ℕ) (lo : fewest_blocks ≤ N) (most : N ≤ most_blocks) (whole : Whole v) (g : Good N v)
    (named : is_name name ≡ true) (named_new : is_name new ≡ true) (known : find v name ≡ some i) (free : find v new ≡ none)
  where
    hi : i < inode_count
    hi = (find-some v name i known).0

    name-was : name_at v i ≡ name
    name-was = (find-some v name i known).1

    used : is_empty v i ≡ false
    used = name-used v i name named name-was

    low : data_start ≤ N
    low = omega arith

    in_table : N ≤ bit_count v
    in_table = omega (arith, bit-count v whole)

    eight : length new ≡ name_size
    eight = name-length new named_new

    short : length new ≤ inode_size
    short = let e = eight in omega arith

    abbrev w : Disk
    w = applied (ascending (laid_over v i new)) v

    bytes-are : inode_bytes w i ≡ new ++ drop name_size (inode_bytes v i)
    bytes-are = inode-new v w i new whole short (one-own N v i new low hi whole short) ∙ ap (λ k. new ++ drop k (inode_bytes v i)) eight

    name-is : name_at w i ≡ new
    name-is = ap (take name_size) bytes-are ∙ take_at new (drop name_size (inode_bytes v i)) name_size eight

    used-now : is_empty w i ≡ false
    used-now = ap all_zero name-is ∙ name-nonzero new named_new

    inode-is : inode_at w i ≡ with_name new (inode_at v i)
    inode-is = ap inode_of bytes-are ∙ renamed-inode new (inode_bytes v i) eight

    own-file : FileSound N v (inode_bytes v i)
    own-file = g.sound.files i hi used

    agree : Agree v w (reached_from v i)
    unfolding Agree
    agree b o = one_inside N v i new low hi whole short b (reach-inside N v g.sound i b hi o)

    agree-data : Agree v w (data_of v (inode_at v i))
    agree-data = agree_left v w (data_of v (inode_at v i)) (nodes_of v (inode_at v i)) (rw (reached-used v i used) at agree)

    agree-nodes : Agree v w (nodes_of v (inode_at v i))
    agree-nodes = agree_right v w (data_of v (inode_at v i)) (nodes_of v (inode_at v i)) (rw (reached-used v i used) at agree)

    data_is : data_of w (inode_at w i) ≡ data_of v (inode_at v i)
    data_is = ap (data_of w) inode-is ∙ named-data w new (inode_at v i) ∙ data-frame v w (inode_at v i) agree-nodes

    nodes-are : nodes_of w (inode_at w i) ≡ nodes_of v (inode_at v i)
    nodes-are = ap (nodes_of w) inode-is ∙ named-nodes w new (inode_at v i) ∙ nodes-frame v w (inode_at v i) agree-nodes

    size_is : (inode_at w i).size ≡ (inode_at v i).size
    size_is = ap (λ n. n.size) inode-is

    content-is : content_of w (inode_at w i) ≡ content_of v (inode_at v i)
    content-is = ap (content_of w) inode-is ∙ named-content w new (inode_at v i) ∙ content-frame v w (inode_at v i) agree-nodes agree-data

    replaced : Replaced N v w i
    replaced =
        one-replaced N v i new low hi whole short used-now
        (subst (λ (xs : List ℕ). FileSound N w xs) (sym bytes-are)
        (renamed-sound N w new (inode_bytes v i) eight (file-frame N v w (inode_bytes v i) agree-nodes agree-data own-file)))
        (λ j hj ne q. find_none v new free j hj (q ∙ name-is))
        (reached-used w i used-now ∙ ap₂ (λ (x y : List ℕ). x ++ y) data_is nodes-are ∙ sym (reached-used v i used))

    good : Good N w
    unfolding Agree
    good =
        replace-good N v w i hi in_table g.sound replaced g
        (rw (one_table N v i new low hi whole short) g.table)
        (record {
          record-bytes = rw (ap (drop name_size) bytes-are ∙ drop_at new (drop name_size (inode_bytes v i)) name_size eight) (g.files i hi).record-bytes;
          node-bytes = λ e b o.
              let p : 1 ≤ occurs b (nodes_of v (inode_at v i)) = rw nodes-are at o in
              rw (agree-nodes b p) ((g.files i hi).node-bytes used b p);
        })

    other_name : name ≡ new → ⊥
    other_name q = find_none v new free i hi (name-was ∙ q)

    files : (n : List ℕ) → files_of w n ≡ at name none (at new (files_of v name) (files_of v)) n
    files n =
        replace-used N v w i hi in_table g.sound replaced used-now (ap length name-is ∙ eight) n
        ∙ ap₂ (λ (a b : List ℕ). at a (some (content_of w (inode_at w i))) (at b none (files_of v)) n) name-is name-was
        ∙ ap (λ (x : Option (List ℕ)). at new x (at name none (files_of v)) n) (ap some content-is ∙ sym old-file)
        ∙ go (same n name) refl (same n new) refl
      where
        old-file : files_of v name ≡ some (content_of v (inode_at v i))
        old-file = files-named v name named ∙ ap (λ (o : Option ℕ). found o none (λ i. some (content_of v (inode_at v i)))) known

        go : (t : Bool) → same n name ≡ t → (u : Bool) → same n new ≡ u
            → cond u (files_of v name) (cond t none (files_of v n)) ≡ cond t none (cond u (files_of v name) (files_of v n))
        go true p true q = absurd (other_name (sym (same_true n name p) ∙ same_true n new q))
        go true p false q = refl
        go false p u q = refl

    -- ---- what is staged

    abbrev f : File
    f = file_at v i

    abbrev h : File
    h = file_then N v (file_at v i) (Rename name new)

    file : file_at w i ≡ h
    file =
        file-is (name_at w i) new (inode_at w i).size (inode_at v i).size (data_of w (inode_at w i)) (data_of v (inode_at v i)) (nodes_of w (inode_at w i)) (nodes_of v (inode_at v i))
        name-is size_is data_is nodes-are

    nodes-same : (b : ℕ) → node_changes v h b ≡ false
    nodes-same b =
        none_any (λ j. eqb (get_or f.nodes j 0) b && not (same (node_content h j) (v b))) 0 (length f.nodes) (λ j l u. go j (omega arith) (eqb (get_or f.nodes j 0) b) refl)
      where
        go : (j : ℕ) → j < length f.nodes → (t : Bool) → eqb (get_or f.nodes j 0) b ≡ t → (t && not (same (node_content h j) (v b))) ≡ false
        go j l true e =
            let q : node_content h j ≡ v b = node-held N v i own-file whole ((g.files i hi).node-bytes used) j l ∙ ap v (eqb-true (get_or f.nodes j 0) b e) in
            ap not (same_of (node_content h j) (v b) q)
        go j l false e = refl

    was-other : same (name_at v i) new ≡ false
    was-other = false_of (same (name_at v i) new) (λ q. other_name (sym name-was ∙ same_true (name_at v i) new q))

    record-changes : record_changes f h ≡ true
    record-changes = ap (λ t. not (t && eqb f.size f.size && same f.blocks f.blocks && same f.nodes f.nodes)) was-other

    block-changes : same (patch (place_of_inode i) new (v (block_of_inode i))) (v (block_of_inode i)) ≡ false
    unfolding inode_bytes
    block-changes =
        false_of (same (patch (place_of_inode i) new (v (block_of_inode i))) (v (block_of_inode i)))
        (λ q.
        let e : w (block_of_inode i) ≡ v (block_of_inode i) = one-own N v i new low hi whole short ∙ same_true (patch (place_of_inode i) new (v (block_of_inode i))) (v (block_of_inode i)) q in
        other_name (sym name-was ∙ ap (λ (t : List ℕ). take name_size (part (place_of_inode i) inode_size t)) (sym e) ∙ name-is))

    self-not : (t : Bool) → (t && not t) ≡ false
    self-not true = refl
    self-not false = refl

    staged-by : (b : ℕ) → call_stages N v i (Rename name new) b ≡ member b (targets_of (laid_over v i new))
    unfolding call_stages
    staged-by b =
        two-of-six false (is_new f h b) (node_changes v h b) (eqb b bitmap_block && bit_changes N f h) (eqb b (block_of_inode i) && record_changes f h) (shortens f h b)
        false (eqb (block_of_inode i) b && not (same (patch (place_of_inode i) new (v (block_of_inode i))) (v (block_of_inode i))))
        refl (self-not (reaches f b)) (nodes-same b) (ap (λ t. eqb b bitmap_block && t) (bits-same N f h (λ b. refl)) ∙ and-false (eqb b bitmap_block))
        (ap₂ ◌&&◌ (eqb-turn b (block_of_inode i)) (record-changes ∙ ap not (sym block-changes)))
        (ap (λ t. t && not (eqb (f.size % block_size) 0) && eqb (get_or f.blocks (f.size / block_size) 0) b) (le-ltb f.size f.size (omega arith)))
        ∙ sym (one-member N v i new low hi whole short b)

    rename-makes : Makes N (Good N) v (Rename name new) (laid_over v i new)
    rename-makes =
        record {
          long = one-long N v i new low hi whole short;
          inode = i;
          is-inode = known;
          staged = sorted-keep N (laid_over v i new) (call_stages N v i (Rename name new)) (omega arith) (one-targets N v i new low hi whole short) (λ b l u. staged-by b);
          file = file;
          others = λ j hj ne. one-others N v i new low hi whole short j ne;
          good = good;
          files = files;
        }

-- ---- the call

are-stores : (v : Disk) (i : ℕ) (new : List ℕ) → renames v i new ≡ laid_over v i new
unfolding renames
are-stores v i new = ap (stores_of v) (sym (append-nil (if_changed v (inode_edit i new))))

module _ (N : ℕ) (lo : fewest_blocks ≤ N) (most : N ≤ most_blocks) (p : Plain) (s : State) (whole : Whole (view s)) (g : Good N (view s))
    (maps : (name : List ℕ) → files_of (view s) name ≡ p.working name) (name new : List ℕ) (named : is_name name ≡ true) (named_new : is_name new ≡ true)
  where
    abbrev v : Disk
    v = view s

    plan : (o q : Option ℕ) → find v name ≡ o → find v new ≡ q
        → planned v (Rename name new) ≡ (found o (refuse Unknown) accept >>= (λ i. require (not (is_some q)) Taken >> accept (renames v i new)))
    unfolding planned
    plan o q e d = ap₂ (λ (o q : Option ℕ). found o (refuse Unknown) accept >>= (λ i. require (not (is_some q)) Taken >> accept (renames v i new))) e d

    unknown-is : (o : Option ℕ) → find v name ≡ o → name_unknown p (Do (Rename name new)) ≡ not (is_some o)
    unknown-is o e = unknown-one (is_some (p.working name)) ∙ ap not (ap is_some (sym (maps name)) ∙ named-known v name named ∙ ap is_some e)

    taken_is : (o : Option ℕ) → find v new ≡ o → name_taken p (Do (Rename name new)) ≡ is_some o
    taken_is o e = one_of (is_some (p.working new)) ∙ ap is_some (sym (maps new)) ∙ named-known v new named_new ∙ ap is_some e

    room-is : (i : ℕ) → find v name ≡ some i → (f : ℕ → Change → Bool) → of_record f s (Do (Rename name new)) ≡ f i (Rename name new)
    room-is i e f = ap (λ (o : Option ℕ). found o false (λ i. f i (Rename name new))) e

    pub rename-plans : Plans N (Good N) p s (Rename name new)
    rename-plans = go (find v name) refl (find v new) refl
      where
        go : (o : Option ℕ) → find v name ≡ o → (q : Option ℕ) → find v new ≡ q → Plans N (Good N) p s (Rename name new)
        go none e q d = hindered Unknown (first-unknown (name_unknown p (Do (Rename name new))) (name_taken p (Do (Rename name new))) false (of_record (lacks_room N s) s (Do (Rename name new))) (of_record (is_scattered N s) s (Do (Rename name new))) (unknown-is none e)) (plan none q e d)
        go (some i) e (some k) d =
            hindered Taken
            (first_taken (name_unknown p (Do (Rename name new))) (name_taken p (Do (Rename name new))) false (of_record (lacks_room N s) s (Do (Rename name new))) (of_record (is_scattered N s) s (Do (Rename name new)))
            (unknown-is (some i) e) (taken_is (some k) d))
            (plan (some i) (some k) e d)
        go (some i) e none d =
            let r = find-some v name i e in
            let fit = sound-fitted N v i (g.sound.files i r.0 (name-used v i name named r.1)) in
            stages (laid_over v i new)
            (first-none (name_unknown p (Do (Rename name new))) (name_taken p (Do (Rename name new))) false (of_record (lacks_room N s) s (Do (Rename name new))) (of_record (is_scattered N s) s (Do (Rename name new)))
            (unknown-is (some i) e) (taken_is none d) refl
            (room-is i e (lacks_room N s) ∙ own_room N s i (Rename name new) refl fit) (room-is i e (is_scattered N s) ∙ own-extents N s i (Rename name new) refl fit))
            (plan (some i) none e d ∙ ap accept (are-stores v i new))
            (rename-makes N v name new i lo most whole g named named_new e d)
