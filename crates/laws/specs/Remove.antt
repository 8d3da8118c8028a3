-- Remove: refused as the sentences tell, or record i is emptied and its blocks are given back. Assumes nothing.
use Rattle.std.specs.Prelude.{ℕ, ◌/◌, ◌≤◌, ◌<◌, ◌≡◌, Bool, true, ◌||◌, eqb, ltb, length, drop, get_or}
use Rattle.std.proofs.Math.Path.{refl, sym, ap}
use Rattle.std.proofs.Common.{ap₂, ◌∙◌, drop_of_length-le, not-suc-le-zero, arith}
use Rattle.std.proofs.Math.Bool.{false, not, ◌&&◌, or-false}
use mathlib.Core.List.{List, [], ◌++◌, append-nil}
use Rattle.std.proofs.Math.Option.{Option, none, some}
use Rattle.std.proofs.Math.ListN.{take}
use Rattle.spec.specs.Layout.{block_size, fewest_blocks, most_blocks, bitmap_block, data_start, inode_count, inode_size, name_size}
use Rattle.spec.specs.Bytes.{found, is_some, patch, part, same, member, occurs, all_zero, zeros}
use Rattle.spec.specs.Disk.{Disk}
use Rattle.spec.specs.Bitmap.{bits_of, bytes_of}
use Rattle.spec.specs.Inode.{is_name, inode_bytes, inode_at, name_at, is_empty, block_of_inode, place_of_inode, find, data_of, nodes_of, reached_from}
use Rattle.spec.specs.Map.{files_of}
use Rattle.spec.specs.declared.Refusal.TheVariants.{Unknown}
use Rattle.spec.specs.Answers.{refuse, accept, ◌>>=◌}
use Rattle.spec.specs.Transaction.{State, view, BlockStore, ascending}
use Rattle.spec.specs.Plan.{if_changed, stores_of, bitmap_edit, inode_edit, removes}
use Rattle.spec.specs.Calls.{Change, Remove, Do}
use Rattle.spec.specs.Plain.{Plain, at}
use Rattle.spec.specs.Sentences.{File, file_at, no_file, bit_changes, record_changes, shortens, call_stages}
use Rattle.spec.specs.Refusals.{lacks_room, is_scattered, name_unknown, of_record}
use Rattle.lists.specs.Tests.{not-both, false_of, eqb-turn}
use Rattle.logs.specs.Stores.{Whole, applied, targets_of}
use Rattle.block.proofs.Laws.{same_true}
use Rattle.crash.specs.Interface.{planned, Makes, Plans, hindered, stages}
use Rattle.laws.specs.Volume.{bit, bit_count, find-some}
use Rattle.laws.specs.Good.{Good}
use Rattle.laws.specs.Reached.{bit-small, bit-count, name-used, reached-empty, reached-used, reach-inside, reach-bit}
use Rattle.laws.specs.Content.{zero-byte}
use Rattle.laws.specs.Empty.{zero-take, zero-drop}
use Rattle.laws.specs.Replace.{Replaced, replace-good, replace-removed}
use Rattle.laws.specs.Patch.{length-record, inode-new}
use Rattle.laws.specs.Edits.{sorted-keep}
use Rattle.laws.specs.Records.{bare-data, bare-nodes, zero-bare}
use Rattle.laws.specs.OwnSize.{sound-fitted, own_room, own-extents}
use Rattle.laws.specs.Tests.{first-none, first-unknown, unknown-one, named-known, two-of-six, file-is}
use Rattle.laws.specs.Marks.{Exchange, bits_then, table-changes}
use Rattle.laws.specs.Changing.{edits, Own, change-targets, change-long, change-record, change-member, change-others, change-bytes, change-replaced}

-- ---- a record of zeros

zeros-length : length (zeros inode_size) ≡ inode_size
unfolding zeros
zeros-length = refl

zeros-zero : all_zero (zeros inode_size) ≡ true
unfolding zeros
zeros-zero = refl

zeros-name : take name_size (zeros inode_size) ≡ zeros name_size
unfolding zeros
zeros-name = refl

no-edits : (N : ℕ) (v : Disk) (i : ℕ) → Own N v i []
no-edits N v i = record { targets = tt; low = λ b h. tt; apart = λ b inn o nz. tt; long = tt }

-- ---- what the stores make

module _ (N : ℕ) (v : Disk) (name : List ℕ) (i : ℕ) (lo : fewest_blocks ≤ N) (most : N ≤ most_blocks) (whole : Whole v) (g : Good N v)
    (named : is_name name ≡ true) (known : find v name ≡ some i)
  where
    hi : i < inode_count
    hi = (find-some v name i known).0

    name-was : name_at v i ≡ name
    name-was = (find-some v name i known).1

    used : is_empty v i ≡ false
    used = name-used v i name named name-was

    low : data_start ≤ N
    low = omega arith

    in_table : N ≤ bit_count v
    in_table = omega (arith, bit-count v whole)

    short : length (zeros inode_size) ≤ inode_size
    short = omega (arith, zeros-length)

    abbrev gone : List ℕ
    gone = data_of v (inode_at v i) ++ nodes_of v (inode_at v i)

    abbrev ws : List BlockStore
    ws = stores_of v (edits v i [] (data_of v (inode_at v i) ++ nodes_of v (inode_at v i)) (zeros inode_size) [])

    abbrev w : Disk
    w = applied (ascending (stores_of v (edits v i [] (data_of v (inode_at v i) ++ nodes_of v (inode_at v i)) (zeros inode_size) []))) v

    bytes-are : inode_bytes w i ≡ zeros inode_size
    bytes-are =
        let h : length (inode_bytes v i) ≤ length (zeros inode_size) = omega (arith, length-record v i whole, zeros-length) in
        inode-new v w i (zeros inode_size) whole short (change-record N v i low most hi whole [] gone (zeros inode_size) [] short (no-edits N v i))
        ∙ ap (λ (l : List ℕ). zeros inode_size ++ l) (drop_of_length-le (inode_bytes v i) h) ∙ append-nil (zeros inode_size)

    all-zero : all_zero (inode_bytes w i) ≡ true
    all-zero = ap all_zero bytes-are ∙ zeros-zero

    now-empty : is_empty w i ≡ true
    now-empty = zero-take name_size (inode_bytes w i) all-zero

    given_back : Exchange (bits_of (v bitmap_block)) [] gone gone []
    unfolding bit
    given_back =
        record {
          fresh = λ x. omega (arith, bit-small v x);
          within = λ x o. absurd (not-suc-le-zero o);
          marked = λ x. omega (arith, reach-bit N v g.sound in_table i x hi, ap (occurs x) (reached-used v i used));
          part = λ x. omega arith;
          balance = λ x. omega arith;
        }

    exchange : Exchange (bits_of (v bitmap_block)) [] gone (reached_from v i) (reached_from w i)
    exchange = rw (reached-used v i used, reached-empty w i now-empty) given_back

    replaced : Replaced N v w i
    replaced =
        change-replaced N v i low most hi whole [] gone (zeros inode_size) [] short (no-edits N v i) g.sound exchange (λ b o. absurd (not-suc-le-zero o))
        (λ e. all-zero) (λ e. absurd (not-both now-empty e)) (λ e. absurd (not-both now-empty e))

    good : Good N w
    good =
        replace-good N v w i hi in_table g.sound replaced g
        (change-bytes N v i low most hi whole [] gone (zeros inode_size) [] short (no-edits N v i) g.sound exchange (λ b o. absurd (not-suc-le-zero o)))
        (record {
          record-bytes = λ k. omega (arith, zero-byte (drop name_size (inode_bytes w i)) k (zero-drop name_size (inode_bytes w i) all-zero));
          node-bytes = λ e. absurd (not-both now-empty e);
        })

    file : file_at w i ≡ no_file
    file =
        let bare = zero-bare (inode_bytes w i) all-zero in
        file-is (name_at w i) (zeros name_size) (inode_at w i).size 0 (data_of w (inode_at w i)) [] (nodes_of w (inode_at w i)) []
        (ap (take name_size) bytes-are ∙ zeros-name) bare.size (bare-data w (inode_bytes w i) bare) (bare-nodes w (inode_bytes w i) bare)

    -- ---- what is staged

    abbrev f : File
    f = file_at v i

    table-staged : not (same (bytes_of (bits_then (bits_of (v bitmap_block)) [] gone)) (v bitmap_block)) ≡ bit_changes N f no_file
    table-staged =
        table-changes N (v bitmap_block) [] gone (record { full = whole bitmap_block; bytes = g.table }) f no_file given_back
        (λ b o. reach-inside N v g.sound i b hi (rw (reached-used v i used) o)) (λ b o. absurd (not-suc-le-zero o))

    was-named : name_at v i ≡ zeros name_size → ⊥
    was-named e = not-both (ap all_zero e ∙ ap all_zero (sym zeros-name) ∙ zero-take name_size (zeros inode_size) zeros-zero) used

    record-changes : record_changes f no_file ≡ true
    record-changes = go (same (name_at v i) (zeros name_size)) refl
      where
        go : (t : Bool) → same (name_at v i) (zeros name_size) ≡ t → not (t && eqb (inode_at v i).size 0 && same (data_of v (inode_at v i)) [] && same (nodes_of v (inode_at v i)) []) ≡ true
        go true e = absurd (was-named (same_true (name_at v i) (zeros name_size) e))
        go false e = refl

    block-changes : same (patch (place_of_inode i) (zeros inode_size) (v (block_of_inode i))) (v (block_of_inode i)) ≡ false
    unfolding inode_bytes
    block-changes =
        false_of (same (patch (place_of_inode i) (zeros inode_size) (v (block_of_inode i))) (v (block_of_inode i)))
        (λ q.
        let e : w (block_of_inode i) ≡ v (block_of_inode i) =
        change-record N v i low most hi whole [] gone (zeros inode_size) [] short (no-edits N v i)
        ∙ same_true (patch (place_of_inode i) (zeros inode_size) (v (block_of_inode i))) (v (block_of_inode i)) q
        in
        was-named (ap (λ (t : List ℕ). take name_size (part (place_of_inode i) inode_size t)) (sym e) ∙ ap (take name_size) bytes-are ∙ zeros-name))

    not_last : (a b : Bool) → (a && false && b) ≡ false
    not_last true b = refl
    not_last false b = refl

    staged-by : (b : ℕ) → call_stages N v i (Remove name) b ≡ member b (targets_of ws)
    unfolding call_stages
    staged-by b =
        two-of-six false false false (eqb b bitmap_block && bit_changes N f no_file) (eqb b (block_of_inode i) && record_changes f no_file) (shortens f no_file b)
        (eqb bitmap_block b && not (same (bytes_of (bits_then (bits_of (v bitmap_block)) [] gone)) (v bitmap_block)))
        (eqb (block_of_inode i) b && not (same (patch (place_of_inode i) (zeros inode_size) (v (block_of_inode i))) (v (block_of_inode i))))
        refl refl refl (ap₂ ◌&&◌ (eqb-turn b bitmap_block) (sym table-staged))
        (ap₂ ◌&&◌ (eqb-turn b (block_of_inode i)) (record-changes ∙ ap not (sym block-changes)))
        (not_last (ltb 0 f.size) (eqb (get_or [] (0 / block_size) 0) b))
        ∙ ap (λ t. (eqb bitmap_block b && not (same (bytes_of (bits_then (bits_of (v bitmap_block)) [] gone)) (v bitmap_block))) || t)
        (sym (or-false (eqb (block_of_inode i) b && not (same (patch (place_of_inode i) (zeros inode_size) (v (block_of_inode i))) (v (block_of_inode i))))))
        ∙ sym (change-member N v i low most hi whole [] gone (zeros inode_size) [] short (no-edits N v i) b)

    remove-makes : Makes N (Good N) v (Remove name) ws
    remove-makes =
        record {
          long = change-long N v i low most hi whole [] gone (zeros inode_size) [] short (no-edits N v i);
          inode = i;
          is-inode = known;
          staged = sorted-keep N ws (call_stages N v i (Remove name)) (omega arith)
              (change-targets N v i low most hi whole [] gone (zeros inode_size) [] short (no-edits N v i)) (λ b l u. staged-by b);
          file = file;
          others = change-others N v i low most hi whole [] gone (zeros inode_size) [] short (no-edits N v i);
          good = good;
          files = λ n. replace-removed N v w i hi in_table g.sound replaced now-empty n ∙ ap (λ (a : List ℕ). at a none (files_of v) n) name-was;
        }

-- ---- the call

are-stores : (v : Disk) (i : ℕ) → removes v i ≡ stores_of v (edits v i [] (data_of v (inode_at v i) ++ nodes_of v (inode_at v i)) (zeros inode_size) [])
unfolding removes
are-stores v i =
    ap (λ (l : List _). stores_of v (if_changed v (bitmap_edit [] (data_of v (inode_at v i) ++ nodes_of v (inode_at v i))) ++ l)) (sym (append-nil (if_changed v (inode_edit i (zeros inode_size)))))

module _ (N : ℕ) (lo : fewest_blocks ≤ N) (most : N ≤ most_blocks) (p : Plain) (s : State) (whole : Whole (view s)) (g : Good N (view s))
    (maps : (name : List ℕ) → files_of (view s) name ≡ p.working name) (name : List ℕ) (named : is_name name ≡ true)
  where
    abbrev v : Disk
    v = view s

    plan : (o : Option ℕ) → find v name ≡ o → planned v (Remove name) ≡ (found o (refuse Unknown) accept >>= (λ i. accept (removes v i)))
    unfolding planned
    plan o e = ap (λ (o : Option ℕ). found o (refuse Unknown) accept >>= (λ i. accept (removes v i))) e

    unknown-is : (o : Option ℕ) → find v name ≡ o → name_unknown p (Do (Remove name)) ≡ not (is_some o)
    unknown-is o e = unknown-one (is_some (p.working name)) ∙ ap not (ap is_some (sym (maps name)) ∙ named-known v name named ∙ ap is_some e)

    room-is : (i : ℕ) → find v name ≡ some i → (f : ℕ → Change → Bool) → of_record f s (Do (Remove name)) ≡ f i (Remove name)
    room-is i e f = ap (λ (o : Option ℕ). found o false (λ i. f i (Remove name))) e

    pub remove-plans : Plans N (Good N) p s (Remove name)
    remove-plans = go (find v name) refl
      where
        go : (o : Option ℕ) → find v name ≡ o → Plans N (Good N) p s (Remove name)
        go none e =
            hindered Unknown
            (first-unknown (name_unknown p (Do (Remove name))) false false (of_record (lacks_room N s) s (Do (Remove name))) (of_record (is_scattered N s) s (Do (Remove name))) (unknown-is none e))
            (plan none e)
        go (some i) e =
            let r = find-some v name i e in
            let fit = sound-fitted N v i (g.sound.files i r.0 (name-used v i name named r.1)) in
            stages (stores_of v (edits v i [] (data_of v (inode_at v i) ++ nodes_of v (inode_at v i)) (zeros inode_size) []))
            (first-none (name_unknown p (Do (Remove name))) false false (of_record (lacks_room N s) s (Do (Remove name))) (of_record (is_scattered N s) s (Do (Remove name)))
            (unknown-is (some i) e) refl refl
            (room-is i e (lacks_room N s) ∙ own_room N s i (Remove name) refl fit) (room-is i e (is_scattered N s) ∙ own-extents N s i (Remove name) refl fit))
            (plan (some i) e ∙ ap accept (are-stores v i))
            (remove-makes N v name i lo most whole g named e)
