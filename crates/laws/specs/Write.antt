-- Write and set-size: refused as the sentences tell, or the file has its new size and the data in it. Assumes nothing.
use Rattle.std.specs.Prelude.{ℕ, ◌+◌, ◌≤◌, max, ◌≡◌, Bool, true, false, not, List, []}
use Rattle.std.proofs.Math.Path.{refl, ap}
use Rattle.std.proofs.Common.{sym, ◌∙◌, arith}
use Rattle.std.proofs.Math.Option.{Option, none, some}
use Rattle.std.proofs.Math.ListN.{length}
use Rattle.spec.specs.Layout.{fewest_blocks, most_blocks, max_file_size, data_start}
use Rattle.spec.specs.Bytes.{found, is_some}
use Rattle.spec.specs.Disk.{Disk}
use Rattle.spec.specs.Inode.{is_name, inode_bytes, inode_at, name_at, find}
use Rattle.spec.specs.Map.{files_of}
use Rattle.spec.specs.declared.Refusal.TheVariants.{Unknown, NoSpace, TooManyExtents}
use Rattle.spec.specs.Answers.{Result, refuse, accept, ◌>>=◌}
use Rattle.spec.specs.Transaction.{State, view}
use Rattle.spec.specs.Plan.{Tree, tree_for, rewrites}
use Rattle.spec.specs.Calls.{Change, Write, SetSize, Do}
use Rattle.spec.specs.Plain.{Plain}
use Rattle.spec.specs.Sentences.{file_at, record_for, size_for, call_stages}
use Rattle.spec.specs.Refusals.{lacks_room, is_scattered, name_unknown, name_taken, no_record, of_record}
use Rattle.logs.specs.Stores.{Whole}
use Rattle.crash.specs.Interface.{rewritten, planned, Makes, Plans, hindered, stages}
use Rattle.laws.specs.Soundness.{FileSound}
use Rattle.laws.specs.Volume.{find-some}
use Rattle.laws.specs.Good.{Good}
use Rattle.laws.specs.Reached.{name-used}
use Rattle.laws.specs.Tests.{first-none, first-unknown, first-space, first-extents, unknown-one, named-known}
use Rattle.laws.specs.Resized.{Fit, no-space, too_many, fitting, lacks, scattered, tree-fits}
use Rattle.laws.specs.Rewriting.{Rewriting, tree, ws}
use Rattle.laws.specs.Rewritten.{written-files, sized-files}
use Rattle.laws.specs.RewriteStages.{all_told, rewrite-makes}

-- a change that makes the file of this name another size, by its record, with bytes laid over it at x
record Rewrites (N : ℕ) (p : Plain) (s : State) (c : Change) (name : List ℕ) (size : ℕ → ℕ) (x : ℕ) (bytes : List ℕ) : Type 0 where
  about : record_for (view s) c ≡ find (view s) name
  unknown : name_unknown p (Do c) ≡ not (is_some (p.working name))
  taken : name_taken p (Do c) ≡ false
  record-found : no_record s (Do c) ≡ false
  sized : (i : ℕ) → size_for (file_at (view s) i).size c ≡ size i
  plan : (o : Option ℕ) → find (view s) name ≡ o → planned (view s) c ≡ (found o (refuse Unknown) accept >>= (λ i. rewritten (view s) i (size i) x bytes))
  limit : (i : ℕ) → FileSound N (view s) (inode_bytes (view s) i) → size i ≤ max_file_size
  fits : (i : ℕ) → x + length bytes ≤ size i
  makes : (i : ℕ) (r : Rewriting N (view s) name i (size i) x bytes) → Makes N (Good N) (view s) c (ws r)

are-stores : {N : ℕ} {v : Disk} {name : List ℕ} {i size x : ℕ} {bytes : List ℕ} (r : Rewriting N v name i size x bytes)
    → rewrites v i (name_at v i) size x bytes (tree r) ≡ ws r
unfolding rewrites
are-stores r = refl

module _ (N : ℕ) (lo : fewest_blocks ≤ N) (most : N ≤ most_blocks) (p : Plain) (s : State) (whole : Whole (view s)) (g : Good N (view s))
    (maps : (name : List ℕ) → files_of (view s) name ≡ p.working name) (name : List ℕ) (named : is_name name ≡ true)
  where
    abbrev v : Disk
    v = view s

    low : data_start ≤ N
    low = omega arith

    module _ (c : Change) (size : ℕ → ℕ) (x : ℕ) (bytes : List ℕ) (k : Rewrites N p s c name size x bytes) where
      unknown-is : (o : Option ℕ) → find v name ≡ o → name_unknown p (Do c) ≡ not (is_some o)
      unknown-is o e = k.unknown ∙ ap not (ap is_some (sym (maps name)) ∙ named-known v name named ∙ ap is_some e)

      of-record : (i : ℕ) → find v name ≡ some i → (f : ℕ → Change → Bool) → of_record f s (Do c) ≡ f i c
      of-record i e f = ap (λ (o : Option ℕ). found o false (λ i. f i c)) (k.about ∙ e)

      module _ (i : ℕ) (e : find v name ≡ some i) (sound : FileSound N v (inode_bytes v i)) where
        lacks-is : of_record (lacks_room N s) s (Do c) ≡ lacks N v i low most whole g.sound sound (size i)
        lacks-is = of-record i e (lacks_room N s) ∙ ap (lacks N v i low most whole g.sound sound) (k.sized i)

        scattered-is : of_record (is_scattered N s) s (Do c) ≡ scattered N v i low most whole g.sound sound (size i)
        scattered-is = of-record i e (is_scattered N s) ∙ ap (scattered N v i low most whole g.sound sound) (k.sized i)

        planned-is : (m : Result Tree) → tree_for v (inode_at v i) (size i) ≡ m → planned v c ≡ (m >>= (λ t. accept (rewrites v i (name_at v i) (size i) x bytes t)))
        planned-is m q = k.plan (some i) e ∙ ap (λ (m : Result Tree). m >>= (λ t. accept (rewrites v i (name_at v i) (size i) x bytes t))) q

        known-plans : Fit N v i low most whole g.sound sound (size i) → Plans N (Good N) p s c
        known-plans (no-space l t) =
            hindered NoSpace
            (first-space (name_unknown p (Do c)) (name_taken p (Do c)) (no_record s (Do c)) (of_record (lacks_room N s) s (Do c)) (of_record (is_scattered N s) s (Do c))
            (unknown-is (some i) e) k.taken k.record-found (lacks-is ∙ l))
            (planned-is (refuse NoSpace) t)
        known-plans (too_many l m t) =
            hindered TooManyExtents
            (first-extents (name_unknown p (Do c)) (name_taken p (Do c)) (no_record s (Do c)) (of_record (lacks_room N s) s (Do c)) (of_record (is_scattered N s) s (Do c))
            (unknown-is (some i) e) k.taken k.record-found (lacks-is ∙ l) (scattered-is ∙ m))
            (planned-is (refuse TooManyExtents) t)
        known-plans (fitting l m room few t) =
            let r : Rewriting N v name i (size i) x bytes =
            record { fewest = lo; most = most; whole = whole; good = g; named = named; known = e; limit = k.limit i sound; fits = k.fits i; room = room; few = few }
            in
            stages (ws r)
            (first-none (name_unknown p (Do c)) (name_taken p (Do c)) (no_record s (Do c)) (of_record (lacks_room N s) s (Do c)) (of_record (is_scattered N s) s (Do c))
            (unknown-is (some i) e) k.taken k.record-found (lacks-is ∙ l) (scattered-is ∙ m))
            (planned-is (accept _) t ∙ ap accept (are-stores r))
            (k.makes i r)

      rewrite-plans : Plans N (Good N) p s c
      rewrite-plans = go (find v name) refl
        where
          go : (o : Option ℕ) → find v name ≡ o → Plans N (Good N) p s c
          go none e =
              hindered Unknown
              (first-unknown (name_unknown p (Do c)) (name_taken p (Do c)) (no_record s (Do c)) (of_record (lacks_room N s) s (Do c)) (of_record (is_scattered N s) s (Do c)) (unknown-is none e))
              (k.plan none e)
          go (some i) e =
              let q = find-some v name i e in
              let sound : FileSound N v (inode_bytes v i) = g.sound.files i q.0 (name-used v i name named q.1) in
              known-plans i e sound (tree-fits N v i low most whole g.sound sound (size i))

    -- ---- write

    write-plan : (x : ℕ) (bytes : List ℕ) (o : Option ℕ) → find v name ≡ o
        → planned v (Write name x bytes) ≡ (found o (refuse Unknown) accept >>= (λ i. rewritten v i (max (inode_at v i).size (x + length bytes)) x bytes))
    unfolding planned
    write-plan x bytes o e = ap (λ (o : Option ℕ). found o (refuse Unknown) accept >>= (λ i. rewritten v i (max (inode_at v i).size (x + length bytes)) x bytes)) e

    write-makes : (x : ℕ) (bytes : List ℕ) (i : ℕ) (r : Rewriting N v name i (max (inode_at v i).size (x + length bytes)) x bytes) → Makes N (Good N) v (Write name x bytes) (ws r)
    unfolding call_stages
    write-makes x bytes i r = rewrite-makes r (Write name x bytes) r.known refl (all_told r) (written-files r refl)

    pub write-plans : (x : ℕ) (bytes : List ℕ) → x + length bytes ≤ max_file_size → Plans N (Good N) p s (Write name x bytes)
    write-plans x bytes limit =
        rewrite-plans (Write name x bytes) (λ i. max (inode_at v i).size (x + length bytes)) x bytes
        (record {
          about = refl;
          unknown = unknown-one (is_some (p.working name));
          taken = refl;
          record-found = refl;
          sized = λ i. refl;
          plan = write-plan x bytes;
          limit = λ i sound. omega (arith, sound.size_limit);
          fits = λ i. omega arith;
          makes = write-makes x bytes;
        })

    -- ---- set-size

    size-plan : (size : ℕ) (o : Option ℕ) → find v name ≡ o → planned v (SetSize name size) ≡ (found o (refuse Unknown) accept >>= (λ i. rewritten v i size 0 []))
    unfolding planned
    size-plan size o e = ap (λ (o : Option ℕ). found o (refuse Unknown) accept >>= (λ i. rewritten v i size 0 [])) e

    size-makes : (size i : ℕ) (r : Rewriting N v name i size 0 []) → Makes N (Good N) v (SetSize name size) (ws r)
    unfolding call_stages
    size-makes size i r = rewrite-makes r (SetSize name size) r.known refl (all_told r) (sized-files r refl)

    pub set-size-plans : (size : ℕ) → size ≤ max_file_size → Plans N (Good N) p s (SetSize name size)
    set-size-plans size limit =
        rewrite-plans (SetSize name size) (λ i. size) 0 []
        (record {
          about = refl;
          unknown = unknown-one (is_some (p.working name));
          taken = refl;
          record-found = refl;
          sized = λ i. refl;
          plan = size-plan size;
          limit = λ i sound. limit;
          fits = λ i. omega arith;
          makes = size-makes size;
        })
