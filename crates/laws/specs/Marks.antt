-- Bits marked for blocks taken and given back: what becomes of each, by counting, and when the bitmap changes. Assumes nothing.
use Rattle.std.specs.Prelude.{ℕ, zero, suc, ◌+◌, ◌*◌, ◌-◌, ◌≤◌, ◌<◌, ◌≡◌, refl, Bool, true, false, not, ◌⊎◌, List, [], ◌∷◌, ◌++◌, eqb, length, get_or, set}
use Rattle.std.proofs.Common.{sym, ap, ◌∙◌, inl, inr, length-set, get_or-set_same, get_or-set_other, ext_get_or, not-suc-le-zero, arith, eqb-true}
use Rattle.std.specs.Bool.{beq}
use Rattle.std.proofs.Math.ListN.{get_or-eq_default}
use Rattle.std.proofs.lemmas.Bool.{eqb-false}
use Rattle.spec.specs.Layout.{data_start}
use Rattle.spec.specs.Bytes.{occurs, member, same}
use Rattle.spec.specs.Bitmap.{bits_of, bytes_of, mark}
use Rattle.spec.specs.Sentences.{File, reaches, bit_changes}
use Rattle.lists.specs.Tests.{not-both, false_of, beq-true}
use Rattle.lists.specs.All.{not-any}
use Rattle.lists.specs.Members.{member-append, member-occurs, absent-occurs, member-same}
use Rattle.block.proofs.Laws.{lt-or-le, same_true}
use Rattle.bitmap.specs.Words.{Below, Table}
use Rattle.bitmap.proofs.Laws.{length-bits, bits-binary, bytes_bits, bits-bytes}
use Rattle.laws.specs.Bytes.{same_of}
use Rattle.laws.specs.Soundness.{Inside}
use Rattle.laws.specs.Tests.{bits-same}

-- ---- one bit after another

pub length-mark : (x : ℕ) (bs bits : List ℕ) → length (mark x bs bits) ≡ length bits
unfolding mark
length-mark x [] bits = refl
length-mark x (b ∷ bs) bits = length-mark x bs (set bits b x) ∙ length-set bits b x

below_set : (n : ℕ) (bits : List ℕ) (b x : ℕ) → x < n → Below n bits → Below n (set bits b x)
below_set n [] b x h s i = s i
below_set n (y ∷ ys) zero x h s zero = h
below_set n (y ∷ ys) zero x h s (suc i) = s (suc i)
below_set n (y ∷ ys) (suc b) x h s zero = s 0
below_set n (y ∷ ys) (suc b) x h s (suc i) = below_set n ys b x h (λ j. s (suc j)) i

pub below-mark : (n x : ℕ) (bs bits : List ℕ) → x < n → Below n bits → Below n (mark x bs bits)
unfolding mark
below-mark n x [] bits h s = s
below-mark n x (b ∷ bs) bits h s = below-mark n x bs (set bits b x) h (below_set n bits b x h s)

pub mark-out : (x : ℕ) (bs bits : List ℕ) (c : ℕ) → occurs c bs ≡ 0 → get_or (mark x bs bits) c 0 ≡ get_or bits c 0
unfolding mark
mark-out x [] bits c o = refl
mark-out x (b ∷ bs) bits c o = go (eqb b c) refl (mark-out x bs (set bits b x) c)
  where
    go : (t : Bool) → eqb b c ≡ t → (occurs c bs ≡ 0 → get_or (mark x bs (set bits b x)) c 0 ≡ get_or (set bits b x) c 0) → get_or (mark x bs (set bits b x)) c 0 ≡ get_or bits c 0
    go true e ih = absurd (let z = rw e at o in omega arith)
    go false e ih = ih (let z = rw e at o in omega arith) ∙ get_or-set_other bits b c x 0 (λ q. eqb-false b c e (sym q))

pub mark-in : (x : ℕ) (bs bits : List ℕ) (c : ℕ) → c < length bits → 1 ≤ occurs c bs → get_or (mark x bs bits) c 0 ≡ x
unfolding mark
mark-in x [] bits c l o = absurd (not-suc-le-zero o)
mark-in x (b ∷ bs) bits c l o = go (occurs c bs) refl (mark-in x bs (set bits b x) c) (eqb b c) refl
  where
    go : (k : ℕ) → occurs c bs ≡ k → (c < length (set bits b x) → 1 ≤ occurs c bs → get_or (mark x bs (set bits b x)) c 0 ≡ x) → (t : Bool) → eqb b c ≡ t → get_or (mark x bs (set bits b x)) c 0 ≡ x
    go (suc k) q ih t e = ih (omega (arith, length-set bits b x)) (omega arith)
    go zero q ih true e =
        let z = eqb-true b c e in
        mark-out x bs (set bits b x) c q ∙ ap (λ n. get_or (set bits n x) c 0) z ∙ get_or-set_same bits c x 0 l
    go zero q ih false e = absurd (let z = rw e at o in omega arith)

-- ---- blocks taken and given back

-- of the blocks before, those dropped; beside them the new ones, which are free
pub record Exchange (bits new dropped before after : List ℕ) : Type 0 where
  pub fresh : (x : ℕ) → get_or bits x 0 + occurs x new ≤ 1
  pub within : (x : ℕ) → 1 ≤ occurs x new → x < length bits
  pub marked : (x : ℕ) → occurs x before ≤ get_or bits x 0
  pub part : (x : ℕ) → occurs x dropped ≤ occurs x before
  pub balance : (x : ℕ) → occurs x after + occurs x dropped ≡ occurs x before + occurs x new

abbrev pub bits_then : List ℕ → List ℕ → List ℕ → List ℕ
bits_then bits new dropped = mark 0 dropped (mark 1 new bits)

module _ (bits new dropped before after : List ℕ) (e : Exchange bits new dropped before after) where
  pub after-once : (x : ℕ) → occurs x after ≤ 1
  after-once x = omega (arith, e.fresh x, e.marked x, e.part x, e.balance x)

  pub exchange-count : (x : ℕ) → get_or (bits_then bits new dropped) x 0 + occurs x before ≡ get_or bits x 0 + occurs x after
  exchange-count x = go (occurs x new) refl (occurs x dropped) refl
    where
      inside : 1 ≤ get_or bits x 0 → x < length bits
      inside h = at (lt-or-le x (length bits))
        where
          at : (x < length bits) ⊎ (length bits ≤ x) → x < length bits
          at (inl l) = l
          at (inr l) = absurd (omega (arith, get_or-eq_default bits 0 {n = x} l))

      go : (k : ℕ) → occurs x new ≡ k → (d : ℕ) → occurs x dropped ≡ d → get_or (bits_then bits new dropped) x 0 + occurs x before ≡ get_or bits x 0 + occurs x after
      go zero p zero q = omega (arith, mark-out 0 dropped (mark 1 new bits) x q, mark-out 1 new bits x p, e.balance x)
      go zero p (suc d) q =
          let l : x < length bits = inside (omega (arith, e.marked x, e.part x)) in
          omega (arith, mark-in 0 dropped (mark 1 new bits) x (omega (arith, length-mark 1 new bits)) (omega arith), e.fresh x, e.marked x, e.part x, e.balance x)
      go (suc k) p zero q =
          omega (arith, mark-out 0 dropped (mark 1 new bits) x q, mark-in 1 new bits x (e.within x (omega arith)) (omega arith), e.fresh x, e.marked x, e.balance x)
      go (suc k) p (suc d) q = absurd (omega (arith, e.fresh x, e.marked x, e.part x))

  pub then-length : length (bits_then bits new dropped) ≡ length bits
  then-length = length-mark 0 dropped (mark 1 new bits) ∙ length-mark 1 new bits

  pub then-binary : Below 2 bits → Below 2 (bits_then bits new dropped)
  then-binary h = below-mark 2 0 dropped (mark 1 new bits) (omega arith) (below-mark 2 1 new bits (omega arith) h)

-- ---- "block 33 when a bit changes"

module _ (N : ℕ) (old new dropped : List ℕ) (table : Table old) (f g : File)
    (e : Exchange (bits_of old) new dropped (f.blocks ++ f.nodes) (g.blocks ++ g.nodes))
    (inside-f : (b : ℕ) → 1 ≤ occurs b (f.blocks ++ f.nodes) → Inside N b) (inside-g : (b : ℕ) → 1 ≤ occurs b (g.blocks ++ g.nodes) → Inside N b)
  where
    abbrev bits' : List ℕ
    bits' = bits_then (bits_of old) new dropped

    bits_back : bits_of (bytes_of bits') ≡ bits'
    bits_back =
        bits-bytes bits'
        (then-length (bits_of old) new dropped (f.blocks ++ f.nodes) (g.blocks ++ g.nodes) e ∙ length-bits old ∙ ap (λ k. 8 * k) table.full)
        (then-binary (bits_of old) new dropped (f.blocks ++ f.nodes) (g.blocks ++ g.nodes) e (bits-binary old))

    count : (b : ℕ) → get_or bits' b 0 + occurs b (f.blocks ++ f.nodes) ≡ get_or (bits_of old) b 0 + occurs b (g.blocks ++ g.nodes)
    count = exchange-count (bits_of old) new dropped (f.blocks ++ f.nodes) (g.blocks ++ g.nodes) e

    still : same (bytes_of bits') old ≡ true → bit_changes N f g ≡ false
    still h =
        let q : bits' ≡ bits_of old = sym bits_back ∙ ap bits_of (same_true (bytes_of bits') old h) in
        bits-same N f g (λ b.
        sym (member-append b f.blocks f.nodes)
        ∙ member-same b (f.blocks ++ f.nodes) (g.blocks ++ g.nodes) (let c = count b in let z = ap (λ (l : List ℕ). get_or l b 0) q in omega arith)
        ∙ member-append b g.blocks g.nodes)

    -- each block is reached as often before as after
    equal : bit_changes N f g ≡ false → (b : ℕ) → occurs b (f.blocks ++ f.nodes) ≡ occurs b (g.blocks ++ g.nodes)
    equal h b = go (lt-or-le b data_start) (lt-or-le b N)
      where
        none : (xs : List ℕ) → (1 ≤ occurs b xs → Inside N b) → (Inside N b → ⊥) → occurs b xs ≡ 0
        none xs k o = at (occurs b xs) refl
          where
            at : (m : ℕ) → occurs b xs ≡ m → m ≡ 0
            at zero q = refl
            at (suc m) q = absurd (o (k (omega arith)))

        out : (Inside N b → ⊥) → occurs b (f.blocks ++ f.nodes) ≡ occurs b (g.blocks ++ g.nodes)
        out o = none (f.blocks ++ f.nodes) (inside-f b) o ∙ sym (none (g.blocks ++ g.nodes) (inside-g b) o)

        inn : member b (f.blocks ++ f.nodes) ≡ member b (g.blocks ++ g.nodes) → (t : Bool) → member b (g.blocks ++ g.nodes) ≡ t → occurs b (f.blocks ++ f.nodes) ≡ occurs b (g.blocks ++ g.nodes)
        inn q true k =
            let a = member-occurs b (g.blocks ++ g.nodes) k in
            let c = member-occurs b (f.blocks ++ f.nodes) (q ∙ k) in
            omega (arith, after-once (bits_of old) new dropped (f.blocks ++ f.nodes) (g.blocks ++ g.nodes) e b, e.marked b, e.fresh b)
        inn q false k = absent-occurs b (f.blocks ++ f.nodes) (q ∙ k) ∙ sym (absent-occurs b (g.blocks ++ g.nodes) k)

        go : (b < data_start) ⊎ (data_start ≤ b) → (b < N) ⊎ (N ≤ b) → occurs b (f.blocks ++ f.nodes) ≡ occurs b (g.blocks ++ g.nodes)
        go (inl l) q = out (λ k. omega (arith, k.low))
        go (inr l) (inr q) = out (λ k. omega (arith, k.high))
        go (inr l) (inl q) =
            let t : beq (reaches f b) (reaches g b) ≡ true =
            not-any (λ b. beq (reaches f b) (reaches g b)) data_start (N - data_start) h b l (omega arith)
            in
            inn (member-append b f.blocks f.nodes ∙ beq-true (reaches f b) (reaches g b) t ∙ sym (member-append b g.blocks g.nodes)) (member b (g.blocks ++ g.nodes)) refl

    unchanged : bit_changes N f g ≡ false → same (bytes_of bits') old ≡ true
    unchanged h =
        let q : bits' ≡ bits_of old =
        ext_get_or 0 bits' (bits_of old) (then-length (bits_of old) new dropped (f.blocks ++ f.nodes) (g.blocks ++ g.nodes) e)
        (λ b l. let c = count b in let d = equal h b in let z : get_or bits' b 0 ≡ get_or (bits_of old) b 0 = omega arith in z)
        in
        same_of (bytes_of bits') old (ap bytes_of q ∙ bytes_bits old table)

    pub table-changes : not (same (bytes_of bits') old) ≡ bit_changes N f g
    table-changes = go (bit_changes N f g) refl
      where
        go : (t : Bool) → bit_changes N f g ≡ t → not (same (bytes_of bits') old) ≡ t
        go false k = ap not (unchanged k)
        go true k = ap not (false_of (same (bytes_of bits') old) (λ h. not-both k (still h)))
