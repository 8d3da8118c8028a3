-- The content of a file whose data blocks became what a change makes of them: the new file, and zeros behind it. Assumes nothing.
use Rattle.std.specs.Prelude.{ℕ, ◌+◌, ◌*◌, ◌-◌, ◌/◌, ◌%◌, ◌≤◌, ◌<◌, max, ◌≡◌, refl, true, ◌⊎◌, List, ◌++◌, map, length, take, drop, get_or}
use Rattle.std.proofs.Common.{sym, ap, ◌∙◌, inl, inr, length-append, length-take, length-drop, get_or-take, get_or-drop, ext_get_or, arith}
use Rattle.std.proofs.Math.ListN.{get_or-eq_default}
use Rattle.spec.specs.Layout.{block_size}
use Rattle.spec.specs.Bytes.{all_zero, concat, exactly, quotient_up}
use Rattle.spec.specs.Disk.{Disk}
use Rattle.spec.specs.Inode.{inode_of, data_of, blocks_for}
use Rattle.spec.specs.Map.{content_of}
use Rattle.spec.specs.Plain.{new_file}
use Rattle.block.proofs.Laws.{lt-or-le, length-exactly, get_or-exactly}
use Rattle.logs.specs.Stores.{Whole}
use Rattle.laws.specs.Soundness.{FileSound}
use Rattle.laws.specs.Tree.{data-length}
use Rattle.laws.specs.Content.{length-joined, zero-byte}
use Rattle.laws.specs.NewContent.{append-front, append-back, joined-byte, byte-zero, block_then, then-in, then-out, then-past}

-- ---- the new file by places

new_file-in : (x : ℕ) (bytes old : List ℕ) (q : ℕ) → x ≤ q → q < x + length bytes → get_or (new_file x bytes old) q 0 ≡ get_or bytes (q - x) 0
new_file-in x bytes old q lo hi =
    append-back (exactly x old) (bytes ++ drop (x + length bytes) old) x q (length-exactly x old) lo
    ∙ append-front bytes (drop (x + length bytes) old) (length bytes) (q - x) refl (omega arith)

new_file-before : (x : ℕ) (bytes old : List ℕ) (q : ℕ) → q < x → get_or (new_file x bytes old) q 0 ≡ get_or old q 0
new_file-before x bytes old q h =
    append-front (exactly x old) (bytes ++ drop (x + length bytes) old) x q (length-exactly x old) h ∙ get_or-exactly x old q h

new_file-after : (x : ℕ) (bytes old : List ℕ) (q : ℕ) → x + length bytes ≤ q → get_or (new_file x bytes old) q 0 ≡ get_or old q 0
new_file-after x bytes old q h =
    append-back (exactly x old) (bytes ++ drop (x + length bytes) old) x q (length-exactly x old) (omega arith)
    ∙ (append-back bytes (drop (x + length bytes) old) (length bytes) (q - x) refl (omega arith)
    ∙ (get_or-drop (x + length bytes) old (q - x - length bytes) 0 ∙ ap (λ (n : ℕ). get_or old n 0) (omega arith)))

length-new_file : (x : ℕ) (bytes old : List ℕ) → length (new_file x bytes old) ≡ max (length old) (x + length bytes)
length-new_file x bytes old =
    length-append (exactly x old) (bytes ++ drop (x + length bytes) old)
    ∙ omega (arith, length-exactly x old, length-append bytes (drop (x + length bytes) old), length-drop (x + length bytes) old)

-- ---- a held block holds its part of the content, and zeros behind it

pub held-byte : (N : ℕ) (v : Disk) (bytes : List ℕ) → Whole v → FileSound N v bytes → (p r : ℕ) → p < length (data_of v (inode_of bytes)) → r < block_size
    → get_or (v (get_or (data_of v (inode_of bytes)) p 0)) r 0 ≡ get_or (content_of v (inode_of bytes)) (block_size * p + r) 0
unfolding content_of
held-byte N v bytes whole s p r h k = go (lt-or-le (block_size * p + r) (inode_of bytes).size)
  where
    go : (block_size * p + r < (inode_of bytes).size) ⊎ ((inode_of bytes).size ≤ block_size * p + r)
        → get_or (v (get_or (data_of v (inode_of bytes)) p 0)) r 0 ≡ get_or (take (inode_of bytes).size (concat (map v (data_of v (inode_of bytes))))) (block_size * p + r) 0
    go (inl l) =
        sym (get_or-take (inode_of bytes).size (concat (map v (data_of v (inode_of bytes)))) (block_size * p + r) 0 l ∙ joined-byte v (data_of v (inode_of bytes)) p r whole h k)
    go (inr l) =
        let n = inode_of bytes in
        let d = data-length N v bytes s in
        let e : p ≡ n.size / 512 = omega arith in
        let z : n.size % 512 ≡ 0 → ⊥ = λ y. omega arith in
        let j : r ≡ n.size % 512 + (r - n.size % 512) = omega arith in
        ap (λ m. get_or (v (get_or (data_of v n) m 0)) r 0) e
        ∙ ap (λ m. get_or (v (get_or (data_of v n) (n.size / 512) 0)) m 0) j
        ∙ sym (get_or-drop (n.size % 512) (v (get_or (data_of v n) (n.size / 512) 0)) (r - n.size % 512) 0)
        ∙ zero-byte (drop (n.size % 512) (v (get_or (data_of v n) (n.size / 512) 0))) (r - n.size % 512) (s.tail z)
        ∙ sym (get_or-eq_default (take n.size (concat (map v (data_of v n)))) 0 {n = block_size * p + r} (omega (arith, length-take n.size (concat (map v (data_of v n))))))

-- ---- the blocks then

module _ (held old_size size x : ℕ) (bytes old : List ℕ) (long : length old ≡ old_size) (count : held ≡ quotient_up old_size block_size) (fits : x + length bytes ≤ size)
    (B W : Disk) (whole : Whole B) (wide : Whole W) (bs : List ℕ) (enough : length bs ≡ blocks_for size)
    (was : (p : ℕ) → p < held → p < length bs → (r : ℕ) → r < block_size → get_or (B (get_or bs p 0)) r 0 ≡ get_or old (block_size * p + r) 0)
    (now : (p : ℕ) → (h : p < length bs) → W (get_or bs p 0) ≡ block_then held old_size size x bytes old long count fits p (B (get_or bs p 0)) (whole (get_or bs p 0)) (λ l. was p l h))
  where
    after-length : length (take size (concat (map W bs))) ≡ size
    after-length = length-take size (concat (map W bs)) ∙ omega (arith, length-joined W bs wide, enough)

    after_block : (q : ℕ) → q < size → get_or (take size (concat (map W bs))) q 0 ≡ get_or (W (get_or bs (q / block_size) 0)) (q % block_size) 0
    after_block q h =
        let e : q ≡ 512 * (q / 512) + q % 512 = omega arith in
        get_or-take size (concat (map W bs)) q 0 h
        ∙ ap (λ (m : ℕ). get_or (concat (map W bs)) m 0) e ∙ joined-byte W bs (q / 512) (q % 512) wide (omega (arith, enough)) (omega arith)

    after-in : (q : ℕ) → q < size → x ≤ q → q < x + length bytes → get_or (take size (concat (map W bs))) q 0 ≡ get_or bytes (q - x) 0
    after-in q h lo hi =
        let e : 512 * (q / 512) + q % 512 ≡ q = omega arith in
        let l : q / 512 < length bs = omega (arith, enough) in
        let b = get_or bs (q / 512) 0 in
        after_block q h ∙ ap (λ (t : List ℕ). get_or t (q % 512) 0) (now (q / 512) l)
        ∙ then-in held old_size size x bytes old long count fits (q / 512) (B b) (whole b) (λ m. was (q / 512) m l) (q % 512) (omega arith) (omega arith) (omega arith)
        ∙ ap (λ (m : ℕ). get_or bytes (m - x) 0) e

    after-out : (q : ℕ) → q < size → (q < x) ⊎ (x + length bytes ≤ q) → get_or (take size (concat (map W bs))) q 0 ≡ get_or old q 0
    after-out q h o =
        let e : 512 * (q / 512) + q % 512 ≡ q = omega arith in
        let l : q / 512 < length bs = omega (arith, enough) in
        let b = get_or bs (q / 512) 0 in
        after_block q h ∙ ap (λ (t : List ℕ). get_or t (q % 512) 0) (now (q / 512) l)
        ∙ then-out held old_size size x bytes old long count fits (q / 512) (B b) (whole b) (λ m. was (q / 512) m l) (q % 512) (omega arith) (omega arith) (rw e o)
        ∙ ap (λ (m : ℕ). get_or old m 0) e

    -- write
    pub write-content : size ≡ max old_size (x + length bytes) → take size (concat (map W bs)) ≡ new_file x bytes old
    write-content s =
        ext_get_or 0 (take size (concat (map W bs))) (new_file x bytes old)
        (after-length ∙ s ∙ ap (λ (m : ℕ). max m (x + length bytes)) (sym long) ∙ sym (length-new_file x bytes old))
        (λ q h. go q (rw after-length at h) (lt-or-le q x) (lt-or-le q (x + length bytes)))
      where
        go : (q : ℕ) → q < size → (q < x) ⊎ (x ≤ q) → (q < x + length bytes) ⊎ (x + length bytes ≤ q) → get_or (take size (concat (map W bs))) q 0 ≡ get_or (new_file x bytes old) q 0
        go q h (inl a) b = after-out q h (inl a) ∙ sym (new_file-before x bytes old q a)
        go q h (inr a) (inl b) = after-in q h a b ∙ sym (new_file-in x bytes old q a b)
        go q h (inr a) (inr b) = after-out q h (inr b) ∙ sym (new_file-after x bytes old q b)

    -- set-size
    pub resize-content : x + length bytes ≡ 0 → take size (concat (map W bs)) ≡ exactly size old
    resize-content z =
        ext_get_or 0 (take size (concat (map W bs))) (exactly size old) (after-length ∙ sym (length-exactly size old))
        (λ q h. after-out q (rw after-length at h) (inr (omega arith)) ∙ sym (get_or-exactly size old q (rw after-length at h)))

    -- S8
    pub tail-after : (size % block_size ≡ 0 → ⊥) → all_zero (drop (size % block_size) (W (get_or bs (size / block_size) 0))) ≡ true
    tail-after z =
        let l : size / 512 < length bs = omega (arith, enough) in
        let b = get_or bs (size / 512) 0 in
        byte-zero (drop (size % 512) (W b))
        (λ r h.
        let k : size % 512 + r < 512 = omega (arith, length-drop (size % 512) (W b), wide b) in
        get_or-drop (size % 512) (W b) r 0 ∙ ap (λ (t : List ℕ). get_or t (size % 512 + r) 0) (now (size / 512) l)
        ∙ then-past held old_size size x bytes old long count fits (size / 512) (B b) (whole b) (λ m. was (size / 512) m l) (size % 512 + r) k (omega arith) (omega arith))
