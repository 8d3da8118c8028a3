-- The cases of a serial, an amount, a line and a place of a text. Assumes nothing.
use Prim.Native.Nat.{ℕ, zero, suc, ◌+◌, ◌*◌, ◌-◌, ◌/◌, ◌%◌, ◌<◌, ◌≤◌, ◌^◌, min}
use mathlib.Core.Path.{◌≡◌, refl, sym, ap, ◌∙◌}
use mathlib.Core.Bool.{Bool, true, false, cond, not, ◌&&◌, ◌||◌}
use mathlib.Core.List.{List, [], ◌∷◌, ◌++◌}
use mathlib.Core.Option.{Option as Maybe, none, some, some-ne-none}
use Rattle.std.specs.Prelude.{Option, Some, None, Result, Ok, Err, ◌==◌, count_by}
use Rattle.std.specs.Int.{to_le_bytes, w64}
use Rattle.std.proofs.lemmas.List.{drop-drop, take_min}
use Rattle.std.proofs.lemmas.List.Recursion.{is_count_by}
use native.Mathlib.Omega.{arith}
use native.Mathlib.Nat.{pow-succ', pow-le-pow_right, mod-eq_of_lt}
use lib.ListN.{length, take, drop, get_or, get_or-eq_default, length-drop}
use lib.Seq.{take_all}
use lib.Dec.{eqb, leb}
use borrow.Author.Tests.{eqb-true, eqb-false, eq-eqb, ne_eqb, lt-ltb, le-ltb, lt-leb, le-leb, leb-true}
use Rattle.spec.specs.Bytes.{occurs, exactly}
use Rattle.spec.specs.Listing.{decimal}
use Rattle.cardfile.specs.Cards.{bytes_of, name_of, amount_bytes, read_hex, read_decimal, within, serial_h, serial_d, serial_of, amount_of, Entry, entry, before, split, entry_of}
use Rattle.cardfile.specs.Lines.{number_told, serial_told, form_told, formed, letter_of, spelling_of, digits_of, width_of, spelling_for, serial_for, standing_in, standing, line_told, line_in, line_at, card_for, line_of, line_number, name_told}
use Rattle.cardfile.specs.declared.Spelling.{Spelling}
use Rattle.cardfile.specs.declared.Spelling.TheVariants.{Hexadecimal, Decimal}
use Rattle.cardfile.specs.declared.Serial.{Serial}
use Rattle.cardfile.specs.declared.Card.{Card}
use Rattle.cardfile.specs.declared.Line.{Line}
use Rattle.cardfile.specs.declared.LineFault.{LineFault}
use Rattle.cardfile.specs.declared.LineFault.TheVariants.{TooLong, BadForm}
use Rattle.cardfile.proofs.Laws.{before-is, before-length, length-bytes}
use Rattle.cardfile.proofs.Digits.{digits-back}

-- ---- a serial by its length and its spelling

module _ (s : Spelling) (n : ℕ) where
  pub width-short : n ≡ digits_of s 4 → Some 4 ≡ width_of s n
  unfolding width_of
  width-short h = rw (eq-eqb n (digits_of s 4) h)

  pub width-rest : (n ≡ digits_of s 4 → ⊥) → (r : Option ℕ) → r ≡ cond (eqb n (digits_of s 7)) (Some 7) None → r ≡ width_of s n
  unfolding width_of
  width-rest h r e = e ∙ sym (rw (ne_eqb n (digits_of s 4) h))

module _ (t : List ℕ) (w : ℕ) where
  pub h-room : Some w ≡ width_of Hexadecimal (length t) → (length t ≡ 2 * w) × (w ≤ 7)
  unfolding width_of
  h-room e = go (eqb (length t) 8) refl (eqb (length t) 14) refl e
    where
      go : (a : Bool) → eqb (length t) 8 ≡ a → (b : Bool) → eqb (length t) 14 ≡ b → Some w ≡ cond a (Some 4) (cond b (Some 7) None) → (length t ≡ 2 * w) × (w ≤ 7)
      go true p b q e = let z : w ≡ 4 = cc in (omega (arith, z, eqb-true (length t) 8 p), omega (arith, z))
      go false p true q e = let z : w ≡ 7 = cc in (omega (arith, z, eqb-true (length t) 14 q), omega (arith, z))
      go false p false q e = cc

  pub d-room : Some w ≡ width_of Decimal (length t) → (length t ≤ 17) × (w ≤ 7)
  unfolding width_of
  d-room e = go (eqb (length t) 10) refl (eqb (length t) 17) refl e
    where
      go : (a : Bool) → eqb (length t) 10 ≡ a → (b : Bool) → eqb (length t) 17 ≡ b → Some w ≡ cond a (Some 4) (cond b (Some 7) None) → (length t ≤ 17) × (w ≤ 7)
      go true p b q e = let z : w ≡ 4 = cc in (omega (arith, eqb-true (length t) 10 p), omega (arith, z))
      go false p true q e = let z : w ≡ 7 = cc in (omega (arith, eqb-true (length t) 17 q), omega (arith, z))
      go false p false q e = cc

  pub h-good : Some w ≡ width_of Hexadecimal (length t) → (r : Option Serial) → r ≡ serial_told (read_hex t) → r ≡ serial_told (serial_of 72 t)
  unfolding width_of serial_of serial_h
  h-good e r h = go (eqb (length t) 8) (eqb (length t) 14) e
    where
      go : (a b : Bool) → Some w ≡ cond a (Some 4) (cond b (Some 7) None) → r ≡ serial_told (cond (a || b) (read_hex t) none)
      go true b e = h
      go false true e = h
      go false false e = cc

  pub d-good : Some w ≡ width_of Decimal (length t) → (r : Option Serial) → r ≡ serial_told (within w (read_decimal 0 t)) → r ≡ serial_told (serial_of 68 t)
  unfolding width_of serial_of serial_d
  d-good e r h = go (eqb (length t) 10) (eqb (length t) 17) e
    where
      go : (a b : Bool) → Some w ≡ cond a (Some 4) (cond b (Some 7) None)
          → r ≡ serial_told (cond a (within 4 (read_decimal 0 t)) (cond b (within 7 (read_decimal 0 t)) none))
      go true b e = let z : w ≡ 4 = cc in rw z at h
      go false true e = let z : w ≡ 7 = cc in rw z at h
      go false false e = cc

module _ (t : List ℕ) where
  pub width-none : (s : Spelling) → None ≡ width_of s (length t) → None ≡ serial_told (serial_of (letter_of s) t)
  unfolding width_of serial_of serial_h serial_d
  width-none Hexadecimal e = go (eqb (length t) 8) (eqb (length t) 14) e
    where
      go : (a b : Bool) → ◌≡◌ {A = Option ℕ} None (cond a (Some 4) (cond b (Some 7) None)) → None ≡ serial_told (cond (a || b) (read_hex t) none)
      go true b e = cc
      go false true e = cc
      go false false e = refl
  width-none Decimal e = go (eqb (length t) 10) (eqb (length t) 17) e
    where
      go : (a b : Bool) → ◌≡◌ {A = Option ℕ} None (cond a (Some 4) (cond b (Some 7) None))
          → None ≡ serial_told (cond a (within 4 (read_decimal 0 t)) (cond b (within 7 (read_decimal 0 t)) none))
      go true b e = cc
      go false true e = cc
      go false false e = refl

  pub of_other : (c : ℕ) → None ≡ spelling_of c → serial_of c t ≡ none
  unfolding serial_of
  of_other c e = go (eqb c 72) (eqb c 68) e
    where
      go : (a b : Bool) → None ≡ cond a (Some Hexadecimal) (cond b (Some Decimal) None) → cond a (serial_h t) (cond b (serial_d t) none) ≡ none
      go true b e = cc
      go false true e = cc
      go false false e = refl

-- the letter and the spelling of a line
pub record Lettered (c : ℕ) (s : Spelling) : Type 0 where
  pub letter : c ≡ letter_of s
  pub spelling : s ≡ spelling_for c

pub lettered : (c : ℕ) (s : Spelling) → Some s ≡ spelling_of c → Lettered c s
lettered c s e = go (eqb c 72) refl (eqb c 68) refl e
  where
    go : (a : Bool) → eqb c 72 ≡ a → (b : Bool) → eqb c 68 ≡ b → Some s ≡ cond a (Some Hexadecimal) (cond b (Some Decimal) None) → Lettered c s
    go true p b q e = let z : s ≡ Hexadecimal = cc in rw z (record { letter = eqb-true c 72 p; spelling = rw p })
    go false p true q e = let z : s ≡ Decimal = cc in rw z (record { letter = eqb-true c 68 q; spelling = rw p })
    go false p false q e = cc

-- ---- an amount

module _ (t : List ℕ) where
  pub cents-none : length t ≡ 0 → None ≡ number_told (amount_of t)
  unfolding amount_of
  cents-none h = rw (lt-leb 1 (length t) (omega arith))

  pub cents-many : 8 < length t → None ≡ number_told (amount_of t)
  unfolding amount_of
  cents-many h = rw (lt-leb (length t) 8 h) (go (leb 1 (length t)))
    where
      go : (a : Bool) → None ≡ number_told (cond (a && false) (read_decimal 0 t) none)
      go true = refl
      go false = refl

  pub cents-idle : 2 ≤ length t → get_or t 0 0 ≡ 48 → None ≡ number_told (amount_of t)
  unfolding amount_of
  cents-idle k z = rw (le-leb 1 (length t) (omega arith), ne_eqb (length t) 1 (λ e. omega arith), eq-eqb (get_or t 0 0) 48 z) (go (leb (length t) 8))
    where
      go : (a : Bool) → None ≡ number_told (cond (a && false) (read_decimal 0 t) none)
      go true = refl
      go false = refl

  pub cents-good : (r : Option ℕ) → (length t ≡ 0 → ⊥) → length t ≤ 8 → (2 ≤ length t → get_or t 0 0 ≡ 48 → ⊥) → r ≡ number_told (read_decimal 0 t) → r ≡ number_told (amount_of t)
  unfolding amount_of
  cents-good r k l z e = rw (le-leb 1 (length t) (omega arith), le-leb (length t) 8 l) (go (eqb (length t) 1) refl (eqb (get_or t 0 0) 48) refl)
    where
      go : (a : Bool) → eqb (length t) 1 ≡ a → (b : Bool) → eqb (get_or t 0 0) 48 ≡ b → r ≡ number_told (cond (a || not b) (read_decimal 0 t) none)
      go true p b q = e
      go false p false q = e
      go false p true q = absurd (z (omega (arith, k, eqb-false (length t) 1 p)) (eqb-true (get_or t 0 0) 48 q))

-- what the tests of an amount say of its digits
pub record Cents (t : List ℕ) (n : ℕ) : Type 0 where
  pub some-digit : 1 ≤ length t
  pub few-digits : length t ≤ 8
  pub not-idle : get_or t 0 0 ≡ 48 → length t ≡ 1
  pub number : read_decimal 0 t ≡ some n

pub cents-of : (t : List ℕ) (n : ℕ) → amount_of t ≡ some n → Cents t n
unfolding amount_of
cents-of t n h = go (leb 1 (length t)) refl (leb (length t) 8) refl (eqb (length t) 1) refl (eqb (get_or t 0 0) 48) refl h
  where
    go : (a : Bool) → leb 1 (length t) ≡ a → (b : Bool) → leb (length t) 8 ≡ b → (c : Bool) → eqb (length t) 1 ≡ c → (d : Bool) → eqb (get_or t 0 0) 48 ≡ d
        → cond (a && (b && (c || not d))) (read_decimal 0 t) none ≡ some n → Cents t n
    go false e b f c g d i h = absurd (some-ne-none n (sym h))
    go true e false f c g d i h = absurd (some-ne-none n (sym h))
    go true e true f false g true i h = absurd (some-ne-none n (sym h))
    go true e true f true g d i h =
        record { some-digit = leb-true 1 (length t) e; few-digits = leb-true (length t) 8 f; not-idle = λ _. eqb-true (length t) 1 g; number = h }
    go true e true f false g false i h =
        record {
          some-digit = leb-true 1 (length t) e;
          few-digits = leb-true (length t) 8 f;
          not-idle = λ z. absurd (eqb-false (get_or t 0 0) 48 i z);
          number = h;
        }

-- the digits of an amount are those that the listing would print
pub cents-text : (t : List ℕ) (n : ℕ) → amount_of t ≡ some n → decimal n ≡ t
cents-text t n h = go t (cents-of t n h)
  where
    go : (t : List ℕ) → Cents t n → decimal n ≡ t
    go [] c = absurd (omega (arith, c.some-digit))
    go (x ∷ t) c =
        let y : suc (19 - length t) + length t ≡ 20 = omega (arith, c.few-digits) in
        rw y at (digits-back x t n (19 - length t) c.number (λ q. none-behind t (c.not-idle q)))
      where
        none-behind : (t : List ℕ) → length (x ∷ t) ≡ 1 → t ≡ []
        none-behind [] h = refl
        none-behind (y ∷ t) h = absurd (omega arith)

-- ---- a line

module _ (l : List ℕ) (k : ℕ) (q : k ≡ length (before 59 l)) where
  no-split : get_or l (k + 2) 0 ≡ 0 → split k l ≡ none
  unfolding split
  no-split h = rw h

  pub form-short : length l ≤ k + 2 → None ≡ form_told (entry_of l)
  unfolding entry_of
  form-short h = ap form_told (sym (ap (λ (j : ℕ). split j l) (sym q) ∙ no-split (get_or-eq_default l 0 h)))

  pub form-open : (get_or l (k + 2) 0 ≡ 59 → ⊥) → None ≡ form_told (entry_of l)
  unfolding entry_of split
  form-open h = rw (← q, ne_eqb (get_or l (k + 2) 0) 59 h)

  module _ (s : get_or l (k + 2) 0 ≡ 59) where
    parted : entry_of l ≡ entry (get_or l (k + 1) 0) (serial_of (get_or l (k + 1) 0) (take k l)) (amount_of (drop (k + 3) l))
    unfolding entry_of split
    parted = rw (← q, eq-eqb (get_or l (k + 2) 0) 59 s)

    no-serial : serial_of (get_or l (k + 1) 0) (take k l) ≡ none → None ≡ form_told (entry_of l)
    no-serial h = ap form_told (sym (parted ∙ ap (λ (o : Maybe (List ℕ)). entry (get_or l (k + 1) 0) o (amount_of (drop (k + 3) l))) h))

    pub form-letter : None ≡ spelling_of (get_or l (k + 1) 0) → None ≡ form_told (entry_of l)
    form-letter h = no-serial (of_other (take k l) (get_or l (k + 1) 0) h)

    module _ (c : Spelling) (e : Some c ≡ spelling_of (get_or l (k + 1) 0)) where
      here : (o : Option Serial) → o ≡ serial_told (serial_of (letter_of c) (take k l)) → o ≡ serial_told (serial_of (get_or l (k + 1) 0) (take k l))
      here o h = h ∙ ap (λ (x : ℕ). serial_told (serial_of x (take k l))) (sym (lettered (get_or l (k + 1) 0) c e).letter)

      pub form-serial : None ≡ serial_told (serial_of (letter_of c) (take k l)) → None ≡ form_told (entry_of l)
      form-serial h = no-serial (go (serial_of (get_or l (k + 1) 0) (take k l)) (here None h))
        where
          go : (o : Maybe (List ℕ)) → None ≡ serial_told o → o ≡ none
          go none h = refl
          go (some x) h = cc

      pub form-cents : (t : List ℕ) → None ≡ number_told (amount_of t) → t ≡ drop (k + 3) l → None ≡ form_told (entry_of l)
      form-cents t g u = go (serial_of (get_or l (k + 1) 0) (take k l)) (amount_of (drop (k + 3) l)) (rw u at g) ∙ ap form_told (sym parted)
        where
          go : (o : Maybe (List ℕ)) (a : Maybe ℕ) → None ≡ number_told a → None ≡ form_told (entry (get_or l (k + 1) 0) o a)
          go none a g = refl
          go (some x) none g = refl
          go (some x) (some n) g = cc

      formed-of : (r : Serial) → Some r ≡ serial_told (serial_of (letter_of c) (take k l)) → (n d : ℕ) → Some n ≡ number_told (amount_of (drop (k + 3) l)) → d ≡ length (drop (k + 3) l)
          → Some (record { serial = r; spelling = c; amount = n; digits = d }) ≡ form_told (entry_of l)
      unfolding card_for
      formed-of r h n d g p =
          go (serial_of (get_or l (k + 1) 0) (take k l)) (amount_of (drop (k + 3) l)) refl (here (Some r) h) g ∙ ap form_told (sym parted)
        where
          go : (o : Maybe (List ℕ)) (a : Maybe ℕ) → amount_of (drop (k + 3) l) ≡ a → Some r ≡ serial_told o → Some n ≡ number_told a
              → Some (record { serial = r; spelling = c; amount = n; digits = d }) ≡ form_told (entry (get_or l (k + 1) 0) o a)
          go none a e h g = cc
          go (some x) none e h g = cc
          go (some x) (some y) u h g =
              let v : r ≡ serial_for x = cc in
              let z : n ≡ y = cc in
              let i : d ≡ length (decimal y) = p ∙ ap length (sym (cents-text (drop (k + 3) l) y u)) in
              let b = (lettered (get_or l (k + 1) 0) c e).spelling in
              rw (v, b, z, i)

      pub form-good : (r : Serial) → Some r ≡ serial_told (serial_of (letter_of c) (take k l)) → (n : ℕ) (t : List ℕ) → Some n ≡ number_told (amount_of t) → t ≡ drop (k + 3) l
          → Some (record { serial = r; spelling = c; amount = n; digits = length t }) ≡ form_told (entry_of l)
      form-good r h n t g u = formed-of r h n (length t) (rw u at g) (ap length u)

-- the parts of a line, as the code lends them
head-is : (l : List ℕ) (k : ℕ) → take (k - 0) l ≡ take k l
head-is l k = let z : k - 0 ≡ k = omega arith in rw z

pub tail-is : (l : List ℕ) (k : ℕ) → take (length l - k) (drop k l) ≡ drop k l
tail-is l k = take_all (length l - k) (drop k l) (let z = length-drop k l in omega arith)

-- the amount's digits, behind the letter between its semicolons
pub cents-in : (l rest : List ℕ) (k : ℕ) → rest ≡ drop k l → take (length rest - 3) (drop 3 rest) ≡ drop (k + 3) l
cents-in l rest k e = tail-is rest 3 ∙ ap (drop 3) e ∙ drop-drop 3 k l

-- ---- a place of a text

module _ (rest : List ℕ) (at n : ℕ) (q : n ≡ min 65 (length (line_of rest))) where
  pub in-bound : n ≤ length rest
  in-bound = omega (arith, q, before-length 10 rest)

  pub in-long : 64 < n → Err TooLong ≡ line_in rest at
  unfolding standing_in
  in-long k = sym (rw (lt-ltb 64 (length (line_of rest)) (omega (arith, q))))

  module _ (k : n ≤ 64) where
    whole : n ≡ length (line_of rest)
    whole = omega (arith, q)

    pub in-open : n ≡ length rest → Err BadForm ≡ line_in rest at
    unfolding standing_in
    in-open e = sym (rw (le-ltb 64 (length (line_of rest)) (omega (arith, whole)), le-ltb (length (line_of rest)) (length rest) (omega (arith, whole))))

    module _ (e : n ≡ length rest → ⊥) where
      pub in-room : n < length rest
      in-room = go (eqb n (length rest)) refl
        where
          go : (t : Bool) → eqb n (length rest) ≡ t → n < length rest
          go true h = absurd (e (eqb-true n (length rest) h))
          go false h = omega (arith, whole, before-length 10 rest, eqb-false n (length rest) h)

      closed : line_in rest at ≡ line_told (formed (entry_of (line_of rest)) (at + length (line_of rest) + 1))
      unfolding standing_in
      closed = rw (le-ltb 64 (length (line_of rest)) (omega (arith, whole)), lt-ltb (length (line_of rest)) (length rest) (omega (arith, whole, in-room)))

      same_line : take (n - 0) rest ≡ line_of rest
      same_line = head-is rest n ∙ ap (λ (j : ℕ). take j rest) whole ∙ sym (before-is 10 rest)

      pub in-good : (x : Card) → Some x ≡ form_told (entry_of (take (n - 0) rest)) → Ok (Some (record { card = x; next = at + n + 1 })) ≡ line_in rest at
      in-good x g = go (entry_of (line_of rest)) (g ∙ ap (λ (l : List ℕ). form_told (entry_of l)) same_line) ∙ sym closed
        where
          go : (o : Maybe Entry) → Some x ≡ form_told o → Ok (Some (record { card = x; next = at + n + 1 })) ≡ line_told (formed o (at + length (line_of rest) + 1))
          go none g = cc
          go (some y) g = let z : x ≡ card_for y = cc in rw (z, whole)

      pub in-bad : None ≡ form_told (entry_of (take (n - 0) rest)) → Err BadForm ≡ line_in rest at
      in-bad g = go (entry_of (line_of rest)) (g ∙ ap (λ (l : List ℕ). form_told (entry_of l)) same_line) ∙ sym closed
        where
          go : (o : Maybe Entry) → None ≡ form_told o → Err BadForm ≡ line_told (formed o (at + length (line_of rest) + 1))
          go none g = refl
          go (some y) g = cc

module _ (text : List ℕ) (at : ℕ) where
  pub at-end : length text ≤ at → Ok None ≡ line_at text at
  unfolding standing
  at-end h = rw (le-leb (length text) at h)

  pub at-inside : at < length text → (r : Result (Option Line) LineFault) → r ≡ line_in (take (length text - at) (drop at text)) at → r ≡ line_at text at
  unfolding standing
  at-inside h r e = e ∙ ap (λ (l : List ℕ). line_in l at) (tail-is text at) ∙ sym (rw (lt-leb (length text) at h))

-- ---- the number of a line

pub take_more : (xs : List ℕ) (k : ℕ) → k < length xs → take (k + 1) xs ≡ take k xs ++ (get_or xs k 0 ∷ [])
take_more [] k h = absurd (omega arith)
take_more (x ∷ xs) zero h = refl
take_more (x ∷ xs) (suc k) h =
    let z : suc k + 1 ≡ suc (k + 1) = omega arith in
    rw z (ap (λ (l : List ℕ). x ∷ l) (take_more xs k (omega arith)))

-- the feeds of some bytes, as they are counted
pub feeds-are : (xs : List ℕ) → occurs 10 xs ≡ count_by (λ c. c == 10) xs
feeds-are xs = is_count_by (occurs 10) (λ c. c == 10) refl step xs
  where
    step : (c : ℕ) (t : List ℕ) → occurs 10 (c ∷ t) ≡ cond (c == 10) (1 + occurs 10 t) (occurs 10 t)
    step c t = go (eqb c 10) refl
      where
        go : (b : Bool) → eqb c 10 ≡ b → cond (eqb c 10) 1 0 + occurs 10 t ≡ cond (eqb c 10) (1 + occurs 10 t) (occurs 10 t)
        go true e = rw e
        go false e = rw e (omega arith)

pub number-is : (text : List ℕ) (at n : ℕ) → n ≡ count_by (λ c. c == 10) (take (min at (length text)) text) → 1 + n ≡ line_number text at
unfolding line_number
number-is text at n e = omega (arith, e, feeds-are (take at text), ap (count_by (λ c. c == 10)) (take_min at text))

-- ---- names

pub le_bytes-are : (n : ℕ) → bytes_of 8 n ≡ to_le_bytes w64 n
unfolding bytes_of
le_bytes-are n =
    let a : n / 256 / 256 ≡ n / 65536 = omega arith in
    let b : n / 65536 / 256 ≡ n / 16777216 = omega arith in
    let c : n / 16777216 / 256 ≡ n / 4294967296 = omega arith in
    let d : n / 4294967296 / 256 ≡ n / 1099511627776 = omega arith in
    let e : n / 1099511627776 / 256 ≡ n / 281474976710656 = omega arith in
    let f : n / 281474976710656 / 256 ≡ n / 72057594037927936 = omega arith in
    simp (a, b, c, d, e, f)

bytes-zero : (k : ℕ) → bytes_of k 0 ≡ exactly k []
unfolding bytes_of
bytes-zero zero = refl
bytes-zero (suc k) = ap (λ (l : List ℕ). 0 ∷ l) (bytes-zero k)

-- the low w bytes of a number that they hold, with zeros behind
wider : (k w n : ℕ) → w ≤ k → n < 256 ^ w → bytes_of k n ≡ exactly k (bytes_of w n)
unfolding bytes_of
wider k zero n h l = let z : n ≡ 0 = omega arith in rw z (bytes-zero k)
wider zero (suc w) n h l = absurd (omega arith)
wider (suc k) (suc w) n h l =
    let e = pow-succ' 256 w in
    let q : n / 256 < 256 ^ w = omega arith in
    ap (λ (m : List ℕ). n % 256 ∷ m) (wider k w (n / 256) (omega arith) q)

pub name-is : (w n : ℕ) → w ≤ 7 → n < 256 ^ w → name_told w n ≡ name_of (bytes_of w n)
unfolding bytes_of name_of name_told
name-is w n h l =
    let z = name-room w n h l in
    let x : w % 256 ≡ w = mod-eq_of_lt (omega arith) in
    let y : n % 72057594037927936 ≡ n = mod-eq_of_lt z in
    let a : (w + 256 * n) % 256 ≡ w = omega arith in
    let b : (w + 256 * n) / 256 ≡ n = omega arith in
    rw (x, y, a, b, length-bytes w n) (ap (λ (m : List ℕ). w ∷ m) (wider 7 w n h l))
  where
    name-room : (w n : ℕ) → w ≤ 7 → n < 256 ^ w → n < 72057594037927936
    name-room w n h l =
        let z : 0 < 256 = omega arith in
        let u : 256 ^ w ≤ 72057594037927936 = pow-le-pow_right z {i = w} {j = 7} h in
        omega arith

-- the eight bytes of a name: that of the serial's length, and the seven lowest of its number
pub name-as : (w n : ℕ) → name_told w n
    ≡ w % 256 ∷ get_or (to_le_bytes w64 n) 0 0 ∷ get_or (to_le_bytes w64 n) 1 0 ∷ get_or (to_le_bytes w64 n) 2 0 ∷ get_or (to_le_bytes w64 n) 3 0
    ∷ get_or (to_le_bytes w64 n) 4 0 ∷ get_or (to_le_bytes w64 n) 5 0 ∷ get_or (to_le_bytes w64 n) 6 0 ∷ []
unfolding name_told bytes_of
name-as w n =
    let z : (w % 256 + 256 * (n % 72057594037927936)) / 256 ≡ n % 72057594037927936 = omega arith in
    let y : (w % 256 + 256 * (n % 72057594037927936)) % 256 ≡ w % 256 = omega arith in
    let a : n % 72057594037927936 / 256 / 256 ≡ n % 72057594037927936 / 65536 = omega arith in
    let b : n % 72057594037927936 / 65536 / 256 ≡ n % 72057594037927936 / 16777216 = omega arith in
    let c : n % 72057594037927936 / 16777216 / 256 ≡ n % 72057594037927936 / 4294967296 = omega arith in
    let d : n % 72057594037927936 / 4294967296 / 256 ≡ n % 72057594037927936 / 1099511627776 = omega arith in
    let e : n % 72057594037927936 / 1099511627776 / 256 ≡ n % 72057594037927936 / 281474976710656 = omega arith in
    let p0 : n % 72057594037927936 % 256 ≡ n % 256 = omega arith in
    let p1 : n % 72057594037927936 / 256 % 256 ≡ n / 256 % 256 = omega arith in
    let p2 : n % 72057594037927936 / 65536 % 256 ≡ n / 65536 % 256 = omega arith in
    let p3 : n % 72057594037927936 / 16777216 % 256 ≡ n / 16777216 % 256 = omega arith in
    let p4 : n % 72057594037927936 / 4294967296 % 256 ≡ n / 4294967296 % 256 = omega arith in
    let p5 : n % 72057594037927936 / 1099511627776 % 256 ≡ n / 1099511627776 % 256 = omega arith in
    let p6 : n % 72057594037927936 / 281474976710656 % 256 ≡ n / 281474976710656 % 256 = omega arith in
    simp (z, y, a, b, c, d, e, p0, p1, p2, p3, p4, p5, p6)

pub amount-is : (n : ℕ) → amount_bytes n ≡ to_le_bytes w64 n
unfolding amount_bytes
amount-is n = le_bytes-are n

-- what the answers of name_of and amount_bytes need
pub ruleset bytes_rules = (name-as, amount-is)

-- what the answers of line_in need
pub ruleset line_rules = (in-bound, in-long, in-open, in-room, in-good, in-bad)

-- what the answers of Spelling's bytes need
pub ruleset width_rules = (width-short, width-rest)

-- what the answers of amount_of need
pub ruleset cents_rules = (cents-none, cents-many, cents-idle, cents-good)

-- what the answers of line_at need
pub ruleset place_rules = (at-end, at-inside)

-- what the answers of form_of need
pub ruleset form_rules = (form-short, form-open, form-letter, form-serial)
