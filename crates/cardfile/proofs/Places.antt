-- A card that stands at a place of a text, for those who call the code; the next line's number is one more. Assumes nothing.
use Prim.Native.Nat.{ℕ, suc, ◌+◌, ◌<◌, ◌≤◌}
use mathlib.Core.Path.{◌≡◌, refl, sym, ap, ◌∙◌}
use mathlib.Core.Bool.{Bool, true, false, cond}
use mathlib.Core.List.{List, [], ◌∷◌, ◌++◌}
use mathlib.Core.Option.{Option as Maybe, none, some}
use Rattle.std.specs.Prelude.{Some, None, Ok, Err}
use mathlib.Core.Logic.{◌⊎◌, inl, inr}
use native.Mathlib.Omega.{arith}
use lib.ListN.{length, take, drop, get_or, length-drop}
use lib.Seq.{take-add}
use lib.Dec.{eqb, ltb, leb}
use borrow.Author.Tests.{eqb-true, eqb-false, ltb-true, ltb-false, leb-false, lt-leb}
use Rattle.spec.specs.Bytes.{occurs}
use Rattle.cardfile.specs.Cards.{Entry, Proper, name_of, line_text, before, entry_of}
use Rattle.cardfile.specs.Lines.{line_of, line_number, Standing, card, too_long, malformed, nothing, formed, standing_in, standing, card_for, line_for, name_told, line_told, line_at}
use Rattle.cardfile.specs.declared.Card.{Card}
use Rattle.cardfile.specs.declared.Line.{Line}
use Rattle.cardfile.specs.declared.LineFault.TheVariants.{TooLong, BadForm}
use Rattle.cardfile.proofs.Laws.{before-hit, before-miss, before-nil, before-is, before-length}
use Rattle.cardfile.proofs.Forms.{take_more}
use Rattle.cardfile.proofs.Spellings.{before-stop, read_is}
use Rattle.cardfile.proofs.Names.{name-told}

tag : Standing → ℕ
tag (card e n) = 0
tag too_long = 1
tag malformed = 1
tag nothing = 1

occurs-append : (x : ℕ) (s t : List ℕ) → occurs x (s ++ t) ≡ occurs x s + occurs x t
occurs-append x [] t = omega arith
occurs-append x (c ∷ s) t = rw (occurs-append x s t) (omega arith)

-- no feed stands in a line
none_before : (x : ℕ) (s : List ℕ) → occurs x (before x s) ≡ 0
none_before x [] = rw (before-nil x)
none_before x (c ∷ s) = go (eqb c x) refl (none_before x s)
  where
    go : (b : Bool) → eqb c x ≡ b → occurs x (before x s) ≡ 0 → occurs x (before x (c ∷ s)) ≡ 0
    go true e ih = rw (before-hit x c s (eqb-true c x e))
    go false e ih = rw (before-miss x c s (eqb-false c x e), e, ih)

one-feed : (t : List ℕ) → length (before 10 t) < length t → occurs 10 (take (length (before 10 t) + 1) t) ≡ 1
one-feed t h =
    ap (occurs 10) (take_more t (length (before 10 t)) h ∙ ap (λ (l : List ℕ). l ++ (get_or t (length (before 10 t)) 0 ∷ [])) (sym (before-is 10 t)) ∙ ap (λ (c : ℕ). before 10 t ++ (c ∷ [])) (before-stop 10 t h))
    ∙ occurs-append 10 (before 10 t) (10 ∷ []) ∙ rw (none_before 10 t)

pub number-next : (text : List ℕ) (at : ℕ) → length (before 10 (drop at text)) < length (drop at text)
    → line_number text (at + length (before 10 (drop at text)) + 1) ≡ suc (line_number text at)
unfolding line_number
number-next text at h =
    let z : at + length (before 10 (drop at text)) + 1 ≡ at + (length (before 10 (drop at text)) + 1) = omega arith in
    rw z
    (ap suc
    (ap (occurs 10) (take-add at (length (before 10 (drop at text)) + 1) text)
    ∙ occurs-append 10 (take at text) (take (length (before 10 (drop at text)) + 1) (drop at text))
    ∙ ap (λ (n : ℕ). occurs 10 (take at text) + n) (one-feed (drop at text) h) ∙ omega arith))

-- ---- what a card that stands at a place says

pub record Stands (text : List ℕ) (at : ℕ) (e : Entry) (next : ℕ) : Type 0 where
  pub proper : Proper e
  pub short : length (before 10 (drop at text)) ≤ 64
  pub ended : length (before 10 (drop at text)) < length (drop at text)
  pub says : entry_of (before 10 (drop at text)) ≡ some e
  pub line : before 10 (drop at text) ≡ line_text e.letter e.serial e.amount
  pub feed : next ≡ at + length (before 10 (drop at text)) + 1
  pub inside : next ≤ length text
  pub number : line_number text next ≡ suc (line_number text at)

module _ (text : List ℕ) (at : ℕ) (e : Entry) (next : ℕ) where
  pub stands : standing text at ≡ card e next → Stands text at e next
  unfolding standing standing_in tag
  stands h =
      go (leb (length text) at) (ltb 64 (length (line_of (drop at text)))) refl (ltb (length (line_of (drop at text))) (length (drop at text))) refl (entry_of (line_of (drop at text))) refl h
    where
      no : {s : Standing} → tag s ≡ 1 → s ≡ card e next → ⊥
      no p q = let z : ◌≡◌ {A = ℕ} 1 0 = sym p ∙ ap tag q in omega arith

      go : (z a : Bool) → ltb 64 (length (line_of (drop at text))) ≡ a → (b : Bool) → ltb (length (line_of (drop at text))) (length (drop at text)) ≡ b
          → (o : Maybe Entry) → entry_of (line_of (drop at text)) ≡ o
          → cond z nothing (cond a too_long (cond b (formed o (at + length (line_of (drop at text)) + 1)) malformed)) ≡ card e next → Stands text at e next
      go true a y b q o s h = absurd (no refl h)
      go false true y b q o s h = absurd (no refl h)
      go false false y false q o s h = absurd (no refl h)
      go false false y true q none s h = absurd (no refl h)
      go false false y true q (some x) s h =
          let c : x ≡ e = cc in
          let m : at + length (line_of (drop at text)) + 1 ≡ next = cc in
          let i = read_is (line_of (drop at text)) e (s ∙ ap some c) in
          let k : length (before 10 (drop at text)) < length (drop at text) = ltb-true (length (line_of (drop at text))) (length (drop at text)) q in
          let d = length-drop at text in
          record {
            proper = i.proper;
            short = ltb-false 64 (length (line_of (drop at text))) y;
            ended = k;
            says = s ∙ ap some c;
            line = i.text;
            feed = sym m;
            inside = omega (arith, m, k, d);
            number = ap (line_number text) (sym m) ∙ number-next text at k;
          }

-- ---- what is said of a line that is refused

-- 20
pub record TooLongAt (text : List ℕ) (at : ℕ) : Type 0 where
  pub over : 64 < length (before 10 (drop at text))
  pub fed : (length (before 10 (drop at text)) < length (drop at text)) ⊎ (length (before 10 (drop at text)) ≡ length (drop at text))

-- 21: not of the form, or without its feed
pub record MalformedAt (text : List ℕ) (at : ℕ) : Type 0 where
  pub some_left : at < length text
  pub short : length (before 10 (drop at text)) ≤ 64
  pub why : ((length (before 10 (drop at text)) < length (drop at text)) × (entry_of (before 10 (drop at text)) ≡ none))
      ⊎ (length (before 10 (drop at text)) ≡ length (drop at text))

module _ (text : List ℕ) (at : ℕ) where
  kind : Standing → ℕ
  kind (card e n) = 0
  kind too_long = 1
  kind malformed = 2
  kind nothing = 3

  no_kind : {s t : Standing} {A : Type 0} (m n : ℕ) → kind s ≡ m → kind t ≡ n → (m ≡ n → ⊥) → s ≡ t → A
  no_kind m n p q f e = absurd (f (sym p ∙ ap kind e ∙ q))

  abbrev line-here : List ℕ
  line-here = line_of (drop at text)

  whole : ltb (length line-here) (length (drop at text)) ≡ false → length (before 10 (drop at text)) ≡ length (drop at text)
  whole q = omega (arith, ltb-false (length line-here) (length (drop at text)) q, before-length 10 (drop at text))

  pub too-long-at : standing text at ≡ too_long → TooLongAt text at
  unfolding standing standing_in kind
  too-long-at h =
      go (leb (length text) at) (ltb 64 (length line-here)) refl (ltb (length line-here) (length (drop at text))) refl (entry_of line-here) h
    where
      go : (z a : Bool) → ltb 64 (length line-here) ≡ a → (b : Bool) → ltb (length line-here) (length (drop at text)) ≡ b → (o : Maybe Entry)
          → cond z nothing (cond a too_long (cond b (formed o (at + length line-here + 1)) malformed)) ≡ too_long → TooLongAt text at
      go true a y b q o h = no_kind 3 1 refl refl (λ q. omega arith) h
      go false true y true q o h = record { over = ltb-true 64 (length line-here) y; fed = inl (ltb-true (length line-here) (length (drop at text)) q) }
      go false true y false q o h = record { over = ltb-true 64 (length line-here) y; fed = inr (whole q) }
      go false false y true q none h = no_kind 2 1 refl refl (λ q. omega arith) h
      go false false y true q (some e) h = no_kind 0 1 refl refl (λ q. omega arith) h
      go false false y false q o h = no_kind 2 1 refl refl (λ q. omega arith) h

  pub malformed-at : standing text at ≡ malformed → MalformedAt text at
  unfolding standing standing_in kind
  malformed-at h =
      go (leb (length text) at) refl (ltb 64 (length line-here)) refl (ltb (length line-here) (length (drop at text))) refl (entry_of line-here) refl h
    where
      go : (z : Bool) → leb (length text) at ≡ z → (a : Bool) → ltb 64 (length line-here) ≡ a → (b : Bool) → ltb (length line-here) (length (drop at text)) ≡ b
          → (o : Maybe Entry) → entry_of line-here ≡ o
          → cond z nothing (cond a too_long (cond b (formed o (at + length line-here + 1)) malformed)) ≡ malformed → MalformedAt text at
      go true x a y b q o s h = no_kind 3 2 refl refl (λ q. omega arith) h
      go false x true y b q o s h = no_kind 1 2 refl refl (λ q. omega arith) h
      go false x false y true q none s h =
          record { some_left = leb-false (length text) at x; short = ltb-false 64 (length line-here) y; why = inl (ltb-true (length line-here) (length (drop at text)) q, s) }
      go false x false y true q (some e) s h = no_kind 0 2 refl refl (λ q. omega arith) h
      go false x false y false q o s h =
          record { some_left = leb-false (length text) at x; short = ltb-false 64 (length line-here) y; why = inr (whole q) }

  pub nothing-at : at < length text → standing text at ≡ nothing → ⊥
  unfolding standing standing_in kind
  nothing-at l h = go (ltb 64 (length line-here)) (ltb (length line-here) (length (drop at text))) (entry_of line-here) (rw (lt-leb (length text) at l) at h)
    where
      go : (a b : Bool) (o : Maybe Entry) → cond a too_long (cond b (formed o (at + length line-here + 1)) malformed) ≡ nothing → ⊥
      go true b o h = no_kind 1 3 refl refl (λ q. omega arith) h
      go false true none h = no_kind 2 3 refl refl (λ q. omega arith) h
      go false true (some e) h = no_kind 0 3 refl refl (λ q. omega arith) h
      go false false o h = no_kind 2 3 refl refl (λ q. omega arith) h

-- ---- what the code's answer says of what stands there

long-told : (s : Standing) → line_told s ≡ Err TooLong → s ≡ too_long
long-told (card e n) h = cc
long-told too_long h = refl
long-told malformed h = cc
long-told nothing h = cc

bad-told : (s : Standing) → line_told s ≡ Err BadForm → s ≡ malformed
bad-told (card e n) h = cc
bad-told too_long h = cc
bad-told malformed h = refl
bad-told nothing h = cc

none_told : (s : Standing) → line_told s ≡ Ok None → s ≡ nothing
none_told (card e n) h = cc
none_told too_long h = cc
none_told malformed h = cc
none_told nothing h = refl

-- a card that was found is that of an entry; the code makes its name and its bytes
pub record FoundAt (text : List ℕ) (at : ℕ) (c : Card) (next : ℕ) : Type 0 where
  pub entry : Entry
  pub is : standing text at ≡ card entry next
  pub says : c ≡ card_for entry
  pub name : name_told c.serial.bytes c.serial.number ≡ name_of entry.serial
  pub amount : c.amount ≡ entry.amount

module _ (text : List ℕ) (at : ℕ) where
  pub long-at : line_at text at ≡ Err TooLong → standing text at ≡ too_long
  long-at h = long-told (standing text at) h

  pub bad-at : line_at text at ≡ Err BadForm → standing text at ≡ malformed
  bad-at h = bad-told (standing text at) h

  pub none-at : line_at text at ≡ Ok None → standing text at ≡ nothing
  none-at h = none_told (standing text at) h

  pub found_at : (x : Line) → line_at text at ≡ Ok (Some x) → FoundAt text at x.card x.next
  unfolding card_for
  found_at x h = go (standing text at) refl h
    where
      go : (s : Standing) → standing text at ≡ s → line_told s ≡ Ok (Some x) → FoundAt text at x.card x.next
      go (card e n) q h =
          let l : line_for e n ≡ x = cc in
          let m : n ≡ x.next = ap (λ (y : Line). y.next) l in
          let c : card_for e ≡ x.card = ap (λ (y : Line). y.card) l in
          let p = (stands text at e n q).proper in
          record {
            entry = e;
            is = q ∙ ap (card e) m;
            says = sym c;
            name = ap (λ (d : Card). name_told d.serial.bytes d.serial.number) (sym c) ∙ name-told e p;
            amount = ap (λ (d : Card). d.amount) (sym c);
          }
      go too_long q h = cc
      go malformed q h = cc
      go nothing q h = cc
