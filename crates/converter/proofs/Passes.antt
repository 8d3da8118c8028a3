-- The first pass over a file's lines. Assumes nothing.
use Prim.Native.Nat.{ℕ, suc, ◌+◌, ◌*◌, ◌<◌, ◌≤◌, ◌^◌}
use mathlib.Core.Path.{◌≡◌, refl, sym, ap, ◌∙◌}
use mathlib.Core.Bool.{Bool, true, false, cond}
use mathlib.Core.List.{List, [], ◌∷◌, ◌++◌}
use mathlib.Core.Option.{none, some}
use Rattle.std.specs.Prelude.{Option, Some, None, Result, Ok, Err, IfSome, ok_or}
use Rattle.std.specs.Bool.{then_some}
use mathlib.Core.Logic.{◌⊎◌, inl, inr}
use native.Mathlib.Omega.{arith}
use lib.ListN.{length, drop, length-append, length-drop}
use lib.Seq.{drop-drop}
use lib.Dec.{eqb, ltb, leb}
use borrow.Author.Tests.{eq-eqb, ne_eqb, lt-ltb, le-ltb, le-leb, lt-leb, leb-true, leb-false}
use Rattle.spec.specs.Answers.{refused}
use Rattle.spec.specs.Listing.{decimal, hexadecimal}
use Rattle.cardfile.specs.Cards.{Entry, letter_h, letter_d, number_of, bytes_of, padded, digits_for, spell, before, entry_of}
use Rattle.cardfile.specs.Lines.{split_lines, letter_of, digits_of, spelling_for, card_for, line_at, line_fault_number}
use Rattle.cardfile.specs.declared.Card.{Card}
use Rattle.cardfile.specs.declared.Spelling.{Spelling}
use Rattle.cardfile.specs.declared.Spelling.TheVariants.{Hexadecimal, Decimal}
use Rattle.cardfile.specs.declared.Line.{Line}
use Rattle.cardfile.specs.declared.LineFault.{LineFault}
use Rattle.cardfile.specs.declared.LineFault.TheVariants.{TooLong, BadForm}
use Rattle.converter.specs.declared.ConvertFault.{ConvertFault}
use Rattle.converter.specs.declared.ConvertFault.TheVariants.{BadLine, TooSmall}
use Rattle.std.proofs.lemmas.List.{drop_all}
use Rattle.cardfile.proofs.Splits.{split-some, split-feed, split-last, split-nil}
use Rattle.cardfile.proofs.Spellings.{read_is, bytes-number, digits-few, length-hex, length-padded}
use Rattle.cardfile.proofs.Names.{width_fits, number_fits}
use Rattle.cardfile.specs.Steps.{line_shown, LineStep}
use Rattle.cardfile.specs.declared.Lines.{Lines}
use Rattle.cardfile.proofs.Steps.{shown-line, shown-fault, shown-none}
use Rattle.cardfile.proofs.Places.{Stands, stands, too-long-at, malformed-at, nothing-at, long-at, bad-at, none-at, found_at}
use Rattle.converter.specs.Convert.{cents, line_with, Conversion, output, refusal, onto, entry_converted, line_converted, last_converted, convert_lines, convert_file, converted_of}
use Rattle.converter.specs.Passes.{answer_behind, answer_for, card_told, spelt_size}

-- ---- the lines from a place on

module _ (w n : ℕ) (t : List ℕ) where
  lines_step : length (before 10 t) < length t
      → convert_lines w n (split_lines t) ≡ line_converted w n (before 10 t) (convert_lines w (suc n) (split_lines (drop (length (before 10 t) + 1) t)))
  unfolding convert_lines
  lines_step h =
      let q = split-some (drop (length (before 10 t) + 1) t) in
      ap (convert_lines w n) (split-feed t h ∙ ap (λ (ls : List (List ℕ)). before 10 t ∷ ls) q.are)
      ∙ ap (λ (ls : List (List ℕ)). line_converted w n (before 10 t) (convert_lines w (suc n) ls)) (sym q.are)

  lines-stop : length (before 10 t) ≡ length t → 0 < length t → convert_lines w n (split_lines t) ≡ cond (ltb 64 (length t)) (refusal 20 n) (refusal 21 n)
  unfolding convert_lines last_converted
  lines-stop h k = ap (convert_lines w n) (split-last t h) ∙ go t k
    where
      go : (t : List ℕ) → 0 < length t → convert_lines w n (t ∷ []) ≡ cond (ltb 64 (length t)) (refusal 20 n) (refusal 21 n)
      go [] k = absurd (omega arith)
      go (c ∷ t) k = refl

  lines_long : 64 < length (before 10 t) → (length (before 10 t) < length t) ⊎ (length (before 10 t) ≡ length t) → convert_lines w n (split_lines t) ≡ refusal 20 n
  unfolding line_converted
  lines_long h (inl k) = lines_step k ∙ rw (lt-ltb 64 (length (before 10 t)) h)
  lines_long h (inr k) = lines-stop k (omega arith) ∙ rw (lt-ltb 64 (length t) (omega arith))

  lines-bad : length (before 10 t) ≤ 64 → 0 < length t → ((length (before 10 t) < length t) × (entry_of (before 10 t) ≡ none)) ⊎ (length (before 10 t) ≡ length t)
      → convert_lines w n (split_lines t) ≡ refusal 21 n
  unfolding line_converted
  lines-bad h l (inl k) = lines_step k.0 ∙ rw (le-ltb 64 (length (before 10 t)) h, k.1)
  lines-bad h l (inr k) = lines-stop k l ∙ rw (le-ltb 64 (length t) (omega arith))

  lines-card : (e : Entry) → length (before 10 t) ≤ 64 → length (before 10 t) < length t → entry_of (before 10 t) ≡ some e
      → convert_lines w n (split_lines t) ≡ entry_converted w n (before 10 t) (some e) (convert_lines w (suc n) (split_lines (drop (length (before 10 t) + 1) t)))
  unfolding line_converted
  lines-card e h k s = lines_step k ∙ rw (le-ltb 64 (length (before 10 t)) h, s)

-- ---- what stands at a place

-- a card that was found there
pub record Next (w : ℕ) (text : List ℕ) (at : ℕ) (c : Card) (next : ℕ) : Type 0 where
  pub entry : Entry
  pub card : c ≡ card_for entry
  pub stood : Stands text at entry next
  pub later : at < next
  pub step : (n : ℕ) → convert_lines w n (split_lines (drop at text)) ≡ entry_converted w n (before 10 (drop at text)) (some entry) (convert_lines w (suc n) (split_lines (drop next text)))

module _ (w : ℕ) (text : List ℕ) (at : ℕ) where
  left : at < length text → 0 < length (drop at text)
  left h = let z = length-drop at text in omega arith

  pub line-fault : (f : LineFault) → line_at text at ≡ Err f → (n : ℕ) → convert_lines w n (split_lines (drop at text)) ≡ refusal (line_fault_number f) n
  line-fault TooLong e n = let r = too-long-at text at (long-at text at e) in lines_long w n (drop at text) r.over r.fed
  line-fault BadForm e n = let r = malformed-at text at (bad-at text at e) in lines-bad w n (drop at text) r.short (left r.some_left) r.why

  -- no line stands behind the end alone
  pub line-none : line_at text at ≡ Ok None → length text ≤ at
  line-none e = go (leb (length text) at) refl
    where
      go : (b : Bool) → leb (length text) at ≡ b → length text ≤ at
      go true q = leb-true (length text) at q
      go false q = absurd (nothing-at text at (leb-false (length text) at q) (none-at text at e))

  pub line-end : length text ≤ at → (n : ℕ) → convert_lines w n (split_lines (drop at text)) ≡ output []
  unfolding convert_lines last_converted
  line-end h n = rw (drop_all at text h, split-nil)

  pub line-found : (x : Line) → line_at text at ≡ Ok (Some x) → Next w text at x.card x.next
  line-found x e =
      let f = found_at text at x e in
      let s = stands text at f.entry x.next f.is in
      let j : at + (length (before 10 (drop at text)) + 1) ≡ x.next = omega (arith, s.feed) in
      let d : drop (length (before 10 (drop at text)) + 1) (drop at text) ≡ drop x.next text
      = drop-drop (length (before 10 (drop at text)) + 1) at text ∙ ap (λ (y : ℕ). drop y text) j in
      record {
        entry = f.entry;
        card = f.says;
        stood = s;
        later = omega (arith, s.feed);
        step = λ n.
            lines-card w n (drop at text) f.entry s.short s.ended s.says
            ∙ ap (λ (t : List ℕ). entry_converted w n (before 10 (drop at text)) (some f.entry) (convert_lines w (suc n) (split_lines t))) d;
      }

-- what the code knows of a card that was found
module _ (w : ℕ) (text : List ℕ) (at : ℕ) (c : Card) (next : ℕ) (s : Next w text at c next) where
  spelling-is : c.spelling ≡ spelling_for s.entry.letter
  unfolding card_for
  spelling-is = ap (λ (x : Card). x.spelling) s.card

  bytes-are : c.serial.bytes ≡ length s.entry.serial
  unfolding card_for
  bytes-are = ap (λ (x : Card). x.serial.bytes) s.card

  number_is : c.serial.number ≡ number_of s.entry.serial
  unfolding card_for
  number_is = ap (λ (x : Card). x.serial.number) s.card

  pub digits_are : c.digits ≡ length (decimal s.entry.amount)
  unfolding card_for
  digits_are = ap (λ (x : Card). x.digits) s.card

  pub bytes_fit : c.serial.bytes ≤ 7
  bytes_fit = let z = width_fits s.entry s.stood.proper in omega (arith, bytes-are)

  pub number-fit : c.serial.number < 256 ^ c.serial.bytes
  number-fit = rw (number_is, bytes-are) (number_fits s.entry s.stood.proper)

  pub digits-fit : c.digits ≤ 8
  digits-fit = let z : length (decimal s.entry.amount) ≤ 8 = digits-few 20 7 s.entry.amount s.stood.proper.amount in omega (arith, digits_are)

  pub serial-is : bytes_of c.serial.bytes c.serial.number ≡ s.entry.serial
  serial-is = rw (number_is, bytes-are) (bytes-number s.entry.serial s.stood.proper.serial.bytes)

  pub cents-are : cents (before 10 (drop at text)) ≡ decimal s.entry.amount
  unfolding cents
  cents-are = (read_is (before 10 (drop at text)) s.entry s.stood.says).cents

  -- its letter is that of its spelling
  letter-is : s.entry.letter ≡ letter_of c.spelling
  letter-is = go s.stood.proper.letter ∙ ap letter_of (sym spelling-is)
    where
      go : (s.entry.letter ≡ letter_h) ⊎ (s.entry.letter ≡ letter_d) → s.entry.letter ≡ letter_of (spelling_for s.entry.letter)
      go (inl e) = rw e
      go (inr e) = rw e

-- ---- sizes

length-spell : (w : ℕ) (s : List ℕ) → length (spell w s) ≡ spelt_size w (length s)
unfolding spell
length-spell w s = go (eqb w 72)
  where
    go : (b : Bool) → length (cond b (hexadecimal s) (padded (digits_for (length s)) (number_of s))) ≡ cond b (2 * length s) (digits_for (length s))
    go true = length-hex s
    go false = length-padded (digits_for (length s)) (number_of s)

together : (t ds : List ℕ) (c : ℕ) → length ((t ++ (59 ∷ c ∷ 59 ∷ ds)) ++ (10 ∷ [])) ≡ length t + length ds + 4
together t ds c =
    let y = length-append (t ++ (59 ∷ c ∷ 59 ∷ ds)) (10 ∷ []) in
    let z = length-append t (59 ∷ c ∷ 59 ∷ ds) in
    omega arith

-- the digits that the code counts are those of the wanted letter
pub size-is : (s : Spelling) (b : ℕ) → digits_of s b ≡ spelt_size (letter_of s) b
size-is Hexadecimal b = refl
size-is Decimal b = refl

line-size : (w : ℕ) (s ds : List ℕ) → length (line_with w s ds) ≡ spelt_size w (length s) + length ds + 4
unfolding line_with
line-size w s ds = together (spell w s) ds w ∙ ap (λ (k : ℕ). k + length ds + 4) (length-spell w s)

-- ---- room

module _ (most : ℕ) (t : List ℕ) where
  more-closed : (c : Conversion) → answer_behind most None (onto t c) ≡ answer_behind most None c
  unfolding answer_behind
  more-closed (refusal a b) = refl
  more-closed (output u) = refl

  more-over : (total : ℕ) → most < total + length t → (c : Conversion) → answer_behind most (Some total) (onto t c) ≡ answer_behind most None c
  unfolding answer_behind
  more-over total h (refusal a b) = refl
  more-over total h (output u) = let z = length-append t u in rw (lt-leb (total + length (t ++ u)) most (omega arith))

  more-fits : (total size : ℕ) → length t ≡ size → (c : Conversion) → answer_behind most (Some total) (onto t c) ≡ answer_behind most (Some (total + size)) c
  unfolding answer_behind
  more-fits total size h (refusal a b) = refl
  more-fits total size h (output u) =
      let z : total + length (t ++ u) ≡ total + size + length u = (let y = length-append t u in omega arith) in
      rw z

-- what is counted behind more bytes
module _ (most size : ℕ) (room room' : Option ℕ) where
  abbrev More : Type 0
  More = (t : List ℕ) (c : Conversion) → length t ≡ size → answer_behind most room (onto t c) ≡ answer_behind most room' c

  pub room-closed : room ≡ None → room' ≡ None → More
  room-closed e f t c l = rw (e, f) (more-closed most t c)

  pub room-over : (n : ℕ) → room ≡ Some n → most < n + size → room' ≡ None → More
  room-over n e h f t c l = rw (e, f) (more-over most t n (omega (arith, h, l)) c)

  pub room_fits : (n total : ℕ) → room ≡ Some n → total ≡ n + size → room' ≡ then_some (leb total most) total → More
  room_fits n total e k f t c l = rw e (go (leb total most) refl f)
    where
      go : (b : Bool) → leb total most ≡ b → room' ≡ then_some b total → answer_behind most (Some n) (onto t c) ≡ answer_behind most room' c
      go true q f = rw (f, k) (more-fits most t n size l c)
      go false q f = rw f (more-over most t n (omega (arith, leb-false total most q, k, l)) c)

-- two spellings have two letters
pub apart : (s t : Spelling) → (s ≡ t → ⊥) → letter_of t ≡ letter_of s → ⊥
apart Hexadecimal Hexadecimal n e = n refl
apart Hexadecimal Decimal n e = omega (arith, e)
apart Decimal Hexadecimal n e = omega (arith, e)
apart Decimal Decimal n e = n refl

-- ---- the loop

pub record Tested (w : ℕ) (text : List ℕ) (most : ℕ) (at line : ℕ) (room : Option ℕ) : Type 0 where
  pub inside : at ≤ length text
  pub count : line ≤ at + 1
  pub fits : IfSome room (λ n. n ≤ most)
  pub rest : answer_behind most room (convert_lines w line (split_lines (drop at text))) ≡ answer_for most (convert_file w text)

pub tested-none : (w : ℕ) (text : List ℕ) (most : ℕ) → Tested w text most 0 1 (Some 0)
unfolding convert_file
tested-none w text most = record { inside = omega arith; count = omega arith; fits = omega arith; rest = refl }

-- what a step over the lines shows
pub seen : (text : List ℕ) (s t : Lines) (o : Option (Result Line LineFault)) → s.text.now ≡ text → LineStep s o t → o ≡ line_shown (line_at text s.at)
seen text s t o e h = h.shows ∙ ap (λ (u : List ℕ). line_shown (line_at u s.at)) e

module _ (w : ℕ) (text : List ℕ) (most at line : ℕ) (room : Option ℕ) (p : Tested w text most at line room) where
  told : (k : ℕ) → convert_lines w line (split_lines (drop at text)) ≡ refusal k line → refused k (line ∷ []) ≡ answer_for most (convert_file w text)
  unfolding answer_behind
  told k e = ap (answer_behind most room) (sym e) ∙ p.rest

  pub tested-end : None ≡ line_shown (line_at text at) → (r : Result ℕ ConvertFault) → r ≡ ok_or room TooSmall → converted_of r ≡ answer_for most (convert_file w text)
  unfolding answer_behind
  tested-end s r e = rw e (go room p.fits refl ∙ ap (answer_behind most room) (sym (line-end w text at (line-none w text at (shown-none text at (sym s))) line)) ∙ p.rest)
    where
      go : (o : Option ℕ) → IfSome o (λ n. n ≤ most) → room ≡ o → converted_of (ok_or room TooSmall) ≡ answer_behind most room (output [])
      go None f q = rw q
      go (Some n) f q = let z : n + 0 ≡ n = omega arith in rw (q, z, le-leb n most f)

  module _ (c : Card) (next : ℕ) (s : Next w text at c next) where
    pub tested-same : w ≡ letter_of c.spelling → refused 24 (line ∷ []) ≡ answer_for most (convert_file w text)
    tested-same e = told 24 (s.step line ∙ rw (eq-eqb s.entry.letter w (letter-is w text at c next s ∙ sym e)))

    pub tested-more : (w ≡ letter_of c.spelling → ⊥) → (size : ℕ) → size ≡ spelt_size w c.serial.bytes → (room' : Option ℕ)
        → ((t : List ℕ) (d : Conversion) → length t ≡ size + c.digits + 4 → answer_behind most room (onto t d) ≡ answer_behind most room' d)
        → IfSome room' (λ n. n ≤ most) → Tested w text most next (line + 1) room'
    tested-more o size q room' f i =
        let a : spelt_size w (length s.entry.serial) ≡ size = ap (spelt_size w) (sym (bytes-are w text at c next s)) ∙ sym q in
        let b : length (cents (before 10 (drop at text))) ≡ c.digits = ap length (cents-are w text at c next s) ∙ sym (digits_are w text at c next s) in
        let g : length (line_with w s.entry.serial (cents (before 10 (drop at text)))) ≡ size + c.digits + 4
        = line-size w s.entry.serial (cents (before 10 (drop at text))) ∙ omega (arith, a, b) in
        let z : line + 1 ≡ suc line = omega arith in
        record {
          inside = s.stood.inside;
          count = omega (arith, p.count, s.later);
          fits = i;
          rest =
              ap (λ (j : ℕ). answer_behind most room' (convert_lines w j (split_lines (drop next text)))) z
              ∙ sym (f (line_with w s.entry.serial (cents (before 10 (drop at text)))) (convert_lines w (suc line) (split_lines (drop next text))) g)
              ∙ ap (answer_behind most room) (sym (s.step line ∙ rw (ne_eqb s.entry.letter w (λ e. o (sym e ∙ letter-is w text at c next s)))))
              ∙ p.rest;
        }

-- a line that a step over the lines shows, by its number
module _ {w : ℕ} {text : List ℕ} {most : ℕ} {s t : Lines} {count k : ℕ} {room : Option ℕ} {r : Result Line LineFault}
    (p : LineStep s (Some r) t) (number : k ≡ count) (i : (s.text.now ≡ text) × Tested w text most s.at (count + 1) room)
  where
    pub tested-here : Tested w text most s.at (k + 1) room
    tested-here = rw number i.1

    pub tested-fault : (g : ConvertFault) → Err g ≡ card_told (k + 1) r → converted_of (Err g) ≡ answer_for most (convert_file w text)
    tested-fault = go r (seen text s t (Some r) i.0 p)
      where
        go : (r : Result Line LineFault) → Some r ≡ line_shown (line_at text s.at) → (g : ConvertFault) → Err g ≡ card_told (k + 1) r
            → converted_of (Err g) ≡ answer_for most (convert_file w text)
        go (Ok x) e g h = cc
        go (Err f) e g h =
            let z : g ≡ BadLine (k + 1) f = cc in
            rw z (told w text most s.at (k + 1) room tested-here (line_fault_number f) (line-fault w text s.at f (shown-fault text s.at f (sym e)) (k + 1)))

    pub tested-card : (c : Card) → Ok c ≡ card_told (k + 1) r → Next w text s.at c t.at
    tested-card = go r (seen text s t (Some r) i.0 p) p.behind
      where
        go : (r : Result Line LineFault) → Some r ≡ line_shown (line_at text s.at) → ((x : Line) → Some r ≡ Some (Ok x) → t.at ≡ x.next)
            → (c : Card) → Ok c ≡ card_told (k + 1) r → Next w text s.at c t.at
        go (Ok x) e b c h = let z : x.card ≡ c = cc in rw (b x refl, ← z) (line-found w text s.at x (shown-line text s.at x (sym e)))
        go (Err f) e b c h = cc

    -- what the code knows of the card of such a line, and where it leads
    module _ (c : Card) (h : Ok c ≡ card_told (k + 1) r) where
      pub told-bytes : c.serial.bytes ≤ 7
      told-bytes = bytes_fit w text s.at c t.at (tested-card c h)

      pub told-digits : c.digits ≤ 8
      told-digits = digits-fit w text s.at c t.at (tested-card c h)

      pub told-same : w ≡ letter_of c.spelling → refused 24 ((k + 1) ∷ []) ≡ answer_for most (convert_file w text)
      told-same = tested-same w text most s.at (k + 1) room tested-here c t.at (tested-card c h)

      pub told-more : (w ≡ letter_of c.spelling → ⊥) → (size : ℕ) → size ≡ spelt_size w c.serial.bytes → (room' : Option ℕ)
          → ((t : List ℕ) (d : Conversion) → length t ≡ size + c.digits + 4 → answer_behind most room (onto t d) ≡ answer_behind most room' d)
          → IfSome room' (λ n. n ≤ most) → Tested w text most t.at (k + 1 + 1) room'
      told-more = tested-more w text most s.at (k + 1) room tested-here c t.at (tested-card c h)
