-- The second pass: what is written of a file's lines. Assumes nothing.
use Prim.Native.Nat.{ℕ, suc, ◌+◌, ◌-◌, ◌/◌, ◌%◌, ◌<◌, ◌≤◌, ◌^◌}
use mathlib.Core.Path.{◌≡◌, refl, sym, ap, ◌∙◌}
use mathlib.Core.Bool.{Bool, true, false, cond}
use mathlib.Core.List.{List, [], ◌∷◌, ◌++◌, append_assoc}
use mathlib.Core.Option.{some}
use Rattle.std.specs.Prelude.{Option, Some, None, Result, Ok, Err}
use native.Mathlib.Omega.{arith}
use lib.ListN.{length, set, take, drop, length-set, length-append, length-take, take-append-drop}
use lib.Seq.{drop-drop, take_all, drop_at, take_at}
use Rattle.std.proofs.lemmas.List.{append-nil, drop-set, drop_all}
use Rattle.std.proofs.Math.Seq.{take-set-lt}
use lib.Dec.{eqb, leb}
use borrow.Author.Tests.{leb-true}
use Rattle.spec.specs.Answers.{refused, counted}
use Rattle.spec.specs.Listing.{decimal, hexadecimal}
use Rattle.text.specs.declared.Writer.{Writer}
use Rattle.text.specs.Written.{Written, Put}
use Rattle.text.proofs.Laws.{put_then, put_as, Left, left-start, left_step, left_end, laid-front}
use Rattle.cardfile.specs.Cards.{Entry, bytes_of, name_of, padded, spell, line_text, before}
use Rattle.cardfile.specs.Lines.{split_lines, letter_of, digits_of, line_at, line_fault_number, name_told}
use Rattle.cardfile.specs.declared.Card.{Card}
use Rattle.cardfile.specs.declared.Spelling.{Spelling}
use Rattle.cardfile.specs.declared.Spelling.TheVariants.{Hexadecimal, Decimal}
use Rattle.cardfile.specs.Steps.{line_shown, LineStep}
use Rattle.cardfile.proofs.Steps.{shown-line, shown-fault, shown-none}
use Rattle.cardfile.specs.declared.Line.{Line}
use Rattle.cardfile.specs.declared.Lines.{Lines}
use Rattle.cardfile.specs.declared.LineFault.{LineFault}
use Rattle.cardfile.proofs.Laws.{before-is, length-bytes, number-bytes}
use Rattle.cardfile.proofs.Forms.{name-is}
use Rattle.cardfile.proofs.Names.{exactly-front}
use Rattle.converter.specs.declared.ConvertFault.{ConvertFault}
use Rattle.converter.specs.declared.ConvertFault.TheVariants as fault-cases
use Rattle.converter.specs.Convert.{cents, line_with, Conversion, output, refusal, onto, entry_converted, line_converted, last_converted, convert_lines, convert_file, left_buffer, settled, convert, converted_of}
use Rattle.converter.specs.Passes.{answer_behind, answer_for, output_of}
use Rattle.converter.proofs.Meaning.{no-refusal, last-refused, line_of, line-to}
use Rattle.converter.proofs.Passes.{Next, seen, line-found, line-fault, line-none, line-end, digits_are, serial-is, cents-are}

-- ---- digits and serials

-- what the loop has found: the digits from place k on, and `rest` is what is left of the number for those before
pub record Found (count n : ℕ) (digits : List ℕ) (k rest : ℕ) : Type 0 where
  pub size : length digits ≡ 17
  pub joined : padded k rest ++ drop k (take count digits) ≡ padded count n

pub found-none : (count n : ℕ) (digits : List ℕ) → length digits ≡ 17 → Found count n digits count n
found-none count n digits s =
    let z : length (take count digits) ≤ count = omega (arith, length-take count digits) in
    record { size = s; joined = rw (drop_all count (take count digits) z) (append-nil (padded count n)) }

module _ (count n : ℕ) (digits : List ℕ) (rest k : ℕ) (q : Found count n digits k rest) where
  pub found-more : count ≤ 17 → 0 < k → k ≤ count → Found count n (set digits (k - 1) (48 + rest % 10)) (k - 1) (rest / 10)
  unfolding padded
  found-more m z h =
      let e : k ≡ suc (k - 1) = omega arith in
      let i : k - 1 < length (take count digits) = omega (arith, length-take count digits, q.size) in
      let f : k - 1 + 1 ≡ k = omega arith in
      record {
        size = length-set digits (k - 1) (48 + rest % 10) ∙ q.size;
        joined =
            ap (λ (l : List ℕ). padded (k - 1) (rest / 10) ++ drop (k - 1) l) (take-set-lt count digits (k - 1) (48 + rest % 10) (omega arith))
            ∙ ap (λ (l : List ℕ). padded (k - 1) (rest / 10) ++ l) (drop-set (take count digits) (k - 1) (48 + rest % 10) i)
            ∙ ap (λ (j : ℕ). padded (k - 1) (rest / 10) ++ ((48 + rest % 10) ∷ drop j (take count digits))) f
            ∙ sym (append_assoc (padded (k - 1) (rest / 10)) ((48 + rest % 10) ∷ []) (drop k (take count digits)))
            ∙ ap (λ (j : ℕ). padded j rest ++ drop k (take count digits)) (sym e)
            ∙ q.joined;
      }

  pub found-all : k ≤ 0 → take count digits ≡ padded count n
  unfolding padded
  found-all h =
      let e : k ≡ 0 = omega arith in
      sym (ap (λ (j : ℕ). padded j rest ++ drop j (take count digits)) e) ∙ q.joined

module _ (b n : ℕ) (k : b ≤ 7) (l : n < 256 ^ b) where
  pub spell-h : (name : List ℕ) → name ≡ name_told b n → hexadecimal (take (b + 1 - 1) (drop 1 name)) ≡ spell (letter_of Hexadecimal) (bytes_of b n)
  unfolding spell name_of
  spell-h name q =
      let z : b + 1 - 1 ≡ length (bytes_of b n) = omega (arith, length-bytes b n) in
      let y : length (bytes_of b n) ≤ 7 = omega (arith, length-bytes b n) in
      rw (q, name-is b n k l, z) (ap hexadecimal (exactly-front 7 (bytes_of b n) y))

  pub spell-d : padded (digits_of Decimal b) n ≡ spell (letter_of Decimal) (bytes_of b n)
  unfolding spell
  spell-d = rw (length-bytes b n, number-bytes b n l)

-- ---- a line

module _ (w : ℕ) (s ds : List ℕ) (p₀ p₁ : Writer) (h1 : Put p₀ p₁ (spell w s)) where
  pub put_all : (p₂ : Writer) → Put p₁ p₂ (59 ∷ []) → (p₃ : Writer) → Put p₂ p₃ (w ∷ []) → (p₄ : Writer) → Put p₃ p₄ (59 ∷ [])
      → (p₅ : Writer) → Put p₄ p₅ ds → (p₆ : Writer) → Put p₅ p₆ (10 ∷ []) → Put p₀ p₆ (line_with w s ds)
  unfolding line_with
  put_all p₂ h2 p₃ h3 p₄ h4 p₅ h5 p₆ h6 =
      let a = put_then p₃ p₄ (59 ∷ []) h4 p₅ ds h5 in
      let b = put_then p₂ p₃ (w ∷ []) h3 p₅ (59 ∷ ds) a in
      let c = put_then p₁ p₂ (59 ∷ []) h2 p₅ (w ∷ 59 ∷ ds) b in
      let d = put_then p₀ p₁ (spell w s) h1 p₅ (59 ∷ w ∷ 59 ∷ ds) c in
      put_then p₀ p₅ (spell w s ++ (59 ∷ w ∷ 59 ∷ ds)) d p₆ (10 ∷ []) h6

-- ---- an output is the same whatever its first line's number

any-line : (w : ℕ) (ls : List (List ℕ)) (n m : ℕ) (u : List ℕ) → convert_lines w n ls ≡ output u → convert_lines w m ls ≡ output u
unfolding convert_lines last_converted
any-line w [] n m u h = h
any-line w ([] ∷ []) n m u h = h
any-line w ((c ∷ l) ∷ []) n m u h = last-refused n c l u h
any-line w (l ∷ k ∷ ls) n m u h =
    let r = line_of w n l (convert_lines w (suc n) (k ∷ ls)) u h in
    ap (line_converted w m l) (any-line w (k ∷ ls) (suc n) (suc m) r.behind r.rest)
    ∙ line-to w m l r.entry r.behind r.short r.says r.other ∙ ap output (sym r.text)

-- ---- the loop

pub record Putting (w : ℕ) (text : List ℕ) (p₀ p : Writer) (at : ℕ) : Type 0 where
  pub inside : at ≤ length text
  pub fine : (n : ℕ) → convert_lines w n (split_lines (drop at text)) ≡ output (output_of (convert_lines w 1 (split_lines (drop at text))))
  pub left : Left p₀ (output_of (convert_file w text)) p (output_of (convert_lines w 1 (split_lines (drop at text))))

pub put-none : (w : ℕ) (text : List ℕ) (p : Writer) → convert_file w text ≡ output (output_of (convert_file w text)) → Putting w text p p 0
unfolding convert_file
put-none w text p h =
    record {
      inside = omega arith;
      fine = λ n. any-line w (split_lines text) 1 n (output_of (convert_lines w 1 (split_lines text))) h;
      left = left-start p (output_of (convert_lines w 1 (split_lines text))) (output_of (convert_lines w 1 (split_lines text))) refl;
    }

record Respelt (w : ℕ) (e : Entry) (l : List ℕ) (c : Conversion) (u : List ℕ) : Type 0 where
  pub behind : List ℕ
  pub rest : c ≡ output behind
  pub text : u ≡ line_with w e.serial (cents l) ++ behind

respelt-of : (w n : ℕ) (e : Entry) (l : List ℕ) (c : Conversion) (u : List ℕ) → entry_converted w n l (some e) c ≡ output u → Respelt w e l c u
respelt-of w n e l c u h = go (eqb e.letter w) c h
  where
    go : (b : Bool) (c : Conversion) → cond b (refusal 24 n) (onto (line_with w e.serial (cents l)) c) ≡ output u → Respelt w e l c u
    go true c h = no-refusal u 24 n h
    go false (refusal a b) h = no-refusal u a b h
    go false (output v) h = let z : line_with w e.serial (cents l) ++ v ≡ u = cc in record { behind = v; rest = refl; text = sym z }

module _ (w : ℕ) (text : List ℕ) (p₀ p : Writer) (at : ℕ) (q : Putting w text p₀ p at) where
  not-refused : {A : Type 0} (k : ℕ) → convert_lines w 1 (split_lines (drop at text)) ≡ refusal k 1 → A
  not-refused k e = no-refusal (output_of (convert_lines w 1 (split_lines (drop at text)))) k 1 (sym e ∙ q.fine 1)

  pub put-end : None ≡ line_shown (line_at text at) → Put p₀ p (output_of (convert_file w text))
  put-end e = left_end p₀ (output_of (convert_file w text)) p (output_of (convert_lines w 1 (split_lines (drop at text)))) q.left (ap output_of (line-end w text at (line-none w text at (shown-none text at (sym e))) 1))

  pub put-fault : (r : Result Line LineFault) → Some r ≡ line_shown (line_at text at) → (f : LineFault) → r ≡ Err f → Put p₀ p (output_of (convert_file w text))
  put-fault r e f h = not-refused (line_fault_number f) (line-fault w text at f (shown-fault text at f (sym e ∙ ap Some h)) 1)

  -- where no card is found, all is written
  pub put-last : (o : Option (Result Line LineFault)) → o ≡ line_shown (line_at text at) → ((x : Line) → o ≡ Some (Ok x) → ⊥) → Put p₀ p (output_of (convert_file w text))
  put-last None e h = put-end e
  put-last (Some (Ok x)) e h = absurd (h x refl)
  put-last (Some (Err f)) e h = put-fault (Err f) e f refl

-- the card of the next line
pub put-card : (w : ℕ) (text : List ℕ) (s t : Lines) (r : Result Line LineFault) → s.text.now ≡ text → LineStep s (Some r) t → (x : Line) → r ≡ Ok x → Next w text s.at x.card x.next
put-card w text s t r e h x q = line-found w text s.at x (shown-line text s.at x (sym (seen text s t (Some r) e h) ∙ ap Some q))

module _ (w : ℕ) (text : List ℕ) (at : ℕ) (c : Card) (next : ℕ) (s : Next w text at c next) where
  -- the amount's digits are the last of the line
  parts : before 10 (drop at text) ≡ (spell s.entry.letter s.entry.serial ++ (59 ∷ s.entry.letter ∷ 59 ∷ [])) ++ decimal s.entry.amount
  unfolding line_text
  parts = s.stood.line ∙ sym (append_assoc (spell s.entry.letter s.entry.serial) (59 ∷ s.entry.letter ∷ 59 ∷ []) (decimal s.entry.amount))

  pub digits-room : c.digits ≤ next - 1 - at
  digits-room =
      let a = length-append (spell s.entry.letter s.entry.serial ++ (59 ∷ s.entry.letter ∷ 59 ∷ [])) (decimal s.entry.amount) in
      omega (arith, a, ap length parts, digits_are w text at c next s, s.stood.feed)

  copied-are : take (next - 1 - (next - 1 - c.digits)) (drop (next - 1 - c.digits) text) ≡ cents (before 10 (drop at text))
  copied-are =
      let pre = spell s.entry.letter s.entry.serial ++ (59 ∷ s.entry.letter ∷ 59 ∷ []) in
      let ds = decimal s.entry.amount in
      let more = drop (length (before 10 (drop at text))) (drop at text) in
      go pre ds more
      (sym (take-append-drop (length (before 10 (drop at text))) (drop at text)) ∙ ap (λ (l : List ℕ). l ++ more) (sym (before-is 10 (drop at text)) ∙ parts) ∙ append_assoc pre ds more)
      (ap length parts ∙ length-append pre ds)
      (digits_are w text at c next s)
      ∙ sym (cents-are w text at c next s)
    where
      go : (pre ds more : List ℕ) → drop at text ≡ pre ++ (ds ++ more) → length (before 10 (drop at text)) ≡ length pre + length ds → c.digits ≡ length ds
          → take (next - 1 - (next - 1 - c.digits)) (drop (next - 1 - c.digits) text) ≡ ds
      go pre ds more e l d =
          let a : next - 1 - c.digits ≡ at + length pre = omega (arith, s.stood.feed) in
          let b : next - 1 - (next - 1 - c.digits) ≡ length ds = omega (arith, s.stood.feed) in
          let f : drop (next - 1 - c.digits) text ≡ ds ++ more
          = ap (λ (j : ℕ). drop j text) a ∙ sym (drop-drop (length pre) at text) ∙ ap (drop (length pre)) e ∙ drop_at pre (ds ++ more) (length pre) refl in
          ap (λ (l : List ℕ). take (next - 1 - (next - 1 - c.digits)) l) f ∙ take_at ds more (next - 1 - (next - 1 - c.digits)) (sym b)

  -- what the code writes is what the line becomes
  line-is : line_with w (bytes_of c.serial.bytes c.serial.number) (take (next - 1 - (next - 1 - c.digits)) (drop (next - 1 - c.digits) text))
      ≡ line_with w s.entry.serial (cents (before 10 (drop at text)))
  line-is = rw (serial-is w text at c next s, copied-are)

  pub put-more : (p₀ p : Writer) → Putting w text p₀ p at → (r : Writer)
      → Put p r (line_with w (bytes_of c.serial.bytes c.serial.number) (take (next - 1 - (next - 1 - c.digits)) (drop (next - 1 - c.digits) text)))
      → Putting w text p₀ r next
  put-more p₀ p q r g =
      let k = respelt-of w 1 s.entry (before 10 (drop at text)) (convert_lines w 2 (split_lines (drop next text))) (output_of (convert_lines w 1 (split_lines (drop at text)))) (sym (s.step 1) ∙ q.fine 1) in
      let a : convert_lines w 1 (split_lines (drop next text)) ≡ output k.behind = any-line w (split_lines (drop next text)) 2 1 k.behind k.rest in
      let b : output_of (convert_lines w 1 (split_lines (drop next text))) ≡ k.behind = ap output_of a in
      record {
        inside = s.stood.inside;
        fine = λ n. any-line w (split_lines (drop next text)) 2 n k.behind k.rest ∙ ap output (sym b);
        left =
            left_step p₀ (output_of (convert_file w text)) p (output_of (convert_lines w 1 (split_lines (drop at text)))) q.left
            (line_with w s.entry.serial (cents (before 10 (drop at text))))
            (output_of (convert_lines w 1 (split_lines (drop next text)))) r
            (k.text ∙ ap (λ (l : List ℕ). line_with w s.entry.serial (cents (before 10 (drop at text))) ++ l) (sym b))
            (put_as p r _ _ g line-is);
      }

-- ---- the call

module _ (out : List ℕ) (c : Conversion) where
  pub fits-output : (n : ℕ) → counted n ≡ answer_for (length out) c → c ≡ output (output_of c)
  unfolding answer_behind
  fits-output n e = go c e
    where
      go : (c : Conversion) → counted n ≡ answer_for (length out) c → c ≡ output (output_of c)
      go (refusal a b) e = cc
      go (output u) e = refl

  pub all_settled : (n : ℕ) → counted n ≡ answer_for (length out) c → (after : List ℕ) (p : ℕ) → Written out 0 (output_of c) after p → left_buffer after (counted n) ≡ settled out c
  unfolding answer_behind
  all_settled n e after p w = go c e w
    where
      test : (u : List ℕ) (b : Bool) → leb (length u) (length out) ≡ b → counted n ≡ cond b (counted (length u)) (refused 25 []) → Written out 0 u after p
          → left_buffer after (counted n) ≡ cond b (left_buffer (u ++ drop (length u) out) (counted (length u))) (left_buffer out (refused 25 []))
      test u true q e w =
          let z : after ≡ u ++ drop (length u) out
          = w.bytes ∙ laid-front out u ∙ ap (λ (l : List ℕ). l ++ drop (length u) out) (take_all (length out) u (leb-true (length u) (length out) q)) in
          rw (z, e)
      test u false q e w = let z : ◌≡◌ {A = ℕ} 0 1 = cc in absurd (omega arith)

      go : (c : Conversion) → counted n ≡ answer_for (length out) c → Written out 0 (output_of c) after p → left_buffer after (counted n) ≡ settled out c
      go (refusal a b) e w = let z : ◌≡◌ {A = ℕ} 0 1 = cc in absurd (omega arith)
      go (output u) e w =
          let z : 0 + length u ≡ length u = omega arith in
          test u (leb (length u) (length out)) refl (rw z at e) w

  pub none-settled : (k : ℕ) (vs : List ℕ) → refused k vs ≡ answer_for (length out) c → left_buffer out (refused k vs) ≡ settled out c
  unfolding answer_behind
  none-settled k vs e = go c e
    where
      test : (u : List ℕ) (b : Bool) → leb (length u) (length out) ≡ b → refused k vs ≡ cond b (counted (length u)) (refused 25 [])
          → left_buffer out (refused k vs) ≡ cond b (left_buffer (u ++ drop (length u) out) (counted (length u))) (left_buffer out (refused 25 []))
      test u true q e = let z : ◌≡◌ {A = ℕ} 0 1 = cc in absurd (omega arith)
      test u false q e = ap (left_buffer out) e

      go : (c : Conversion) → refused k vs ≡ answer_for (length out) c → left_buffer out (refused k vs) ≡ settled out c
      go (refusal a b) e = ap (left_buffer out) e
      go (output u) e =
          let z : 0 + length u ≡ length u = omega arith in
          test u (leb (length u) (length out)) refl (rw z at e)

-- for a letter that the code has made of a spelling
module _ (s : Spelling) (text out : List ℕ) (w : ℕ) (l : w ≡ letter_of s) where
  as-letter : settled out (convert_file w text) ≡ convert s text out
  unfolding convert
  as-letter = ap (λ (x : ℕ). settled out (convert_file x text)) l

  pub all-converted : (n : ℕ) → counted n ≡ answer_for (length out) (convert_file w text)
      → (after : List ℕ) (p : ℕ) → Written out 0 (output_of (convert_file w text)) after p → left_buffer after (counted n) ≡ convert s text out
  all-converted n e after p g = all_settled out (convert_file w text) n e after p g ∙ as-letter

  pub none-converted : (f : ConvertFault) → converted_of (Err f) ≡ answer_for (length out) (convert_file w text) → left_buffer out (converted_of (Err f)) ≡ convert s text out
  none-converted (fault-cases.BadLine n f) e = none-settled out (convert_file w text) (line_fault_number f) (n ∷ []) e ∙ as-letter
  none-converted (fault-cases.SameSpelling n) e = none-settled out (convert_file w text) 24 (n ∷ []) e ∙ as-letter
  none-converted fault-cases.TooSmall e = none-settled out (convert_file w text) 25 [] e ∙ as-letter

  pub is-output : (n : ℕ) → counted n ≡ answer_for (length out) (convert_file w text) → convert_file w text ≡ output (output_of (convert_file w text))
  is-output n e = fits-output out (convert_file w text) n e
