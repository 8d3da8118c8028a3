-- What a conversion means: the lowest line decides, each card stays the same card, and there and back gives the file byte for byte. Assumes nothing.
use Prim.Native.Nat.{ℕ, zero, suc, ◌+◌, ◌<◌, ◌≤◌}
use mathlib.Core.Path.{◌≡◌, refl, sym, ap, ◌∙◌}
use mathlib.Core.Bool.{Bool, true, false, cond}
use mathlib.Core.List.{List, [], ◌∷◌, ◌++◌, append_assoc, map}
use mathlib.Core.Option.{Option, none, some}
use mathlib.Core.Logic.{◌⊎◌, inl, inr}
use native.Mathlib.Omega.{arith}
use lib.ListN.{length, take, drop}
use lib.Seq.{take_at}
use lib.Dec.{eqb, ltb, leb}
use borrow.Author.Tests.{eqb-false, ne_eqb, le-ltb, ltb-false, le-leb}
use Rattle.spec.specs.Answers.{refused, counted}
use Rattle.cardfile.specs.Cards.{Proper, Entry, letter_h, letter_d, spell, line_text, before, split, entry_of}
use Rattle.cardfile.specs.Lines.{split_lines}
use Rattle.cardfile.proofs.Spellings.{read_back, read_is}
use Rattle.cardfile.proofs.Texts.{line-printed, line-short}
use Rattle.cardfile.proofs.Splits.{joined, joined-split, split-some, split-nil, split-front}
use Rattle.cardfile.specs.declared.Spelling.{Spelling}
use Rattle.cardfile.specs.declared.Spelling.TheVariants.{Hexadecimal, Decimal}
use Rattle.cardfile.specs.Lines.{letter_of}
use Rattle.converter.specs.Convert.{cents, line_with, Conversion, output, refusal, onto, entry_converted, line_converted, last_converted, convert_lines, convert_file, left_buffer, settled, convert}
use Rattle.converter.specs.Verdicts.{verdict, last_verdict, verdict_at, other, in_spelling, cards_of, cards_in}

pub no-refusal : {A : Type 0} (u : List ℕ) (k n : ℕ) → refusal k n ≡ output u → A
no-refusal u k n e = absurd (let z : ◌≡◌ {A = ℕ} 0 1 = cc in omega arith)

-- a line without its feed is refused
pub last-refused : {A : Type 0} (n c : ℕ) (l u : List ℕ) → last_converted n (c ∷ l) ≡ output u → A
unfolding last_converted
last-refused n c l u h = go (ltb 64 (length (c ∷ l))) h
  where
    go : {A : Type 0} (b : Bool) → cond b (refusal 20 n) (refusal 21 n) ≡ output u → A
    go true h = no-refusal u 20 n h
    go false h = no-refusal u 21 n h

no-entry : entry_of [] ≡ none
unfolding entry_of split before
no-entry = refl

no-cards : cards_in [] ≡ []
unfolding cards_of split_lines
no-cards = rw no-entry

-- ---- one line

-- the amount's bytes are the digits of its number
pub line-with : (w : ℕ) (l : List ℕ) (e : Entry) → entry_of l ≡ some e → line_with w e.serial (cents l) ≡ line_text w e.serial e.amount ++ (10 ∷ [])
unfolding line_with line_text cents
line-with w l e s = ap (λ (ds : List ℕ). (spell w e.serial ++ (59 ∷ w ∷ 59 ∷ ds)) ++ (10 ∷ [])) (read_is l e s).cents

-- a line that is converted, with those behind it
pub record Line (w : ℕ) (l : List ℕ) (c : Conversion) (u : List ℕ) : Type 0 where
  pub entry : Entry
  pub says : entry_of l ≡ some entry
  pub short : length l ≤ 64
  pub other : entry.letter ≡ w → ⊥
  pub behind : List ℕ
  pub rest : c ≡ output behind
  pub text : u ≡ line_with w entry.serial (cents l) ++ behind

pub line_of : (w n : ℕ) (l : List ℕ) (c : Conversion) (u : List ℕ) → line_converted w n l c ≡ output u → Line w l c u
unfolding line_converted
line_of w n l c u h = go (ltb 64 (length l)) refl (entry_of l) refl h
  where
    onto-of : (e : Entry) → entry_of l ≡ some e → length l ≤ 64 → (e.letter ≡ w → ⊥) → (c : Conversion) → onto (line_with w e.serial (cents l)) c ≡ output u → Line w l c u
    onto-of e s k o (refusal a b) h = no-refusal u a b h
    onto-of e s k o (output v) h =
        let z : line_with w e.serial (cents l) ++ v ≡ u = cc in
        record {
          entry = e;
          says = s;
          short = k;
          other = o;
          behind = v;
          rest = refl;
          text = sym z;
        }

    test : (e : Entry) → entry_of l ≡ some e → length l ≤ 64 → (b : Bool) → eqb e.letter w ≡ b
        → cond b (refusal 24 n) (onto (line_with w e.serial (cents l)) c) ≡ output u → Line w l c u
    test e s k true q h = no-refusal u 24 n h
    test e s k false q h = onto-of e s k (eqb-false e.letter w q) c h

    go : (b : Bool) → ltb 64 (length l) ≡ b → (o : Option Entry) → entry_of l ≡ o → cond b (refusal 20 n) (entry_converted w n l o c) ≡ output u → Line w l c u
    go true p o s h = no-refusal u 20 n h
    go false p none s h = no-refusal u 21 n h
    go false p (some e) s h = test e s (ltb-false 64 (length l) p) (eqb e.letter w) refl h

-- from what it says
pub line-to : (w n : ℕ) (l : List ℕ) (e : Entry) (t : List ℕ) → length l ≤ 64 → entry_of l ≡ some e → (e.letter ≡ w → ⊥)
    → line_converted w n l (output t) ≡ output (line_with w e.serial (cents l) ++ t)
unfolding line_converted
line-to w n l e t h s o = rw (le-ltb 64 (length l) h, s, ne_eqb e.letter w o)

-- ---- the two spellings

other-letter : (s : Spelling) (c : ℕ) → (c ≡ letter_h) ⊎ (c ≡ letter_d) → (c ≡ letter_of s → ⊥) → c ≡ letter_of (other s)
other-letter Hexadecimal c (inl e) n = absurd (n e)
other-letter Hexadecimal c (inr e) n = e
other-letter Decimal c (inl e) n = e
other-letter Decimal c (inr e) n = absurd (n e)

letters-apart : (s : Spelling) → letter_of s ≡ letter_of (other s) → ⊥
letters-apart Hexadecimal q = omega (arith, q)
letters-apart Decimal q = omega (arith, q)

is-letter : (s : Spelling) → (letter_of s ≡ letter_h) ⊎ (letter_of s ≡ letter_d)
is-letter Hexadecimal = inl refl
is-letter Decimal = inr refl

proper-in : (s : Spelling) (e : Entry) → Proper e → Proper (in_spelling s e)
proper-in s e p = record { letter = is-letter s; serial = p.serial; amount = p.amount }

-- a line respelled says the same in the other letter
respelt-says : (s : Spelling) (l : List ℕ) (e : Entry) → entry_of l ≡ some e → entry_of (line_text (letter_of s) e.serial e.amount) ≡ some (in_spelling s e)
respelt-says s l e h = read_back (in_spelling s e) (proper-in s e (read_is l e h).proper)

-- an output begins with the first line respelled
respelt-text : (s : Spelling) (l : List ℕ) (c : Conversion) (u : List ℕ) (r : Line (letter_of s) l c u) → u ≡ line_text (letter_of s) r.entry.serial r.entry.amount ++ (10 ∷ r.behind)
respelt-text s l c u r =
    r.text ∙ ap (λ (t : List ℕ). t ++ r.behind) (line-with (letter_of s) l r.entry r.says)
    ∙ append_assoc (line_text (letter_of s) r.entry.serial r.entry.amount) (10 ∷ []) r.behind

respelt-split : (s : Spelling) (l t : List ℕ) (e : Entry) → entry_of l ≡ some e
    → split_lines (line_text (letter_of s) e.serial e.amount ++ (10 ∷ t)) ≡ line_text (letter_of s) e.serial e.amount ∷ split_lines t
respelt-split s l t e h = split-front (line_text (letter_of s) e.serial e.amount) t (line-printed (in_spelling s e) (proper-in s e (read_is l e h).proper))

-- ---- there and back

module _ (s : Spelling) where
  -- the output begins with the line respelled, which is converted to the line
  step_back : (l t u : List ℕ) (m : ℕ) (e : Entry) → entry_of l ≡ some e → (e.letter ≡ letter_of s → ⊥)
      → convert_lines (letter_of (other s)) (suc m) (split_lines t) ≡ output u
      → convert_lines (letter_of (other s)) m (split_lines (line_text (letter_of s) e.serial e.amount ++ (10 ∷ t))) ≡ output (l ++ (10 ∷ u))
  unfolding convert_lines
  step_back l t u m e h n g =
      let i = read_is l e h in
      let x : List ℕ = line_text (letter_of s) e.serial e.amount in
      let p = proper-in s e i.proper in
      let c : e.letter ≡ letter_of (other s) = other-letter s e.letter i.proper.letter n in
      let k : line_text (letter_of (other s)) e.serial e.amount ≡ l = ap (λ (y : ℕ). line_text y e.serial e.amount) (sym c) ∙ sym i.text in
      let q = split-some t in
      ap (convert_lines (letter_of (other s)) m) (respelt-split s l t e h ∙ ap (λ (ls : List (List ℕ)). x ∷ ls) q.are)
      ∙ ap (λ (ls : List (List ℕ)). line_converted (letter_of (other s)) m x (convert_lines (letter_of (other s)) (suc m) ls)) (sym q.are)
      ∙ ap (line_converted (letter_of (other s)) m x) g
      ∙ line-to (letter_of (other s)) m x (in_spelling s e) u (line-short (in_spelling s e) p) (respelt-says s l e h) (letters-apart s)
      ∙ ap (λ (y : List ℕ). output (y ++ u)) (line-with (letter_of (other s)) x (in_spelling s e) (respelt-says s l e h) ∙ ap (λ (y : List ℕ). y ++ (10 ∷ [])) k)
      ∙ ap output (append_assoc l (10 ∷ []) u)

  end_back : (m : ℕ) → convert_lines (letter_of (other s)) m (split_lines []) ≡ output []
  unfolding convert_lines last_converted
  end_back m = ap (convert_lines (letter_of (other s)) m) split-nil

  lines-back : (ls : List (List ℕ)) (n m : ℕ) (u : List ℕ) → convert_lines (letter_of s) n ls ≡ output u → convert_lines (letter_of (other s)) m (split_lines u) ≡ output (joined ls)
  unfolding convert_lines last_converted joined
  lines-back [] n m u h = let z : [] ≡ u = cc in rw (← z) (end_back m)
  lines-back ([] ∷ []) n m u h = let z : [] ≡ u = cc in rw (← z) (end_back m)
  lines-back ((c ∷ l) ∷ []) n m u h = last-refused n c l u h
  lines-back (l ∷ k ∷ ls) n m u h =
      let r = line_of (letter_of s) n l (convert_lines (letter_of s) (suc n) (k ∷ ls)) u h in
      rw (respelt-text s l (convert_lines (letter_of s) (suc n) (k ∷ ls)) u r)
      (step_back l r.behind (joined (k ∷ ls)) m r.entry r.says r.other (lines-back (k ∷ ls) (suc n) (suc m) r.behind r.rest))

  file-back : (text out : List ℕ) → convert_file (letter_of s) text ≡ output out → convert_file (letter_of (other s)) out ≡ output text
  unfolding convert_file
  file-back text out h = lines-back (split_lines text) 1 1 out h ∙ ap output (joined-split text)

  -- an accepted conversion, and its output in front of the buffer
  record Accepted (text buffer : List ℕ) (n : ℕ) : Type 0 where
    pub out : List ℕ
    pub file : convert_file (letter_of s) text ≡ output out
    pub size : length out ≡ n
    pub bytes : (convert s text buffer).buffer ≡ out ++ drop (length out) buffer

  accepted : (text buffer : List ℕ) (n : ℕ) → (convert s text buffer).answer ≡ counted n → Accepted text buffer n
  unfolding convert
  accepted text buffer n h = go (convert_file (letter_of s) text) refl h
    where
      no : {A : Type 0} (k : ℕ) (vs : List ℕ) → refused k vs ≡ counted n → A
      no k vs e = absurd (let z : ◌≡◌ {A = ℕ} 0 1 = cc in omega arith)

      fits : (u : List ℕ) → convert_file (letter_of s) text ≡ output u → (b : Bool) → leb (length u) (length buffer) ≡ b
          → (cond b (left_buffer (u ++ drop (length u) buffer) (counted (length u))) (left_buffer buffer (refused 25 []))).answer ≡ counted n → Accepted text buffer n
      fits u e true q h =
          let z : length u ≡ n = cc in
          record { out = u; file = e; size = z; bytes = ap (λ (c : Conversion). (settled buffer c).buffer) e ∙ ap (λ (b : Bool). (cond b (left_buffer (u ++ drop (length u) buffer) (counted (length u))) (left_buffer buffer (refused 25 []))).buffer) q }
      fits u e false q h = no 25 [] h

      go : (c : Conversion) → convert_file (letter_of s) text ≡ c → (settled buffer c).answer ≡ counted n → Accepted text buffer n
      go (refusal k m) e h = no k (m ∷ []) h
      go (output u) e h = fits u e (leb (length u) (length buffer)) refl h

  -- "There and back must give the file byte for byte": what a conversion accepts, the other one takes back, into every buffer that is long enough
  pub there_and_back : (text buffer : List ℕ) (n : ℕ) → (convert s text buffer).answer ≡ counted n
      → (second : List ℕ) → length text ≤ length second
      → convert (other s) (take n (convert s text buffer).buffer) second ≡ left_buffer (text ++ drop (length text) second) (counted (length text))
  unfolding convert
  there_and_back text buffer n h second k =
      let a = accepted text buffer n h in
      let t : take n (convert s text buffer).buffer ≡ a.out = ap (take n) a.bytes ∙ take_at a.out (drop (length a.out) buffer) n a.size in
      ap (λ (x : List ℕ). settled second (convert_file (letter_of (other s)) x)) t ∙ ap (settled second) (file-back text a.out a.file)
      ∙ ap (λ (b : Bool). cond b (left_buffer (text ++ drop (length text) second) (counted (length text))) (left_buffer second (refused 25 []))) (le-leb (length text) (length second) k)

  -- ---- each card stays the same card

  lines_same : (ls : List (List ℕ)) (n : ℕ) (u : List ℕ) → convert_lines (letter_of s) n ls ≡ output u → cards_in u ≡ map (in_spelling s) (cards_of ls)
  unfolding convert_lines last_converted cards_of
  lines_same [] n u h = let z : [] ≡ u = cc in rw (← z) no-cards
  lines_same ([] ∷ []) n u h = let z : [] ≡ u = cc in rw (← z, no-entry) no-cards
  lines_same ((c ∷ l) ∷ []) n u h = last-refused n c l u h
  lines_same (l ∷ k ∷ ls) n u h =
      let r = line_of (letter_of s) n l (convert_lines (letter_of s) (suc n) (k ∷ ls)) u h in
      ap cards_in (respelt-text s l (convert_lines (letter_of s) (suc n) (k ∷ ls)) u r) ∙ ap cards_of (respelt-split s l r.behind r.entry r.says)
      ∙ rw (respelt-says s l r.entry r.says, r.says) (ap (λ (es : List Entry). in_spelling s r.entry ∷ es) (lines_same (k ∷ ls) (suc n) r.behind r.rest))

  -- "the serial is respelled": the output's cards are those of the file, serial by serial and amount by amount, in the wanted letter
  pub same-cards : (text out : List ℕ) → convert_file (letter_of s) text ≡ output out → cards_in out ≡ map (in_spelling s) (cards_in text)
  unfolding convert_file
  same-cards text out h = lines_same (split_lines text) 1 out h

-- ---- the lowest line decides

-- lines from number n on are refused with k at line m: that line is, and none below it
pub record Lowest (w n : ℕ) (ls : List (List ℕ)) (k m : ℕ) : Type 0 where
  pub place : ℕ
  pub number : m ≡ n + place
  pub fault : verdict_at w ls place ≡ some k
  pub lower : (j : ℕ) → j < place → verdict_at w ls j ≡ none

module _ (w : ℕ) where
  here : (n : ℕ) (ls : List (List ℕ)) (k a m : ℕ) → refusal a n ≡ refusal k m → verdict_at w ls 0 ≡ some a → Lowest w n ls k m
  here n ls k a m e h =
      let x : a ≡ k = cc in
      let y : n ≡ m = cc in
      record { place = 0; number = omega (arith, y); fault = h ∙ ap some x; lower = λ j l. absurd (omega arith) }

  not-output : {A : Type 0} (u : List ℕ) (k m : ℕ) → output u ≡ refusal k m → A
  not-output u k m e = no-refusal u k m (sym e)

  lines-lowest : (ls : List (List ℕ)) (n k m : ℕ) → convert_lines w n ls ≡ refusal k m → Lowest w n ls k m
  unfolding convert_lines last_converted line_converted verdict_at last_verdict verdict
  lines-lowest [] n k m h = not-output [] k m h
  lines-lowest ([] ∷ []) n k m h = not-output [] k m h
  lines-lowest ((c ∷ l) ∷ []) n k m h = go (ltb 64 (length (c ∷ l))) refl h
    where
      go : (b : Bool) → ltb 64 (length (c ∷ l)) ≡ b → cond b (refusal 20 n) (refusal 21 n) ≡ refusal k m → Lowest w n ((c ∷ l) ∷ []) k m
      go true q h = here n ((c ∷ l) ∷ []) k 20 m h (rw q)
      go false q h = here n ((c ∷ l) ∷ []) k 21 m h (rw q)
  lines-lowest (l ∷ x ∷ ls) n k m h = go (lines-lowest (x ∷ ls) (suc n) k m) (ltb 64 (length l)) refl (entry_of l) refl h
    where
      behind : verdict_at w (l ∷ x ∷ ls) 0 ≡ none → (t : List ℕ) (c : Conversion) → (c ≡ refusal k m → Lowest w (suc n) (x ∷ ls) k m) → onto t c ≡ refusal k m → Lowest w n (l ∷ x ∷ ls) k m
      behind v t (output u) f h = not-output (t ++ u) k m h
      behind v t (refusal a b) f h =
          let r = f h in
          record { place = suc r.place; number = omega (arith, r.number); fault = r.fault; lower = λ j i. below r j i }
        where
          below : (r : Lowest w (suc n) (x ∷ ls) k m) (j : ℕ) → j < suc r.place → verdict_at w (l ∷ x ∷ ls) j ≡ none
          below r zero i = v
          below r (suc j) i = r.lower j (omega arith)

      letter : (convert_lines w (suc n) (x ∷ ls) ≡ refusal k m → Lowest w (suc n) (x ∷ ls) k m) → (e : Entry) → ltb 64 (length l) ≡ false → entry_of l ≡ some e → (b : Bool) → eqb e.letter w ≡ b
          → cond b (refusal 24 n) (onto (line_with w e.serial (cents l)) (convert_lines w (suc n) (x ∷ ls))) ≡ refusal k m → Lowest w n (l ∷ x ∷ ls) k m
      letter f e q s true g h = here n (l ∷ x ∷ ls) k 24 m h (rw (q, s, g))
      letter f e q s false g h = behind (rw (q, s, g)) (line_with w e.serial (cents l)) (convert_lines w (suc n) (x ∷ ls)) f h

      go : (convert_lines w (suc n) (x ∷ ls) ≡ refusal k m → Lowest w (suc n) (x ∷ ls) k m) → (b : Bool) → ltb 64 (length l) ≡ b → (o : Option Entry) → entry_of l ≡ o
          → cond b (refusal 20 n) (entry_converted w n l o (convert_lines w (suc n) (x ∷ ls))) ≡ refusal k m → Lowest w n (l ∷ x ∷ ls) k m
      go f true q o s h = here n (l ∷ x ∷ ls) k 20 m h (rw q)
      go f false q none s h = here n (l ∷ x ∷ ls) k 21 m h (rw (q, s))
      go f false q (some e) s h = letter f e q s (eqb e.letter w) refl h

  -- "the lowest line decides": where a file is refused with k at line m, that line is refused with k by itself, and every lower one is converted
  pub lowest-line : (text : List ℕ) (k m : ℕ) → convert_file w text ≡ refusal k m → Lowest w 1 (split_lines text) k m
  unfolding convert_file
  lowest-line text k m h = lines-lowest (split_lines text) 1 k m h

  lines-fine : (ls : List (List ℕ)) (n : ℕ) (u : List ℕ) → convert_lines w n ls ≡ output u → (j : ℕ) → verdict_at w ls j ≡ none
  unfolding convert_lines last_converted verdict_at last_verdict verdict
  lines-fine [] n u h j = refl
  lines-fine ([] ∷ []) n u h zero = refl
  lines-fine ([] ∷ []) n u h (suc j) = refl
  lines-fine ((c ∷ l) ∷ []) n u h j = last-refused n c l u h
  lines-fine (l ∷ x ∷ ls) n u h zero =
      let r = line_of w n l (convert_lines w (suc n) (x ∷ ls)) u h in
      rw (le-ltb 64 (length l) r.short, r.says, ne_eqb r.entry.letter w r.other)
  lines-fine (l ∷ x ∷ ls) n u h (suc j) =
      let r = line_of w n l (convert_lines w (suc n) (x ∷ ls)) u h in
      lines-fine (x ∷ ls) (suc n) r.behind r.rest j

  -- "It converts all lines or none": an output is of a file whose every line is converted
  pub all_lines : (text u : List ℕ) → convert_file w text ≡ output u → (j : ℕ) → verdict_at w (split_lines text) j ≡ none
  unfolding convert_file
  all_lines text u h j = lines-fine (split_lines text) 1 u h j
