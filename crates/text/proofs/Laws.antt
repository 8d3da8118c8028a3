-- Laws of text laid over bytes. Assumes nothing.
use Prim.Native.Nat.{ℕ, zero, suc, ◌+◌, ◌-◌, ◌*◌, ◌^◌, ◌<◌, ◌≤◌, ◌/◌, ◌%◌, min}
use mathlib.Core.Path.{◌≡◌, refl, sym, ap, ◌∙◌}
use mathlib.Core.List.{List, [], ◌∷◌, ◌++◌}
use native.Mathlib.Omega.{arith}
use lib.ListN.{length, set, take, drop, get_or, length-append}
use borrow.Author.Tests.{ltb-true, ltb-false, lt-ltb}
use Rattle.std.specs.Prelude.{Bool, true, false, ltb}
use Rattle.std.specs.Fmt.{decimal}
use Rattle.std.proofs.lemmas.Fmt.{decimal_digit, decimal_step}
use Rattle.spec.specs.Listing.{digits, hexadecimal}
use Rattle.text.specs.declared.Writer.{Writer}
use Rattle.text.specs.Written.{laid, Written, Put, number}

pub length-laid : (out : List ℕ) (at : ℕ) (text : List ℕ) → length (laid out at text) ≡ length out
unfolding laid
length-laid [] at text = refl
length-laid (x ∷ xs) zero [] = refl
length-laid (x ∷ xs) zero (t ∷ ts) = ap suc (length-laid xs zero ts)
length-laid (x ∷ xs) (suc at) text = ap suc (length-laid xs at text)

laid_none : (out : List ℕ) (at : ℕ) → laid out at [] ≡ out
unfolding laid
laid_none [] at = refl
laid_none (x ∷ xs) zero = refl
laid_none (x ∷ xs) (suc at) = ap (λ (l : List ℕ). x ∷ l) (laid_none xs at)

laid-join : (out : List ℕ) (at : ℕ) (a b : List ℕ) (p : ℕ) → p ≡ at + min (length a) (length out - at) → laid (laid out at a) p b ≡ laid out at (a ++ b)
unfolding laid
laid-join [] at a b p h = refl
laid-join (x ∷ xs) zero [] b p h = let z : p ≡ 0 = omega arith in rw z
laid-join (x ∷ xs) zero (t ∷ ts) b p h =
    let z : p ≡ suc (0 + min (length ts) (length xs - 0)) = omega arith in
    rw z (ap (λ (l : List ℕ). t ∷ l) (laid-join xs zero ts b (0 + min (length ts) (length xs - 0)) refl))
laid-join (x ∷ xs) (suc at) a b p h =
    let z : p ≡ suc (at + min (length a) (length xs - at)) = omega arith in
    rw z (ap (λ (l : List ℕ). x ∷ l) (laid-join xs at a b (at + min (length a) (length xs - at)) refl))

-- the places behind a text of x bytes and one of m bytes, in n bytes
stop-join : (at x m n p : ℕ) → p ≡ at + min x (n - at) → p + min m (n - p) ≡ at + min (x + m) (n - at)
stop-join at x m n p h = omega arith

-- ---- a text, and another behind it

pub written_none : (out : List ℕ) (at : ℕ) → Written out at [] out at
written_none out at = record { bytes = sym (laid_none out at); place = omega arith }

module _ (out : List ℕ) (at : ℕ) (a mid : List ℕ) (p : ℕ) (h : Written out at a mid p) where
  pub written_then : (b after : List ℕ) (q : ℕ) → Written mid p b after q → Written out at (a ++ b) after q
  written_then b after q g =
      let l : length mid ≡ length out = ap length h.bytes ∙ length-laid out at a in
      record {
        bytes = g.bytes ∙ ap (λ (m : List ℕ). laid m p b) h.bytes ∙ laid-join out at a b p h.place;
        place = g.place ∙ ap (λ (k : ℕ). p + min (length b) (k - p)) l ∙ stop-join at (length a) (length b) (length out) p h.place ∙ ap (λ (k : ℕ). at + min k (length out - at)) (sym (length-append a b));
      }

-- a text from the front on: the bytes hold as much of it as they can, and are unchanged behind it
pub laid-front : (out text : List ℕ) → laid out 0 text ≡ take (length out) text ++ drop (length text) out
unfolding laid
laid-front [] [] = refl
laid-front [] (t ∷ ts) = refl
laid-front (x ∷ xs) [] = refl
laid-front (x ∷ xs) (t ∷ ts) = ap (λ (l : List ℕ). t ∷ l) (laid-front xs ts)

-- ---- one byte

set-laid : (out : List ℕ) (at x : ℕ) → set out at x ≡ laid out at (x ∷ [])
unfolding laid
set-laid [] at x = refl
set-laid (y ∷ ys) zero x = ap (λ (l : List ℕ). x ∷ l) (sym (laid_none ys zero))
set-laid (y ∷ ys) (suc at) x = ap (λ (l : List ℕ). y ∷ l) (set-laid ys at x)

past-laid : (out : List ℕ) (at : ℕ) (text : List ℕ) → length out ≤ at → laid out at text ≡ out
unfolding laid
past-laid [] at text h = refl
past-laid (x ∷ xs) zero text h = absurd (omega arith)
past-laid (x ∷ xs) (suc at) text h = ap (λ (l : List ℕ). x ∷ l) (past-laid xs at text (omega arith))

module _ (out : List ℕ) (at x : ℕ) where
  pub written_byte : at < length out → Written out at (x ∷ []) (set out at x) (at + 1)
  written_byte h = record { bytes = set-laid out at x; place = omega arith }

  pub written-past : length out ≤ at → Written out at (x ∷ []) out at
  written-past h = record { bytes = sym (past-laid out at (x ∷ []) h); place = omega arith }

-- ---- a writer

pub put_none : (w : Writer) → Put w w []
put_none w = record { same = refl; written = written_none _ _ }

pub put_then : (w w' : Writer) (a : List ℕ) → Put w w' a → (w'' : Writer) (b : List ℕ) → Put w' w'' b → Put w w'' (a ++ b)
put_then w w' a p w'' b q = record { same = q.same ∙ p.same; written = written_then _ _ _ _ _ p.written _ _ _ q.written }

pub put_as : (w w' : Writer) (a b : List ℕ) → Put w w' a → a ≡ b → Put w w' b
put_as w w' a b p e = rw e at p

-- what a writer made of lent bytes leaves in them
pub lent-written : (out after : List ℕ) (w w' : Writer) (text : List ℕ) → w.out.now ≡ out → w.at ≡ 0 → Put w w' text → after ≡ w'.out.now → Written out 0 text after w'.at
lent-written out after w w' text e f p g = rw (g, ← e, ← f) p.written

-- ---- a text written by and by: what is left of it leads to the same end

pub record Left (w₀ : Writer) (whole : List ℕ) (w : Writer) (rest : List ℕ) : Type 0 where
  pub same : w.out.ghost_name ≡ w₀.out.ghost_name
  pub bytes : laid w.out.now w.at rest ≡ laid w₀.out.now w₀.at whole
  pub place : w.at + min (length rest) (length w.out.now - w.at) ≡ w₀.at + min (length whole) (length w₀.out.now - w₀.at)

pub left-start : (w : Writer) (whole rest : List ℕ) → rest ≡ whole → Left w whole w rest
left-start w whole rest e = rw e (record { same = refl; bytes = refl; place = refl })

module _ (w₀ : Writer) (whole : List ℕ) (w : Writer) (rest : List ℕ) (h : Left w₀ whole w rest) where
  pub left_step : (x more : List ℕ) (w' : Writer) → rest ≡ x ++ more → Put w w' x → Left w₀ whole w' more
  left_step x more w' e p =
      let g = p.written in
      let l : length w'.out.now ≡ length w.out.now = ap length g.bytes ∙ length-laid w.out.now w.at x in
      let n : length rest ≡ length x + length more = ap length e ∙ length-append x more in
      record {
        same = p.same ∙ h.same;
        bytes =
            ap (λ (m : List ℕ). laid m w'.at more) g.bytes ∙ laid-join w.out.now w.at x more w'.at g.place
            ∙ ap (laid w.out.now w.at) (sym e) ∙ h.bytes;
        place =
            ap (λ (k : ℕ). w'.at + min (length more) (k - w'.at)) l ∙ stop-join w.at (length x) (length more) (length w.out.now) w'.at g.place
            ∙ ap (λ (k : ℕ). w.at + min k (length w.out.now - w.at)) (sym n) ∙ h.place;
      }

  pub left_end : rest ≡ [] → Put w₀ w whole
  left_end e =
      record {
        same = h.same;
        written = record {
          bytes = sym (laid_none w.out.now w.at) ∙ ap (laid w.out.now w.at) (sym e) ∙ h.bytes;
          place = let z : length rest ≡ 0 = ap length e in omega (arith, h.place);
        };
      }

-- ---- digits

-- what std writes of a number below 10 ^ most, most above 0, are its digits
digits-are : (most n : ℕ) → n < 10 ^ suc most → n < 2 ^ 64 → decimal n ≡ digits (suc most) n
digits-are zero n h w = let l : n < 10 = omega arith in rw (lt-ltb n 10 l) (decimal_digit n l)
digits-are (suc k) n h w = go (ltb n 10) refl (λ l. digits-are k (n / 10) (omega arith) (omega arith))
  where
    go : (t : Bool) → ltb n 10 ≡ t → (10 ≤ n → decimal (n / 10) ≡ digits (suc k) (n / 10)) → decimal n ≡ digits (suc (suc k)) n
    go true e f = rw e (decimal_digit n (ltb-true n 10 e))
    go false e f = let l = ltb-false n 10 e in rw e (decimal_step n l w ∙ ap (λ (d : List ℕ). d ++ ((48 + n % 10) ∷ [])) (f l))

pub number-are : (n : ℕ) → n < 2 ^ 64 → decimal n ≡ number n
unfolding number
number-are n w = digits-are 19 n (omega arith) w

-- the next of some bytes
pub next-byte : (xs : List ℕ) (k : ℕ) → k < length xs → drop k xs ≡ get_or xs k 0 ∷ drop (k + 1) xs
next-byte [] k h = absurd (omega arith)
next-byte (x ∷ xs) zero h = refl
next-byte (x ∷ xs) (suc k) h = let z : suc k + 1 ≡ suc (k + 1) = omega arith in rw z (next-byte xs k (omega arith))

-- two digits for each byte
pub length-hex : (xs : List ℕ) → length (hexadecimal xs) ≡ 2 * length xs
length-hex [] = refl
length-hex (x ∷ xs) = omega (arith, length-hex xs)
