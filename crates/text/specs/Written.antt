-- Text laid over bytes.
use Rattle.std.specs.Prelude.{ℕ, zero, suc, ◌+◌, ◌-◌, min, ◌≡◌, List, [], ◌∷◌, length}
use Rattle.spec.specs.Listing.{decimal}
use Rattle.text.specs.declared.Writer.{Writer}

-- the bytes with a text over them from a place on, as far as they reach
unfoldable pub laid : List ℕ → ℕ → List ℕ → List ℕ
laid [] at text = []
laid (x ∷ xs) zero [] = x ∷ xs
laid (x ∷ xs) zero (t ∷ ts) = t ∷ laid xs zero ts
laid (x ∷ xs) (suc at) text = x ∷ laid xs at text

-- the bytes `after` are those of `out` with a text from a place on, and p is the place behind what was written of it
pub record Written (out : List ℕ) (at : ℕ) (text after : List ℕ) (p : ℕ) : Type 0 where
  pub bytes : after ≡ laid out at text
  pub place : p ≡ at + min (length text) (length out - at)

-- a writer with a text more
pub record Put (w w' : Writer) (text : List ℕ) : Type 0 where
  pub same : w'.out.ghost_name ≡ w.out.ghost_name
  pub written : Written w.out.now w.at text w'.out.now w'.at

-- a number in decimal
unfoldable pub number : ℕ → List ℕ
number n = decimal n
