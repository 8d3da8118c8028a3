-- A step over a text's lines moves on and stays within the text. Assumes nothing.
use Prim.Native.Nat.{ℕ, ◌-◌, ◌<◌}
use mathlib.Core.Path.{◌≡◌, refl}
use mathlib.Core.Bool.{Bool, true, false, cond}
use mathlib.Core.List.{List}
use native.Mathlib.Omega.{arith}
use lib.ListN.{length, drop}
use lib.Dec.{leb}
use borrow.Author.Tests.{leb-false}
use Rattle.std.specs.Prelude.{Option, Some, None, Result, Ok, Err}
use Rattle.cardfile.specs.Lines.{nothing, standing_in, standing, line_told, line_at}
use Rattle.cardfile.specs.declared.Line.{Line}
use Rattle.cardfile.specs.declared.LineFault.{LineFault}
use Rattle.cardfile.specs.Steps.{line_shown}
use Rattle.cardfile.proofs.Places.{stands, found_at}

module _ (text : List ℕ) (at : ℕ) where
  shown-inside : (r : Result Line LineFault) → line_shown (line_at text at) ≡ Some r → at < length text
  unfolding standing
  shown-inside r h = go (leb (length text) at) refl h
    where
      go : (b : Bool) → leb (length text) at ≡ b → line_shown (line_told (cond b nothing (standing_in (drop at text) at))) ≡ Some r → at < length text
      go true q h = cc
      go false q h = leb-false (length text) at q

  pub shown-line : (x : Line) → line_shown (line_at text at) ≡ Some (Ok x) → line_at text at ≡ Ok (Some x)
  shown-line x h = go (line_at text at) h
    where
      go : (r : Result (Option Line) LineFault) → line_shown r ≡ Some (Ok x) → r ≡ Ok (Some x)
      go (Ok (Some y)) e = cc
      go (Ok None) e = cc
      go (Err f) e = cc

  pub shown-fault : (f : LineFault) → line_shown (line_at text at) ≡ Some (Err f) → line_at text at ≡ Err f
  shown-fault f h = go (line_at text at) h
    where
      go : (r : Result (Option Line) LineFault) → line_shown r ≡ Some (Err f) → r ≡ Err f
      go (Ok (Some y)) e = cc
      go (Ok None) e = cc
      go (Err g) e = cc

  pub shown-none : line_shown (line_at text at) ≡ None → line_at text at ≡ Ok None
  shown-none h = go (line_at text at) h
    where
      go : (r : Result (Option Line) LineFault) → line_shown r ≡ None → r ≡ Ok None
      go (Ok (Some y)) e = cc
      go (Ok None) e = refl
      go (Err g) e = cc

  -- where the next line is looked for: behind this one, or at the end
  pub goes-on : (r : Result Line LineFault) (next : ℕ) → line_shown (line_at text at) ≡ Some r → ((x : Line) → r ≡ Ok x → next ≡ x.next) → ((f : LineFault) → r ≡ Err f → next ≡ length text)
      → length text - next < length text - at
  goes-on (Err f) next h k m = let a = shown-inside (Err f) h in let b = m f refl in omega arith
  goes-on (Ok x) next h k m =
      let f = found_at text at x (shown-line x h) in
      let s = stands text at f.entry x.next f.is in
      let b = k x refl in
      omega (arith, s.feed, s.inside)
