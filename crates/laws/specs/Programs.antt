-- "A program that meets our promises and still loses a purse": any store that has the cut rule, over bytes, leaves along a run of the code what the code left (proofs/Programs.antt). Here: what a run leaves, and when it is over bytes. Assumes nothing.
use Rattle.std.specs.Prelude.{ℕ, ◌<◌, List, [], ◌∷◌, get_or}
use Rattle.spec.specs.Calls.{Outcome}
use Rattle.laws.specs.CallRuns.{Held, outcome_of, Act, called, was_cut, held_then}
use Rattle.laws.specs.Determined.{leaves}

-- what a list of bytes has, as every slice of u8
abbrev pub AreBytes : List ℕ → Type 0
AreBytes xs = (i : ℕ) → get_or xs i 0 < 256

-- at each moment of a run the device and the work space are bytes
abbrev pub RunOfBytes : Held → List Act → Type 0
RunOfBytes h [] = AreBytes h.device × AreBytes h.work
RunOfBytes h (a ∷ acts) = (AreBytes h.device × AreBytes h.work) × RunOfBytes (held_then h a) acts

-- what each call of a run left
abbrev pub left_by : List Act → List Outcome
left_by [] = []
left_by (called t ∷ acts) = leaves t.asked (outcome_of t) ∷ left_by acts
left_by (was_cut w ∷ acts) = left_by acts
