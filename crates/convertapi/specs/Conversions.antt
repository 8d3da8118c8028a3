-- A conversion's answer in the numbers in which it crosses to C.
use Rattle.std.specs.Prelude.{ℕ, ◌≡◌, List}
use Rattle.spec.specs.Answers.{Answer, refusal_number, count_of}
use Rattle.mirror.specs.Mirror.{fault_in}
use Rattle.converter.specs.Convert.{ConvertOutcome}
use Rattle.convertapi.specs.declared.CConverted.{CConverted}

-- the refusal's number, 0 where the file is converted; the line that it names, counted from 1, 0 where it names none; the output's length: "A refusal gives count 0
-- where a count is due"
abbrev pub converted_numbers : Answer → CConverted
converted_numbers a = record { refusal = refusal_number a; line = fault_in a; length = count_of a }

-- of a refusal
abbrev pub refused_numbers : ℕ → ℕ → CConverted
refused_numbers n line = record { refusal = n; line = line; length = 0 }

-- the form of the promise: what is returned is the answer in numbers, and every byte of the lent buffer is the outcome's
pub record Converts (r : CConverted) (after : List ℕ) (o : ConvertOutcome) : Type 0 where
  pub answer : r ≡ converted_numbers o.answer
  pub buffer : after ≡ o.buffer
