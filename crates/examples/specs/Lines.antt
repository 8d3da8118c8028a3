-- The form of the table of examples: a row is a list of lines, each a call with what it must give or a fact about the state reached.
use Rattle.std.specs.Prelude.{ℕ, suc, ◌*◌, Bool, true, false, ◌&&◌, List, [], ◌∷◌, length, replicate}
use Rattle.spec.specs.Layout.{block_size, work_size}
use Rattle.spec.specs.Bytes.{part, same}
use Rattle.spec.specs.Disk.{with_block}
use Rattle.spec.specs.Session.{never_opened, staged_in}
use Rattle.spec.specs.Answers.{Answer, refused, done, started, stored, idle, counted, file, no_file, run, no_run}
use Rattle.spec.specs.Transaction.{State, view}
use Rattle.spec.specs.Calls.{Outcome, Call, Advance}
use Rattle.spec.specs.Listing.{text_of}

pub data Line : Type 0 where
  -- a call and what it answers
  gives : Call → Answer → Line
  -- the same, and what it leaves in the lent buffer
  fills : Call → Answer → List ℕ → Line
  -- a cut, with a work space of 3s after it
  cuts : Line
  -- a block of the device written from outside
  tampers : ℕ → List ℕ → Line
  -- bytes of a block from a place on, on the device and in the working copy
  device working : ℕ → ℕ → List ℕ → Line
  -- the staged blocks, in the order of their images
  stages : List ℕ → Line
  -- what purselist prints for the device
  prints : List ℕ → Line

-- lines from a device of so many blocks on
pub record Row : Type 0 where
  pub blocks : ℕ
  pub lines : List Line

abbrev pub row : ℕ → List Line → Row
row N ls = record { blocks = N; lines = ls }

-- a session never opened, a device of N blocks of 7s, a work space of 9s
abbrev pub fresh : ℕ → State
fresh N =
    record {
      session = never_opened;
      device = record { size = block_size * N; block = λ b. replicate block_size 7 };
      work = record { size = work_size; block = λ i. replicate block_size 9 };
    }

abbrev pub after_cut : State → State
after_cut s =
    record { session = never_opened; device = s.device; work = record { size = work_size; block = λ i. replicate block_size 3 } }

abbrev pub tampered : State → ℕ → List ℕ → State
tampered s b x =
    record {
      session = s.session;
      device = record { size = s.device.size; block = with_block b x s.device.block };
      work = s.work;
    }

-- an answer as numbers, by which two are compared
abbrev pub one_if : Bool → ℕ
one_if true = 1
one_if false = 0

abbrev pub told : Answer → List ℕ
told (refused n vs) = 0 ∷ n ∷ vs
told done = 1 ∷ []
told (started n) = 2 ∷ n ∷ []
told (stored b l n) = 3 ∷ b ∷ one_if l ∷ n ∷ []
told idle = 4 ∷ []
told (counted n) = 5 ∷ n ∷ []
told (file x n) = 6 ∷ n ∷ x
told no_file = 7 ∷ []
told (run e) = 8 ∷ e.first ∷ e.count ∷ []
told no_run = 9 ∷ []

abbrev pub same_answer : Answer → Answer → Bool
same_answer a b = same (told a) (told b)

-- what comes after a test is looked at only where it passed
abbrev pub then : Bool → Bool → Bool
then true rest = rest
then false rest = false

-- of any store: a wrong one can be tried in its place
module _ (step : State → Call → Outcome) where
  -- the lines hold, one after the other, from a state on
  abbrev pub hold : State → List Line → Bool
  hold s [] = true
  hold s (gives c a ∷ ls) = let o = step s c in then (same_answer o.answer a) (hold o.after ls)
  hold s (fills c a buffer ∷ ls) =
      let o = step s c in
      then (same_answer o.answer a && same o.buffer buffer) (hold o.after ls)
  hold s (cuts ∷ ls) = hold (after_cut s) ls
  hold s (tampers b x ∷ ls) = hold (tampered s b x) ls
  hold s (device b at xs ∷ ls) = then (same (part at (length xs) (s.device.block b)) xs) (hold s ls)
  hold s (working b at xs ∷ ls) = then (same (part at (length xs) (view s b)) xs) (hold s ls)
  hold s (stages bs ∷ ls) = then (same (staged_in s.session) bs) (hold s ls)
  hold s (prints text ∷ ls) = then (same (text_of s.device) text) (hold s ls)

  abbrev pub holds : Row → Bool
  holds r = hold (fresh r.blocks) r.lines

  abbrev pub all_hold : List Row → Bool
  all_hold [] = true
  all_hold (r ∷ rs) = then (holds r) (all_hold rs)

-- advances that store to these blocks, from number n on, to the last of them
abbrev pub stores_to : ℕ → List ℕ → List Line
stores_to n [] = []
stores_to n (b ∷ []) = gives Advance (stored b true n) ∷ []
stores_to n (b ∷ c ∷ bs) = gives Advance (stored b false n) ∷ stores_to (suc n) (c ∷ bs)
