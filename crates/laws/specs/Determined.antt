-- The cut rule determines the store: any store that has it, over bytes, leaves after every call of every list what `step` leaves (proofs/Determined.antt). Here: what a call and a list leave, and what is over bytes. Assumes nothing.
use Rattle.std.specs.Prelude.{ℕ, ◌<◌, ◌≡◌, List, [], ◌∷◌, length, get_or}
use Rattle.spec.specs.Layout.{block_size}
use Rattle.spec.specs.Disk.{Slice}
use Rattle.spec.specs.Transaction.{State}
use Rattle.spec.specs.Calls.{Outcome, outcome, Call, Format, Open, Advance, Commit, Abort, Do, Ask}
use Rattle.spec.specs.CutRule.{Event, call, cut, Both, next, after}

-- ---- what a call leaves

-- answer, session, device and work space, and what a lent buffer and a lent list hold. Advance and the changes are lent neither, and the cut rule says nothing of
-- what an outcome would have in their place: it is left out.
abbrev pub leaves : Call → Outcome → Outcome
leaves Format o = o
leaves Open o = o
leaves Advance o = outcome o.after o.answer
leaves Commit o = o
leaves Abort o = o
leaves (Do c) o = outcome o.after o.answer
leaves (Ask q) o = o

-- ---- a list

-- what each call of a list leaves, in order
module _ (S : State → Call → Outcome) where
  abbrev pub left_along : ℕ → Both → List Event → List Outcome
  left_along N b [] = []
  left_along N b (call c ∷ es) = leaves c (S b.store c) ∷ left_along N (next S N b (call c)) es
  left_along N b (cut w ∷ es) = left_along N (next S N b (cut w)) es

-- two stores do the same along a list: what each call leaves, and store and plain store at the end (of every part of it, so at every moment)
pub record Same (S R : State → Call → Outcome) (N : ℕ) (b : Both) (es : List Event) : Type 0 where
  pub calls : left_along S N b es ≡ left_along R N b es
  pub ends : after S N b es ≡ after R N b es

-- ---- the claim determines the store

-- as every byte slice has: blocks of 512 bytes, each byte below 256. The model's blocks are lists of numbers, and the sentences say nothing of others.
pub record IsBytes (x : Slice) : Type 0 where
  pub whole : (n : ℕ) → length (x.block n) ≡ block_size
  pub bytes : (n i : ℕ) → get_or (x.block n) i 0 < 256

pub record OverBytes (b : Both) : Type 0 where
  pub device : IsBytes b.store.device
  pub work : IsBytes b.store.work
