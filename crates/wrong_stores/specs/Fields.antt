-- Which field of the cut rule a wrong store breaks.
use Rattle.std.specs.Prelude.{ℕ, zero, suc, ◌<◌, ◌≡◌, refl, Bool, true, false, cond, ◌&&◌, List, [], ◌∷◌, length, get_or, T, eqb, ltb}
use Rattle.std.proofs.Common.{arith, sym, ap, ◌∙◌, inl, lit<, ltb-true}
use Rattle.spec.specs.Layout.{block_size, work_size, bitmap_block}
use Rattle.spec.specs.Bytes.{all, zeros}
use Rattle.spec.specs.Disk.{is_allowed, open-Disk}
use Rattle.spec.specs.Bitmap.{bytes_of, open-Bitmap}
use Rattle.spec.specs.Inode.{open-Inode}
use Rattle.spec.specs.Sound.{open-Sound}
use Rattle.spec.specs.Map.{open-Map}
use Rattle.spec.specs.Session.{opened, closed_on, open-Session}
use Rattle.spec.specs.declared.Phase.TheVariants.{Ready}
use Rattle.spec.specs.Answers.{Answer, refused}
use Rattle.spec.specs.Transaction.{State, open-Transaction}
use Rattle.spec.specs.Plan.{open-Plan}
use Rattle.spec.specs.Journal.{open-Journal}
use Rattle.spec.specs.Calls.{empty_bits, empty_disk, Create, Call, Open, Advance, Commit, Do, open-Calls}
use Rattle.spec.specs.CutRule.{Event, call, Starts, CutRule}
use Rattle.examples.specs.Lines.{told}
use Rattle.examples.specs.Table.{A}
use Rattle.wrong_stores.specs.Wrong.{Store, opens_all, counts_from_zero}

-- a device of this length, and a work space of that one
abbrev pub lent : ℕ → ℕ → State
lent device work = record { session = opened 64 Ready; device = record { size = device; block = λ b. [] }; work = record { size = work; block = λ i. [] } }

-- a refusal's number
abbrev number : Answer → ℕ
number a = get_or (told a) 1 0

-- `CutRule.refuses`: a device of a wrong length asks for 1, a work space of a wrong length for 2, so that one reply to both is wrong, whatever else the store does
pub one-reply-breaks-refuses : (w : Store) (a : Answer) → ((s : State) (c : Call) → (w s c).answer ≡ a) → CutRule w → ⊥
unfolding is_allowed open-Session
one-reply-breaks-refuses w a always rule =
    let first : a ≡ refused 1 [] = sym (always (lent 0 0) Commit) ∙ ap (λ o. o.answer) ((rule.refuses (lent 0 0) Commit).device (inl refl)) in
    let second : a ≡ refused 2 [] = sym (always (lent 32768 0) Commit) ∙ ap (λ o. o.answer) ((rule.refuses (lent 32768 0) Commit).work refl refl refl refl) in
    let z : ◌≡◌ {A = ℕ} 1 2 = ap number (sym first ∙ second) in
    absurd (omega (arith, z))

-- the same field: an open that tests nothing takes a device of a wrong length
pub opens-all-breaks-refuses : CutRule opens_all → ⊥
unfolding is_allowed
opens-all-breaks-refuses rule =
    let z : ◌≡◌ {A = ℕ} 0 1 = ap number (ap (λ o. o.answer) ((rule.refuses (lent 0 0) Open).device (inl refl))) in
    absurd (omega (arith, z))

-- ---- the fields of a list: a list starts on an empty device of 64 blocks

start : State
start =
    record {
      session = closed_on 64;
      device = record { size = 32768; block = empty_disk 64 };
      work = record { size = work_size; block = λ i. [] };
    }

left : (a b : Bool) → T (a && b) → a ≡ true
left true b h = refl
left false b h = absurd h

right : (a b : Bool) → T (a && b) → T b
right true b h = h
right false b h = absurd h

below : (xs : List ℕ) → T (all (λ x. ltb x 256) xs) → (i : ℕ) → get_or xs i 0 < 256
below [] h i = lit< tt
below (x ∷ xs) h zero = ltb-true x 256 (left (ltb x 256) (all (λ y. ltb y 256) xs) h)
below (x ∷ xs) h (suc i) = below xs (right (ltb x 256) (all (λ y. ltb y 256) xs) h) i

starts : Starts 64 start
unfolding start zeros empty_disk empty_bits bytes_of open-Disk open-Bitmap open-Inode open-Sound open-Journal
starts =
    record {
      fits = tt;
      blocks = refl;
      whole = λ n. whole (eqb n bitmap_block);
      bytes = λ n i. bytes (eqb n bitmap_block) i;
      is-sound = tt;
      unopened = inl refl;
    }
  where
    whole : (t : Bool) → length (cond t (bytes_of (empty_bits 64)) (zeros block_size)) ≡ 512
    whole true = refl
    whole false = refl

    bytes : (t : Bool) (i : ℕ) → get_or (cond t (bytes_of (empty_bits 64)) (zeros block_size)) i 0 < 256
    bytes true i = below (bytes_of (empty_bits 64)) tt i
    bytes false i = below (zeros block_size) tt i

-- E2 as a list: a file made, its commit, and the first of the four stores
abbrev events : List Event
events = call Open ∷ call (Do (Create A)) ∷ call Commit ∷ call Advance ∷ []

-- `Stores.answer`: the number is not d plus 1
pub counts-from-zero-breaks-answer : CutRule counts_from_zero → ⊥
unfolding start zeros open-Disk open-Bitmap open-Inode open-Sound open-Map open-Session open-Transaction open-Plan open-Journal open-Calls
counts-from-zero-breaks-answer rule =
    let it = (rule.survives 64 start starts events).calls.1.1.1.0.accepted refl in
    let z : ◌≡◌ {A = ℕ} 0 1 = ap (λ a. get_or (told a) 3 0) it.0.answer in
    absurd (omega (arith, z))
