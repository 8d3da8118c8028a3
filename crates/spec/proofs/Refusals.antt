-- What holds of each number with its values holds of each refusal. Assumes nothing.
use Rattle.std.specs.Prelude.{ℕ, ◌≡◌, refl, true, List}
use Rattle.spec.specs.Answers.{Answer, refused, refusal_of, is_refused, Refusal, DeviceSize, WorkSize, BadName, TooLarge, BadHeader, NotReady, Unknown, Taken, NoInode, NoSpace, TooManyExtents, TooManyStaged, ListShort, DamagedInode, DamagedBlock}

pub of-refusal : (P : Answer → Type 0) → ((n : ℕ) (vs : List ℕ) → P (refused n vs)) → (r : Refusal) → P (refusal_of r)
of-refusal P f DeviceSize = f _ _
of-refusal P f WorkSize = f _ _
of-refusal P f BadName = f _ _
of-refusal P f TooLarge = f _ _
of-refusal P f (BadHeader i) = f _ _
of-refusal P f NotReady = f _ _
of-refusal P f Unknown = f _ _
of-refusal P f Taken = f _ _
of-refusal P f NoInode = f _ _
of-refusal P f NoSpace = f _ _
of-refusal P f TooManyExtents = f _ _
of-refusal P f TooManyStaged = f _ _
of-refusal P f ListShort = f _ _
of-refusal P f (DamagedInode i) = f _ _
of-refusal P f (DamagedBlock b) = f _ _

pub refused-is : (r : Refusal) → is_refused (refusal_of r) ≡ true
refused-is = of-refusal (λ a. is_refused a ≡ true) (λ n vs. refl)
