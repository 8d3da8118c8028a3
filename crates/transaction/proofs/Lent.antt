-- The working copy of staged numbers that are lent.
use Rattle.std.specs.Prelude.{ℕ, ◌-◌, ◌≡◌, List, length, take, drop}
use native.Mathlib.Omega.{arith}
use Rattle.spec.specs.declared.Session.{Session}
use Rattle.spec.specs.Session.{staged_in}
use Rattle.spec.specs.Transaction.{state_of, view}
use Rattle.transaction.specs.Places.{view_in}
use Rattle.transaction.proofs.Laws.{staged-is, view_of}

-- it is the session's
pub view-lent : (s : Session) (device work : List ℕ) (n : ℕ) → length s.staged ≡ 32 → n ≡ length (staged_in s)
    → view_in (take (n - 0) (drop 0 s.staged)) device work ≡ view (state_of s device work)
view-lent s device work n h e =
    let z : n - 0 ≡ n = omega arith in
    rw z (view_of s device work _ (staged-is s h n e))
