-- Each call keeps the invariant and is answered rightly (proofs/Steps.antt). Here: what it is to keep it, how a settled device and one with a log open, and what a store of a recovery answers.
use Rattle.std.specs.Prelude.{ℕ, suc, ◌+◌, ◌<◌, ◌≡◌, refl, Bool, true, false, cond, List, [], ◌∷◌, ◌++◌, eqb, length, get_or}
use Rattle.std.proofs.Common.{ap, ◌∙◌, length-append, not-suc-le-zero, arith}
use Rattle.std.proofs.Math.Option.{some}
use Rattle.spec.specs.Disk.{Disk, Slice}
use Rattle.spec.specs.Map.{Files}
use Rattle.spec.specs.declared.Phase.TheVariants.{Ready, Recovering}
use Rattle.spec.specs.declared.Session.{Session}
use Rattle.spec.specs.Session.{opened, closed_on}
use Rattle.spec.specs.Answers.{done, stored, is_refused, accept}
use Rattle.spec.specs.Transaction.{State, BlockStore}
use Rattle.spec.specs.Journal.{clearing, recovery_stores}
use Rattle.spec.specs.Calls.{outcome, lent_ok, Call, Open, Advance, step}
use Rattle.spec.specs.Plain.{Plain, accepted}
use Rattle.spec.specs.CutRule.{Both, Accepted}
use Rattle.logs.specs.Stores.{upd, blank, element-at, targets_of}
use Rattle.crash.specs.Interface.{FilesOn}
use Rattle.crash.specs.Tests.{Answered}
use Rattle.crash.specs.Machine.{ses, at, open-clear, open-log, perform-is, advance-recover, recovery-stores}
use Rattle.crash.specs.Invariant.{taken-are, Settled, Logged, Inv, log-read, log-right, log-redo, settled-read, settled-right, settled-volume}

abbrev pub both : State → Plain → Both
both s p = record { store = s; plain = p }

-- ---- calls

module _ {N : ℕ} (F : FilesOn N) where
  -- an accepted call: its outcome is as the cut rule says, and the invariant holds behind it
  pub record Keeps (b : Both) (c : Call) : Type 0 where
    pub accepts : Accepted N b c (step b.store c)
    pub answer : is_refused (step b.store c).answer ≡ false
    pub inv : Inv F (step b.store c).after (accepted N b.plain c (step b.store c).answer)

  abbrev pub Goes : Both → Call → Type 0
  Goes b c = Answered N b c (Keeps b c)

  -- ---- format and open

  module _ (n : Session) (v : Disk) (w : Slice) (c : Files) where
    -- a settled device opens ready
    pub opens-clear : Settled F v c → step (at N n v w) Open ≡ outcome (at N (opened N Ready) v w) done
    opens-clear z =
        open-clear N F.fewest F.most n v w (settled-right F v c z) (settled-read F v c z) (settled-volume F v c z)

    pub first_of : (l : List BlockStore) → 0 < length l → (t : ℕ) × (ts : List ℕ) × (targets_of l ≡ t ∷ ts)
    first_of [] h = absurd (not-suc-le-zero h)
    first_of (e ∷ l) h = (e.block, targets_of l, refl)

    -- one with a log opens recovering
    pub opens-log : (l : List BlockStore) → Logged F l v c → step (at N n v w) Open ≡ outcome (at N (opened N (Recovering 0)) v w) done
    opens-log l g =
        let f = first_of l g.taken.some in
        open-log N F.fewest F.most n v w (log-right F l v c g) f.0 f.1 (log-read F l v c g ∙ f.2)

  -- ---- recovering: "k targets in record order and the clearing"

  module _ (l : List BlockStore) (v : Disk) (w : Slice) (c : Files) (g : Logged F l v c) where
    pub recovery : recovery_stores N v ≡ l ++ clearing
    recovery = recovery-stores N v l (log-read F l v c g) (taken-are N l g.taken) (log-redo F l v c g)

    pub length-recovery : length (recovery_stores N v) ≡ length l + 1
    length-recovery = ap length recovery ∙ length-append l clearing

    pub recover-is : (n : ℕ) (e : BlockStore) (t : Bool) → lent_ok (at N (ses N (Recovering n) []) v w) ≡ accept true → n < length l + 1
        → get_or (l ++ clearing) n blank ≡ e → eqb (suc n) (length l + 1) ≡ t
        → step (at N (ses N (Recovering n) []) v w) Advance ≡ outcome (at N (cond t (closed_on N) (ses N (Recovering (suc n)) [])) (upd e v) w) (stored e.block t (suc n))
    recover-is n e t a k q u =
        advance-recover N n [] v w a
        ∙ perform-is (at N (ses N (Recovering n) []) v w) (recovery_stores N v) n (ses N (Recovering (suc n)) []) (closed_on N) e
        (element-at (recovery_stores N v) n blank (omega (arith, length-recovery)) ∙ ap some (ap (λ (x : List BlockStore). get_or x n blank) recovery ∙ q))
        ∙ ap (λ b. outcome (at N (cond b (closed_on N) (ses N (Recovering (suc n)) [])) (upd e v) w) (stored e.block b (suc n))) (ap (eqb (suc n)) length-recovery ∙ u)
