-- Where a load may begin: behind every open that gives a ready session; on an empty store of every size, and again behind a cut: proofs/Begins.antt. Assumes nothing.
use Rattle.std.specs.Prelude.{ℕ, ◌+◌, ◌*◌, ◌≡◌, refl, Bool, true, false, cond, ◌&&◌, List, ◌∷◌, T, eqb, replicate}
use Rattle.std.proofs.Common.{sym, ap, ap₂, ◌∙◌, eq-eqb}
use Rattle.spec.specs.declared.Phase.TheVariants.{Ready}
use Rattle.spec.specs.declared.Refusal.TheVariants.{DeviceSize, WorkSize}
use Rattle.spec.specs.Layout.{block_size, work_size}
use Rattle.spec.specs.Disk.{Slice, is_allowed}
use Rattle.spec.specs.Session.{opened, staged_in}
use Rattle.spec.specs.Answers.{done, is_refused, require, ◌>>◌}
use Rattle.spec.specs.Transaction.{with_session}
use Rattle.spec.specs.Calls.{Outcome, outcome, lent_ok, Open, Advance, step}
use Rattle.spec.specs.Plain.{phase_in, Mode}
use Rattle.spec.specs.CutRule.{Event, call, cut, Both, next}
use Rattle.promises.specs.Reached.{Reached, reached-next, moment-of, rightly-of}
use Rattle.loadlaws.specs.Maps.{Idle}

true_of : (t : Bool) → T t → t ≡ true
true_of true h = refl
true_of false h = absurd h

-- a device of a list has an allowed length
allowed : (N : ℕ) (b : Both) → Reached N b → is_allowed (block_size * N) ≡ true
allowed N b r = ap is_allowed (sym r.starts.blocks) ∙ true_of (is_allowed r.start.device.size) r.starts.fits

-- behind an open that gives a ready session, lent a work space of 16,384 bytes
pub ready-idle : (N : ℕ) (b : Both) → Reached N b → b.store.work.size ≡ work_size → step b.store Open ≡ outcome (with_session b.store (opened N Ready)) done
    → Idle N (next step N b (call Open))
unfolding lent_ok staged_in
ready-idle N b r w o =
    let size = (moment-of N b r).size in
    let fits : (is_allowed b.store.device.size && eqb (block_size * N) b.store.device.size) ≡ true =
    ap (λ (n : ℕ). is_allowed n && eqb (block_size * N) n) size ∙ ap₂ ◌&&◌ (allowed N b r) (eq-eqb (block_size * N) (block_size * N) refl) in
    let room : eqb b.store.work.size work_size ≡ true = ap (λ (n : ℕ). eqb n work_size) w in
    record {
      reached = reached-next N b (call Open) r;
      lent = (true, ap (λ (x : Outcome). lent_ok x.after) o ∙ ap₂ (λ (s t : Bool). require s DeviceSize >> require t WorkSize) fits room);
      ready = ap (λ (x : Outcome). x.after.session.phase) o;
      bare = ap (λ (x : Outcome). staged_in x.after.session) o;
    }

-- behind an open with no log pending
pub open-idle : (N : ℕ) (b : Both) → Reached N b → b.store.work.size ≡ work_size → b.plain.pending ≡ false → is_refused (step b.store Open).answer ≡ false
    → Idle N (next step N b (call Open))
open-idle N b r w p h =
    ready-idle N b r w
    ((rightly-of N b r Open).accepted h ∙ ap (λ (t : Bool). outcome (with_session b.store (opened N (phase_in (cond t Mode.Recovering Mode.Ready) 0))) done) p)

-- the list of a cut, its open, and the advances of the recovery where a log is pending
abbrev pub recovery : Both → Slice → List Event
recovery b w = cut w ∷ call Open ∷ replicate (cond b.plain.pending (b.plain.k + 1) 0) (call Advance)
