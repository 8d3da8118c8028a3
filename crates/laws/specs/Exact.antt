-- Refusals off the list: on any state with a sound view they are given exactly where document 01 says so. Assumes nothing.
use Rattle.std.specs.Prelude.{ℕ, ◌*◌, ◌<◌, ◌≡◌, refl, Bool, true, false, ◌&&◌, T, eqb, length, get_or}
use Rattle.std.proofs.Common.{sym, arith, eqb-true}
use Rattle.spec.specs.Layout.{block_size}
use Rattle.spec.specs.Bytes.{all, distinct}
use Rattle.spec.specs.Disk.{is_allowed, is_target}
use Rattle.spec.specs.Sound.{volume_sound}
use Rattle.spec.specs.Session.{staged_in}
use Rattle.spec.specs.declared.Refusal.{Refusal}
use Rattle.spec.specs.declared.Refusal.TheVariants.{DeviceSize}
use Rattle.spec.specs.Answers.{Result, refuse, accept}
use Rattle.spec.specs.Transaction.{State, view}
use Rattle.spec.specs.Calls.{lent_ok, Call, Format, Open, Advance, Commit, Abort, Do, Ask, step}
use Rattle.spec.specs.CutRule.{refusal_in}
use Rattle.lists.specs.Tests.{both_true}
use Rattle.transaction.proofs.Laws.{Listed}
use Rattle.logs.specs.Targets.{holds}
use Rattle.crash.specs.Interface.{FilesOn}
use Rattle.crash.specs.Theorem.{bounds}
use Rattle.crash.specs.Exact.{due_on, passes, plain-exact, change-exact, query-exact}
use Rattle.laws.specs.Files.{files}

-- the working copy is one of bytes, and sound; what is staged are different blocks that a log may hold
pub record SoundView (s : State) : Type 0 where
  pub whole : (n : ℕ) → length (view s n) ≡ block_size
  pub bytes : (n i : ℕ) → get_or (view s n) i 0 < 256
  pub is-sound : T (volume_sound s.session.blocks (view s))
  pub staged : T (all (is_target s.session.blocks) (staged_in s.session) && distinct (staged_in s.session))

refuse≢accept : {r : Refusal} → ◌≡◌ {A = Result Bool} (refuse r) (accept true) → ⊥
refuse≢accept e = let z : ◌≡◌ {A = ℕ} 0 1 = cc in omega arith

lent_fits : (s : State) → lent_ok s ≡ accept true → (is_allowed s.device.size ≡ true) × (s.device.size ≡ block_size * s.session.blocks)
unfolding lent_ok
lent_fits s h = go (is_allowed s.device.size) refl (eqb (block_size * s.session.blocks) s.device.size) refl
  where
    go : (a : Bool) → is_allowed s.device.size ≡ a → (e : Bool) → eqb (block_size * s.session.blocks) s.device.size ≡ e
        → (is_allowed s.device.size ≡ true) × (s.device.size ≡ block_size * s.session.blocks)
    go true p true q = (p, sym (eqb-true (block_size * s.session.blocks) s.device.size q))
    go true p false q = let z : refuse DeviceSize ≡ accept true = rw (p, q) at h in absurd (refuse≢accept z)
    go false p e q = let z : refuse DeviceSize ≡ accept true = rw p at h in absurd (refuse≢accept z)

layer : (s : State) → lent_ok s ≡ accept true → FilesOn s.session.blocks
layer s h =
    let f = lent_fits s h in
    let b = bounds s.session.blocks s.device.size f.0 f.1 in
    files s.session.blocks b.0 b.1

listed : (s : State) → SoundView s → Listed s.session.blocks (staged_in s.session)
listed s v =
    let N = s.session.blocks in
    let l = staged_in s.session in
    let b = both_true (all (is_target N) l) (distinct l) (holds (all (is_target N) l && distinct l) v.staged) in
    record { targets = b.0; differ = b.1 }

-- on every state with a sound view a call is refused exactly where document 01 says so
pub sound-exact : (s : State) → SoundView s → (c : Call) → refusal_in (step s c).answer ≡ due_on s c
sound-exact s v Format = plain-exact s Format refl
sound-exact s v Open = plain-exact s Open refl
sound-exact s v Advance = plain-exact s Advance refl
sound-exact s v Commit = plain-exact s Commit refl
sound-exact s v Abort = plain-exact s Abort refl
sound-exact s v (Do c) = passes s (Do c) refl (λ p. change-exact (layer s p.lent) s v.whole ((layer s p.lent).start (view s) v.whole v.bytes v.is-sound) (listed s v) c p)
sound-exact s v (Ask q) = passes s (Ask q) refl (λ p. query-exact (layer s p.lent) s v.whole ((layer s p.lent).start (view s) v.whole v.bytes v.is-sound) (listed s v) q p)
