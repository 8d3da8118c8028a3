-- Demand 3, the cut rule, of the store that `step` is, over what it asks of files.
use Rattle.std.specs.Prelude.{ℕ, ◌≤◌, ◌≡◌, refl, true, false, ◌&&◌, ◌⊎◌, List, T}
use Rattle.std.proofs.Common.{sym, ap, ap₂, ◌∙◌, subst, inl, inr}
use Rattle.spec.specs.Layout.{header_block, fewest_blocks, most_blocks}
use Rattle.spec.specs.Bytes.{all_zero}
use Rattle.spec.specs.Disk.{is_allowed}
use Rattle.spec.specs.Sound.{volume_sound, sound}
use Rattle.spec.specs.Map.{files_of}
use Rattle.spec.specs.declared.Phase.TheVariants.{Closed, Ready}
use Rattle.spec.specs.declared.Session.{Session}
use Rattle.spec.specs.Session.{opened, closed_on, never_opened}
use Rattle.spec.specs.Answers.{done}
use Rattle.spec.specs.Transaction.{State, with_session}
use Rattle.spec.specs.Calls.{outcome, Open, step}
use Rattle.spec.specs.Plain.{plain_start}
use Rattle.spec.specs.CutRule.{Event, Both, after, Survives, Starts, start_of, CutRule}
use Rattle.lists.specs.Tests.{both_true}
use Rattle.logs.specs.Targets.{holds, truth}
use Rattle.logs.specs.Header.{clear-block}
use Rattle.crash.specs.Interface.{FilesOn, FileLayer}
use Rattle.crash.specs.Tests.{refuses}
use Rattle.crash.specs.Machine.{ses-none}
use Rattle.crash.specs.Invariant.{Rest, settled, Inv, closed, settled-sound}
use Rattle.crash.specs.Steps.{opens-clear}
use Rattle.crash.specs.Moments.{Seen, seen}
use Rattle.crash.proofs.Moments.{moments, calls, inv-after}
use Rattle.crash.specs.Recovery.{Recovers, recovers-rest}
use Rattle.crash.specs.Theorem.{bounds}

module _ {N : ℕ} (F : FilesOn N) where
  survives : (b : Both) (es : List Event) → Inv F b.store b.plain → Survives step N b es
  survives b es i =
      record {
        moments = moments F es b i;
        calls = calls F es b i;
        opens = there.opens;
        recovers = there.recovers;
        opens-again = λ w h.
            ap (λ (s : State). step s Open) (there.ends w h)
            ∙ opens-clear F (there.session w h) (there.disk w h) w (after step N b es).plain.committed (there.rests w h)
            ∙ ap (λ (s : State). outcome (with_session s (opened N Ready)) done) (sym (there.ends w h));
        is-sound = λ w h. subst (λ (s : State). T (sound N s.device.block)) (sym (there.ends w h)) (settled-sound F (there.disk w h) (after step N b es).plain.committed (there.rests w h));
        keeps = λ w h name. ap (λ (s : State). files_of s.device.block name) (there.ends w h) ∙ (there.rests w h).means.files name;
      }
    where
      x : Seen F (after step N b es).store (after step N b es).plain
      x = seen F (after step N b es).store (after step N b es).plain (inv-after F es b i)

      there : Recovers F (after step N b es).store.device (after step N b es).plain.committed (after step N b es).plain.k (after step N b es).plain.pending
      there =
          subst (λ (s : State). Recovers F s.device (after step N b es).plain.committed (after step N b es).plain.k (after step N b es).plain.pending) (sym x.is)
          (recovers-rest F x.disk (after step N b es).plain.committed (after step N b es).plain.k (after step N b es).plain.pending x.rest)

-- ---- a start

module _ (N : ℕ) (s : State) (h : Starts N s) where
  fewest-most : (fewest_blocks ≤ N) × (N ≤ most_blocks)
  fewest-most = bounds N s.device.size (holds (is_allowed s.device.size) h.fits) h.blocks

  starts : (F : FilesOn N) → Inv F s (start_of s).plain
  starts F = go h.unopened
    where
      sound-is : (all_zero (s.device.block header_block) && volume_sound N s.device.block) ≡ true
      sound-is = holds (sound N s.device.block) h.is-sound

      rest : Rest F s.device.block (files_of s.device.block) 0 false
      rest =
          let a = both_true (all_zero (s.device.block header_block)) (volume_sound N s.device.block) sound-is in
          settled record {
            clear = clear-block (s.device.block header_block) (h.whole header_block) a.0;
            whole = h.whole;
            means = record { good = F.start s.device.block h.whole h.bytes (truth (volume_sound N s.device.block) a.1); files = λ name. refl };
          }

      by : (B : ℕ) → s.session ≡ closed_on B → Inv F s (start_of s).plain
      by B q =
          closed B (files_of s.device.block) 0 0 false s.device.block s.work
          (ap₂ (λ (n : Session) (z : ℕ). record { session = n; device = record { size = z; block = s.device.block }; work = s.work }) (q ∙ ses-none B Closed) h.blocks)
          (ap (λ (n : Session). plain_start (files_of s.device.block) n.blocks) q) rest

      go : (s.session ≡ closed_on N) ⊎ (s.session ≡ never_opened) → Inv F s (start_of s).plain
      go (inl q) = by N q
      go (inr q) = by 0 q

-- Demand 3.
pub cut-rule : FileLayer → CutRule step
cut-rule F =
    record {
      survives = λ N s h es. let x = fewest-most N s h in survives (F N x.0 x.1) (start_of s) es (starts N s h (F N x.0 x.1));
      refuses = refuses;
    }
