-- The tie of the theorems to the calls in code: `crash-safe` speaks of `step` on states, the calls of sessions and byte slices. Assumes nothing.
use Rattle.std.specs.Prelude.{ℕ, ◌*◌, ◌<◌, ◌≡◌, ◌⊎◌, T, List, length, get_or}
use Rattle.std.proofs.Common.{ap}
use Rattle.spec.specs.declared.Session.{Session}
use Rattle.spec.specs.declared.Extent.{Extent}
use Rattle.spec.specs.Layout.{block_size}
use Rattle.spec.specs.Disk.{blocks_of, is_allowed}
use Rattle.spec.specs.Sound.{sound}
use Rattle.spec.specs.Session.{closed_on, never_opened}
use Rattle.spec.specs.Answers.{Answer}
use Rattle.spec.specs.Transaction.{state_of}
use Rattle.spec.specs.Calls.{Outcome, Call, step, left, left_buffer, left_list}
use Rattle.spec.specs.CutRule.{Starts}
use Rattle.block.proofs.Laws.{block-length, block-small}

-- what a call leaves, by its promise: the state and the answer of `step`
pub record Ran (s t : Session) (d e w x : List ℕ) (c : Call) (a : Answer) : Type 0 where
  pub after : state_of t e x ≡ (step (state_of s d w) c).after
  pub answer : a ≡ (step (state_of s d w) c).answer

module _ (s t : Session) (d e w x : List ℕ) (c : Call) (a : Answer) where
  pub ran : left t e x a ≡ step (state_of s d w) c → Ran s t d e w x c a
  ran p = record { after = ap (λ (o : Outcome). o.after) p; answer = ap (λ (o : Outcome). o.answer) p }

  pub ran-buffer : (buffer : List ℕ) → left_buffer t e x a buffer ≡ step (state_of s d w) c → Ran s t d e w x c a × (buffer ≡ (step (state_of s d w) c).buffer)
  ran-buffer buffer p = (record { after = ap (λ (o : Outcome). o.after) p; answer = ap (λ (o : Outcome). o.answer) p }, ap (λ (o : Outcome). o.buffer) p)

  pub ran-list : (list : List Extent) → left_list t e x a list ≡ step (state_of s d w) c → Ran s t d e w x c a × (list ≡ (step (state_of s d w) c).list)
  ran-list list p = (record { after = ap (λ (o : Outcome). o.after) p; answer = ap (λ (o : Outcome). o.answer) p }, ap (λ (o : Outcome). o.list) p)

-- "A list starts on a sound device with format's session or one never opened": a byte slice that is sound
pub starts-on : (N : ℕ) (s : Session) (d w : List ℕ) → T (is_allowed (length d)) → length d ≡ block_size * N → ((i : ℕ) → get_or d i 0 < 256)
    → T (sound N (blocks_of d)) → (s ≡ closed_on N) ⊎ (s ≡ never_opened) → Starts N (state_of s d w)
starts-on N s d w fits size small is-sound unopened =
    record {
      fits = fits;
      blocks = size;
      whole = block-length d;
      bytes = λ b. block-small d b small;
      is-sound = is-sound;
      unopened = unopened;
    }
