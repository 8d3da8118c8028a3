-- Stores that refuse all, or repeat one reply, do not have the cut rule, whatever they do to the state. Assumes nothing.
use Rattle.std.specs.Prelude.{◌≡◌, refl, true, [], ◌∷◌}
use Rattle.std.proofs.Common.{sym, ap, ◌∙◌, arith}
use Rattle.std.proofs.lemmas.Bool.{false≢true}
use Rattle.std.proofs.Math.Option.{none, some, map, some-ne-none}
use Rattle.spec.specs.Layout.{header_block}
use Rattle.spec.specs.Bytes.{all_zero}
use Rattle.spec.specs.Journal.{targets_in, header_fault}
use Rattle.spec.specs.Sound.{volume_sound, sound}
use Rattle.spec.specs.declared.Refusal.TheVariants.{DeviceSize}
use Rattle.spec.specs.Session.{never_opened}
use Rattle.spec.specs.Answers.{Answer, refused, done, started, stored, idle, counted, file, no_file, run, no_run, refusal_of, is_refused}
use Rattle.spec.specs.Transaction.{State}
use Rattle.spec.specs.Calls.{Outcome, empty_disk, Call, Open, Commit}
use Rattle.spec.specs.Refusals.{due}
use Rattle.spec.specs.CutRule.{call, refusal_in, start_of, CutRule}
use Rattle.lists.specs.Tests.{both_true}
use Rattle.logs.specs.Targets.{holds}
use Rattle.logs.proofs.Header.{clear-right, clear-targets}
use Rattle.crash.specs.Machine.{empty-clear, allowed-ok, clear-due}
use Rattle.laws.specs.Starts.{empty_store, empty-sound, empty-starts}

-- an empty store of 64 blocks
abbrev start : State
start = empty_store 64 (record { size = 0; block = λ b. [] })

-- open is due no refusal, commit without an open is
open-due : due 64 (start_of start).plain start Open ≡ none
open-due =
    clear-due 64 (omega arith) (omega arith) never_opened (empty_disk 64) start.work (ap (header_fault 64) (empty-clear 64) ∙ clear-right 64 (omega arith)) (start_of start).plain
    (ap targets_in (empty-clear 64) ∙ clear-targets)
    (both_true (all_zero (empty_disk 64 header_block)) (volume_sound 64 (empty_disk 64)) (holds (sound 64 (empty_disk 64)) (empty-sound 64 (omega arith) (omega arith)))).1

commit-due : due 64 (start_of start).plain start Commit ≡ some DeviceSize
unfolding due
commit-due = rw (allowed-ok 64 (omega arith) (omega arith))

-- beside `accepted-is`
pub refusal_is : (a : Answer) → is_refused a ≡ true → refusal_in a ≡ some a
refusal_is (refused n vs) h = refl
refusal_is done h = absurd (false≢true h)
refusal_is (started n) h = absurd (false≢true h)
refusal_is (stored b l n) h = absurd (false≢true h)
refusal_is idle h = absurd (false≢true h)
refusal_is (counted n) h = absurd (false≢true h)
refusal_is (file x n) h = absurd (false≢true h)
refusal_is no_file h = absurd (false≢true h)
refusal_is (run e) h = absurd (false≢true h)
refusal_is no_run h = absurd (false≢true h)

module _ (store : State → Call → Outcome) (rule : CutRule store) where
  -- the first call of a list on the empty store
  first-call : (c : Call) → refusal_in (store start c).answer ≡ map refusal_of (due 64 (start_of start).plain start c)
  first-call c = (rule.survives 64 start (empty-starts 64 (omega arith) (omega arith) start.work) (call c ∷ [])).calls.0.refused

  -- "A store that refuses all"
  pub refuses-all : ((s : State) (c : Call) → is_refused (store s c).answer ≡ true) → ⊥
  refuses-all h =
      some-ne-none (store start Open).answer (sym (refusal_is (store start Open).answer (h start Open)) ∙ first-call Open ∙ ap (map refusal_of) open-due)

  -- "or repeats one reply"
  pub repeats-one : (a : Answer) → ((s : State) (c : Call) → (store s c).answer ≡ a) → ⊥
  repeats-one a h =
      some-ne-none (refusal_of DeviceSize)
      (sym (first-call Commit ∙ ap (map refusal_of) commit-due)
      ∙ ap refusal_in (h start Commit ∙ sym (h start Open))
      ∙ first-call Open ∙ ap (map refusal_of) open-due)
