-- Demand 3 begins "from a store .. opened as sound": what open leaves starts a list of the cut rule. Assumes nothing.
use Rattle.std.specs.Prelude.{ℕ, ◌/◌, ◌<◌, ◌≡◌, Bool, List, T, get_or}
use Rattle.std.proofs.Math.Path.{refl}
use Rattle.std.proofs.Common.{sym, ap, ◌∙◌, true≢false, inr}
use Rattle.std.proofs.Math.Bool.{true, false}
use Rattle.std.proofs.lemmas.Bool.{false≢true}
use Rattle.std.proofs.Math.Option.{Option, none, some}
use Rattle.std.proofs.Math.Dec.{eqb}
use Rattle.std.proofs.Math.ListN.{length}
use borrow.Author.Tests.{eqb-true}
use Rattle.spec.specs.Layout.{block_size, header_block}
use Rattle.spec.specs.Bytes.{all_zero}
use Rattle.spec.specs.Disk.{is_allowed}
use Rattle.spec.specs.Sound.{inode_fault, block_fault, volume_sound, sound}
use Rattle.spec.specs.declared.Phase.TheVariants.{Ready}
use Rattle.spec.specs.declared.Session.{Session}
use Rattle.spec.specs.Session.{never_opened}
use Rattle.spec.specs.Answers.{Answer, done, is_refused}
use Rattle.spec.specs.Transaction.{State, state_of}
use Rattle.spec.specs.Journal.{targets_in, header_fault}
use Rattle.spec.specs.Calls.{Outcome, is_ready, open_phase, open_store, Open, step, left}
use Rattle.spec.specs.CutRule.{Starts}
use Rattle.lists.specs.Tests.{and_both}
use Rattle.block.proofs.Laws.{block-length}
use Rattle.logs.specs.Targets.{truth}
use Rattle.laws.specs.Tie.{starts-on}
use Rattle.crash.specs.Exact.{opening}
use Rattle.laws.specs.Volume.{free-fault}
use Rattle.laws.specs.Starts.{header-zero, whole-blocks}

-- ---- open

-- the results of the tests of an open that is done and ready
record Passed (a : Bool) (o : Option ℕ) (t : Bool) (i b : Option ℕ) : Type 0 where
  length : a ≡ true
  header : o ≡ none
  unlisted : t ≡ true
  inodes : i ≡ none
  blocks : b ≡ none

ready-says : (a : Bool) (o : Option ℕ) (t : Bool) (i b : Option ℕ) (s : State) → (opening a o t i b s).answer ≡ done
    → (opening a o t i b s).after.session.phase ≡ Ready → Passed a o t i b
ready-says false o t i b s h p = absurd (true≢false (ap is_refused h))
ready-says true (some k) t i b s h p = absurd (true≢false (ap is_refused h))
ready-says true none true (some i) b s h p = absurd (true≢false (ap is_refused h))
ready-says true none true none (some b) s h p = absurd (true≢false (ap is_refused h))
ready-says true none true none none s h p = record { length = refl; header = refl; unlisted = refl; inodes = refl; blocks = refl }
ready-says true none false i b s h p = absurd (false≢true (ap is_ready p))

-- "opened as sound": a device on which open answers done with a ready session is sound
pub ready-sound : (s : State) → length (s.device.block header_block) ≡ block_size → (step s Open).answer ≡ done → (step s Open).after.session.phase ≡ Ready
    → (is_allowed s.device.size ≡ true) × T (sound (s.device.size / block_size) s.device.block)
unfolding open_store open_phase
ready-sound s whole h p =
    let N = s.device.size / block_size in
    let d = s.device.block in
    let r = ready-says (is_allowed s.device.size) (header_fault N (d header_block)) (eqb (length (targets_in (d header_block))) 0) (inode_fault N d) (block_fault N d) s h p in
    let z = header-zero N (d header_block) whole r.header (eqb-true (length (targets_in (d header_block))) 0 r.unlisted) in
    (r.length, truth (sound N d) (and_both (all_zero (d header_block)) (volume_sound N d) z (free-fault N d r.inodes r.blocks)))

-- ---- by the promises of open and format

-- what a function left on device d and work space w, with session t and answer a, is the outcome of open: answered done and ready, it starts a
-- list with a session never opened, and this open is the list's first call
module _ (s t : Session) (d w : List ℕ) (a : Answer) (small : (i : ℕ) → get_or d i 0 < 256) (is-done : a ≡ done) (ready : t.phase ≡ Ready)
    (promise : left t d w a ≡ step (state_of s d w) Open)
  where
    pub opened-starts : Starts (length d / block_size) (state_of never_opened d w)
    opened-starts =
        let answer : (step (state_of s d w) Open).answer ≡ done = sym (ap (λ (o : Outcome). o.answer) promise) ∙ is-done in
        let phase : (step (state_of s d w) Open).after.session.phase ≡ Ready = sym (ap (λ (o : Outcome). o.after.session.phase) promise) ∙ ready in
        let r = ready-sound (state_of s d w) (block-length d header_block) answer phase in
        starts-on (length d / block_size) never_opened d w (truth (is_allowed (length d)) r.0) (whole-blocks (length d) r.0) small r.1 (inr refl)
