-- The working copy of `step` is one of bytes at each ready moment of every list, whatever its calls hand in: numbers are written in bytes. Assumes nothing.
use Rattle.std.specs.Prelude.{ℕ, ◌≤◌, ◌≡◌, refl, Bool, true, false, ◌⊎◌, List, [], ◌∷◌, length}
use Rattle.std.proofs.Common.{sym, ap, ap₂, ◌∙◌, subst, inl, inr}
use Rattle.std.proofs.Math.Option.{Option, none, some}
use Rattle.spec.specs.Layout.{block_size, header_block, fewest_blocks, most_blocks}
use Rattle.spec.specs.Bytes.{found, all_zero, place}
use Rattle.spec.specs.Disk.{Disk, is_allowed}
use Rattle.spec.specs.Sound.{volume_sound, sound}
use Rattle.spec.specs.Map.{Files, files_of}
use Rattle.spec.specs.declared.Phase.TheVariants.{Closed}
use Rattle.spec.specs.declared.Session.{Session}
use Rattle.spec.specs.Session.{closed_on, never_opened}
use Rattle.spec.specs.Transaction.{State, view}
use Rattle.spec.specs.Calls.{step}
use Rattle.spec.specs.Plain.{Plain, Ready, phase_of, plain_start}
use Rattle.spec.specs.CutRule.{Event, Both, next, Always, Starts, start_of}
use Rattle.lists.specs.Tests.{both_true}
use Rattle.lists.specs.Places.{place-lt}
use Rattle.transaction.proofs.Laws.{shown}
use Rattle.logs.specs.Stores.{Whole}
use Rattle.logs.specs.Targets.{holds, truth}
use Rattle.logs.specs.Header.{clear-block}
use Rattle.logs.specs.View.{Held, numbered, view-is}
use Rattle.crash.specs.Interface.{FilesOn}
use Rattle.crash.specs.Machine.{ses, at, ses-none, ses-staged}
use Rattle.crash.specs.Invariant.{Rest, settled, logged, Inv, closed}
use Rattle.crash.specs.Moments.{Seen, seen}
use Rattle.crash.proofs.Moments.{inv-after}
use Rattle.crash.specs.Theorem.{bounds}
use Rattle.laws.specs.Good.{Good}
use Rattle.laws.specs.Files.{files, files-good}

-- the working copy has whole blocks, and tells its numbers in bytes (`Good`)
abbrev pub ViewInBytes : ℕ → Both → Type 0
ViewInBytes N b = b.plain.mode ≡ Ready → Whole (view b.store) × Good N (view b.store)

rest-whole : {N : ℕ} (F : FilesOn N) (v : Disk) (c : Files) (k : ℕ) (o : Bool) → Rest F v c k o → Whole v
rest-whole F v c k false (settled z) = z.whole
rest-whole F v c k true (logged l e g) = g.whole

shown-whole : (N : ℕ) (bs : List ℕ) (v f : Disk) → Whole v → Held N bs f → Whole (shown v (numbered bs f))
shown-whole N bs v f whole h b = go (place b bs) refl
  where
    go : (o : Option ℕ) → place b bs ≡ o → length (found (place b bs) (v b) f) ≡ block_size
    go none e = rw e (whole b)
    go (some k) e = rw e (h.images k (place-lt b k bs e))

module _ (N : ℕ) (lo : fewest_blocks ≤ N) (hi : N ≤ most_blocks) where
  abbrev F : FilesOn N
  F = files N lo hi

  seen_bytes : (s : State) (p : Plain) → Seen F s p → ViewInBytes N (record { store = s; plain = p })
  seen_bytes s p x m =
      let n = ses p.blocks (phase_of p) x.bs in
      let d = shown x.disk (numbered x.bs x.work.block) in
      let e : view s ≡ d = ap view x.is ∙ view-is (at N n x.disk x.work) x.bs (ses-staged p.blocks (phase_of p) x.bs) in
      subst (λ (v : Disk). Whole v × Good N v) (sym e)
      (shown-whole N x.bs x.disk x.work.block (rest-whole F x.disk p.committed p.k p.pending x.rest) x.held, files-good N lo hi d (x.ready m).good)

  bytes-always : (es : List Event) (b : Both) → Inv F b.store b.plain → Always step N (ViewInBytes N) b es
  bytes-always [] b i = seen_bytes b.store b.plain (seen F b.store b.plain i)
  bytes-always (e ∷ es) b i = (seen_bytes b.store b.plain (seen F b.store b.plain i), bytes-always es (next step N b e) (inv-after F (e ∷ []) b i))

  -- the invariant of a start
  started : (s : State) → Starts N s → Inv F s (start_of s).plain
  started s h = go h.unopened
    where
      parts : (all_zero (s.device.block header_block) ≡ true) × (volume_sound N s.device.block ≡ true)
      parts = both_true (all_zero (s.device.block header_block)) (volume_sound N s.device.block) (holds (sound N s.device.block) h.is-sound)

      rest : Rest F s.device.block (files_of s.device.block) 0 false
      rest =
          settled record {
            clear = clear-block (s.device.block header_block) (h.whole header_block) parts.0;
            whole = h.whole;
            means = record { good = F.start s.device.block h.whole h.bytes (truth (volume_sound N s.device.block) parts.1); files = λ name. refl };
          }

      by : (B : ℕ) → s.session ≡ closed_on B → Inv F s (start_of s).plain
      by B q =
          closed B (files_of s.device.block) 0 0 false s.device.block s.work
          (ap₂ (λ (n : Session) (z : ℕ). record { session = n; device = record { size = z; block = s.device.block }; work = s.work }) (q ∙ ses-none B Closed) h.blocks)
          (ap (λ (n : Session). plain_start (files_of s.device.block) n.blocks) q) rest

      go : (s.session ≡ closed_on N) ⊎ (s.session ≡ never_opened) → Inv F s (start_of s).plain
      go (inl q) = by N q
      go (inr q) = by 0 q

pub step-bytes : (N : ℕ) (s : State) → Starts N s → (es : List Event) → Always step N (ViewInBytes N) (start_of s) es
step-bytes N s h es =
    let x = bounds N s.device.size (holds (is_allowed s.device.size) h.fits) h.blocks in
    bytes-always N x.0 x.1 es (start_of s) (started N x.0 x.1 s h)
