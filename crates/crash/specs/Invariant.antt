-- What relates the store to the plain store, phase by phase, and how single stores keep it.
use Rattle.std.specs.Prelude.{ℕ, suc, ◌+◌, ◌≤◌, ◌<◌, ◌≡◌, Bool, true, false, List, [], ◌∷◌, T, length, drop, get_or}
use Rattle.std.proofs.Common.{sym, ap, ◌∙◌, subst, arith}
use Rattle.std.proofs.Math.Option.{none}
use Rattle.std.proofs.lemmas.List.{length-map}
use Rattle.std.proofs.Math.Seq.{drop-length}
use Rattle.spec.specs.Layout.{block_size, header_block, log_length}
use Rattle.spec.specs.Bytes.{zeros}
use Rattle.spec.specs.Disk.{Disk, Slice}
use Rattle.spec.specs.Sound.{volume_sound, sound}
use Rattle.spec.specs.Map.{Files, files_of}
use Rattle.spec.specs.declared.Phase.TheVariants.{Closed, Ready, Committing, Recovering}
use Rattle.spec.specs.Transaction.{State, BlockStore, put}
use Rattle.spec.specs.Journal.{header_of, targets_in, header_fault, are_targets, redo_from}
use Rattle.spec.specs.Plain.{Plain, Mode, plain}
use Rattle.transaction.proofs.Laws.{shown}
use Rattle.logs.specs.Stores.{upd, upd_same, upd_other, Whole, upd-whole, Long, long-entry, blank, applied, applied-whole, applied-agree, applied-drop, avoids-entry, Entry, Entries, entry_at, absorb, Ascending, ascending-avoids, ascending-targets, targets_of, redo-is}
use Rattle.logs.specs.Targets.{Targets, targets-listed, are-targets, holds, truth}
use Rattle.logs.specs.Header.{length-header, length-clear, clear_zero}
use Rattle.logs.proofs.Header.{header-targets, header-right, clear-targets, clear-right}
use Rattle.logs.specs.View.{Held, list_of, numbered}
use Rattle.crash.specs.Interface.{FilesOn}
use Rattle.crash.specs.Machine.{ses, at}

-- stores to the log alone: blocks 1 to 32
abbrev pub InLog : List BlockStore → Type 0
InLog [] = Unit {0}
InLog (e ∷ s) = (1 ≤ e.block) × (e.block ≤ log_length) × InLog s

-- a list that a commit takes
pub record Taken (N : ℕ) (l : List BlockStore) : Type 0 where
  pub ascending : Ascending N 33 l
  pub few : length l ≤ log_length
  pub some : 0 < length l
  pub long : Long l

pub taken-targets : (N : ℕ) (l : List BlockStore) → Taken N l → Targets N (targets_of l)
taken-targets N l t = ascending-targets N 33 l (omega arith) t.ascending

pub taken-are : (N : ℕ) (l : List BlockStore) → Taken N l → are_targets N (targets_of l) ≡ true
taken-are N l t = are-targets N (targets_of l) (rw length-map t.some) (targets-listed N (targets_of l) (taken-targets N l t))

-- the images that are in the log, from the first on
abbrev pub Stored : ℕ → List BlockStore → Disk → Type 0
Stored n l v = (i : ℕ) → i < n → v (suc i) ≡ (get_or l i blank).content

module _ {N : ℕ} (F : FilesOn N) where
  -- a good volume with the map c
  pub record Means (v : Disk) (c : Files) : Type 0 where
    pub good : F.Good v
    pub files : (name : List ℕ) → files_of v name ≡ c name

  -- no log, and the map c
  pub record Settled (v : Disk) (c : Files) : Type 0 where
    pub clear : v header_block ≡ zeros block_size
    pub whole : Whole v
    pub means : Means v c

  -- the log of l, and the map c once it is redone
  pub record Logged (l : List BlockStore) (v : Disk) (c : Files) : Type 0 where
    pub taken : Taken N l
    pub log : v header_block ≡ header_of (targets_of l)
    pub images : Stored (length l) l v
    pub whole : Whole v
    pub redone : Means (applied l v) c

  -- the first j targets are stored, of a disk with that log: the others give the map c
  pub record Redoing (l : List BlockStore) (j : ℕ) (v : Disk) (c : Files) : Type 0 where
    pub logged : Logged l v c
    pub place : j ≤ length l
    pub rest : Means (applied (drop j l) v) c

  -- nothing to redo, or a log of k blocks
  pub data Rest (v : Disk) (c : Files) (k : ℕ) : Bool → Type 0 where
    settled : Settled v c → Rest v c k false
    logged : (l : List BlockStore) → k ≡ length l → Logged l v c → Rest v c k true

  pub data Inv (s : State) (p : Plain) : Type 0 where
    closed : (B : ℕ) (c : Files) (k d : ℕ) (o : Bool) (v : Disk) (w : Slice) → s ≡ at N (ses B Closed []) v w
        → p ≡ plain c c Mode.Closed k d o B → Rest v c k o → Inv s p
    ready : (bs : List ℕ) (c m : Files) (k d : ℕ) (v : Disk) (w : Slice) → s ≡ at N (ses N Ready bs) v w
        → p ≡ plain c m Mode.Ready k d false N → Settled v c → Held N bs w.block → Means (shown v (numbered bs w.block)) m → Inv s p
    -- n images are stored
    imaging : (n : ℕ) (bs : List ℕ) (c m : Files) (v : Disk) (w : Slice) → s ≡ at N (ses N (Committing n) bs) v w
        → p ≡ plain c m Mode.Committing (length bs) n false N → Settled v c → Held N bs w.block → 0 < length bs
        → Means (applied (list_of bs w.block) v) m → n ≤ length bs → Stored n (list_of bs w.block) v → Inv s p
    -- the images, the list and j targets are stored
    targeting : (n j : ℕ) (bs : List ℕ) (c : Files) (v : Disk) (w : Slice) → s ≡ at N (ses N (Committing n) bs) v w
        → p ≡ plain c c Mode.Committing (length bs) n true N → Held N bs w.block
        → Redoing (list_of bs w.block) j v c → n ≡ length bs + suc j → Inv s p
    recovering : (n : ℕ) (c : Files) (v : Disk) (w : Slice) (l : List BlockStore) → s ≡ at N (ses N (Recovering n) []) v w
        → p ≡ plain c c Mode.Recovering (length l) n true N → Redoing l n v c → Inv s p

  -- ---- single stores

  pub local : (v w : Disk) (c : Files) → Whole v → Whole w → ((b : ℕ) → 33 ≤ b → w b ≡ v b) → Means v c → Means w c
  local v w c g h q m =
      record { good = F.good-local v w g h q m.good; files = λ name. F.files-local v w g h q m.good name ∙ m.files name }

  -- any stores of the list, in any order and any number of times, leave it logged
  pub logged-entry : (e : BlockStore) (l : List BlockStore) (v : Disk) (c : Files) → Entry e l → Logged l v c → Logged l (upd e v) c
  logged-entry e l v c i g =
      record {
        taken = g.taken;
        log = off 0 (omega arith) ∙ g.log;
        images = λ j h. off (suc j) (omega (arith, g.taken.few)) ∙ g.images j h;
        whole = upd-whole e v (long-entry e l i g.taken.long) g.whole;
        redone = subst (λ (u : Disk). Means u c) (sym (absorb e l v i)) g.redone;
      }
    where
      off : (n : ℕ) → n < 33 → upd e v n ≡ v n
      off n h = upd_other e v n (avoids-entry n e l i (ascending-avoids N 33 n l h g.taken.ascending))

  pub logged-entries : (es l : List BlockStore) (v : Disk) (c : Files) → Entries es l → Logged l v c → Logged l (applied es v) c
  logged-entries [] l v c i g = g
  logged-entries (e ∷ es) l v c i g = logged-entries es l (upd e v) c i.1 (logged-entry e l v c i.0 g)

  pub redo-first : (l : List BlockStore) (v : Disk) (c : Files) → Logged l v c → Redoing l 0 v c
  redo-first l v c g = record { logged = g; place = omega arith; rest = g.redone }

  pub redo-next : (l : List BlockStore) (j : ℕ) (v : Disk) (c : Files) → j < length l → Redoing l j v c → Redoing l (suc j) (upd (get_or l j blank) v) c
  redo-next l j v c h r =
      record {
        logged = logged-entry (get_or l j blank) l v c (entry_at l j h) r.logged;
        place = h;
        rest = subst (λ (u : Disk). Means u c) (applied-drop l j v h) r.rest;
      }

  -- a store to block 0 alone leaves files as they were
  header-means : (x : List ℕ) (v : Disk) (c : Files) → length x ≡ block_size → Whole v → Means v c → Means (upd (put header_block x) v) c
  header-means x v c h w m = local v (upd (put header_block x) v) c w (upd-whole (put header_block x) v h w) (λ b k. upd_other (put header_block x) v b (λ q. omega arith)) m

  -- the clearing, after the last target
  pub redo-clear : (l : List BlockStore) (v : Disk) (c : Files) → Redoing l (length l) v c → Settled (upd (put header_block (zeros block_size)) v) c
  redo-clear l v c r =
      record {
        clear = upd_same (put header_block (zeros block_size)) v;
        whole = upd-whole (put header_block (zeros block_size)) v length-clear r.logged.whole;
        means = header-means (zeros block_size) v c length-clear r.logged.whole (subst (λ (s : List BlockStore). Means (applied s v) c) (drop-length l) r.rest);
      }

  -- the list, after the last image
  pub list-logged : (l : List BlockStore) (v : Disk) (c : Files) → Taken N l → Whole v → Stored (length l) l v → Means (applied l v) c
      → Logged l (upd (put header_block (header_of (targets_of l))) v) c
  list-logged l v c t w i m =
      record {
        taken = t;
        log = upd_same e v;
        images = λ j h. upd_other e v (suc j) (λ q. omega arith) ∙ i j h;
        whole = whole-now;
        redone = local (applied l v) (applied l (upd e v)) c (applied-whole l v t.long w) (applied-whole l (upd e v) t.long whole-now)
            (λ b h. applied-agree l (upd e v) v b (upd_other e v b (λ q. omega arith))) m;
      }
    where
      e : BlockStore
      e = put header_block (header_of (targets_of l))

      whole-now : Whole (upd e v)
      whole-now = upd-whole e v (length-header (targets_of l)) w

  -- ---- what block 0 tells

  module _ (l : List BlockStore) (v : Disk) (c : Files) (g : Logged l v c) where
    few : length (targets_of l) ≤ log_length
    few = rw length-map g.taken.few

    small : N ≤ 65536
    small = omega (arith, F.most)

    pub log-read : targets_in (v header_block) ≡ targets_of l
    log-read = ap targets_in g.log ∙ header-targets N small (targets_of l) (taken-targets N l g.taken) few

    pub log-right : header_fault N (v header_block) ≡ none
    log-right = ap (header_fault N) g.log ∙ header-right N small (targets_of l) (taken-targets N l g.taken) few

    pub log-redo : redo_from 1 v (targets_of l) ≡ l
    log-redo = redo-is 1 v l (λ i h. let q : 1 + i ≡ suc i = omega arith in ap v q ∙ g.images i h)

  module _ (v : Disk) (c : Files) (z : Settled v c) where
    pub settled-read : targets_in (v header_block) ≡ []
    settled-read = ap targets_in z.clear ∙ clear-targets

    pub settled-right : header_fault N (v header_block) ≡ none
    settled-right = ap (header_fault N) z.clear ∙ clear-right N (omega (arith, F.most))

    pub settled-volume : volume_sound N v ≡ true
    settled-volume = holds (volume_sound N v) (F.is-sound v z.means.good)

    pub settled-sound : T (sound N v)
    settled-sound = truth (sound N v) (rw (z.clear, clear_zero) settled-volume)
