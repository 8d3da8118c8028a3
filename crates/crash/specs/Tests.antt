-- Refusals 1, 2, 3, 4 and 12: every call but format and open begins with their tests, in the order of the numbers. Assumes nothing.
use Rattle.std.specs.Prelude.{ℕ, ◌+◌, ◌*◌, ◌≡◌, Bool, true, not, ◌&&◌, ◌||◌, ◌⊎◌, List, [], ◌∷◌, eqb, leb, ltb, length}
use Rattle.std.proofs.Math.Path.{refl, ap}
use Rattle.std.proofs.Common.{sym, ap₂, ◌∙◌, subst, true≢false, inl, inr, leb-true, leb-false, le-ltb, lt-ltb}
use Rattle.std.proofs.Math.Bool.{false}
use Rattle.std.proofs.Math.Option.{Option, none, some}
use Rattle.spec.specs.Layout.{block_size, work_size, max_file_size}
use Rattle.spec.specs.Bytes.{any}
use Rattle.spec.specs.Disk.{is_allowed}
use Rattle.spec.specs.Inode.{is_name}
use Rattle.spec.specs.declared.Refusal.{Refusal}
use Rattle.spec.specs.declared.Refusal.TheVariants.{DeviceSize, WorkSize, BadName, TooLarge, NotReady, Unknown, Taken, NoInode, NoSpace, TooManyExtents, TooManyStaged, ListShort}
use Rattle.spec.specs.Answers.{Answer, refusal_of, Result, refuse, accept, require, ◌>>=◌, ◌>>◌}
use Rattle.spec.specs.Transaction.{State}
use Rattle.spec.specs.Calls.{Outcome, outcome, settle, is_ready, work_fits, size_fits, known, lent_ok, ready_ok, name_ok, file_ok, sized_ok, format, open_store, advance, commit, abort, create, remove, rename, write, set_size, read, size_of, free_count, record_at, nth_extent, run_list, Change, Create, Remove, Rename, Write, SetSize, Query, Read, Size, Free, Record, RunList, NthExtent, Call, Format, Open, Advance, Commit, Abort, Do, Ask, step}
use Rattle.spec.specs.Plain.{Plain}
use Rattle.spec.specs.Refusals.{is_format, is_open, is_advance, of_query, wrong_name, over_limit, is_ready_mode, name_unknown, name_taken, no_record, of_record, lacks_room, is_scattered, overstaged, list_short, Test, test, first_failed, due}
use Rattle.spec.specs.CutRule.{Both, buffer_of, list_of, Refuses}

-- "A refusal changes nothing"
abbrev pub keeping : State → Call → Answer → Outcome
keeping s c a = record { answer = a; after = s; buffer = buffer_of c; list = list_of c }

-- a call is refused as is due and changes nothing, or no refusal is due and A
pub data Answered (N : ℕ) (b : Both) (c : Call) (A : Type 0) : Type 0 where
  turned_down : (r : Refusal) → due N b.plain b.store c ≡ some r → step b.store c ≡ keeping b.store c (refusal_of r) → Answered N b c A
  taken : due N b.plain b.store c ≡ none → A → Answered N b c A

-- ---- the tests of a call

abbrev front_of : Bool → Bool → Bool → Bool → Bool → Bool → Result Bool
front_of a e k n z f = (require (a && e) DeviceSize >> require k WorkSize) >> (require n BadName >> (require z TooLarge >> require f NotReady))

unfoldable pub front : State → Call → Result Bool
front s c = lent_ok s >> (require (not (wrong_name c)) BadName >> (require (not (over_limit c)) TooLarge >> require (is_advance c || is_ready s.session.phase) NotReady))

-- an outcome is that refusal, if the tests before it refuse
abbrev Opens : (Answer → Outcome) → Result Bool → Outcome → Type 0
Opens K (refuse r) o = o ≡ K (refusal_of r)
Opens K (accept b) o = Unit {0}

opens-then : (K : Answer → Outcome) (m : Result Bool) (x : Result Outcome) → Opens K m (settle K (m >> x))
opens-then K (refuse r) x = refl
opens-then K (accept b) x = tt

opens-bind : (K : Answer → Outcome) (m : Result Bool) (k : Result ℕ) (f : ℕ → Result Outcome) → Opens K m (settle K ((m >> k) >>= f))
opens-bind K (refuse r) k f = refl
opens-bind K (accept b) k f = tt

-- a chain of the four tests with more behind it
opens-sized : (K : Answer → Outcome) (l : Result Bool) (n z f : Bool) (x : Result Outcome)
    → Opens K (l >> (require n BadName >> (require z TooLarge >> require f NotReady))) (settle K (l >> (require n BadName >> (require z TooLarge >> (require f NotReady >> x)))))
opens-sized K (refuse r) n z f x = refl
opens-sized K (accept b) false z f x = refl
opens-sized K (accept b) true false f x = refl
opens-sized K (accept b) true true false x = refl
opens-sized K (accept b) true true true x = tt

opens-sized-bind : (K : Answer → Outcome) (l : Result Bool) (n z f : Bool) (k : Result ℕ) (g : ℕ → Result Outcome)
    → Opens K (l >> (require n BadName >> (require z TooLarge >> require f NotReady))) (settle K ((l >> (require n BadName >> (require z TooLarge >> (require f NotReady >> k)))) >>= g))
opens-sized-bind K (refuse r) n z f k g = refl
opens-sized-bind K (accept b) false z f k g = refl
opens-sized-bind K (accept b) true false f k g = refl
opens-sized-bind K (accept b) true true false k g = refl
opens-sized-bind K (accept b) true true true k g = tt

opens-lent : (K : Answer → Outcome) (l : Result Bool) (x : Result Outcome) → Opens K (l >> accept true) (settle K (l >> x))
opens-lent K (refuse r) x = refl
opens-lent K (accept b) x = tt

-- ---- names and sizes as calls test them

pub one_name : (n : Bool) → not (any not (n ∷ []) || false) ≡ n
one_name true = refl
one_name false = refl

pub asked-name : (n : Bool) → not (false || any not (n ∷ [])) ≡ n
asked-name true = refl
asked-name false = refl

pub two-names : (n m : Bool) → not (any not (n ∷ m ∷ []) || false) ≡ (n && m)
two-names true true = refl
two-names true false = refl
two-names false true = refl
two-names false false = refl

pub size_fits_lem : (n : ℕ) → not (ltb max_file_size n) ≡ size_fits n
size_fits_lem n = go (leb n max_file_size) refl
  where
    go : (t : Bool) → leb n max_file_size ≡ t → not (ltb max_file_size n) ≡ t
    go true q = rw (le-ltb max_file_size n (leb-true n max_file_size q))
    go false q = rw (lt-ltb max_file_size n (leb-false n max_file_size q))

module _ (s : State) (name : List ℕ) where
  front-named : (n : Bool) → n ≡ is_name name → (lent_ok s >> (require n BadName >> (require true TooLarge >> require (is_ready s.session.phase) NotReady))) ≡ name_ok s name
  unfolding name_ok
  front-named n q = ap (λ m. lent_ok s >> (require m BadName >> require (is_ready s.session.phase) NotReady)) q

-- ---- each call

-- calls that name a file
module _ (s : State) (K : Answer → Outcome) (name : List ℕ) (n : Bool) (q : n ≡ is_name name) where
  abbrev named : Result Bool
  named = lent_ok s >> (require n BadName >> (require true TooLarge >> require (is_ready s.session.phase) NotReady))

  opens-name : (x : Result Outcome) → Opens K named (settle K (name_ok s name >> x))
  opens-name x = rw (front-named s name n q) (opens-then K (name_ok s name) x)

  opens-file : (g : ℕ → Result Outcome) → Opens K named (settle K (file_ok s name >>= g))
  unfolding file_ok
  opens-file g = rw (front-named s name n q) (opens-bind K (name_ok s name) (known s name) g)

  opens-sizes : (size : ℕ) (z : Bool) → z ≡ size_fits size → (g : ℕ → Result Outcome)
      → Opens K (lent_ok s >> (require n BadName >> (require z TooLarge >> require (is_ready s.session.phase) NotReady))) (settle K (sized_ok s name size >>= g))
  unfolding sized_ok
  opens-sizes size z y g = rw (q, y) (opens-sized-bind K (lent_ok s) (is_name name) (size_fits size) (is_ready s.session.phase) (known s name) g)

change-opens : (s : State) (c : Change) → Opens (keeping s (Do c)) (front s (Do c)) (step s (Do c))
unfolding front create remove rename write set_size
change-opens s (Create name) = opens-name s (outcome s) name (not (wrong_name (Do (Create name)))) (one_name (is_name name)) _
change-opens s (Remove name) = opens-file s (outcome s) name (not (wrong_name (Do (Remove name)))) (one_name (is_name name)) _
change-opens s (Rename name new) = rw (two-names (is_name name) (is_name new)) (opens-sized (outcome s) (lent_ok s) (is_name name && is_name new) true (is_ready s.session.phase) _)
change-opens s (Write name x bytes) =
    opens-sizes s (outcome s) name (not (wrong_name (Do (Write name x bytes)))) (one_name (is_name name)) (x + length bytes) (not (ltb max_file_size (x + length bytes))) (size_fits_lem (x + length bytes)) _
change-opens s (SetSize name size) =
    opens-sizes s (outcome s) name (not (wrong_name (Do (SetSize name size)))) (one_name (is_name name)) size (not (ltb max_file_size size)) (size_fits_lem size) _

query-opens : (s : State) (q : Query) → Opens (keeping s (Ask q)) (front s (Ask q)) (step s (Ask q))
unfolding front ready_ok read size_of free_count record_at run_list nth_extent
query-opens s (Read name x buffer) = opens-file s (keeping s (Ask (Read name x buffer))) name (not (wrong_name (Ask (Read name x buffer)))) (asked-name (is_name name)) _
query-opens s (Size name) = opens-file s (outcome s) name (not (wrong_name (Ask (Size name)))) (asked-name (is_name name)) _
query-opens s Free = opens-then (outcome s) (ready_ok s) _
query-opens s (Record i) = opens-then (outcome s) (ready_ok s) _
query-opens s (RunList name from n list) = opens-file s (keeping s (Ask (RunList name from n list))) name (not (wrong_name (Ask (RunList name from n list)))) (asked-name (is_name name)) _
query-opens s (NthExtent name from n k) = opens-file s (outcome s) name (not (wrong_name (Ask (NthExtent name from n k)))) (asked-name (is_name name)) _

abbrev pub Tested : Call → Type 0
Tested c = (is_format c || is_open c) ≡ false

front-opens : (s : State) (c : Call) → Tested c → Opens (keeping s c) (front s c) (step s c)
unfolding front ready_ok advance commit abort
front-opens s Format h = absurd (true≢false h)
front-opens s Open h = absurd (true≢false h)
front-opens s Advance h = opens-lent (outcome s) (lent_ok s) _
front-opens s Commit h = opens-then (outcome s) (ready_ok s) _
front-opens s Abort h = opens-then (outcome s) (ready_ok s) _
front-opens s (Do c) h = change-opens s c
front-opens s (Ask q) h = query-opens s q

front-refused : (s : State) (c : Call) (r : Refusal) → Tested c → front s c ≡ refuse r → step s c ≡ keeping s c (refusal_of r)
front-refused s c r h q = subst (λ (m : Result Bool). Opens (keeping s c) m (step s c)) q (front-opens s c h)

-- ---- "Tests go in the order of these numbers."

-- the tests behind 12
abbrev pub late_tests : ℕ → Plain → State → Call → List Test
late_tests N p s c =
    test (name_unknown p c) Unknown
    ∷ test (name_taken p c) Taken
    ∷ test (no_record s c) NoInode
    ∷ test (of_record (lacks_room N s) s c) NoSpace
    ∷ test (of_record (is_scattered N s) s c) TooManyExtents
    ∷ test (of_record (overstaged N s) s c) TooManyStaged
    ∷ test (of_query (list_short s) c) ListShort
    ∷ []

abbrev due_of : Bool → Bool → Bool → Bool → Bool → Bool → List Test → Option Refusal
due_of a e k n z f ts =
    first_failed (test (not a || not e) DeviceSize ∷ test (not k) WorkSize ∷ test n BadName ∷ test z TooLarge ∷ test (not f) NotReady ∷ ts)

due-is : (N : ℕ) (p : Plain) (s : State) (c : Call) → Tested c
    → due N p s c
    ≡ due_of (is_allowed s.device.size) (eqb (block_size * p.blocks) s.device.size) (eqb s.work.size work_size) (wrong_name c) (over_limit c)
    (is_advance c || is_ready_mode p.mode) (late_tests N p s c)
unfolding due
due-is N p s Format h = absurd (true≢false h)
due-is N p s Open h = absurd (true≢false h)
due-is N p s Advance h = refl
due-is N p s Commit h = refl
due-is N p s Abort h = refl
due-is N p s (Do c) h = refl
due-is N p s (Ask q) h = refl

-- all of them are passed: what is due is said by the tests behind
pub record Passed (N : ℕ) (b : Both) (c : Call) : Type 0 where
  pub late : due N b.plain b.store c ≡ first_failed (late_tests N b.plain b.store c)
  pub lent : lent_ok b.store ≡ accept true
  pub names : wrong_name c ≡ false
  pub sizes : over_limit c ≡ false
  pub ready : (is_advance c || is_ready b.store.session.phase) ≡ true

pub data Front (N : ℕ) (b : Both) (c : Call) : Type 0 where
  refused : (r : Refusal) → due N b.plain b.store c ≡ some r → step b.store c ≡ keeping b.store c (refusal_of r) → Front N b c
  passed : Passed N b c → Front N b c

sift : (a e k n z f : Bool) (ts : List Test)
    → ((r : Refusal) × (due_of a e k n z f ts ≡ some r) × (front_of a e k (not n) (not z) f ≡ refuse r))
    ⊎ ((due_of a e k n z f ts ≡ first_failed ts) × (a ≡ true) × (e ≡ true) × (k ≡ true) × (n ≡ false) × (z ≡ false) × (f ≡ true))
sift false e k n z f ts = inl (DeviceSize, refl, refl)
sift true false k n z f ts = inl (DeviceSize, refl, refl)
sift true true false n z f ts = inl (WorkSize, refl, refl)
sift true true true true z f ts = inl (BadName, refl, refl)
sift true true true false true f ts = inl (TooLarge, refl, refl)
sift true true true false false false ts = inl (NotReady, refl, refl)
sift true true true false false true ts = inr (refl, refl, refl, refl, refl, refl, refl)

pub lent_is : (s : State) → is_allowed s.device.size ≡ true → eqb (block_size * s.session.blocks) s.device.size ≡ true → eqb s.work.size work_size ≡ true → lent_ok s ≡ accept true
unfolding lent_ok
lent_is s a e k = rw (a, e, k)

-- where the plain store has the session's N and phase, these refusals are given as they are due
module _ (N : ℕ) (b : Both) (c : Call) (h : Tested c) (B : b.plain.blocks ≡ b.store.session.blocks) (R : is_ready_mode b.plain.mode ≡ is_ready b.store.session.phase) where
  abbrev a : Bool
  a = is_allowed b.store.device.size

  abbrev e : Bool
  e = eqb (block_size * b.store.session.blocks) b.store.device.size

  abbrev f : Bool
  f = is_advance c || is_ready b.store.session.phase

  abbrev ts : List Test
  ts = late_tests N b.plain b.store c

  said : due N b.plain b.store c ≡ due_of a e (work_fits b.store) (wrong_name c) (over_limit c) f ts
  said = due-is N b.plain b.store c h ∙ ap₂ (λ m x. due_of a (eqb (block_size * m) b.store.device.size) (work_fits b.store) (wrong_name c) (over_limit c) (is_advance c || x) ts) B R

  is_front : front_of a e (work_fits b.store) (not (wrong_name c)) (not (over_limit c)) f ≡ front b.store c
  unfolding front lent_ok
  is_front = refl

  pub front-due : Front N b c
  front-due = go (sift a e (work_fits b.store) (wrong_name c) (over_limit c) f ts)
    where
      go : ((r : Refusal) × (due_of a e (work_fits b.store) (wrong_name c) (over_limit c) f ts ≡ some r) × (front_of a e (work_fits b.store) (not (wrong_name c)) (not (over_limit c)) f ≡ refuse r))
          ⊎ ((due_of a e (work_fits b.store) (wrong_name c) (over_limit c) f ts ≡ first_failed ts)
          × (a ≡ true) × (e ≡ true) × (work_fits b.store ≡ true) × (wrong_name c ≡ false) × (over_limit c ≡ false) × (f ≡ true)) → Front N b c
      go (inl (r, d, q)) = refused r (said ∙ d) (front-refused b.store c r h (sym is_front ∙ q))
      go (inr (d, p, q, w, n, z, y)) =
          passed record {
            late = said ∙ d;
            lent = lent_is b.store p q w;
            names = n;
            sizes = z;
            ready = y;
          }

-- the tests passed, as calls begin with them
module _ (s : State) (l : lent_ok s ≡ accept true) (r : is_ready s.session.phase ≡ true) where
  pub ready-passed : ready_ok s ≡ accept true
  unfolding ready_ok
  ready-passed = rw (l, r)

  pub name-passed : (name : List ℕ) → is_name name ≡ true → name_ok s name ≡ accept true
  unfolding name_ok
  name-passed name n = rw (l, n, r)

  pub file-passed : (name : List ℕ) → is_name name ≡ true → file_ok s name ≡ known s name
  unfolding file_ok
  file-passed name n = rw (name-passed name n)

  pub sized-passed : (name : List ℕ) (size : ℕ) → is_name name ≡ true → size_fits size ≡ true → sized_ok s name size ≡ known s name
  unfolding sized_ok
  sized-passed name size n z = rw (l, n, z, r)

-- ---- what is lent with a wrong length, on any store

lent-front : (s : State) (c : Call) (r : Refusal) → lent_ok s ≡ refuse r → front s c ≡ refuse r
unfolding front
lent-front s c r h = rw h

device-refused : (s : State) (c : Call)
    → (is_allowed s.device.size ≡ false) ⊎ (((is_format c || is_open c) ≡ false) × (eqb (block_size * s.session.blocks) s.device.size ≡ false))
    → step s c ≡ keeping s c (refusal_of DeviceSize)
device-refused s c (inr (h, q)) = front-refused s c DeviceSize h (lent-front s c DeviceSize (away (is_allowed s.device.size) refl))
  where
    away : (a : Bool) → is_allowed s.device.size ≡ a → lent_ok s ≡ refuse DeviceSize
    away true x = unfold lent_ok in rw (x, q) refl
    away false x = unfold lent_ok in rw x refl
device-refused s Format (inl q) = unfold format in rw q refl
device-refused s Open (inl q) = unfold open_store in rw q refl
device-refused s Advance (inl q) = front-refused s Advance DeviceSize refl (lent-front s Advance DeviceSize (unfold lent_ok in rw q refl))
device-refused s Commit (inl q) = front-refused s Commit DeviceSize refl (lent-front s Commit DeviceSize (unfold lent_ok in rw q refl))
device-refused s Abort (inl q) = front-refused s Abort DeviceSize refl (lent-front s Abort DeviceSize (unfold lent_ok in rw q refl))
device-refused s (Do c) (inl q) = front-refused s (Do c) DeviceSize refl (lent-front s (Do c) DeviceSize (unfold lent_ok in rw q refl))
device-refused s (Ask c) (inl q) = front-refused s (Ask c) DeviceSize refl (lent-front s (Ask c) DeviceSize (unfold lent_ok in rw q refl))

pub refuses : (s : State) (c : Call) → Refuses step s c
refuses s c =
    record {
      device = device-refused s c;
      work = λ a e h w. front-refused s c WorkSize h (lent-front s c WorkSize (unfold lent_ok in rw (a, e, w) refl));
    }
