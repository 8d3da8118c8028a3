-- The cases of the calls that change files. Assumes nothing.
use Prim.Native.Nat.{ℕ, ◌+◌, max}
use mathlib.Core.Path.{◌≡◌, refl, sym, ap, subst, ◌∙◌}
use mathlib.Core.Bool.{not, ◌&&◌}
use mathlib.Core.List.{List, []}
use lib.ListN.{length}
use native.Mathlib.Omega.{arith}
use Rattle.spec.specs.Bitmap.{bits_of}
use Rattle.spec.specs.Inode.{is_name, inode_at, name_at, data_of, levels_of, blocks_for}
use Rattle.spec.specs.declared.Session.{Session}
use Rattle.spec.specs.declared.Refusal.{Refusal}
use Rattle.spec.specs.declared.Refusal.TheVariants.{BadName, NotReady, Taken}
use Rattle.spec.specs.Answers.{refusal_of, Result, refuse, accept, require, ◌>>=◌, ◌>>◌}
use Rattle.spec.specs.Transaction.{BlockStore, state_of, view}
use Rattle.spec.specs.Plan.{fits, creates, removes, renames, rewrites}
use Rattle.spec.specs.Calls.{Outcome, outcome, settle, left, lent_ok, name_ok, file_ok, sized_ok, known, is_taken, empty_inode, is_ready, staging, rewrite, create, remove, rename, write, set_size}
use Rattle.checks.specs.Checks.{names_ok}
use Rattle.std.specs.Prelude.{Ok, Err}
use Rattle.std.specs.Prelude.{Result as Returned}
use Rattle.alloc.specs.declared.Draft.{Draft}
use Rattle.lookup.proofs.Laws.{then-assoc}
use Rattle.lookup.specs.Looks.{new_ok, unless_taken, rename_ok}
use Rattle.spec.specs.Disk.{Disk}
use Rattle.alloc.specs.Draft.{resized_at, result_with, Drafted}

-- a plan of the working copy that a session sees, for the blocks of a size
pub drafted-for : (u v : Disk) (i n size : ℕ) (table : List ℕ) (c : Returned Draft Refusal) → u ≡ v → n ≡ blocks_for size → Drafted u i n table c → Drafted v i (blocks_for size) table c
drafted-for u v i n size table c e q d = subst (λ (w : Disk). Drafted w i (blocks_for size) table c) e (subst (λ (m : ℕ). Drafted u i m table c) q d)

then-bind : {A B C : Type 0} (a : Result A) (b : Result B) (f : B → Result C) → (a >> b) >>= f ≡ a >> (b >>= f)
then-bind (refuse r) b f = refl
then-bind (accept a) b f = refl

bind-keep : {A B C : Type 0} (a : Result A) (b : A → Result B) (f : A → Result C) → (a >>= λ i. b i >> accept i) >>= f ≡ a >>= λ i. b i >> f i
bind-keep (refuse r) b f = refl
bind-keep (accept a) b f = then-bind (b a) (accept a) f

module _ (s : Session) (d w : List ℕ) where
  -- ---- create

  module _ (name : List ℕ) where
    create-parts : settle (outcome (state_of s d w)) (new_ok (state_of s d w) name >>= λ i. staging (state_of s d w) (creates (view (state_of s d w)) i name)) ≡ create (state_of s d w) name
    unfolding create new_ok
    create-parts =
        ap (settle (outcome (state_of s d w)))
        (then-bind (name_ok (state_of s d w) name) _ _
        ∙ ap (λ (x : Result Outcome). name_ok (state_of s d w) name >> x) (then-bind (require (not (is_taken (state_of s d w) name)) Taken) (empty_inode (state_of s d w)) _))

    pub create-bad : (r : Refusal) → refuse r ≡ new_ok (state_of s d w) name → left s d w (refusal_of r) ≡ create (state_of s d w) name
    create-bad r e = ap (λ (x : Result ℕ). settle (outcome (state_of s d w)) (x >>= λ i. staging (state_of s d w) (creates (view (state_of s d w)) i name))) e ∙ create-parts

    pub create-fine : (i : ℕ) (o : Outcome) (ws : List BlockStore) → accept i ≡ new_ok (state_of s d w) name → creates (view (state_of s d w)) i name ≡ ws
        → o ≡ settle (outcome (state_of s d w)) (staging (state_of s d w) ws) → o ≡ create (state_of s d w) name
    create-fine i o ws e f g =
        g ∙ ap (λ (x : List BlockStore). settle (outcome (state_of s d w)) (staging (state_of s d w) x)) (sym f)
        ∙ ap (λ (x : Result ℕ). settle (outcome (state_of s d w)) (x >>= λ i. staging (state_of s d w) (creates (view (state_of s d w)) i name))) e ∙ create-parts

    -- ---- remove

    pub remove-bad : (r : Refusal) → refuse r ≡ file_ok (state_of s d w) name → left s d w (refusal_of r) ≡ remove (state_of s d w) name
    unfolding remove
    remove-bad r e = rw (← e)

    pub remove-fine : (i : ℕ) (o : Outcome) (ws : List BlockStore) → accept i ≡ file_ok (state_of s d w) name → removes (view (state_of s d w)) i ≡ ws
        → o ≡ settle (outcome (state_of s d w)) (staging (state_of s d w) ws) → o ≡ remove (state_of s d w) name
    unfolding remove
    remove-fine i o ws e f g = rw (← e, f) g

    -- ---- rename

    module _ (new : List ℕ) where
      renamed : ℕ → Result Outcome
      renamed i = staging (state_of s d w) (renames (view (state_of s d w)) i new)

      rename-parts : settle (outcome (state_of s d w)) (rename_ok (state_of s d w) name new >>= renamed) ≡ rename (state_of s d w) name new
      unfolding rename rename_ok names_ok unless_taken renamed
      rename-parts =
          ap (settle (outcome (state_of s d w)))
          (then-bind (names_ok (state_of s d w) name new) (unless_taken (state_of s d w) name new) renamed
          ∙ then-assoc (lent_ok (state_of s d w)) _ _
          ∙ ap (λ (x : Result Outcome). lent_ok (state_of s d w) >> x)
          (then-assoc (require (is_name name && is_name new) BadName) (require (is_ready s.phase) NotReady) _
          ∙ ap (λ (x : Result Outcome). require (is_name name && is_name new) BadName >> (require (is_ready s.phase) NotReady >> x))
          (bind-keep (known (state_of s d w) name) (λ i. require (not (is_taken (state_of s d w) new)) Taken) renamed)))

      pub rename-bad : (r : Refusal) → refuse r ≡ rename_ok (state_of s d w) name new → left s d w (refusal_of r) ≡ rename (state_of s d w) name new
      rename-bad r e = ap (λ (x : Result ℕ). settle (outcome (state_of s d w)) (x >>= renamed)) e ∙ rename-parts

      pub rename-fine : (i : ℕ) (o : Outcome) (ws : List BlockStore) → accept i ≡ rename_ok (state_of s d w) name new → renames (view (state_of s d w)) i new ≡ ws
          → o ≡ settle (outcome (state_of s d w)) (staging (state_of s d w) ws) → o ≡ rename (state_of s d w) name new
      unfolding renamed
      rename-fine i o ws e f g =
          g ∙ ap (λ (x : List BlockStore). settle (outcome (state_of s d w)) (staging (state_of s d w) x)) (sym f)
          ∙ ap (λ (x : Result ℕ). settle (outcome (state_of s d w)) (x >>= renamed)) e ∙ rename-parts

    -- ---- write and set size

    module _ (x : ℕ) (bytes : List ℕ) where
      pub write-bad : (r : Refusal) → refuse r ≡ sized_ok (state_of s d w) name (x + length bytes) → left s d w (refusal_of r) ≡ write (state_of s d w) name x bytes
      unfolding write
      write-bad r e = rw (← e)

      pub write-fine : (i size : ℕ) (o : Outcome) → accept i ≡ sized_ok (state_of s d w) name (x + length bytes) → size ≡ max (inode_at (view (state_of s d w)) i).size (x + length bytes)
          → o ≡ settle (outcome (state_of s d w)) (rewrite (state_of s d w) i size x bytes) → o ≡ write (state_of s d w) name x bytes
      unfolding write
      write-fine i size o e z g = rw (← e, ← z) g

    -- the size as code tests it: so many bytes at 0
    from_zero : (size : ℕ) → sized_ok (state_of s d w) name (0 + size) ≡ sized_ok (state_of s d w) name size
    from_zero size = let z : 0 + size ≡ size = omega arith in ap (sized_ok (state_of s d w) name) z

    pub set-size-bad : (size : ℕ) (r : Refusal) → refuse r ≡ sized_ok (state_of s d w) name (0 + size) → left s d w (refusal_of r) ≡ set_size (state_of s d w) name size
    unfolding set_size
    set-size-bad size r e = let h = e ∙ from_zero size in rw (← h)

    pub set-size-fine : (i size : ℕ) (o : Outcome) → accept i ≡ sized_ok (state_of s d w) name (0 + size)
        → o ≡ settle (outcome (state_of s d w)) (rewrite (state_of s d w) i size 0 []) → o ≡ set_size (state_of s d w) name size
    unfolding set_size
    set-size-fine i size o e g = let h = e ∙ from_zero size in rw (← h) g

  module _ (i size x : ℕ) (bytes : List ℕ) (c : Returned Draft Refusal)
      (e : fits (bits_of (view (state_of s d w) 33)) (data_of (view (state_of s d w)) (inode_at (view (state_of s d w)) i)) (levels_of (view (state_of s d w)) (inode_at (view (state_of s d w)) i)) (blocks_for size)
      ≡ result_with c (resized_at (view (state_of s d w)) i (blocks_for size))) where
    pub rewrite-bad : (r : Refusal) → c ≡ Err r → left s d w (refusal_of r) ≡ settle (outcome (state_of s d w)) (rewrite (state_of s d w) i size x bytes)
    unfolding rewrite
    rewrite-bad r h = rw (e, h)

    pub rewrite-fine : (o : Outcome) (ws : List BlockStore) (draft : Draft) → c ≡ Ok draft
        → rewrites (view (state_of s d w)) i (name_at (view (state_of s d w)) i) size x bytes (resized_at (view (state_of s d w)) i (blocks_for size)) ≡ ws
        → o ≡ settle (outcome (state_of s d w)) (staging (state_of s d w) ws) → o ≡ settle (outcome (state_of s d w)) (rewrite (state_of s d w) i size x bytes)
    unfolding rewrite
    rewrite-fine o ws draft h f g = rw (e, h, f) g
