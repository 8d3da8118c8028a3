-- Where a load may begin: on an empty store of every size, and again behind a cut. Assumes nothing.
use Rattle.std.specs.Prelude.{ℕ, zero, suc, ◌+◌, ◌≤◌, ◌≡◌, refl, false, cond, List, [], ◌∷◌, replicate}
use Rattle.std.proofs.Common.{sym, ap, ◌∙◌, subst}
use Rattle.spec.specs.declared.Phase.TheVariants.{Ready}
use Rattle.spec.specs.Layout.{fewest_blocks, most_blocks, work_size}
use Rattle.spec.specs.Disk.{Slice}
use Rattle.spec.specs.Session.{opened}
use Rattle.spec.specs.Answers.{done, is_refused}
use Rattle.spec.specs.Transaction.{State, with_session}
use Rattle.spec.specs.Calls.{Outcome, outcome, Open, Advance, step}
use Rattle.spec.specs.CutRule.{call, cut, Both, next, after, advances, Starts, start_of}
use Rattle.laws.specs.Starts.{empty_store, empty-starts}
use Rattle.promises.specs.Reached.{reached-next, reached-after}
use Rattle.promises.specs.Advance.{advance-work}
use Rattle.loadlaws.specs.Lists.{LoadEvent, load_after}
use Rattle.loadlaws.proofs.Lists.{load-reached, load_cut}
use Rattle.loadlaws.specs.Maps.{Idle}
use Rattle.loadlaws.specs.Begins.{ready-idle, open-idle, recovery}

-- advances of a list
advanced-store : (n N : ℕ) (b : Both) → (after step N b (replicate n (call Advance))).store ≡ advances step n b.store
advanced-store zero N b = refl
advanced-store (suc n) N b = advanced-store n N (next step N b (call Advance))

advances-work : (n : ℕ) (s : State) → (advances step n s).work ≡ s.work
advances-work zero s = refl
advances-work (suc n) s = advances-work n (step s Advance).after ∙ advance-work s

-- behind any list with steps of loads, a cut and its recovery, the second open lets a load begin, or go on
pub recovered-idle : (N : ℕ) (s : State) → Starts N s → (es : List LoadEvent) (w : Slice) → w.size ≡ work_size
    → let b = load_after N (start_of s) es in Idle N (next step N (after step N b (recovery b w)) (call Open))
recovered-idle N s h es w room =
    let b = load_after N (start_of s) es in
    let n = cond b.plain.pending (b.plain.k + 1) 0 in
    let o = next step N (next step N b (cut w)) (call Open) in
    let c = load_cut N s h es in
    let e : (after step N b (recovery b w)).store ≡ advances step n o.store = advanced-store n N o in
    let size : (advances step n o.store).work.size ≡ work_size =
    ap (λ (x : Slice). x.size) (advances-work n o.store) ∙ ap (λ (x : Outcome). x.after.work.size) (c.opens w) ∙ room in
    ready-idle N (after step N b (recovery b w)) (reached-after N b (recovery b w) (load-reached N s h es)) (ap (λ (x : State). x.work.size) e ∙ size)
    (subst (λ (x : State). step x Open ≡ outcome (with_session x (opened N Ready)) done) (sym e) (c.opens-again w room))

-- behind any list with steps of loads, and a cut that leaves no log, an open lets a load begin, or go on
pub cut-idle : (N : ℕ) (s : State) → Starts N s → (es : List LoadEvent) (w : Slice) → w.size ≡ work_size → (load_after N (start_of s) es).plain.pending ≡ false
    → Idle N (next step N (next step N (load_after N (start_of s) es) (cut w)) (call Open))
cut-idle N s h es w room p =
    let b = load_after N (start_of s) es in
    open-idle N (next step N b (cut w)) (reached-next N b (cut w) (load-reached N s h es)) room p (ap (λ (o : Outcome). is_refused o.answer) ((load_cut N s h es).opens w))

-- so a load can begin on an empty store of every size
pub empty-idle : (N : ℕ) → fewest_blocks ≤ N → N ≤ most_blocks → (w : Slice) → w.size ≡ work_size
    → Idle N (after step N (start_of (empty_store N w)) (cut w ∷ call Open ∷ []))
empty-idle N lo hi w room = cut-idle N (empty_store N w) (empty-starts N lo hi w) [] w room refl
