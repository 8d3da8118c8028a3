use native.Mathlib.Omega.{arith}
use mathlib.Core.Path.{◌≡◌, ap, ◌∙◌}
use mathlib.Core.List.{List, [], ◌∷◌}
use Prim.Native.Nat.{ℕ, ◌≤◌}
use borrow.Author.Rules.{rules}
use lib.ListN.{length, get_or}
use Rattle.block.proofs.Laws.{patch-in}
use Rattle.trial.proofs.put_files.Goals as goal

pub returns : goal.returns
returns c =
    let w = c.put_slot-7.new.device in
    let l : length w ≡ length c.args.device.now = search rules in (
      c.put-4.ensures.0 ∙ l,
      λ h.
          let f : 16903 ≤ length w = omega (arith, l, h) in
          let p = c.put-4.ensures.1 f in (
            ap (λ (d : List ℕ). get_or d 16901 0) p ∙ patch-in 16901 (95 ∷ 85 ∷ []) w f 0 (omega arith),
            ap (λ (d : List ℕ). get_or d 16902 0) p ∙ patch-in 16901 (95 ∷ 85 ∷ []) w f 1 (omega arith),
          ),
    )
