use mathlib.Core.Path.{◌≡◌, refl, ◌∙◌}
use native.Mathlib.Omega.{arith}
use borrow.Author.Rules.{rules}
use lib.ListN.{length, length-take, length-drop}
use Rattle.inode.proofs.Laws.{first-on-device}
use Rattle.inode.proofs.find_committed.Goals as goal

pub returns-in_err-i : goal.returns-in_err-i
returns-in_err-i c =
    let a = c.args in
    rw c.from_residual.ensures
    (λ name n e. first-on-device _ a.device.now name _ a.key _ (c.as_chunks.ensures.front, c.in_err-i.ensures.0) c.requires refl (λ i. search rules) n e)

pub invariant_of-result : goal.invariant_of-result
invariant_of-result c =
    let long : length c.as_chunks.result.0.now ≡ 128 = c.as_chunks.ensures.front_len ∙ simp (length-take, length-drop) (omega (arith, c.requires)) in
    record { low = rw long at c.in_ok-i.ensures.1 }

pub returns : goal.returns
returns c =
    let a = c.args in
    λ name n e. first-on-device _ a.device.now name _ a.key _ (c.as_chunks.ensures.front, c.in_ok-i.ensures.0) c.requires refl (λ i. search rules) n e
