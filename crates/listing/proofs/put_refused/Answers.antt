use Prim.Native.Nat.{ℕ}
use mathlib.Core.Path.{ap, ◌∙◌}
use Rattle.spec.specs.Listing.{refused_word}
use Rattle.text.proofs.Laws.{put_as}
use Rattle.listing.specs.Steps.{told_text}
use Rattle.listing.proofs.Laws.{refused-is}
use Rattle.listing.proofs.put_refused.Goals as goal

pub returns : goal.returns
returns c = put_as _ _ _ _ c.put_told.ensures (ap (λ (n : ℕ). told_text refused_word n) c.number.ensures ∙ refused-is c.args.why)
