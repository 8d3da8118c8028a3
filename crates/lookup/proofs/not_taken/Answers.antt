use mathlib.Core.Path.{ap, ◌∙◌}
use mathlib.Core.Bool.{Bool}
use Rattle.spec.specs.declared.Refusal.TheVariants.{Taken}
use Rattle.spec.specs.Answers.{require}
use Rattle.lookup.proofs.Laws.{free_is}
use Rattle.lookup.proofs.not_taken.Goals as goal

pub returns : goal.returns
returns c = λ s q. c.require.ensures ∙ ap (λ (t : Bool). require t Taken) (free_is c.args.volume.now c.args.name.now _ c.find.ensures s _ q c.is_none.ensures)
