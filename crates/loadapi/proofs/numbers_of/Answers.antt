use Rattle.std.proofs.Common.{◌≡◌, Ok, rules}
use Rattle.loader.specs.declared.Loaded.TheVariants.{Advanced}
use Rattle.loadapi.proofs.Laws.{advanced-told}
use Rattle.loadapi.proofs.numbers_of.Goals as goal

pub returns-in-Ok-Advanced : goal.returns-in-Ok-Advanced
returns-in-Ok-Advanced c =
    let a : c.args.answer ≡ Ok (Advanced c.in-Ok-Advanced.stored) = search rules in
    rw (a, c.numbers_at-at.ensures) (advanced-told c.in-Ok-Advanced.stored _ c.args.next c.advanced-a.ensures)
