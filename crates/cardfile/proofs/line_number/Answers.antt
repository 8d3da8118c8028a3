use Rattle.std.proofs.Common.{◌≡◌, ◌==◌, rules, take}
use Rattle.std.specs.Prelude.{count_by}
use Rattle.cardfile.proofs.Forms.{number-is}
use Rattle.cardfile.proofs.line_number.Goals as goal

pub returns : goal.returns
returns c =
    let q : c.count.result ≡ count_by (λ b. b == 10) (take c.min-end.result c.args.text.now) = search rules in
    number-is c.args.text.now c.args.at _ (rw c.min-end.ensures at q)
