use mathlib.Core.Path.{sym, ap, ◌∙◌}
use native.Mathlib.Omega.{arith}
use borrow.Author.Rules.{rules}
use Rattle.transaction.proofs.Laws.{edited}
use Rattle.transaction.proofs.image.Image.edit.Goals as goal

pub returns-clause-bytes : goal.returns-clause-bytes
returns-clause-bytes g c f makes =
    let m = c.args.self.now in
    let e = c.on_array.ensures in
    edited f m.place m.images.now.lent.now.work.now c.on_array.new.block _ (omega (arith, m.images.now.whole, m.inside)) (sym e.leaves ∙ makes _ _ e.met ∙ ap f e.shows) (search rules) (search rules)
