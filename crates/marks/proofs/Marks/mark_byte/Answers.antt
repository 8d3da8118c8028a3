use mathlib.Core.Path.{◌≡◌, refl}
use borrow.Author.Rules.{rules}
use lib.ListN.{length}
use Rattle.marks.proofs.Laws.{byte-marked}
use Rattle.marks.proofs.Marks.mark_byte.Goals as goal

pub returns : goal.returns
returns c =
    let m = c.args.self.now in
    let o : length m.once ≡ 512 = search rules in
    let t : length m.twice ≡ 512 = search rules in
    let p = c.requires in
    λ N h. rw c.mask-m.ensures (byte-marked _ _ _ o t p.0 p.1 p.2 p.3 N h _ _ refl refl)
