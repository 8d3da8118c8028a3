use mathlib.Core.Path.{ap, ◌∙◌}
use Prim.Native.Nat.{ℕ}
use Rattle.spec.specs.Inode.{inode_of}
use Rattle.inode.specs.Records.{record_in}
use Rattle.query.proofs.Laws.{block_of, size-fine}
use Rattle.query.proofs.size_in.Goals as goal

pub returns : goal.returns
returns c =
    let a = c.args in
    let t = c.of.result.table.now in
    λ s q. size-fine s a.name.now _ _ t (c.in_ok-i.ensures s q) (c.size.ensures ∙ ap (λ (k : ℕ). (inode_of (record_in t k)).size) c.of.ensures.0)
    (block_of a.volume.now s t _ q c.of.ensures.1)
