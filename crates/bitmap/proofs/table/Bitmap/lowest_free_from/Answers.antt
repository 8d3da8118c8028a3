use mathlib.Core.Path.{◌≡◌, sym, ap, ◌∙◌}
use Rattle.spec.specs.Bitmap.{bits_of, free_bits}
use Rattle.bitmap.specs.Words.{found_of}
use Rattle.bitmap.proofs.Laws.{none-placed}
use Rattle.bitmap.proofs.Walk.{word-at, all-passed}
use Rattle.bitmap.proofs.Words.{full-word}
use Rattle.bitmap.proofs.table.Bitmap.lowest_free_from.Goals as goal

pub loop-at-init : goal.loop-at-init
loop-at-init c = c.requires

pub returns-then-x-ne0 : goal.returns-then-x-ne0
returns-then-x-ne0 c =
    let w = word-at _ c.args.self.now.whole _ c.as_chunks.ensures.front c.loop-at.at _ c.loop-at-test.true c.from_le_bytes-x.ensures in
    sym (ap found_of (w.found c.loop-at.invariant c.if-x-ne0.true))

pub loop-at-preserved : goal.loop-at-preserved
loop-at-preserved c =
    let w = word-at _ c.args.self.now.whole _ c.as_chunks.ensures.front c.loop-at.at _ c.loop-at-test.true c.from_le_bytes-x.ensures in
    full-word _ _ _ w c.if-x-ne0.false ∙ c.loop-at.invariant

pub returns : goal.returns
returns c =
    let t = c.args.self.now.bytes in
    let e = all-passed t c.args.self.now.whole _ c.as_chunks.ensures.front c.loop-at.at c.loop-at-test.false in
    sym (ap found_of (none-placed (bits_of t) (sym (ap free_bits e) ∙ c.loop-at.invariant)))
