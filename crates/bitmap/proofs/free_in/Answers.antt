use mathlib.Core.Path.{◌∙◌}
use native.Mathlib.Omega.{arith}
use Rattle.spec.specs.Bitmap.{bits_of}
use Rattle.bitmap.proofs.Laws.{length-bits, free-le}
use Rattle.bitmap.proofs.Words.{all-free}
use Rattle.bitmap.proofs.free_in.Goals as goal

pub free_in_words-requires : goal.free_in_words-requires
free_in_words-requires c =
    let t = c.args.t.now in
    omega (arith, all-free t c.told-t _ c.as_chunks.ensures.front c.fits-t, free-le (bits_of t), length-bits t, c.told-t)

pub returns : goal.returns
returns c =
    let t = c.args.t.now in
    let e = c.free_in_words.ensures ∙ all-free t c.told-t _ c.as_chunks.ensures.front c.fits-t in
    (e, omega (arith, e, free-le (bits_of t), length-bits t, c.told-t))
