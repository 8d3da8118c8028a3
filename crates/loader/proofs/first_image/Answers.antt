use Rattle.std.proofs.Common.{◌≡◌, ◌∙◌, ◌/◌, ap, [], List, ℕ, length, slice_index_or, arith}
use Rattle.promises.specs.Images.{image-is}
use Rattle.loader.proofs.Laws.{first-of}
use Rattle.loader.proofs.first_image.Goals as goal

pub returns : goal.returns
returns c =
    let w = c.args.work.now in
    let n : length w ≡ 16384 = omega arith in
    image-is w _ (omega arith) (ap (λ (xs : List (List ℕ)). slice_index_or xs 0 []) c.as_chunks.ensures.front ∙ first-of w (length w / 512) (omega arith))
