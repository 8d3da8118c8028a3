use Rattle.std.proofs.Common.{sym}
use Rattle.std.proofs.lemmas.List.{length-take-le}
use Rattle.cardfile.proofs.Forms.{in-bound}
use Rattle.cardfile.proofs.line_in.Goals as goal

pub slice_bounds-form_of-end : goal.slice_bounds-form_of-end
slice_bounds-form_of-end c = sym (length-take-le _ c.args.rest.now (in-bound _ c.args.at _ c.line_length-n.ensures))
