use Prim.Native.Nat.{◌+◌}
use native.Mathlib.Omega.{arith}
use Rattle.bitmap.proofs.Laws.{table-filled}
use Rattle.bitmap.proofs.Runs.{bytes_filled}
use Rattle.bitmap.proofs.table.Bitmap.clear_bytes.Goals as goal

pub invariant_of-self : goal.invariant_of-self
invariant_of-self c =
    record { whole = table-filled c.args.self.now.bytes _ c.args.i (c.args.i + c.args.n) c.args.self.now.whole (omega arith) c.requires (c.fill.ensures.after (λ y h. h)) }

pub returns : goal.returns
returns c = bytes_filled c.args.self.now.bytes _ c.args.i c.args.n c.args.self.now.whole.full c.requires (c.fill.ensures.after (λ y h. h))
