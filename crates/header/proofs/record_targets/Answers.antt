use Rattle.std.proofs.Common.{rules, tests}
use Rattle.header.proofs.Loops.{records-made}
use Rattle.header.proofs.record_targets.Goals as goal

pub returns : goal.returns
returns c = records-made c.args.head.now _ (λ i t q k. search (rules, tests)) _ c.from_fn.ensures.items
