use Prim.Native.Nat.{ℕ}
use native.Mathlib.Omega.{arith}
use lib.ListN.{length, length-replicate}
use Rattle.block.proofs.Laws.{allowed-says}
use Rattle.mkfs.proofs.Laws.{made}
use Rattle.mkfs.proofs.make_empty.Goals as goal

pub overflow_cast-n : goal.overflow_cast-n
overflow_cast-n c = let a = allowed-says _ c.requires in omega arith

pub empty_table-table-requires : goal.empty_table-table-requires
empty_table-table-requires c = let a = allowed-says _ c.requires in (omega arith, omega arith)

pub store_block-requires : goal.store_block-requires
store_block-requires c =
    let a = allowed-says _ c.requires in
    let l = c.fill.ensures.len in
    omega (arith, length-replicate {A = ℕ} (length c.args.device.now) 0)

pub returns : goal.returns
returns c =
    made _ _ _ _ _ (c.fill.ensures.after (λ y h. h)) c.empty_table-table.ensures.0 c.store_block.ensures
