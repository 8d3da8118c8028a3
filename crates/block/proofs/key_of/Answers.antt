use Rattle.block.proofs.Keys.{key-is}
use Rattle.block.proofs.key_of.Goals as goal

pub returns : goal.returns
returns c = (key-is c.args.name.now _ c.told-name c.from_le_bytes.ensures, record { long = c.told-name; small = c.fits-name })
