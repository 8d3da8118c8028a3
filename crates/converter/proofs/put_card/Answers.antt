use Rattle.cardfile.specs.Lines.{letter_of}
use Rattle.converter.proofs.Writes.{put_all}
use Rattle.converter.proofs.put_card.Goals as goal

pub returns : goal.returns
returns c = put_all (letter_of c.args.wanted) _ _ _ _ c.put_serial.ensures _ c.put.ensures _ (rw c.letter.ensures at c.put-2.ensures) _ c.put-3.ensures _ c.put_bytes.ensures _ c.put-4.ensures
