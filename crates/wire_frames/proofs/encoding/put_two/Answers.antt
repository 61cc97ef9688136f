use Rattle.wire_frames.proofs.Writes.{then}
use Rattle.wire_frames.proofs.encoding.put_two.Goals as goal

pub returns : goal.returns
returns c = then c.put-place.ensures.written c.put.ensures.written
