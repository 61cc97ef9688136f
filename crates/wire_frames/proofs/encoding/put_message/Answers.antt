use Rattle.wire_frames.proofs.Writes.{then}
use Rattle.wire_frames.proofs.encoding.put_message.Goals as goal

pub returns : goal.returns
returns c = then c.put_tag-place.ensures.written c.put_two.ensures
