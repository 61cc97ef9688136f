use Rattle.wire_frames.proofs.Writes.{then}
use Rattle.wire_frames.proofs.encoding.put_address_key.Goals as goal

pub returns : goal.returns
returns c = then c.put_address-place.ensures.written c.put.ensures.written
