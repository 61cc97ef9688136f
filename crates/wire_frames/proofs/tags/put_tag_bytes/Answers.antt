use Rattle.wire_frames.proofs.Writes.{then}
use Rattle.wire_frames.proofs.tags.put_tag_bytes.Goals as goal

pub returns-clause-written : goal.returns-clause-written
returns-clause-written c = then c.put_tag-place.ensures.written c.put.ensures.written
