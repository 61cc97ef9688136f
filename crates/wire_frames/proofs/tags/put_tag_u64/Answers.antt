use Rattle.wire_frames.proofs.Writes.{then}
use Rattle.wire_frames.proofs.tags.put_tag_u64.Goals as goal

pub returns : goal.returns
returns c = then c.put_tag-place.ensures.written c.put_u64.ensures.written
