use Rattle.wire_frames.proofs.Writes.{then}
use Rattle.wire_frames.proofs.tags.put_tag_u32.Goals as goal

pub returns : goal.returns
returns c = then c.put_tag-place.ensures.written c.put_u32.ensures.written
