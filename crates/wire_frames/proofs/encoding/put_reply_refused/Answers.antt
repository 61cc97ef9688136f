use Rattle.wire_frames.proofs.Writes.{then}
use Rattle.wire_frames.proofs.encoding.put_reply_refused.Goals as goal

pub returns : goal.returns
returns c = then c.put_tag-place.ensures.written c.put_refusal.ensures
