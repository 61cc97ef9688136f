use Rattle.wire_frames.proofs.Writes.{then}
use Rattle.wire_frames.proofs.encoding.put_audited.Goals as goal

pub returns : goal.returns
returns c = then c.put_tag-place.ensures.written (then c.put_openings-place.ensures.written c.put_closing.ensures.written)
