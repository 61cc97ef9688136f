use Rattle.wire_frames.proofs.Writes.{then}
use Rattle.wire_frames.proofs.encoding.put_rejected.Goals as goal

pub returns : goal.returns
returns c = then c.put_tag_word-place.ensures.written (then c.put_word-place.ensures.written (then c.put_word-place-2.ensures.written c.put_word.ensures.written))
