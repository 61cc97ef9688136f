use Rattle.wire_frames.proofs.Writes.{then}
use Rattle.wire_frames.proofs.encoding.put_word_bytes.Goals as goal

pub returns : goal.returns
returns c = then c.put_word-place.ensures.written c.put.ensures.written
