use Rattle.wire_frames.proofs.Writes.{then}
use Rattle.wire_frames.proofs.writing.put_closing.Goals as goal

pub returns-clause-written : goal.returns-clause-written
returns-clause-written c = then c.put_word-place.ensures.written c.put_word.ensures.written
