use Rattle.wire_frames.proofs.Writes.{then}
use Rattle.wire_frames.proofs.tags.put_tag_word.Goals as goal

pub returns-clause-written : goal.returns-clause-written
returns-clause-written c = then c.put_tag-place.ensures.written c.put_word.ensures.written
