use Rattle.wire_frames.proofs.Writes.{then}
use Rattle.wire_frames.proofs.writing.put_proof_share.Goals as goal

pub returns-clause-written : goal.returns-clause-written
returns-clause-written c =
    then c.put_word-place.ensures.written
    (then c.put_word-place-2.ensures.written
    (then c.put_words-place.ensures.written
    (then c.put_word-place-3.ensures.written (then c.put_word-place-4.ensures.written c.put_word.ensures.written))))
