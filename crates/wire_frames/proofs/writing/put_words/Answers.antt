use Rattle.std.proofs.Common.{arith, subst, sym}
use Rattle.wire_frames.specs.Writing.{Writes}
use Rattle.wire_frames.proofs.Writes.{then, writes_none, words_more}
use Rattle.wire_frames.proofs.writing.put_words.Goals as goal

pub loop-word-init : goal.loop-word-init
loop-word-init c = record { written = writes_none _ _ (omega arith); end = omega arith }

pub loop-word-preserved : goal.loop-word-preserved
loop-word-preserved c = record {
  written = subst (λ t. Writes c.args.out.now c.args.place t c.put_word-end.new.out c.put_word-end.result) (sym (words_more c.args.words.now c.loop-word.word-index c.loop-word-test.true)) (then c.loop-word.invariant.written c.put_word-end.ensures.written);
  end = omega (arith, c.put_word-end.ensures.end, c.loop-word.invariant.end);
}
