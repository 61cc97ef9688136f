use Rattle.std.proofs.Common.{◌∙◌, arith}
use Rattle.dpf_eval.proofs.ExpansionLemmas.{eight_more}
use Rattle.dpf_eval.proofs.expansion.expand_eights.Goals as goal

pub loop-at-preserved : goal.loop-at-preserved
loop-at-preserved g c = record {
  within = omega arith;
  pairs = eight_more c.loop-at.at c.args.nodes.now c.copy_from_slice.new.self c.loop-at.pairs c.copy_from_slice-in-loop-at.new.self c.loop-at.invariant.pairs
      (c.copy_from_slice-in-loop-at.ensures.after ∙ c.expand_eight.ensures.pairs) c.copy_from_slice.ensures.after (omega arith) (omega arith);
  steps = omega arith;
}
