use Rattle.std.proofs.Common.{◌<◌, length, slice_index, arith}
use Rattle.std.proofs.lemmas.List.{take_all}
use Rattle.dpf_eval.proofs.OrderLemmas.{written_more, others_more}
use Rattle.dpf_eval.proofs.order.write_at.Goals as goal

pub loop-k-preserved : goal.loop-k-preserved
loop-k-preserved c =
    let boxes = c.args.boxes.now in
    let k = c.loop-k.k in
    let value = slice_index c.args.values.now k in
    let room : slice_index boxes k < length c.loop-k.out = omega (arith, c.requires.inside k (omega arith)) in
    record {
      written = λ value_of each b. written_more boxes c.loop-k.out k value (omega arith) room value_of (each k (omega arith))
          (c.loop-k.invariant.written value_of each) b;
      others = others_more boxes c.loop-k.out k value (omega arith) room c.args.out.now c.loop-k.invariant.others;
    }

pub returns-clause-written : goal.returns-clause-written
returns-clause-written c value_of each b here =
    c.loop-k.invariant.written value_of each b (rw (take_all c.loop-k.k c.args.boxes.now (omega arith)) here)
