use Rattle.std.proofs.Common.{◌∙◌, add-one, length-set}
use Rattle.poly_roots.proofs.Steps.{scaled_set}
use Rattle.poly_roots.proofs.products.put_scaled.Goals as goal

pub loop-j-preserved : goal.loop-j-preserved
loop-j-preserved g c =
    let mul = g.F.Field.product in
    let j = c.loop-j.j in
    let q = c.args.q.now in
    let step = scaled_set mul c.args.c c.index-q-j.result q c.loop-j.out j c.loop-j-test.true c.loop-j.invariant.room c.index-q-j.is c.loop-j.invariant.done in
    record {
      room = length-set c.loop-j.out j c.mul.result ∙ c.loop-j.invariant.room;
      done = rw (add-one, c.mul.ensures) step;
    }
