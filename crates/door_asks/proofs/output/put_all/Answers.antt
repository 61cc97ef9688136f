use Rattle.std.proofs.Common.{arith}
use Rattle.http_door.proofs.OutputLaws.{overflows, put_more}
use Rattle.door_asks.proofs.output.put_all.Goals as goal

pub returns-in_err-at-clause-short : goal.returns-in_err-at-clause-short
returns-in_err-at-clause-short c =
    let short = c.in_err-at.ensures.short in
    let room = c.loop-part.auto.out in
    let over =
    overflows c.args.parts.now _ _ 0 _ _ c.loop-part-test.true c.loop-part.invariant.end (rw room at short) in
    rw c.from_residual.ensures (omega (arith, over))

pub loop-part-preserved : goal.loop-part-preserved
loop-part-preserved c =
    put_more c.args.parts.now _ _ _ _ _ _ _ _ c.loop-part-test.true c.loop-part.auto.out c.loop-part.invariant
    c.in_ok-at.ensures.put
