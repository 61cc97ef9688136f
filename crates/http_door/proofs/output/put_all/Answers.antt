use Rattle.http_door.proofs.OutputLaws.{overflows, put_more}
use Rattle.http_door.proofs.output.put_all.Goals as goal

pub returns-in_err-at-clause-short : goal.returns-in_err-at-clause-short
returns-in_err-at-clause-short c =
    let short = c.in_err-at.ensures.short in
    let room = c.loop-part.auto.out in
    rw c.from_residual.ensures
    (overflows c.args.parts.now _ _ _ _ _ c.loop-part-test.true c.loop-part.invariant.end (rw room at short))

pub loop-part-preserved : goal.loop-part-preserved
loop-part-preserved c =
    put_more c.args.parts.now _ _ _ _ _ _ _ _ c.loop-part-test.true c.loop-part.auto.out c.loop-part.invariant
    c.in_ok-at.ensures.put
