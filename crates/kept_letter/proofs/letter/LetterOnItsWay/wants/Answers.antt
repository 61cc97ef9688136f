use Rattle.std.proofs.Common.{arith}
use Rattle.kept_letter.proofs.WantLaws.{sending_fits, sends_frame}
use Rattle.kept_letter.proofs.letter.LetterOnItsWay.wants.Goals as goal

pub shared_ref_as_front-request_of : goal.shared_ref_as_front-request_of
shared_ref_as_front-request_of c =
    let few = sending_fits c.args.self.now c.in-Send.sending _ c.in-Send.ensures.next c.in-Send.ensures.written in
    omega (arith, few)

pub returns-in-Send-clause-next : goal.returns-in-Send-clause-next
returns-in-Send-clause-next c =
    sends_frame c.args.self.now c.in-Send.sending _ _ c.in-Send.ensures.next c.in-Send.ensures.written
    c.request_of.ensures.request
