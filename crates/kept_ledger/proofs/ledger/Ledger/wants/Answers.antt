use Rattle.std.proofs.Common.{◌∙◌, ap, arith, sym}
use Rattle.std.specs.Prelude.{is_some}
use Rattle.kept_ledger.specs.Inside.{LedgerSeen}
use Rattle.kept_ledger.proofs.WantLaws.{sending_fits, sends_frame}
use Rattle.kept_ledger.proofs.ledger.Ledger.wants.Goals as goal

pub shared_ref_as_front-request_of : goal.shared_ref_as_front-request_of
shared_ref_as_front-request_of c =
    let few = sending_fits c.args.self.now.state.pair _ c.in-Some.sending _ c.in-Some.ensures.sending
    c.in-Some.ensures.written in
    omega (arith, few)

pub returns-in-Some-clause-next : goal.returns-in-Some-clause-next
returns-in-Some-clause-next c =
    sends_frame c.args.self.now.state c.in-Some.sending _ _
    (ap (λ (l : LedgerSeen). is_some l.state.refused) (sym c.self.view_is) ∙ sym c.if-is_some.ensures)
    c.in-Some.ensures.sending c.in-Some.ensures.written c.request_of.ensures.request
