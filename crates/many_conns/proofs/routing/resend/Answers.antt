use Rattle.many_conns.proofs.ResendLaws.{resends_not, resends_so}
use Rattle.many_conns.proofs.routing.resend.Goals as goal

pub returns-then-not-is_dialled-clause-resends : goal.returns-then-not-is_dialled-clause-resends
returns-then-not-is_dialled-clause-resends g c = resends_not _ _ c.args.door _ _ c.is_dialled.ensures c.if-not-is_dialled.true

pub returns-clause-resends : goal.returns-clause-resends
returns-clause-resends g c = resends_so _ _ _ c.args.door _ _ c.is_dialled.ensures c.if-not-is_dialled.false c.resend_all.ensures.resends
