use Rattle.std.proofs.Common.{◌<◌, length, arith}
use Rattle.many_conns.proofs.ResendLaws.{resends_none, resends_more, resends_all, in_range}
use Rattle.many_conns.proofs.routing.resend_all.Goals as goal

pub resending-init : goal.resending-init
resending-init g c = record {
  sent = resends_none _ _;
  goes_on = g.met.H.Hub.goes_on_none _;
  within = omega arith;
}

pub resending-preserved : goal.resending-preserved
resending-preserved g c =
    let sent = c.resending-test.ensures.sent in
    let lt : c.resending.index < length (g.S.Answering.rules.outstanding c.args.server.now) = in_range _ _ _ sent.there in
    record {
      sent = resends_more _ _ _ _ _ _ c.resending.invariant.sent sent;
      goes_on = g.met.H.Hub.goes_on_then _ _ _ c.resending.invariant.goes_on c.resend_one.ensures.goes_on;
      within = omega arith;
    }

pub resending-smaller : goal.resending-smaller
resending-smaller g c =
    let lt : c.resending.index < length (g.S.Answering.rules.outstanding c.args.server.now) = in_range _ _ _ c.resending-test.ensures.sent.there in
    omega arith

pub overflow_add-index : goal.overflow_add-index
overflow_add-index g c = omega (arith, c.resend_one.ensures.few, c.resending.invariant.within)

pub returns-clause-resends : goal.returns-clause-resends
returns-clause-resends g c = resends_all _ _ _ _ _ _ c.resending.invariant.sent c.resending-test.ensures.none c.resending-test.ensures.told
