use Rattle.std.proofs.Common.{refl, inl, sym, ◌∙◌, arith}
use Rattle.std.proofs.lemmas.List.{take_all, length-map}
use Rattle.client_core.specs.Requests.{plain_request}
use Rattle.node_exchange.specs.Exchanging.{EarlyAtEnd}
use Rattle.node_client.proofs.EarlyLaws.{still_or}
use Rattle.node_client.proofs.WorkLaws.{request_at}
use Rattle.client_run.proofs.TellLaws.{telling_first, telling_more, telling_breaks, telling_cut, telling_all}
use Rattle.client_run.proofs.telling.tell_off.Goals as goal

pub loop-number-init : goal.loop-number-init
loop-number-init g c = record {
  within = omega arith;
  ready = c.requires.ready;
  peers = refl;
  keeps = refl;
  telling = telling_first _ _ _ _ _;
  count = refl;
  sink = refl;
  early = inl refl;
  door = refl;
}

pub returns-in-Err-clause-tells : goal.returns-in-Err-clause-tells
returns-in-Err-clause-tells g c =
    let at = request_at c.args.requests.now c.loop-number.number _ c.loop-number-test.true in
    telling_cut _ _ _ _ _ c.tell_one.new.self.client _ c.loop-number.number _ c.in-Err.why _ _ _ c.loop-number.invariant.peers c.loop-number.invariant.telling at.0 at.1 c.in-Err.ensures.tells

pub returns-then-not-goes_on-clause-tells : goal.returns-then-not-goes_on-clause-tells
returns-then-not-goes_on-clause-tells g c =
    let at = request_at c.args.requests.now c.loop-number.number _ c.loop-number-test.true in
    telling_breaks _ _ _ _ _ _ _ c.loop-number.number _ c.in-Ok.told _ _ _ c.loop-number.invariant.peers c.loop-number.invariant.telling at.0 at.1 c.in-Ok.ensures.tells
    (sym c.goes_on.ensures ∙ c.if-not-goes_on.true)

pub loop-number-preserved : goal.loop-number-preserved
loop-number-preserved g c =
    let at = request_at c.args.requests.now c.loop-number.number _ c.loop-number-test.true in
    record {
      within = omega (arith, c.loop-number-test.true);
      ready = c.in-Ok.ensures.ready;
      peers = c.tell_one.ensures.peers ∙ c.loop-number.invariant.peers;
      keeps = c.tell_one.ensures.width ∙ c.loop-number.invariant.keeps;
      telling = telling_more _ _ _ _ _ _ _ c.loop-number.number _ c.in-Ok.told _ _ _ c.loop-number.invariant.peers c.loop-number.invariant.telling at.0 at.1 c.in-Ok.ensures.tells
          (sym c.goes_on.ensures ∙ c.if-not-goes_on.false);
      count = c.in-Ok.ensures.fault ∙ c.loop-number.invariant.count;
      sink = c.in-Ok.ensures.sink ∙ c.loop-number.invariant.sink;
      early = still_or (λ net. EarlyAtEnd (g.N.Counted.seen net).calls g.N.Conn.Counted.seen) _ _ _ c.loop-number.invariant.early c.tell_one.ensures.early;
      door = c.tell_one.ensures.door ∙ c.loop-number.invariant.door;
    }

pub returns-clause-tells : goal.returns-clause-tells
returns-clause-tells g c =
    telling_all _ _ _ _ _ _ _ _ c.loop-number.invariant.telling
    (take_all c.loop-number.number _ (omega (arith, length-map c.args.requests.now plain_request, c.loop-number-test.false)))

pub returns-in-Err-clause-early : goal.returns-in-Err-clause-early
returns-in-Err-clause-early g c = still_or (λ net. EarlyAtEnd (g.N.Counted.seen net).calls g.N.Conn.Counted.seen) _ _ _ c.loop-number.invariant.early c.tell_one.ensures.early

pub returns-then-not-goes_on-clause-early : goal.returns-then-not-goes_on-clause-early
returns-then-not-goes_on-clause-early g c = still_or (λ net. EarlyAtEnd (g.N.Counted.seen net).calls g.N.Conn.Counted.seen) _ _ _ c.loop-number.invariant.early c.tell_one.ensures.early
