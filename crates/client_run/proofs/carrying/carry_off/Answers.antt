use Rattle.std.proofs.Common.{◌≡◌, length, refl, inl, sym, ap, ◌∙◌, arith}
use Rattle.node_exchange.specs.Exchanging.{EarlyAtEnd}
use Rattle.node_client.proofs.EarlyLaws.{still_or}
use Rattle.node_client.proofs.WorkLaws.{working, request_at, works_more, works_stop}
use Rattle.client_run.proofs.CarryLaws.{none_carry, none_whole, one_carries, one_whole, one_more_told, breaks, on_err, untold_part}
use Rattle.client_run.proofs.carrying.carry_off.Goals as goal

pub loop-number-init : goal.loop-number-init
loop-number-init g c = record {
  within = omega arith;
  idle = c.requires.idle;
  width = c.requires.width;
  keeps = refl;
  working = working _ _ _ _ _ c.new-finished.ensures.items;
  carried = none_carry _ c.new-finished.ensures.items;
  whole = none_whole _ _ c.new-finished.ensures.items;
  few = omega (arith, ap length c.new-finished.ensures.items);
  count = refl;
  early = inl refl;
  door = refl;
}

pub returns-in-Err-clause-works : goal.returns-in-Err-clause-works
returns-in-Err-clause-works g c =
    let at = request_at c.args.requests.now c.loop-number.number _ c.loop-number-test.true in
    works_stop _ _ _ _ _ _ _ _ _ _ _ _ _ c.loop-number.invariant.working at.0 at.1 c.in-Err.ensures.came

pub returns-then-not-carries-clause-works : goal.returns-then-not-carries-clause-works
returns-then-not-carries-clause-works g c =
    let at = request_at c.args.requests.now c.loop-number.number _ c.loop-number-test.true in
    let more = works_more _ _ _ _ _ _ _ _ _ _ _ _ _ _ _ c.loop-number.invariant.working at.0 at.1 c.in-Ok.ensures.came c.in_ok-one.ensures refl in
    breaks _ _ _ _ _ _ _ _ _ _ _ _ more c.in_ok-one.ensures (sym c.carries.ensures ∙ c.if-not-carries.true)

pub loop-number-preserved : goal.loop-number-preserved
loop-number-preserved g c =
    let size : length c.one_request.new.message ≡ c.args.client.now.width
    = omega (arith, c.one_request.auto.message, c.loop-number.invariant.width, c.loop-number.invariant.keeps) in
    let at = request_at c.args.requests.now c.loop-number.number _ c.loop-number-test.true in
    record {
      within = omega (arith, c.loop-number-test.true);
      idle = c.in-Ok.ensures.idle;
      width = omega (arith, c.one_request.auto.message, c.loop-number.invariant.width, c.one_request.ensures.width);
      keeps = c.one_request.ensures.width ∙ c.loop-number.invariant.keeps;
      working = works_more _ _ _ _ _ _ _ _ _ _ _ _ _ _ _ c.loop-number.invariant.working at.0 at.1 c.in-Ok.ensures.came
          c.in_ok-one.ensures c.in_ok-push.ensures.items;
      carried = one_carries _ _ _ _ _ _ c.in_ok-one.ensures (sym c.carries.ensures ∙ c.if-not-carries.false) c.in_ok-push.ensures.items c.loop-number.invariant.carried;
      whole = one_whole _ _ _ _ _ _ _ c.in_ok-one.ensures size c.in_ok-push.ensures.items c.loop-number.invariant.whole;
      few = one_more_told _ _ _ _ c.in_ok-push.ensures.items c.loop-number.invariant.few;
      count = c.in-Ok.ensures.fault ∙ c.loop-number.invariant.count;
      early = still_or (λ net. EarlyAtEnd (g.N.Counted.seen net).calls g.N.Conn.Counted.seen) _ _ _ c.loop-number.invariant.early c.one_request.ensures.early;
      door = c.one_request.ensures.door ∙ c.loop-number.invariant.door;
    }

pub returns-in-Err-clause-early : goal.returns-in-Err-clause-early
returns-in-Err-clause-early g c = still_or (λ net. EarlyAtEnd (g.N.Counted.seen net).calls g.N.Conn.Counted.seen) _ _ _ c.loop-number.invariant.early c.one_request.ensures.early

pub returns-in_err-one-clause-early : goal.returns-in_err-one-clause-early
returns-in_err-one-clause-early g c = still_or (λ net. EarlyAtEnd (g.N.Counted.seen net).calls g.N.Conn.Counted.seen) _ _ _ c.loop-number.invariant.early c.one_request.ensures.early

pub returns-then-not-carries-clause-early : goal.returns-then-not-carries-clause-early
returns-then-not-carries-clause-early g c = still_or (λ net. EarlyAtEnd (g.N.Counted.seen net).calls g.N.Conn.Counted.seen) _ _ _ c.loop-number.invariant.early c.one_request.ensures.early

pub returns-in_err-push-clause-early : goal.returns-in_err-push-clause-early
returns-in_err-push-clause-early g c = still_or (λ net. EarlyAtEnd (g.N.Counted.seen net).calls g.N.Conn.Counted.seen) _ _ _ c.loop-number.invariant.early c.one_request.ensures.early

pub returns-in_err-one-clause-wants : goal.returns-in_err-one-clause-wants
returns-in_err-one-clause-wants g c =
    let at = request_at c.args.requests.now c.loop-number.number _ c.loop-number-test.true in
    let more = works_more _ _ _ _ _ _ _ _ _ _ c.one_request.new.message c.in-Ok.told _ _ _ c.loop-number.invariant.working at.0 at.1 c.in-Ok.ensures.came refl refl in
    on_err _ _ (untold_part _ _ _ _ _ c.loop-number.number _ c.one_request.new.message c.in-Ok.told _ _ more c.loop-number.invariant.carried)

pub returns-in_err-push-clause-wants : goal.returns-in_err-push-clause-wants
returns-in_err-push-clause-wants g c =
    let at = request_at c.args.requests.now c.loop-number.number _ c.loop-number-test.true in
    let more = works_more _ _ _ _ _ _ _ _ _ _ c.one_request.new.message c.in-Ok.told _ _ _ c.loop-number.invariant.working at.0 at.1 c.in-Ok.ensures.came refl refl in
    on_err _ _ (untold_part _ _ _ _ _ c.loop-number.number _ c.one_request.new.message c.in-Ok.told _ _ more c.loop-number.invariant.carried)
