use Rattle.std.proofs.Common.{Some, sym, ap, ◌∙◌}
use Rattle.settings_text.specs.Requests.{IsAsking, asking_in}
use Rattle.settings_text.proofs.LoopLaws.{one_more, stopped, all_read}
use Rattle.settings_text.proofs.requests.askings.Goals as goal

pub returns-in_default-clause-value : goal.returns-in_default-clause-value
returns-in_default-clause-value c =
    let width = c.args.width in
    stopped (asking_in width) (IsAsking width) c.loop-value.requests.items c.args.values.now c.loop-value.value-index c.value-item.result c.loop-value-test.true c.value-item.is (sym c.in_default.is ∙ c.in_ok-one.ensures.value) c.loop-value.invariant

pub loop-value-preserved : goal.loop-value-preserved
loop-value-preserved c =
    let width = c.args.width in
    rw c.in_ok-push.ensures.items
    (one_more (asking_in width) (IsAsking width) c.loop-value.requests.items c.in-Some.one c.args.values.now c.loop-value.value-index c.value-item.result c.loop-value-test.true c.value-item.is (sym c.in-Some.is ∙ c.in_ok-one.ensures.value) (rw c.in-Some.is at c.in_ok-one.ensures.limits) c.loop-value.invariant)

pub returns-clause-value : goal.returns-clause-value
returns-clause-value c =
    let width = c.args.width in
    ap Some c.from_vec.ensures ∙ all_read (asking_in width) (IsAsking width) c.loop-value.requests.items c.args.values.now c.loop-value.value-index c.loop-value-test.false c.loop-value.invariant
