use Rattle.std.proofs.Common.{Some, ap, ◌∙◌}
use Rattle.settings_text.specs.Owned.{IsOwned, owned_box_in}
use Rattle.settings_text.proofs.LoopLaws.{one_more, stopped, all_read}
use Rattle.settings_text.proofs.owned.owned_boxes.Goals as goal

pub returns-in_default-clause-value : goal.returns-in_default-clause-value
returns-in_default-clause-value c =
    stopped owned_box_in IsOwned c.loop-value.owned.items c.args.values.now c.loop-value.value-index c.value-item.result c.loop-value-test.true c.value-item.is c.in_default.ensures.value c.loop-value.invariant

pub loop-value-preserved : goal.loop-value-preserved
loop-value-preserved c =
    rw c.in_ok-push.ensures.items
    (one_more owned_box_in IsOwned c.loop-value.owned.items c.in-Some.one c.args.values.now c.loop-value.value-index c.value-item.result c.loop-value-test.true c.value-item.is c.in-Some.ensures.value c.in-Some.ensures.limits c.loop-value.invariant)

pub returns-clause-value : goal.returns-clause-value
returns-clause-value c =
    ap Some c.from_vec.ensures ∙ all_read owned_box_in IsOwned c.loop-value.owned.items c.args.values.now c.loop-value.value-index c.loop-value-test.false c.loop-value.invariant
