use Rattle.std.proofs.Common.{◌≡◌, true, false, Some, ap, ◌∙◌}
use Rattle.settings_text.proofs.AddressLaws.{is_old, it_is_old, it_is_new, one_more, repeated, stopped, all_collected}
use Rattle.settings_text.proofs.files.collected.Goals as goal

pub returns-in_default-clause-value : goal.returns-in_default-clause-value
returns-in_default-clause-value c =
    stopped c.loop-value.addresses.keys c.args.values.now c.loop-value.value-index c.value-item.result c.loop-value-test.true c.value-item.is c.in_default.ensures c.loop-value.invariant

pub returns-then-not-is_new-clause-value : goal.returns-then-not-is_new-clause-value
returns-then-not-is_new-clause-value c =
    let old : is_old c.loop-value.addresses.keys c.in-Some.address ≡ true = it_is_old c.in_ok-is_new.is_new _ c.in_ok-is_new.ensures.added c.if-not-is_new.true in
    repeated c.loop-value.addresses.keys c.in-Some.address c.args.values.now c.loop-value.value-index c.value-item.result c.loop-value-test.true c.value-item.is c.in-Some.ensures old c.loop-value.invariant

pub loop-value-preserved : goal.loop-value-preserved
loop-value-preserved c =
    let new : is_old c.loop-value.addresses.keys c.in-Some.address ≡ false = it_is_new c.in_ok-is_new.is_new _ c.in_ok-is_new.ensures.added c.if-not-is_new.false in
    rw (c.in_ok-is_new.ensures.keys, new)
    (one_more c.loop-value.addresses.keys c.in-Some.address c.args.values.now c.loop-value.value-index c.value-item.result c.loop-value-test.true c.value-item.is c.in-Some.ensures new c.loop-value.invariant)

pub returns-clause-value : goal.returns-clause-value
returns-clause-value c =
    let found = c.from_vec.ensures ∙ c.in_ok-addresses.ensures.items ∙ c.as_slice.ensures.keys in
    ap Some found ∙ all_collected c.loop-value.addresses.keys c.args.values.now c.loop-value.value-index c.loop-value-test.false c.loop-value.invariant
