use Rattle.std.proofs.Common.{refl, ◌∙◌, arith}
use Rattle.node_client.proofs.WalkLaws.{standing, stands_more, ends_so, stops_so}
use Rattle.node_client.proofs.stepping.walk.Goals as goal

pub steps-init : goal.steps-init
steps-init g c = record {
  width = c.requires.width;
  keeps = refl;
  sends = c.requires.sends;
  stands = standing _ _ _;
  count = refl;
  door = refl;
}

pub steps-smaller : goal.steps-smaller
steps-smaller g c =
    let e = rw c.in-Ok-None.field-0-is at c.in-Ok-None.ensures.step in
    (stands_more _ _ _ _ _ _ _ _ _ c.steps.invariant.stands e).2

pub steps-preserved : goal.steps-preserved
steps-preserved g c =
    let e = rw c.in-Ok-None.field-0-is at c.in-Ok-None.ensures.step in
    let more = stands_more _ _ _ _ _ _ _ _ _ c.steps.invariant.stands e in
    record {
      width = omega (arith, c.one_step.auto.message, c.steps.invariant.width, c.one_step.ensures.width);
      keeps = c.one_step.ensures.width ∙ c.steps.invariant.keeps;
      sends = more.1;
      stands = more.0;
      count = c.in-Ok-None.ensures.fault ∙ c.steps.invariant.count;
      door = c.one_step.ensures.door ∙ c.steps.invariant.door;
    }

pub returns-in-Ok-Some-clause-walked : goal.returns-in-Ok-Some-clause-walked
returns-in-Ok-Some-clause-walked g c =
    let e = rw c.in-Ok-Some.field-0-is at c.in-Ok-Some.ensures.step in
    ends_so _ _ _ _ _ _ _ _ _ _ c.steps.invariant.stands e

pub returns-in-Err-clause-walked : goal.returns-in-Err-clause-walked
returns-in-Err-clause-walked g c = stops_so _ _ _ _ _ _ _ _ _ _ c.steps.invariant.stands c.in-Err.ensures.step
