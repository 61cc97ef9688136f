use Rattle.std.proofs.Common.{◌∙◌, arith, refl}
use Rattle.desk_run.specs.Finds.{next, start}
use Rattle.desk_run.proofs.PlaceLaws.{each_all}
use Rattle.desk_run.proofs.listing.say_letters.Goals as goal

pub places-init : goal.places-init
places-init g c = record { faults = refl; said = start; steps = λ before on. on }

pub places-preserved : goal.places-preserved
places-preserved g c = record {
  faults = c.in_ok-say_letter.ensures.sink ∙ c.places.invariant.faults;
  said = next _ _ _ c.places.invariant.said c.in_ok-say_letter.ensures.said;
  steps = λ before on. c.say_letter.ensures.steps before (c.places.invariant.steps before on);
}

pub returns-clause-said : goal.returns-clause-said
returns-clause-said g c = each_all _ _ _ c.places.number 8 (omega arith) (omega arith) c.places.invariant.said
