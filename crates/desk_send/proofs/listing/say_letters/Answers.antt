use Rattle.std.proofs.Common.{◌∙◌, arith, refl}
use Rattle.desk_send.specs.Places.{next, start}
use Rattle.desk_send.proofs.PlaceLaws.{each_all}
use Rattle.desk_send.proofs.TroubleLaws.{passed_on}
use Rattle.desk_send.proofs.listing.say_letters.Goals as goal

pub places-init : goal.places-init
places-init g c = record { faults = refl; said = start; steps = λ before on. on }

pub places-preserved : goal.places-preserved
places-preserved g c = record {
  faults = c.in_ok-say_letter.ensures.sink ∙ c.places.invariant.faults;
  said = next _ _ _ c.places.invariant.said c.in_ok-say_letter.ensures.said;
  steps = λ before on. c.say_letter.ensures.steps before (c.places.invariant.steps before on);
}

pub returns-clause-said : goal.returns-clause-said
returns-clause-said g c = each_all _ _ _ c.places.number 8 (omega arith) (omega arith) c.places.invariant.said

pub returns-in_err-say_letter-clause-untold : goal.returns-in_err-say_letter-clause-untold
returns-in_err-say_letter-clause-untold g c =
    passed_on _ c.in_err-say_letter.field-0.0 _ c.from_residual.ensures.1
    (λ out. record {
      number = c.places.number;
      mid = _;
      said = c.places.invariant.said;
      looked = c.in_err-say_letter.ensures.untold out;
    })
