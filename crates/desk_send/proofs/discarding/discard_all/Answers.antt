use Rattle.std.proofs.Common.{◌∙◌, arith, refl}
use Rattle.desk_send.specs.Places.{next, start}
use Rattle.desk_send.proofs.GivingLaws.{gives_up_any}
use Rattle.desk_send.proofs.PlaceLaws.{each_all}
use Rattle.desk_send.proofs.discarding.discard_all.Goals as goal

pub places-init : goal.places-init
places-init g c = record { faults = refl; given_up = start; steps = λ before on. on }

pub places-preserved : goal.places-preserved
places-preserved g c = record {
  faults = c.in_ok-give_up_at.ensures.sink ∙ c.places.invariant.faults;
  given_up = next _ _ _ c.places.invariant.given_up
      (gives_up_any g.F.File.Disk.disk _ _ _ _ _ c.in_ok-give_up_at.ensures.gives_up);
  steps = λ before on. c.give_up_at.ensures.steps before (c.places.invariant.steps before on);
}

pub returns-clause-given_up : goal.returns-clause-given_up
returns-clause-given_up g c =
    each_all _ _ _ c.places.number 8 (omega arith) (omega arith) c.places.invariant.given_up
