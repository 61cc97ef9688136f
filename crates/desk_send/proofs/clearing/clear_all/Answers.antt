use Rattle.std.proofs.Common.{arith}
use Rattle.desk_send.specs.Places.{next, start}
use Rattle.desk_send.proofs.PlaceLaws.{each_all}
use Rattle.desk_send.proofs.clearing.clear_all.Goals as goal

pub places-init : goal.places-init
places-init g c = record { places = start; steps = λ before on. on }

pub places-preserved : goal.places-preserved
places-preserved g c = record {
  places = next _ _ _ c.places.invariant.places c.in_ok-clear_one.ensures.cleared;
  steps = λ before on. c.clear_one.ensures.steps before (c.places.invariant.steps before on);
}

pub returns-clause-cleared : goal.returns-clause-cleared
returns-clause-cleared g c = each_all _ _ _ c.places.number 8 (omega arith)
    (omega arith) c.places.invariant.places
