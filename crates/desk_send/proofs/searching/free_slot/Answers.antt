use Rattle.desk_send.specs.Places.{next, start}
use Rattle.desk_send.proofs.searching.free_slot.Goals as goal

pub places-init : goal.places-init
places-init g c = record { places = start; steps = λ before on. on }

pub places-preserved : goal.places-preserved
places-preserved g c = record {
  places = next _ _ _ c.places.invariant.places (rw c.if-not-taken.false at c.in_ok-taken.ensures.taken);
  steps = λ before on. c.is_taken_at.ensures.steps before (c.places.invariant.steps before on);
}
