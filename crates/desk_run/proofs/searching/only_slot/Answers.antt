use Rattle.desk_run.specs.Finds.{start}
use Rattle.desk_run.proofs.FindLaws.{below_more, only_more}
use Rattle.desk_run.proofs.searching.only_slot.Goals as goal

pub places-init : goal.places-init
places-init g c = record { below = tt; only = start; steps = λ before on. on }

pub places-preserved : goal.places-preserved
places-preserved g c = record {
  below = below_more _ c.in_ok-taken.taken _ _ c.places.invariant.below c.in_ok-only.ensures.joins;
  only = only_more g.F.File.Disk.disk _ _ _ _ _ c.places.number c.in_ok-taken.taken c.places.invariant.below
      c.places.invariant.only c.in_ok-taken.ensures.taken c.in_ok-only.ensures.joins;
  steps = λ before on. c.is_taken_at.ensures.steps before (c.places.invariant.steps before on);
}
