use Rattle.desk_send.specs.Places.{start}
use Rattle.desk_send.proofs.FindLaws.{below_more, finds_several, only_more}
use Rattle.desk_send.proofs.TroubleLaws.{passed_on}
use Rattle.desk_send.proofs.searching.only_slot.Goals as goal

pub places-init : goal.places-init
places-init g c = record { below = tt; only = start; steps = λ before on. on }

pub places-preserved : goal.places-preserved
places-preserved g c = record {
  below = below_more _ c.in_ok-taken.taken _ _ c.places.invariant.below c.in_ok-only.ensures.joins;
  only = only_more g.F.File.Disk.disk _ _ _ _ _ c.places.number c.in_ok-taken.taken c.places.invariant.below
      c.places.invariant.only c.in_ok-taken.ensures.taken c.in_ok-only.ensures.joins;
  steps = λ before on. c.is_taken_at.ensures.steps before (c.places.invariant.steps before on);
}

pub returns-in_err-only-clause-several : goal.returns-in_err-only-clause-several
returns-in_err-only-clause-several g c =
    passed_on _ c.in_err-only.field-0.0 _ c.from_residual-in_err-only.ensures.1
    (λ is. finds_several g.F.File.Disk.disk c.places.only _ _ _ c.places.number c.in_ok-taken.taken
    c.places.invariant.below c.places.invariant.only c.in_ok-taken.ensures.taken
    c.in_err-only.ensures.several.1
    c.in_err-only.ensures.several.2)
