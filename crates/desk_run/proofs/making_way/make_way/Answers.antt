use Rattle.std.proofs.Common.{◌∙◌, arith, refl}
use Rattle.desk_run.specs.Finds.{next, start}
use Rattle.desk_run.proofs.PlaceLaws.{each_all}
use Rattle.desk_run.proofs.making_way.make_way.Goals as goal

pub places-init : goal.places-init
places-init g c = record { sink = refl; net = refl; sends = λ before on. on; made = start; steps = λ before on. on }

pub places-preserved : goal.places-preserved
places-preserved g c = record {
  sink = c.in_ok-make_way_at.ensures.sink ∙ c.places.invariant.sink;
  net = c.in_ok-make_way_at.ensures.net ∙ c.places.invariant.net;
  sends = λ before on. c.make_way_at.ensures.sends before (c.places.invariant.sends before on);
  made = next _ _ _ c.places.invariant.made c.in_ok-make_way_at.ensures.made;
  steps = λ before on. c.make_way_at.ensures.steps before (c.places.invariant.steps before on);
}

pub returns-clause-made : goal.returns-clause-made
returns-clause-made g c = each_all _ _ _ c.places.number 8 (omega arith) (omega arith) c.places.invariant.made
