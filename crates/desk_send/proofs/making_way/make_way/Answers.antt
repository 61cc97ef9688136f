use Rattle.std.proofs.Common.{◌∙◌, arith, refl}
use Rattle.desk_send.specs.Places.{next, start}
use Rattle.desk_send.proofs.PlaceLaws.{each_all}
use Rattle.desk_send.proofs.TroubleLaws.{passed_on}
use Rattle.desk_send.proofs.making_way.make_way.Goals as goal

pub places-init : goal.places-init
places-init g c = record {
  input = refl;
  sink = refl;
  net = refl;
  sends = λ before on. on;
  made = start;
  steps = λ before on. on;
}

pub places-preserved : goal.places-preserved
places-preserved g c = record {
  input = c.make_way_at.ensures.input ∙ c.places.invariant.input;
  sink = c.in_ok-make_way_at.ensures.sink ∙ c.places.invariant.sink;
  net = c.in_ok-make_way_at.ensures.net ∙ c.places.invariant.net;
  sends = λ before on. c.make_way_at.ensures.sends before (c.places.invariant.sends before on);
  made = next _ _ _ c.places.invariant.made c.in_ok-make_way_at.ensures.made;
  steps = λ before on. c.make_way_at.ensures.steps before (c.places.invariant.steps before on);
}

pub returns-clause-made : goal.returns-clause-made
returns-clause-made g c = each_all _ _ _ c.places.number 8 (omega arith) (omega arith) c.places.invariant.made

pub returns-in_err-make_way_at-clause-in_part : goal.returns-in_err-make_way_at-clause-in_part
returns-in_err-make_way_at-clause-in_part g c =
    passed_on _ c.in_err-make_way_at.field-0.0 _ c.from_residual.ensures.1
    (record {
      number = c.places.number;
      mid = _;
      before = c.places.invariant.made;
      holds = c.in_err-make_way_at.ensures.holds;
    })
