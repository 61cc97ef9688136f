use Rattle.std.proofs.Common.{ap, arith, sym}
use Rattle.desk_outside.specs.declared.folder.Slot.{Slot}
use Rattle.desk_send.specs.Places.{next, start}
use Rattle.desk_send.proofs.PlaceLaws.{each_all, each_as}
use Rattle.desk_send.proofs.searching.search.Goals as goal

pub places-init : goal.places-init
places-init g c = record { places = start; steps = λ before on. on }

pub places-preserved : goal.places-preserved
places-preserved g c = record {
  places = next _ _ _ c.places.invariant.places (rw c.in-None.is at c.in_ok-letter.ensures.looks);
  steps = λ before on. c.look_for.ensures.steps before (c.places.invariant.steps before on);
}

pub returns-in-Some-clause-searches : goal.returns-in-Some-clause-searches
returns-in-Some-clause-searches g c =
    let it = rw c.in-Some.is at c.in_ok-letter.ensures.looks in
    record {
      mid = _;
      before = each_as _ _ _ _ _ (ap (λ (s : Slot). s.number) (sym it.0)) c.places.invariant.places;
      there = it.1;
    }

pub returns-clause-searches : goal.returns-clause-searches
returns-clause-searches g c = each_all _ _ _ c.places.number 8 (omega arith)
    (omega arith) c.places.invariant.places
