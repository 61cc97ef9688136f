use Rattle.many_conns.specs.Places.{waited}
use Rattle.many_conns.proofs.ListLaws.{stepped-next}
use Rattle.many_conns.proofs.rooms.wait_all.Goals as goal

pub loop-place-preserved : goal.loop-place-preserved
loop-place-preserved c = record {
  count = c.loop-place.invariant.count;
  places = stepped-next waited _ _ _ _ _ _ c.loop-place.invariant.places c.loop-place-test.true c.loop-place.invariant.count
      c.index_mut.ensures.value c.wait.ensures;
}
